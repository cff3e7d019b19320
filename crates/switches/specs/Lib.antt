pub mod Switching
pub mod Worlds
