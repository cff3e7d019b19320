pub mod Finding
pub mod Passes
pub mod Settling
