mod Sets
mod Rules
pub mod Turning
pub mod Staged
mod Replaying
