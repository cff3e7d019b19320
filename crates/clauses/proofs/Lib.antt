pub mod Flags
mod Places
mod Scans
