pub mod Sound
mod Values
