pub mod Opposites
pub mod Judged
pub mod Unset
pub mod Sound
pub mod Bound
pub mod Weight
pub mod Once
pub mod Every
