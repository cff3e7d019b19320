pub mod Stages
pub mod Held
pub mod Asked
pub mod Turns
pub mod Answers
pub mod Replays
