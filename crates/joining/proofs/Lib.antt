pub mod Chains
pub mod Labelled
pub mod Labels
