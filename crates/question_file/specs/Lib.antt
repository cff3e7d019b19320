pub mod Fields
pub mod Contents
pub mod Tables
pub mod Writing
