pub mod Clauses
pub mod Steps
pub mod Calls
pub mod Promises
