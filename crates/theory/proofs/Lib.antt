pub mod Apart
pub mod Conflicts
pub mod Drawn
pub mod Grounds
pub mod Retreats
pub mod Searches
pub mod Stacks
