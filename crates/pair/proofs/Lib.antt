mod Drops
mod Raising
mod Sets
mod Shown
mod Sides
mod Together
mod Writing
