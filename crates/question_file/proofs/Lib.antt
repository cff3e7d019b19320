mod Bodies
mod Counting
mod Filling
mod Law
mod Reading
mod Standing
mod Steps
