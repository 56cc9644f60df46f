mod Each
mod Below
mod ObjectDepth
mod ForestDepth
pub mod Kept
pub mod Reading
pub mod Order
