pub mod Client
pub mod Heard
