pub mod Servable
pub mod Stages
pub mod Steps
pub mod Handed
pub mod Hearing
