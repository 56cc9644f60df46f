pub mod Refusals
pub mod Frame
pub mod Framed
pub mod Body
pub mod Regions
pub mod Past
pub mod inner
