pub mod Place
pub mod SameLayer
pub mod United
pub mod Held
