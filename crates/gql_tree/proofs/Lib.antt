pub mod Names
pub mod Same
pub mod Place
pub mod Put
pub mod Moved
pub mod Apart
mod Has
pub mod Union
pub mod Extended
pub mod Grafted
pub mod Order
pub mod Json
pub mod FromJson
pub mod Marks
pub mod Typed
mod Below
pub mod One
pub mod Uniting
pub mod Finite
