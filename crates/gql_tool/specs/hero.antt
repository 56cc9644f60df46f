pub mod Shape
pub mod Operation
pub mod HeroTables
pub mod WorkedTables
pub mod Service
pub mod Built
pub mod Hero
pub mod Written
