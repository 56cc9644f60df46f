pub mod Places
pub mod Literals
pub mod References
pub mod TypeParts
pub mod Fitting
pub mod Reached
pub mod types
pub mod SchemaRules
