pub mod Members
pub mod WrongAt
