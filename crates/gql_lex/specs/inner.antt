-- What private clauses speak of, and no public one.
pub mod Behind
pub mod Found
pub mod Lines
