-- What private clauses speak of, and no public one: how the parser's own functions read.
pub mod Matches
pub mod Reading
pub mod TypeReading
pub mod Left
pub mod Outcomes
pub mod Writing
