-- What private clauses speak of, and no public one: the order behind a list of named things.
pub mod Order
