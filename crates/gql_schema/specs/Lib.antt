pub mod FirstPlace
pub mod Graph
pub mod InputGraphs
pub mod Seen
pub mod Coerced
pub mod Groups
pub mod Answer
