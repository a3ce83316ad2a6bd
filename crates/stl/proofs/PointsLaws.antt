-- The laws of `points`.
pub mod Marks
pub mod Counts
pub mod Writing
