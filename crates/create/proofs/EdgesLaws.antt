-- The laws of the module `edges`.
pub mod Boundaries
pub mod Edges
