-- The laws of `file`.
pub mod Points
pub mod Edges
pub mod Signed
