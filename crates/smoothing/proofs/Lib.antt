-- The laws of `smoothing` that its proofs share and the crates above cite.
pub mod Directions
pub mod Tangents
pub mod Edges
mod Floats
pub mod Inner
pub mod Pairs
pub mod Places
pub mod Lent
pub mod Flat
mod Codes
pub mod VertFaces
