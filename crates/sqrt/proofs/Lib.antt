-- The laws that the proofs of `sqrt` share, and the theorems: `Nearest` proves what the clauses `ieee` and `only` of `sqrt::sqrt` say.
pub mod Squares
mod Newton
mod Reciprocals
mod LastBits
mod Normalization
mod Rounding
pub mod Encoding
mod RootEncoding
mod Comparisons
pub mod Nearest
