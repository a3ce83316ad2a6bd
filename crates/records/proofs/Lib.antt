-- The laws that the proofs of `records` share; `Accepted` is for the crates above.
mod Parse
pub mod Accepted
