-- The laws that the proofs of the module `operations` share.
pub mod Shown
pub mod Lengths
