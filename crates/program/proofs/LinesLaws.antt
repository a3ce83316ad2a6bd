-- The laws that the proofs of the module `lines` share.
pub mod Put
pub mod Digits
pub mod Lengths
pub mod Whole
