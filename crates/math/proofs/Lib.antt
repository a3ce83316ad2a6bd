-- The laws that the proofs of `math` share.
mod Quadrants
mod RootNumber
mod Turns
