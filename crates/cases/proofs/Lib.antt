-- The proofs of `cases`.
pub mod Hold
pub mod Listing
pub mod Traps
pub mod Roots
pub mod Rounds
pub mod SharpEdges
pub mod Spreading
pub mod Create
pub mod Curves
pub mod Stl
pub mod Program
pub mod Limits
