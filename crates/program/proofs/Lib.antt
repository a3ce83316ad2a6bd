-- The laws that the proofs of `program` share; `Rows` proves the claim of specs/Rows.antt, `Rooms` that of the rooms.
mod Inputs
pub mod Rooms
pub mod Rows
pub mod LinesLaws
pub mod OperationsLaws
