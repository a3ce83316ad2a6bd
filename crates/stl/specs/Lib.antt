-- The specs of `stl`, in the order of reading.
pub mod Questions
pub mod Stl
pub mod Pairing
pub mod File
pub mod Table
pub mod Points
pub mod Pairs
