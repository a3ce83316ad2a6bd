-- The specs of the module `edges`, in the order of reading.
pub mod Edges
pub mod Smoothness
pub mod Lent
