-- The specs of `file`, in the order of reading.
pub mod File
pub mod Points
pub mod Edges
pub mod Lists
pub mod Starts
