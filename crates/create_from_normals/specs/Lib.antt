-- The specs of `create_from_normals`, in the order of reading.
pub mod FromNormals
pub mod OldNormals
pub mod State
pub mod Steps
pub mod Walks
pub mod Whole
pub mod Weights
