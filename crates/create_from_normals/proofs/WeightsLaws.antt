-- The laws of the module `weights`.
pub mod Folds
pub mod Circular
pub mod Writes
pub mod Verts
pub mod Weights
