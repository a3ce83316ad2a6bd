-- The laws of the module `initial`.
pub mod Counts
pub mod First
