-- The laws of the module `steps`.
pub mod Lent
pub mod Carried
pub mod Counts
