-- The laws of the module `shapes`.
pub mod Lent
pub mod Bound
