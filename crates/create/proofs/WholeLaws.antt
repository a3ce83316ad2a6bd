-- The laws of the module `whole`.
pub mod Shape
pub mod Core
pub mod Filled
