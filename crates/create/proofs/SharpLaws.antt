-- The laws of the module `sharp`.
pub mod Adding
pub mod Flat
