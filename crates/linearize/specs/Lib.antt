-- The specs of `linearize`.
pub mod Linearize
