-- The specs of `interp_tri`.
pub mod Bezier
