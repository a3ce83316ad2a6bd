-- The specs of `math`.
pub mod Consts
pub mod Kernels
pub mod Rem
pub mod Turns
pub mod Trig
pub mod Acos
