-- The laws of `questions`. Those that the crates above cite are public.
pub mod Lengths
mod Sign
mod Search
pub mod Accepted
pub mod Answered
mod TriangleLaws
