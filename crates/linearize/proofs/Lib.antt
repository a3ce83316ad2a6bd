-- The laws of `linearize`: public, for the crates above.
pub mod Laws
mod Thirds
