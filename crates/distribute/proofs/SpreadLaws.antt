-- The laws of spreading, for the crates above.
pub mod Branches
pub mod Loops
pub mod Sublists
pub mod Turns
pub mod Places
pub mod Walks
pub mod Bodies
pub mod Guards
pub mod Starts
pub mod Own
pub mod Order
