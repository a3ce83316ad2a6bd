-- The laws of `cycles`, for the crates above.
pub mod Count
pub mod Paths
pub mod Orbits
pub mod Loops
pub mod Around
pub mod Starts
