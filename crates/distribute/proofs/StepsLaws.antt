-- The laws of the module `steps`, for the crates above.
pub mod Angles
