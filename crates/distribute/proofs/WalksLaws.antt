-- The laws of the module `walks`, for the crates above.
pub mod Lawful
pub mod Bodies
pub mod Starts
