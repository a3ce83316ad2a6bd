-- The laws of `create_shared`, for the crates above.
pub mod Verts
pub mod Lengths
pub mod Counts
pub mod Answered
