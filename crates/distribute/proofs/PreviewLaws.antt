-- The laws of the module `preview`, for the crates above.
pub mod Bytes
pub mod Lawful
pub mod First
pub mod Second
pub mod Pass
pub mod Order
