-- The laws of `table`; those of `SameKey` and `Tables` serve `points` and `pairs` too.
pub mod Walks
pub mod SameKey
pub mod Looks
pub mod Tables
