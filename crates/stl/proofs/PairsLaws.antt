-- The laws of `pairs`.
pub mod Backs
pub mod Scans
pub mod Covers
pub mod Written
