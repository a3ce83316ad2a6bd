-- The laws of `sharpen`. Those that say what a listing is are public.
pub mod Entries
pub mod Room
pub mod Edges
mod Slivers
mod Limit
mod Outcome
