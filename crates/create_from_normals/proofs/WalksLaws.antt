-- The laws of the module `walks`.
pub mod Lent
pub mod Rounds
pub mod Counting
pub mod Same
pub mod Bound
