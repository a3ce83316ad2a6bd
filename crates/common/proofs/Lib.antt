-- The laws of `common`, all for the crates above.
pub mod Fold
pub mod Sums
pub mod Count
pub mod Counted
pub mod Filled
pub mod Front
pub mod Lowest
