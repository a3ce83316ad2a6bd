-- The laws of `distribute`, for the crates above.
mod Pass
pub mod Values
pub mod Accepted
pub mod Order
pub mod Claims
pub mod SpreadLaws
pub mod StepsLaws
pub mod WalksLaws
pub mod PreviewLaws
