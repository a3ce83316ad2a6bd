-- The specs of `common`.
pub mod Fold
pub mod Count
pub mod Counted
pub mod Pillow
pub mod Lowest
