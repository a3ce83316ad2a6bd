-- The laws of `curve`.
pub mod Points
pub mod Parameters
