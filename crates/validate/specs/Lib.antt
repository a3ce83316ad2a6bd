-- The specs of `validate`.
pub mod Validate
pub mod Marks
