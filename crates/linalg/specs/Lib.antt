-- The specs of `linalg`.
pub mod Vec
