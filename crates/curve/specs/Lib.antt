-- The specs of `curve`, in the order of reading.
pub mod Questions
pub mod Curve
pub mod Parameters
pub mod InterpTri
