-- The specs of `program`, in the order of reading.
pub mod Program
pub mod Rows
pub mod Lines
pub mod Operations
