-- The specs of `distribute`, in the order of reading.
pub mod Distribute
pub mod Claims
pub mod Spread
pub mod Steps
pub mod Walks
pub mod Preview
