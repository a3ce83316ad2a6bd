-- The specs of `questions`, in the order of reading.
pub mod Questions
pub mod Check
pub mod All
