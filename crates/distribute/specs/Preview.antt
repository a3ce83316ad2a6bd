-- The specs of the module `preview`, in the order of reading.
pub mod Bytes
pub mod Preview
pub mod Walks
