-- The specs of the module `lines`, in the order of reading.
pub mod Text
pub mod Lines
