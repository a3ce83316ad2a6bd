-- The specs of the module `steps`, in the order of reading.
pub mod FloatSteps
pub mod Scratch
