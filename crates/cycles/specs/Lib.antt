-- The specs of `cycles`, in the order of reading.
pub mod Count
pub mod Walk
pub mod Orbits
pub mod Cycles
