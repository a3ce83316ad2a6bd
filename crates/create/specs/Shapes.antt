-- The specs of the module `shapes`, in the order of reading. `Lent` is for the contracts inside a call.
pub mod Sharpen
pub mod Shapes
pub mod Lent
