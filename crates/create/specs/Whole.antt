-- The specs of the module `whole`, in the order of reading. `Lent` and `Filled` are for the contracts inside a call.
pub mod Shape
pub mod Lent
pub mod Core
pub mod Filled
