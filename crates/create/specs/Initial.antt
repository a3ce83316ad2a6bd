-- The specs of the module `initial`, in the order of reading. `Faces` and `Lent` are for the contracts inside a call.
pub mod First
pub mod Faces
pub mod Lent
