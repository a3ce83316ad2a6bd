-- The specs of `sharpen`, in the order of reading. `Turn` is for the contracts inside the call.
pub mod Crease
pub mod Entries
pub mod Sharpen
pub mod Edges
pub mod Turn
