-- The specs of `smoothing`, in the order of reading. `Inner` and `Lent` are for the contracts inside a call.
pub mod Directions
pub mod Lists
pub mod Edges
pub mod Inner
pub mod Faces
pub mod Lent
