-- The specs of `create_shared`, in the order of reading.
pub mod Verts
pub mod Lengths
pub mod Makings
pub mod Answer
