-- The laws of the module `creases`.
pub mod Lent
pub mod Creases
pub mod Linked
pub mod Points
pub mod Verts
