-- The specs of `create`.
pub mod Create
pub mod Sharp
pub mod Edges
pub mod Creases
pub mod Initial
pub mod Shapes
pub mod Whole
pub mod Entries
