-- The specs of `table`, in the order of reading. Only contracts inside the reading of STL cite them.
pub mod Size
pub mod Keys
pub mod Tree
