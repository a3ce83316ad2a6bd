-- The specs of `pairs`, in the order of reading. Only contracts inside the reading of STL cite them.
pub mod Twins
pub mod Written
