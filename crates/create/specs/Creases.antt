-- The specs of the module `creases`, in the order of reading.
pub mod Creases
pub mod Linked
pub mod Lists
