-- The specs of `points`, in the order of reading. Only contracts inside it cite them.
pub mod Firsts
pub mod CanStart
