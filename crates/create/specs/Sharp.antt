-- The specs of the module `sharp`.
pub mod Entries
pub mod EntrySmoothness
