-- The specs of the module `walks`.
pub mod Walks
pub mod Lists
