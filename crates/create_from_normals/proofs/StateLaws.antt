-- The laws of the module `state`.
pub mod Tests
pub mod Carried
pub mod Units
