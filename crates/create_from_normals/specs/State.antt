-- The specs of the module `state`.
pub mod State
pub mod Carried
pub mod Units
