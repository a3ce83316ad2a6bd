-- The specs of the module `steps`.
pub mod Steps
pub mod Carried
