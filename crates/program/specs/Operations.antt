-- The specs of the module `operations`.
pub mod Operations
