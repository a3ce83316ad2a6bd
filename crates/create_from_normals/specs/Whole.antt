-- The specs of the module `whole`.
pub mod Core
pub mod Flags
pub mod Lists
