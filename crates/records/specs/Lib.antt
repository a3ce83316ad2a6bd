-- The specs of `records`, in the order of reading.
pub mod Records
pub mod Lists
