-- The specs of `distribute_walks`.
pub mod Walks
