-- The specs of `tangents`.
pub mod Streams
