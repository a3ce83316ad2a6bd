-- The laws that the proofs of `tangents` share.
mod Streams
