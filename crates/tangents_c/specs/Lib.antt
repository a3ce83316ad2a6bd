-- The specs of `tangents_c`.
pub mod Answers
pub mod Curve
