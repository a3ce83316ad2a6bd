-- The laws of `create_from_normals`.
mod Accepted
mod OldNormals
pub mod StateLaws
pub mod StepsLaws
pub mod WalksLaws
pub mod WholeLaws
pub mod WeightsLaws
