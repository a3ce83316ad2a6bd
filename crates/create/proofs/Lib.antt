-- The laws of `create`: those that the crates above cite are public.
pub mod Accepted
pub mod SharpLaws
pub mod EdgesLaws
pub mod CreasesLaws
pub mod InitialLaws
pub mod ShapesLaws
pub mod WholeLaws
