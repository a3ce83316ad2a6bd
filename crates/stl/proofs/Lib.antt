-- The laws of `stl`.
pub mod Sound
pub mod Pairing
pub mod FileLaws
pub mod TableLaws
pub mod PointsLaws
pub mod PairsLaws
