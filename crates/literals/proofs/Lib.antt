-- The laws of what wins in a run.
pub mod SliceLaws
pub mod LongerLaws
pub mod RunLaws
