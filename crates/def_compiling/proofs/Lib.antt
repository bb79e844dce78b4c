-- The laws of compiling.
pub mod AddLaws
pub mod MaskLaws
pub mod TokenSpans
pub mod BackwardsLaws
pub mod SaidLaws
pub mod FitLaws
pub mod GivenLaws
pub mod CompileLaws
pub mod Samples
pub mod CountLaws
