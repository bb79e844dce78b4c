-- The laws of entries, one after another.
pub mod StepLaws
pub mod PlainLaws
pub mod WalkLaws
