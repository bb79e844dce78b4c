-- The laws of the generator, its single outcome, what each answer tells, and samples.
pub mod OutputLaws
pub mod Single
pub mod Arms
pub mod Samples
