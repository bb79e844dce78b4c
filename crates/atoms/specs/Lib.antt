pub mod Score
pub mod Samples
