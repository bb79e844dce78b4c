pub mod Lines
pub mod Listed
pub mod Samples
