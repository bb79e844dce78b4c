pub mod Laid
pub mod Numbers
pub mod Writing
