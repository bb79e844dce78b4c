pub mod Bits
pub mod Halves
pub mod Members
pub mod Sizes
pub mod Table
pub mod Tally
pub mod Words
