pub mod Refusals
pub mod Pools
pub mod Text
