pub mod Walks
pub mod Made
