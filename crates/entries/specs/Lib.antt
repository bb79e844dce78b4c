pub mod Words
pub mod Walks
