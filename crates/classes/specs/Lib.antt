pub mod Entry
pub mod Classes
