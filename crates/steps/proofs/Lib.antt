-- The laws that both checks share.
pub mod Heads
pub mod Tests
pub mod Answers
pub mod Turns
pub mod Ranges
pub mod Alternatives
pub mod Choices
