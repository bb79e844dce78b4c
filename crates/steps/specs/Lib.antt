-- What the steps of a check answer.
pub mod Steps
