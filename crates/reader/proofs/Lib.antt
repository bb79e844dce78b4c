-- What the readers' promises rest on.
pub mod WrittenLaws
pub mod SaysLaws
pub mod Joined
pub mod ListLoop
pub mod AlternativesLoop
