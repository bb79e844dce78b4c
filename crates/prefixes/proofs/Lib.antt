-- The laws of prefixes and their numbers.
pub mod PrefixLaws
