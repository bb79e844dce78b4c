-- What patterns and programs mean. A reader who doubts the rest reads these files, in this order.
pub mod Tokens
pub mod Limits
pub mod Programs
pub mod Choices
pub mod NodeWords
pub mod Words
pub mod Entries
pub mod Rows
pub mod Values
