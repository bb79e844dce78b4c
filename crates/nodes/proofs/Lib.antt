-- What the laws about nodes rest on, and what crates above cite.
pub mod NodeLaws
pub mod ProperFields
