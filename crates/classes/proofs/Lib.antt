-- The laws of one entry.
pub mod KindLaws
pub mod ClassLaws
pub mod MemberLaws
pub mod EntryLaws
