-- The laws of runs, their parts, and the entries of tokens.
pub mod WholeLaws
pub mod PartLaws
pub mod SegmentLaws
pub mod EntryLaws
