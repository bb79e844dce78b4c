-- The laws of one more slice.
pub mod WinnerLaws
