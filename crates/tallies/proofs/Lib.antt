-- The laws of counts and lengths.
pub mod TallyLaws
pub mod SizeLaws
