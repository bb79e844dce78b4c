pub mod LineLaws
pub mod ListingLaws
