-- What is known of reading.
pub mod PieceLaws
pub mod PieceSteps
pub mod PieceBounds
pub mod ListBounds
pub mod ListSteps
pub mod TextLaws
pub mod Kept
pub mod Decoded
pub mod InToken
pub mod GivenLaws
pub mod Places
pub mod Samples
pub mod SpelledValues
