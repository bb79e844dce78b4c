-- 01's 'Reading the text', in its order of trial, as functions; crate def_grammar says the same by rules.
pub mod Blanks
pub mod Pieces
pub mod Lists
pub mod Given
