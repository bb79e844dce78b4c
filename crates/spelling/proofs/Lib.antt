-- The laws of literal number k and of its writing.
pub mod SpellLaws
pub mod WriteLaws
