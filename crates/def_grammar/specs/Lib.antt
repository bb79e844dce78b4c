-- 01's 'Reading the text' as a grammar: which texts are patterns, and which tokens they mean; and when the others are refused.
pub mod Grammar
pub mod Faults
