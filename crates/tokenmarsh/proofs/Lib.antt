-- What the proofs of the C functions share, and what is known of them.
mod Answers
pub mod TailLaws
