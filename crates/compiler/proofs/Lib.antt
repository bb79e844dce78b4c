-- What the proofs of the functions rest on, and what crates above cite.
pub mod WalkLaws
pub mod FillLaws
pub mod ProgramLaws
