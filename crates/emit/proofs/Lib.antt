-- What the proofs of the functions rest on, and what crates above cite.
pub mod PutLaws
pub mod HoldLaws
pub mod ListLaws
pub mod LentLaws
pub mod BranchLaws
pub mod AltLaws
pub mod OrderLaws
pub mod LinkLaws
pub mod TokensLaws
