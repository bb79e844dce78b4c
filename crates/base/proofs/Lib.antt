-- What the promises about refusals and pools rest on, and what crates above cite.
pub mod PoolLaws
pub mod RefusalLaws
pub mod LentLaws
