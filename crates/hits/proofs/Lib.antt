-- The laws of the benchmark's loops.
pub mod HitLaws
