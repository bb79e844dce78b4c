-- What the benchmark's functions give.
pub mod Hits
