-- 01's 'Picking literals', sentence by sentence. A reader who holds it beside 01 reads these files, in this order, and
-- then crate def_promise's specs/Winners.antt.
pub mod Literals
pub mod Runs
pub mod Candidates
pub mod Numbers
