-- Compiling, on tokens. A reader who holds it beside 01 reads these files, in this order.
pub mod ProgramWords
pub mod Compiling
pub mod Compile
