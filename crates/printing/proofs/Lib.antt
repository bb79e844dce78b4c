pub mod LaidLaws
pub mod NumberLaws
pub mod WriterLaws
