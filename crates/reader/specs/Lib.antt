pub mod Written
pub mod Says
