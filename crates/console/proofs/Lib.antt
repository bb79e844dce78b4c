pub mod InputLaws
pub mod LayLaws
