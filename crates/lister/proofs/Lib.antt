pub mod Samples
pub mod DoorLaws
pub mod RankLaws
pub mod Promises
