-- The laws of the literal door.
pub mod DoorLaws
pub mod ToldLaws
pub mod Promises
pub mod ReadLaws
