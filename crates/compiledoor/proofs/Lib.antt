-- What the proofs of the doors rest on, and the theorems about the door.
pub mod DoorLaws
pub mod Promises
