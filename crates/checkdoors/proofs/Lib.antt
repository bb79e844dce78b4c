-- The laws of the doors, and what is known of them.
pub mod DoorLaws
pub mod Theorems
pub mod Samples
