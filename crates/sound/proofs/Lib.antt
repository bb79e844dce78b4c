-- The laws of the soundness test, and what is known of its door.
pub mod SoundSteps
pub mod SoundDoor
