-- The laws of the mirror's places, and what is known of its door.
pub mod Placing
pub mod MirrorTurns
pub mod DoorLaws
pub mod MirrorDoor
