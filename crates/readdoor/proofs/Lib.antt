-- What the door's promise rests on, and what it leaves open: nothing.
pub mod DoorLaws
pub mod Single
pub mod Tokens
pub mod Got
