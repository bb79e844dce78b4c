-- The laws of what wins between runs.
pub mod RunsLaws
pub mod ShiftLaws
pub mod BetweenLaws
