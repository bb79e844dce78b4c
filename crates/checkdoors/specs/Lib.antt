-- What the doors of the checks answer.
pub mod Doors
