pub mod MirrorDoor
