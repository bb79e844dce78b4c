-- The laws of what wins.
pub mod PickSamples
pub mod MatchLaws
pub mod NumberLaws
pub mod LengthLaws
pub mod RefusalLaws
pub mod KeepLaws
pub mod PartLaws
pub mod FactorLaws
pub mod ChosenLaws
pub mod PickedLaws
pub mod HoldLaws
pub mod ShortestLaws
