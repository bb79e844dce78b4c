-- The laws of scores and ranks.
pub mod RankLaws
pub mod WorthLaws
