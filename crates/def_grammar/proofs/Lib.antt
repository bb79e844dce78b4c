-- What is read is spelled, and what is spelled within the limits is read; a text has one spelling; and to be spelled is to be derived. What is refused has
-- the grammar's fault.
pub mod Spelling
pub mod Standing
pub mod DigitLaws
pub mod BoundLaws
pub mod PiecesSpelled
pub mod ListsSpelled
pub mod TextSpelled
pub mod Fronts
pub mod PiecesRead
pub mod ListsRead
pub mod Ends
pub mod TextRead
pub mod OneSpelling
pub mod Alike
pub mod RulesSpell
pub mod SpellingDerived
pub mod FaultPieces
pub mod FaultTokens
pub mod FaultLists
pub mod FaultLaws
pub mod Derivable
pub mod Samples
pub mod FaultSamples
