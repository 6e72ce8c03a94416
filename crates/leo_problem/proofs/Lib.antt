pub mod Assumed
pub mod Pieces
pub mod OneTheory
pub mod OneGathering
pub mod ShortTexts
