pub mod Refusals
pub mod Lines
pub mod Texts
pub mod Answers
pub mod CheckTexts
pub mod Checking
