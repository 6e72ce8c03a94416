pub mod Trees
pub mod Typed
pub mod Sameness
pub mod Arranging
pub mod Renaming
pub mod Choices
pub mod Weights
pub mod Formulas
