pub mod Resting
pub mod Pruning
pub mod Renaming
pub mod Laws
pub mod Symbols
pub mod Marking
pub mod Checking
pub mod Verdicts
