pub mod Unfree
pub mod Places
pub mod Truth
pub mod Logic
pub mod Tables
pub mod Tautologies
pub mod Quantifiers
pub mod LawProofs
