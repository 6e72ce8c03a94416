pub mod Tautologies
pub mod Subsumption
pub mod Outcomes
pub mod Laws
pub mod Matching
pub mod Heads
pub mod Fronts
pub mod Groups
