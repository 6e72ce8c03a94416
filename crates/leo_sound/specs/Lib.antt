pub mod Propositions
pub mod Laws
