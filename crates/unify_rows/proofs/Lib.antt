pub mod Ready
mod Overs
pub mod Pairs
