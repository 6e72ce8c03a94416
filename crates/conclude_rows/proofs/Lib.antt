pub mod Ready
mod Overs
