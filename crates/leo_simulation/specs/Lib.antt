pub mod Proper
pub mod Abbreviations
pub mod Laws
