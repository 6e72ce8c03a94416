pub mod Occurrences
pub mod Order
pub mod Laws
pub mod Nodes
pub mod Heads
pub mod Difference
pub mod Outward
pub mod Tallies
