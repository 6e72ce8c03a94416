pub mod Seen
pub mod Same
pub mod Renumbered
pub mod Meeting
pub mod Renaming
pub mod Sums
