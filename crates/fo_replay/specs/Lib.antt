pub mod Replays
pub mod Parts
pub mod Instances
