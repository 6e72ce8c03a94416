pub mod Taking
pub mod Answering
pub mod Judging
pub mod Ending
pub mod Runs
