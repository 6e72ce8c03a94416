pub mod Stacks
pub mod Boards
