pub mod Naming
pub mod Machine
pub mod Limits
pub mod Books
pub mod Inside
pub mod Laws
