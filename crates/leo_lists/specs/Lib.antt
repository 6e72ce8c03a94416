pub mod Rings
pub mod Views
pub mod Lists
