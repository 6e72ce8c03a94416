pub mod Origins
pub mod Searches
pub mod Intakes
pub mod Growth
pub mod Changing
pub mod Turns
pub mod Working
pub mod Starting
