pub mod Conclusions
pub mod Origins
pub mod Leaving
pub mod Deriving
pub mod Results
