pub mod Precedes
pub mod Means
pub mod Each
pub mod Sorts
