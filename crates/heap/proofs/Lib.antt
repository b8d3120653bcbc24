pub mod Index
pub mod Kept
pub mod Roots
