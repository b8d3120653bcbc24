pub mod Words
pub mod Names
pub mod Shapes
pub mod Rows
pub mod WellFormed
pub mod Tables
pub mod Additions
