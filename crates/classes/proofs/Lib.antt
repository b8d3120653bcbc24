mod Plain
pub mod Shapes
mod Rows
pub mod Tables
mod Growth
pub mod Children
