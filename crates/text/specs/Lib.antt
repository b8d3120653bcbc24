pub mod Words
pub mod Lines
pub mod Cursor
pub mod Kinds
pub mod Texts
