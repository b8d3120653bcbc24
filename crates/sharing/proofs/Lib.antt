pub mod Turns
