pub mod Exits
pub mod Once
pub mod Orders
pub mod Same
pub mod Sofar
