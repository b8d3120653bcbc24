pub mod Calls
pub mod Lines
pub mod Plays
pub mod Charges
pub mod Players
pub mod Listings
