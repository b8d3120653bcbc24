pub mod Draws
pub mod Listings
pub mod Plays
pub mod Timetables
