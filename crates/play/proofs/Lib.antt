pub mod Histories
pub mod Charging
pub mod Turns
pub mod Readings
pub mod Onward
pub mod Finishing
pub mod Sums
