pub mod Fixed
pub mod Interrupts
pub mod Listed
pub mod Outages
