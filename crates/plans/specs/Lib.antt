pub mod Faults
pub mod Inputs
pub mod Lines
pub mod Links
pub mod Readings
pub mod Stages
