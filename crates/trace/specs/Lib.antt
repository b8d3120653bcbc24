pub mod Faults
pub mod Parts
pub mod Makings
pub mod Readings
pub mod Traces
