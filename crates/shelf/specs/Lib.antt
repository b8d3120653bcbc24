pub mod Chains
pub mod Tables
pub mod Places
pub mod Lanes
