pub mod Charge
pub mod Numbers
pub mod Words
