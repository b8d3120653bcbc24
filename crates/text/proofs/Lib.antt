pub mod Numbers
pub mod Cuts
pub mod Splits
pub mod Forms
pub mod Ends
pub mod Once
