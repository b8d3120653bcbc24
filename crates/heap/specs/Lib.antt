pub mod Cells
pub mod Index
pub mod Keys
pub mod Order
