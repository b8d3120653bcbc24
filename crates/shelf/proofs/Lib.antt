pub mod Walks
pub mod Moves
pub mod Lines
pub mod Fresh
pub mod Items
pub mod Totals
pub mod Prices
