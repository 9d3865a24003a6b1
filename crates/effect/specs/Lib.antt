pub mod Moves
pub mod Transfers
pub mod Fit
