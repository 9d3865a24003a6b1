pub mod Today
pub mod Offers
