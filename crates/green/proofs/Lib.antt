pub mod Ruling
pub mod Letting
