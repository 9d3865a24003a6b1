pub mod Describing
pub mod Offering
