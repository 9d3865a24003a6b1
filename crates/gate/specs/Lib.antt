pub mod Carried
pub mod Ruled
