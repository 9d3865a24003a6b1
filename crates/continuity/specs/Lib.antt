pub mod Past
pub mod Records
pub mod Carried
pub mod Files
pub mod Upgrades
