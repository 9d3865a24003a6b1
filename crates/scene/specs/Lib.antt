pub mod Digits
pub mod Rules
pub mod Scene
pub mod Devices
