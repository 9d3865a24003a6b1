pub mod Moving
pub mod Carrying
pub mod Effects
