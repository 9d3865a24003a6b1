pub mod Readers
pub mod Ranged
pub mod Loading
pub mod Asked
