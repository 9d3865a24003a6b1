pub mod Splice
pub mod Bytes
pub mod Change
pub mod Formed
pub mod Fresh
pub mod Shown
