pub mod Ready
pub mod Asking
