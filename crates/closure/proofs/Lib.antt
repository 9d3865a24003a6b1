pub mod Giving
pub mod Growing
pub mod Turning
pub mod Starting
pub mod Finding
pub mod Answering
pub mod Firsts
