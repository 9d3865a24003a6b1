pub mod Words
pub mod Search
