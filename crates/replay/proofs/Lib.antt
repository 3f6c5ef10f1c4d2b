pub mod Walks
pub mod Along
