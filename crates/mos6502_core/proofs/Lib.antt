pub mod Keeps
pub mod Rises
