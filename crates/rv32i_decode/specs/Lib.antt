pub mod Formats
pub mod Decoding
