pub mod Registers
pub mod Addresses
pub mod Effects
pub mod Instructions
