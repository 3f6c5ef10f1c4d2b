pub mod Words
pub mod Registers
pub mod Memory
pub mod Execution
