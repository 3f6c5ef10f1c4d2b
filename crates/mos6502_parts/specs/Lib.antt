pub mod Flags
pub mod Memory
pub mod Opcodes
pub mod Arithmetic
