pub mod Seen
pub mod Cuts
pub mod Verdicts
