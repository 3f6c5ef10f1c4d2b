pub mod Positions
pub mod Cursors
