pub mod Codes
pub mod Markings
pub mod Count
pub mod Branch
pub mod Orders
pub mod Branches
pub mod OrderLaws
pub mod Counts
