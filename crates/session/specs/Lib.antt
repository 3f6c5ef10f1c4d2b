pub mod Views
pub mod Stands
pub mod Answers
