pub mod Images
pub mod Events
pub mod Guest
pub mod Laws
pub mod Back
