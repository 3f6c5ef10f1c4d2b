pub mod Images
pub mod Events
pub mod Guest
pub mod Laws
pub mod Bytes
pub mod ImagesLemmas
pub mod Soundness
pub mod Parts
