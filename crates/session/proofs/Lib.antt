pub mod Going
pub mod Standing
pub mod Growing
pub mod Moving
pub mod Leading
