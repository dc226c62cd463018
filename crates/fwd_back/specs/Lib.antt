pub mod Backward
pub mod Improved
pub mod Moving
pub mod Passes
pub mod Laws
