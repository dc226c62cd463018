pub mod Trial
pub mod Parts
