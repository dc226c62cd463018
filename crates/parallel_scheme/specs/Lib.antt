pub mod Parallel
pub mod NonDelay
pub mod Laws
pub mod Passing
