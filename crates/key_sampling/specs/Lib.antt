pub mod Samples
pub mod Best
pub mod Tools
pub mod Values
pub mod Words
pub mod Race
pub mod Workers
pub mod Laws
