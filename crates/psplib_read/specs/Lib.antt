pub mod Lines
pub mod Left
pub mod Preamble
pub mod Topics
pub mod Sm
pub mod View
pub mod Written
