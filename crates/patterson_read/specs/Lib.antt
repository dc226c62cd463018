pub mod Calendar
pub mod Left
pub mod ListFile
pub mod Rcp
pub mod View
pub mod Written
