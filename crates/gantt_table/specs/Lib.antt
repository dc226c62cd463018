pub mod Chart
pub mod Csv
pub mod Table
pub mod Windows
pub mod Writing
