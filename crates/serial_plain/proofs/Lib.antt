pub mod ShownLaws
pub mod StepLaws
pub mod TakenLaws
mod Rows
pub mod HorizonLaws
