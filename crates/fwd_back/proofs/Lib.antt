pub mod BookedLaws
pub mod FitLaws
pub mod DueLaws
pub mod MovingLaws
pub mod NextLaws
pub mod PassLaws
pub mod ImprovedLaws
mod Rows
