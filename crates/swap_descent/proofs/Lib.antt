pub mod PlacedLaws
pub mod BoundLaws
pub mod ChoiceLaws
pub mod DescentLaws
pub mod TrialLaws
pub mod RoundLaws
mod Rows
