pub mod DrawLaws
mod NumberLaws
pub mod TrialLaws
pub mod SoundLaws
