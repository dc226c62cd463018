pub mod AdvancedLaws
pub mod WordLaws
pub mod TryLaws
pub mod KnownLaws
pub mod FreshLaws
