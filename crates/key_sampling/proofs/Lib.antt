pub mod SampleLaws
pub mod ValueLaws
pub mod WordLaws
pub mod RaceLaws
pub mod BoundLaws
pub mod CrewLaws
pub mod PartLaws
pub mod PlacedLaws
