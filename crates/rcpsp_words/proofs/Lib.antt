pub mod TableLaws
pub mod GivenLaws
pub mod NameLaws
pub mod NumberLaws
pub mod PlainLaws
