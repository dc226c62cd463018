pub mod TellLaws
pub mod RestLaws
