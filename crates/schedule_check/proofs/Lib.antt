pub mod AcceptedLaws
pub mod AnswerLaws
pub mod CsvLaws
pub mod EarlyLaws
pub mod EntryLaws
pub mod FeasibleLaws
pub mod FirstLaws
pub mod NameLaws
pub mod PlanLaws
pub mod PlanRecordLaws
pub mod RecordLaws
mod Rows
pub mod SameLaws
pub mod SearchLaws
pub mod StepLaws
pub mod TurningLaws
