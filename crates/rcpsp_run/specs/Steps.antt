-- The steps of the commands, each up to its first refusal.
pub mod Text
pub mod Instance
pub mod List
pub mod Calendar
pub mod Network
pub mod Plan
pub mod Schedule
pub mod Parallel
pub mod Samples
pub mod Descent
pub mod Improvement
