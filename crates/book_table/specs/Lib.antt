pub mod Passes
pub mod BookView
pub mod Taken
pub mod ShutView
pub mod ClosedView
