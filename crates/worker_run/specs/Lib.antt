pub mod Lines
pub mod Told
pub mod Watching
pub mod Works
