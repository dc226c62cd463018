pub mod Listed
pub mod Reaches
pub mod Searches
pub mod Layout
pub mod Views
pub mod Knowledge
pub mod Told
pub mod Rule
