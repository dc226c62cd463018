-- The values of options, a file for each kind.
pub mod Number
pub mod Rule
pub mod Form
pub mod Format
pub mod Name
pub mod Order
pub mod Rounds
pub mod Samples
pub mod Shown
pub mod Size
pub mod Value
pub mod Workers
pub mod Live
