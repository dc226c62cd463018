pub mod ViewLists
pub mod Knowing
pub mod Moves
pub mod Steps
pub mod Seats
pub mod Ends
