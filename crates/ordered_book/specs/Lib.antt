pub mod Advanced
pub mod Booking
