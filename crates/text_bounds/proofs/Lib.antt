pub mod KeepLaws
pub mod PlaceLaws
pub mod FitLaws
pub mod TableBounds
pub mod RingBounds
pub mod RcpBounds
pub mod SmBounds
pub mod WordBounds
