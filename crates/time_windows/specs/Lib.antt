pub mod Chains
pub mod Windows
pub mod CapacityBound
pub mod WindowsView
pub mod Laws
