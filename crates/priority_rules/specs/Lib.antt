pub mod Choices
pub mod KeyList
pub mod Rules
pub mod Choosing
pub mod Picking
pub mod Laws
