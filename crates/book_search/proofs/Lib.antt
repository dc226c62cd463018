pub mod SoughtLaws
pub mod ReadLaws
pub mod RoomLaws
pub mod FloorLaws
