pub mod Room
pub mod RoomLaws
