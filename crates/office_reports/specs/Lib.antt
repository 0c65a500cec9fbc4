pub mod Reports
pub mod Rooms
pub mod SeatList
pub mod Slots
pub mod PlaceList
