pub mod Values
pub mod Rooms
pub mod Changes
pub mod Pages
pub mod Seen
pub mod Stores
