pub mod Spelling
pub mod Joining
pub mod Tests
pub mod Steps
pub mod Arms
pub mod SoughtPlaces
pub mod LastItems
