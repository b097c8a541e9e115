pub mod NodeViews
pub mod Notes
pub mod Steps
pub mod Frames
