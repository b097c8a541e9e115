pub mod Lines
pub mod Replay
pub mod Places
pub mod Steps
