pub mod Numbers
pub mod Refill
pub mod Stop
pub mod Traps
pub mod Words
pub mod formers
