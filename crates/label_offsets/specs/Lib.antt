pub mod Leaps
pub mod Offset
pub mod Relation
pub mod Marks
pub mod Standing
pub mod Choice
