pub mod NamingLaws
pub mod TestLaws
pub mod CountLemmas
pub mod AddedLemmas
pub mod RemovalLaws
pub mod ItemRemovals
pub mod LoopLaws
pub mod NumberLaws
