pub mod FileJumps
pub mod JumplessLaws
pub mod TextJumps
pub mod Laws
