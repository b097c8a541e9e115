pub mod Trims
pub mod TrimLists
pub mod TrimCounts
pub mod TrimFacts
pub mod KeptFacts
pub mod TrimSpelled
pub mod TrimBound
pub mod SlotGone
pub mod KindsGone
pub mod ItemsGone
pub mod CountsGone
pub mod SpelledGone
pub mod FileScopes
pub mod BoundGone
mod Loose
mod ChangedFunctions
mod Files
mod ChangedFiles
mod Sections
mod Kinded
mod Behaves
pub mod TheLaws
pub mod Ends
pub mod OneEnd
