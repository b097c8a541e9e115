pub mod Ranged
pub mod KindsGiven
pub mod ItemsGiven
pub mod LabelsGiven
pub mod LiveGotos
pub mod SourceGiven
pub mod Printed
pub mod OneScope
pub mod Scoped
pub mod GoodSource
pub mod Measures
pub mod GotosCounted
pub mod LabelsCounted
pub mod Counted
pub mod Bounds
mod Tried
pub mod TheLaws
