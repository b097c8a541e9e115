pub mod Placed
pub mod Kept
pub mod LabelCounts
pub mod FewGuards
pub mod LandPlaces
pub mod Levels
pub mod Sizes
pub mod ReadBack
pub mod FlatTops
pub mod LabelCodes
pub mod LabelNames
pub mod MadeLabels
pub mod NamedFlat
pub mod NamedTops
pub mod NewGuards
pub mod SwitchCases
pub mod Items
mod Flat
mod Simple
pub mod WholeUniquePrograms
mod Bodies
mod Functions
pub mod WholeIdempotentPrograms
pub mod ReplayedBodies
pub mod OneBody
pub mod Tops
pub mod ByRules
pub mod Joined
pub mod Replays
pub mod FirstPlaces
pub mod Rewriting
pub mod Whole
pub mod Later
pub mod PlainForms
pub mod ReplayedTops
pub mod ChoiceLabels
pub mod MoveNames
pub mod Laws
