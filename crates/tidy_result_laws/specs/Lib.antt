pub mod TidyResolvedLaws
pub mod TidyRereadLaws
