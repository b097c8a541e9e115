pub mod MeaningLaws
pub mod ProgramLaws
pub mod Finds
pub mod ExpressionLaws
pub mod FunctionLaws
pub mod FileLaws
