pub mod Reread
pub mod ExpressionDerivations
pub mod StatementDerivations
pub mod FileDerivations
pub mod Standing
pub mod Notes
pub mod PrintSyntaxLaws
pub mod PrintParseLaws
