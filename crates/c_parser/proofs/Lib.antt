mod Begins
mod Begun
mod Closing
mod CompleteDeclarations
mod CompleteExpressions
mod CompleteFiles
mod CompleteStatements
pub mod Decides
mod Ends
mod Exact
mod Founds
mod Fronts
mod Keeps
mod Outcomes
pub mod Reading
pub mod Runs
mod Tokens
mod Traces
mod Wants
