pub mod Completion
pub mod PieceLemmas
