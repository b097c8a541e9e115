pub mod Lists
mod NoteLemmas
