pub mod LiftLemmas
