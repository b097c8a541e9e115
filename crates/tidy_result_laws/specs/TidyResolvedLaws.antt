-- What `end_laws` states: what is made of a resolved program without jumps is resolved again.
use Rattle.std.specs.Prelude.{ℕ, ◌+◌, ◌≡◌, true}
use Rattle.c_tree.specs.declared.tree.Program.{Program}
use Rattle.c_tree.specs.Jumps.{is_jump_free_program, is_plain_program}
use Rattle.jump_meaning.specs.Code.{code_of}
use Rattle.c_resolved_laws.specs.Counts.{IsResolved}
use Rattle.tidy_laws.specs.TidyBehaviourLaws.{BehaveAlike}
use Rattle.tidy_laws.specs.Ends.{IsTidied, variables}

-- of each resolved program without jumps, and its end after so many changes
abbrev pub OfEnds : (Program → ℕ → Program → Type 0) → Type 0
OfEnds P = (p : Program) (n : ℕ) (q : Program) → IsResolved p → is_jump_free_program p ≡ true → IsTidied p n q → P p n q

pub record EndLaws : Type 0 where
  -- a resolved program that is plain is without jumps
  pub free : (p : Program) → IsResolved p → is_plain_program p ≡ true → is_jump_free_program p ≡ true
  -- the end is resolved, without gotos, labels and nested case labels
  pub resolved : OfEnds (λ p n q. IsResolved q)
  pub plain : OfEnds (λ p n q. is_plain_program q ≡ true)
  -- it has the same structural runs
  pub alike : OfEnds (λ p n q. BehaveAlike (code_of p) (code_of q))
  -- and each change has taken a variable away
  pub counted : OfEnds (λ p n q. n + variables q.tops ≡ variables p.tops)
