-- What `ends_read_back` and `one_end` state.
use Rattle.std.specs.Prelude.{ℕ, ◌+◌, ◌≡◌, true}
use Rattle.c_tree.specs.declared.tree.Program.{Program}
use Rattle.c_tree.specs.Jumps.{is_plain_program}
use Rattle.c_tree.specs.Text.{text_of}
use Rattle.jump_meaning.specs.Code.{code_of}
use Rattle.c_resolved_laws.specs.Counts.{IsResolved}
use Rattle.tidy_laws.specs.TidyBehaviourLaws.{BehaveAlike}
use Rattle.tidy_laws.specs.Ends.{IsTidied, variables}
use Rattle.tidy_result_laws.specs.TidyResolvedLaws.{OfEnds}
use Rattle.c_text.specs.Reading.{IsProgramOf}

-- what is known of q, the end of p after n changes
pub record ReadsBack (p : Program) (n : ℕ) (q : Program) : Type 0 where
  -- it is resolved, without gotos, labels and nested case labels
  pub resolved : IsResolved q
  pub plain : is_plain_program q ≡ true
  -- its printed text is one of the subset, which has this program
  pub reads : IsProgramOf (text_of q) q
  -- its structural runs are those of p
  pub alike : BehaveAlike (code_of p) (code_of q)
  -- and each change has taken a variable away
  pub counted : n + variables q.tops ≡ variables p.tops

abbrev pub EndsReadBack : Type 0
EndsReadBack = OfEnds ReadsBack

-- a program has one end, after one number of changes
abbrev pub OneEnd : Type 0
OneEnd = (p q r : Program) (n m : ℕ) → IsTidied p n q → IsTidied p m r → (m ≡ n) × (r ≡ q)
