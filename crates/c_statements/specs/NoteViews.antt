-- Comments by their places, as the code has them.
use Rattle.std.specs.Prelude.{ℕ, cond, ◌==◌, List, [], ◌∷◌, ◌++◌, map, Option, Some, None}
use Rattle.std.specs.BTreeMap.{get}
use Rattle.std.specs.Borrow.{Bor}
use Rattle.std.specs.Ordering.{nat_cmp}
use Rattle.c_statements.specs.declared.notes.TokenNotes.{TokenNotes}
use Rattle.c_statements.specs.declared.notes.Notes.{Notes}
use Rattle.c_statements.specs.Context.{Anchor, Before, AtEnd, AtSection, Last}

abbrev pub all_now : List (Bor (List ℕ)) → List (List ℕ)
all_now notes = map (λ b. b.now) notes

abbrev pub notes_in : Option (List (Bor (List ℕ))) → List (List ℕ)
notes_in (Some notes) = all_now notes
notes_in None = []

-- the comments of a token, in order
abbrev pub token_notes : TokenNotes → ℕ → List (List ℕ)
token_notes it n = notes_in (get nat_cmp it.notes n)

-- with one comment more, behind those of its token
abbrev pub with_token_note : ℕ → List ℕ → (ℕ → List (List ℕ)) → ℕ → List (List ℕ)
with_token_note token bytes notes n = cond (token == n) (notes n ++ bytes ∷ []) (notes n)

-- the comments of a place, in order
abbrev pub notes_of : Notes → Anchor → List (List ℕ)
notes_of it (Before n) = token_notes it.before n
notes_of it (AtEnd n) = token_notes it.at_end n
notes_of it (AtSection n) = token_notes it.at_section n
notes_of it Last = all_now it.last
