-- What one simplification is, by its kind, and a body on the way.
use Rattle.std.proofs.Common.{refl, ◌≡◌, ◌≢◌, inl, inr, List, Some, None, Result, Ok, Err, OnOk, OnErr, sym, ◌∙◌}
use Rattle.c_tree.specs.declared.tree.Item.{Item}
use Rattle.c_tree.specs.Trees.{trees_of}
use Rattle.report_moves.specs.declared.moves.MoveKind.TheVariants.{Z1, Z2, Z3, Z4, Z5}
use Rattle.guard_simplify.specs.declared.choice.Choice.{Choice}
use Rattle.guard_simplify.specs.Choice.{Among, choices, barred, first}
use Rattle.guard_simplify.specs.Application.{IsApplied, IsNext}
use Rattle.guard_simplify.proofs.Members.{located}
use Rattle.guard_simplify.proofs.Placed.{none_some}

-- which has a label
pub has_label : (c : Choice) (old : List Item) → Among c (choices (trees_of old)) → c.kind ≡ Z5 → c.label ≢ None
has_label c old h k n =
    let l = located (λ l. barred l (trees_of old)) c.path.steps old c refl h in
    elim l.shape [
      | inl a ↦ let f : Z5 ≡ Z1 = sym k ∙ a.0 in cc
      | inr s ↦ elim s [
        | inl a ↦ let f : Z5 ≡ Z2 = sym k ∙ a.0 in cc
        | inr s ↦ elim s [
          | inl a ↦ let f : Z5 ≡ Z3 = sym k ∙ a.0 in cc
          | inr s ↦ elim s [
            | inl a ↦ let f : Z5 ≡ Z4 = sym k ∙ a.0 in cc
            | inr a ↦ none_some c.label n a.2
          ]
        ]
      ]
    ]

-- the first, where it is applied
pub is_next : (c : Choice) (old new : List Item) → first (choices (trees_of old)) ≡ Some c → IsApplied c old new → IsNext c old new
is_next c old new e a = record { next = e; applied = a }

-- what holds whatever the result is
pub always_err : {T E P : Type 0} (r : Result T E) → P → OnErr r P
always_err (Ok x) p = tt
always_err (Err e) p = p

pub always_ok : {T E P : Type 0} (r : Result T E) → P → OnOk r P
always_ok (Ok x) p = p
always_ok (Err e) p = tt
