-- What a simplification that applies is: one of a made test or `if`, or a guard that goes.
use Rattle.std.proofs.Common.{◌≡◌, ℕ, ◌⊎◌, inl, inr, Bool, eqb, List, refl, sym, subst, ◌∙◌}
use Rattle.c_tree.specs.declared.tree.Item.{Item}
use Rattle.c_tree.specs.Trees.{trees_of}
use Rattle.c_tree.specs.Changed.{Changed}
use Rattle.move_laws.specs.Simplifications.{Simplified}
use Rattle.move_laws.specs.Drops.{dropped}
use Rattle.report_moves.specs.declared.moves.MoveKind.TheVariants.{Z1, Z2, Z3, Z4, Z5}
use Rattle.guard_simplify.specs.declared.choice.Choice.{Choice}
use Rattle.guard_simplify.specs.Choice.{Among, barred, choices}
use Rattle.guard_simplify.specs.Application.{applied_as, IsDropped, IsApplied}
use Rattle.guard_simplify.proofs.Members.{located}
use Rattle.guard_simplify.proofs.Edits.{edit_changed}

-- a simplification of a made test or `if`, or a guard that goes
pub record IsSimplified (old new : List Item) : Type 0 where
  pub either : Changed Simplified (trees_of old) (trees_of new) ⊎ ((l : ℕ) × (trees_of new ≡ dropped (eqb l) (trees_of old)))

abbrev bar_of : List Item → ℕ → Bool
bar_of old l = barred l (trees_of old)

pub chosen_simplified : (c : Choice) (old new : List Item) → Among c (choices (trees_of old)) → IsApplied c old new → IsSimplified old new
chosen_simplified c old new i a =
    let l = located (bar_of old) c.path.steps old c refl i in
    elim l.shape [
      | inl h ↦ record {
        either = inl (edit_changed (bar_of old) old new c l (subst (λ k. applied_as k c old new) h.0 a)
            (λ e. let f : Z1 ≡ Z5 = sym h.0 ∙ e in cc));
      }
      | inr s ↦ elim s [
        | inl h ↦ record {
          either = inl (edit_changed (bar_of old) old new c l (subst (λ k. applied_as k c old new) h.0 a)
              (λ e. let f : Z2 ≡ Z5 = sym h.0 ∙ e in cc));
        }
        | inr s ↦ elim s [
          | inl h ↦ record {
            either = inl (edit_changed (bar_of old) old new c l (subst (λ k. applied_as k c old new) h.0 a)
                (λ e. let f : Z3 ≡ Z5 = sym h.0 ∙ e in cc));
          }
          | inr s ↦ elim s [
            | inl h ↦ record {
              either = inl (edit_changed (bar_of old) old new c l (subst (λ k. applied_as k c old new) h.0 a)
                  (λ e. let f : Z4 ≡ Z5 = sym h.0 ∙ e in cc));
            }
            | inr h ↦ let d : IsDropped c old new = subst (λ k. applied_as k c old new) h.0 a in record { either = inr (d.label, d.trees) }
          ]
        ]
      ]
    ]
