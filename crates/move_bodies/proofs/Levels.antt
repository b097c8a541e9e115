-- No simplification makes the lists of a body stand deeper in one another.
use Rattle.std.proofs.Common.{◌≡◌, ◌≢◌, ◌≤◌, inl, inr, eqb, List, Option, Some, Result, Ok, Err, OnOk, OnErr, refl, sym, subst, arith}
use Rattle.std.specs.Option.{option_map_or}
use Rattle.c_tree.specs.declared.tree.Item.{Item}
use Rattle.c_tree.specs.declared.tree.Function.{Function}
use Rattle.c_tree.specs.InRange.{body_of}
use Rattle.c_tree.specs.Trees.{Nil, trees_of}
use Rattle.move_laws.specs.Bodies.{with_body}
use Rattle.move_order_laws.specs.Nesting.{nesting}
use Rattle.move_order_laws.proofs.Depth.{depth_laws}
use Rattle.report_moves.specs.declared.moves.MoveKind.{MoveKind}
use Rattle.report_moves.specs.declared.moves.MoveKind.TheVariants.{Z5}
use Rattle.guard_simplify.specs.declared.choice.Choice.{Choice}
use Rattle.guard_simplify.specs.Choice.{Among, choices}
use Rattle.guard_simplify.specs.Application.{applied_as, IsEdited, IsApplied, Reaches, none, then}
use Rattle.guard_simplify.proofs.Members.{in_first}
use Rattle.guard_simplify.proofs.Applied.{chosen_simplified}

pub applied_simpler : (c : Choice) (old new : List Item) → Among c (choices (trees_of old)) → IsApplied c old new →
    nesting (trees_of new) ≤ nesting (trees_of old)
applied_simpler c old new i a = elim (chosen_simplified c old new i a).either [
  | inl r ↦ depth_laws.simplified (trees_of old) (trees_of new) r
  | inr g ↦ subst (λ a. nesting a ≤ nesting (trees_of old)) (sym g.1) (depth_laws.dropped (eqb g.0) (trees_of old))
]

as_applied : (c : Choice) (old new : List Item) (k : MoveKind) → k ≢ Z5 → IsEdited c old new → applied_as k c old new
as_applied c old new Z5 n e = absurd (n refl)
as_applied c old new _ n e = e

-- of one that is no guard that goes, as it is made in place
module _ {A E : Type 0} (c : Choice) (old new : List Item) (other : c.kind ≢ Z5) where
  pub edited_applied : (r : Result A E) → OnOk r (IsEdited c old new) → OnOk r (IsApplied c old new)
  edited_applied (Ok x) e = as_applied c old new c.kind other e
  edited_applied (Err x) e = tt

  pub edited_simpler : (r : Result A E) → Among c (choices (trees_of old)) → OnOk r (IsEdited c old new) → OnErr r (new ≡ old) →
      nesting (trees_of new) ≤ nesting (trees_of old)
  edited_simpler (Ok x) i e s = applied_simpler c old new i (as_applied c old new c.kind other e)
  edited_simpler (Err x) i e s = subst (λ z. nesting (trees_of z) ≤ nesting (trees_of old)) (sym s) (omega arith)

pub reached_simpler : {old : List Item} {cs : List Choice} {new : List Item} → Reaches old cs new → nesting (trees_of new) ≤ nesting (trees_of old)
reached_simpler none = omega arith
reached_simpler (then {body = body} {new = new} c r n) =
    let i = reached_simpler r in
    let j = applied_simpler c body new (in_first (choices (trees_of body)) c n.next) n.applied in
    omega (arith, i, j)

-- the same of a function with such a body
pub body_simpler : (f : Function) (body new : List Item) → f.body ≡ Some body → nesting (trees_of new) ≤ nesting (trees_of body) →
    nesting (body_of (with_body f new)) ≤ nesting (body_of f)
body_simpler f body new e h = subst (λ (o : Option (List Item)). nesting (trees_of new) ≤ nesting (option_map_or trees_of o Nil)) (sym e) h
