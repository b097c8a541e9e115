-- One lawful move in a body: what it keeps, and that it makes one body.
use Rattle.std.proofs.Common.{ℕ, ◌⊎◌, inl, inr, eqb, List, Option, Some, None, sym, subst}
use Rattle.c_tree.specs.declared.tree.Item.{Item}
use Rattle.c_tree.specs.declared.tree.Path.{Path}
use Rattle.c_tree.specs.Changed.{Changed}
use Rattle.c_tree.specs.Everywhere.{Everywhere}
use Rattle.c_tree.specs.Moves.{Moved}
use Rattle.c_tree.specs.Trees.{trees_of}
use Rattle.c_tree.specs.WellMade.{IsWellMade}
use Rattle.c_tree.proofs.RuleChanges.{joins_changed}
use Rattle.c_tree.proofs.WellMoved.{well_moved}
use Rattle.move_laws.specs.Bodies.{KeepsBehaviour}
use Rattle.move_laws.proofs.SteadyMoved.{moved_keeps}
use Rattle.report_moves.specs.declared.moves.Move.{Move}
use Rattle.report_moves.specs.declared.moves.MoveKind.{MoveKind}
use Rattle.move_order_laws.specs.Next.{Point}
use Rattle.move_order_laws.proofs.MovesLeft.{moved_changed}
use Rattle.move_bodies.specs.Moving.{MovesTo}
use Rattle.move_bodies.specs.Lawful.{IsMadeIn}
use Rattle.guard_simplify.proofs.Next.{choice_laws}
use Rattle.plain_laws.specs.Kinded.{KindedItem}
use Rattle.plain_laws.proofs.KindsMoved.{kinds_moved}
use Rattle.whole_laws.proofs.Simplified.{kinds_simplified}
use Rattle.whole_laws.proofs.Dropped.{kinds_dropped}
use Rattle.guard_simplify.proofs.Applied.{IsSimplified, chosen_simplified}
use Rattle.whole_laws.proofs.Chains.{KeepsKindsOf}
use Rattle.restructure_laws.specs.Lawful.{IsLeapMoved, IsSimplifiedBy}

-- ---- what is kept

pub record IsKept (old new : List Item) : Type 0 where
  pub behaviour : KeepsBehaviour old new
  pub made : IsWellMade (trees_of new)
  pub kinds : KeepsKindsOf old new

-- ---- a move of a Leap

to_changed : (to : Option Path) (k : MoveKind) (l : ℕ) (p : Point) (new : List Item) → MovesTo to k l p new → Changed Moved (trees_of p.body) (trees_of new)
to_changed None k l p new h = joins_changed l p.at.item h.1.place p.at.steps p.body new h.1.moves
to_changed (Some to) k l p new h = moved_changed k l p (record { body = new; at = to }) h

pub leap_changed : (labels : List (List ℕ)) (m : Move) (old new : List Item) → IsLeapMoved labels m old new → Changed Moved (trees_of old) (trees_of new)
leap_changed labels m old new h = to_changed h.to m.kind h.label (record { body = old; at = m.path }) new h.moves.moves

leap_kept : (labels : List (List ℕ)) (m : Move) (old new : List Item) → IsWellMade (trees_of old) → IsLeapMoved labels m old new → IsKept old new
leap_kept labels m old new w h =
    let c = leap_changed labels m old new h in
    record {
      behaviour = moved_keeps old new (record { made = w; moved = c });
      made = well_moved (trees_of old) (trees_of new) c w;
      kinds = λ p ss i. kinds_moved p ss c i;
    }

-- ---- a simplification

simplified_kinds : (old new : List Item) → IsSimplified old new → KeepsKindsOf old new
simplified_kinds old new s p ss i = elim s.either [
  | inl r ↦ kinds_simplified p ss r i
  | inr d ↦ subst (Everywhere (KindedItem p ss)) (sym d.1) (kinds_dropped p ss (eqb d.0) (trees_of old) i)
]

choice_kept : (name : List ℕ) (labels : List (List ℕ)) (m : Move) (old new : List Item) → IsWellMade (trees_of old) → IsMadeIn name labels m old new →
    IsKept old new
choice_kept name labels m old new w h = record {
  behaviour = choice_laws.keeps h.choice old new h.named.among h.applied w;
  made = choice_laws.made h.choice old new h.named.among h.applied w;
  kinds = simplified_kinds old new (chosen_simplified h.choice old new h.named.among h.applied);
}

-- ---- either

abbrev pub IsChanged : List ℕ → List (List ℕ) → Move → List Item → List Item → Type 0
IsChanged name labels m old new = IsLeapMoved labels m old new ⊎ IsSimplifiedBy name labels m old new

pub kept : (name : List ℕ) (labels : List (List ℕ)) (m : Move) (old new : List Item) → IsWellMade (trees_of old) → IsChanged name labels m old new →
    IsKept old new
kept name labels m old new w h = elim h [
  | inl j ↦ leap_kept labels m old new w j
  | inr z ↦ choice_kept name labels m old new w z.made
]
