-- What the moves and the simplifications of a body keep of each of its items.
use Rattle.std.proofs.Common.{ℕ, inl, inr, eqb, List, sym, subst}
use Rattle.c_tree.specs.declared.tree.Item.{Item}
use Rattle.c_tree.specs.declared.tree.Slot.{Slot}
use Rattle.c_tree.specs.Trees.{Tree, Forest, trees_of}
use Rattle.c_tree.specs.Everywhere.{Everywhere}
use Rattle.c_tree.specs.Changed.{Changed}
use Rattle.c_tree.specs.Moves.{Moved}
use Rattle.c_tree.proofs.RuleChanges.{joins_changed}
use Rattle.jump_meaning.specs.Code.{Code}
use Rattle.move_laws.specs.Simplifications.{Simplified}
use Rattle.move_laws.specs.Drops.{dropped}
use Rattle.move_order_laws.specs.declared.kept.Kept.{Kept}
use Rattle.move_order_laws.specs.Next.{Point}
use Rattle.move_order_laws.specs.Derivations.{Eliminates, joins, moves, Derives, ends, chooses}
use Rattle.move_order_laws.proofs.MovesLeft.{moved_changed}
use Rattle.guard_simplify.specs.declared.choice.Choice.{Choice}
use Rattle.guard_simplify.specs.Choice.{choices}
use Rattle.guard_simplify.specs.Application.{Reaches, none, then}
use Rattle.guard_simplify.proofs.Members.{in_first}
use Rattle.guard_simplify.proofs.Applied.{IsSimplified, chosen_simplified}
use Rattle.plain_laws.specs.Kinded.{KindedItem}
use Rattle.plain_laws.proofs.KindsMoved.{kinds_moved}
use Rattle.whole_laws.proofs.Simplified.{kinds_simplified}
use Rattle.whole_laws.proofs.Dropped.{kinds_dropped}

-- ---- moves

module _ (P : Tree → Type 0) (kept : (xs ys : Forest) → Changed Moved xs ys → Everywhere P xs → Everywhere P ys) where
  eliminated_kept : (l : ℕ) {p : Point} {ms : List Kept} {new : List Item} → Eliminates l p ms new → Everywhere P (trees_of p.body) →
      Everywhere P (trees_of new)
  eliminated_kept l (joins p new j) h = kept (trees_of p.body) (trees_of new) (joins_changed l p.at.item j.place p.at.steps p.body new j.moves) h
  eliminated_kept l (moves k p q ms new m e) h = eliminated_kept l e (kept (trees_of p.body) (trees_of q.body) (moved_changed k l p q m) h)

  pub derived_kept : {body : List Item} {ms : List Kept} {new : List Item} → Derives body ms new → Everywhere P (trees_of body) → Everywhere P (trees_of new)
  derived_kept (ends body n) h = h
  derived_kept (chooses body at l ms ns mid new f e d) h = derived_kept d (eliminated_kept l e h)

-- ---- simplifications

module _ (P : Tree → Type 0) (simplified : (xs ys : Forest) → Changed Simplified xs ys → Everywhere P xs → Everywhere P ys)
    (drops : (l : ℕ) (xs : Forest) → Everywhere P xs → Everywhere P (dropped (eqb l) xs)) where
  next_kept : (old new : List Item) → IsSimplified old new → Everywhere P (trees_of old) → Everywhere P (trees_of new)
  next_kept old new s h = elim s.either [
    | inl r ↦ simplified (trees_of old) (trees_of new) r h
    | inr d ↦ subst (Everywhere P) (sym d.1) (drops d.0 (trees_of old) h)
  ]

  pub reached_kept : {old : List Item} {cs : List Choice} {new : List Item} → Reaches old cs new → Everywhere P (trees_of old) → Everywhere P (trees_of new)
  reached_kept none h = h
  reached_kept (then {body = body} {new = new} c r n) h = next_kept body new
      (chosen_simplified c body new (in_first (choices (trees_of body)) c n.next) n.applied) (reached_kept r h)

-- ---- kinds

pub kinds_derived : (p : Code) (ss : List Slot) {body : List Item} {ms : List Kept} {new : List Item} → Derives body ms new →
    Everywhere (KindedItem p ss) (trees_of body) → Everywhere (KindedItem p ss) (trees_of new)
kinds_derived p ss d h = derived_kept (KindedItem p ss) (λ xs ys r i. kinds_moved p ss r i) d h

pub kinds_reached : (p : Code) (ss : List Slot) {old : List Item} {cs : List Choice} {new : List Item} → Reaches old cs new →
    Everywhere (KindedItem p ss) (trees_of old) → Everywhere (KindedItem p ss) (trees_of new)
kinds_reached p ss r h = reached_kept (KindedItem p ss) (λ xs ys r i. kinds_simplified p ss r i) (λ l xs i. kinds_dropped p ss (eqb l) xs i) r h
