-- Movements and simplifications of a body, in whatever order they are made.
use Rattle.std.proofs.Common.{◌≡◌, ℕ, inl, inr, eqb, List, sym, subst}
use Rattle.c_tree.specs.declared.tree.Item.{Item}
use Rattle.c_tree.specs.Changed.{Changed}
use Rattle.c_tree.specs.Everywhere.{Everywhere}
use Rattle.c_tree.specs.Moves.{Moved}
use Rattle.c_tree.specs.Trees.{Tree, Forest, trees_of}
use Rattle.c_tree.proofs.RuleChanges.{joins_changed}
use Rattle.move_laws.specs.Simplifications.{Simplified}
use Rattle.move_laws.specs.Drops.{dropped}
use Rattle.move_order_laws.specs.declared.kept.Kept.{Kept}
use Rattle.move_order_laws.specs.Next.{Point}
use Rattle.move_order_laws.specs.Derivations.{Eliminates, joins, moves, Derives, ends, chooses}
use Rattle.move_order_laws.proofs.MovesLeft.{moved_changed}
use Rattle.guard_simplify.specs.declared.choice.Choice.{Choice}
use Rattle.guard_simplify.specs.Choice.{choices}
use Rattle.guard_simplify.specs.Application.{Reaches, none, then}
use Rattle.guard_simplify.proofs.Members.{in_first}
use Rattle.guard_simplify.proofs.Applied.{IsSimplified, chosen_simplified}

pub data Rewrites : List Item → List Item → Type 0 where
  unchanged : (xs : List Item) → Rewrites xs xs
  moved : {xs ys zs : List Item} → Changed Moved (trees_of xs) (trees_of ys) → Rewrites ys zs → Rewrites xs zs
  simplified : {xs ys zs : List Item} → IsSimplified xs ys → Rewrites ys zs → Rewrites xs zs

pub rewrites_both : {xs ys zs : List Item} → Rewrites xs ys → Rewrites ys zs → Rewrites xs zs
rewrites_both (unchanged xs) s = s
rewrites_both (moved c r) s = moved c (rewrites_both r s)
rewrites_both (simplified c r) s = simplified c (rewrites_both r s)

-- ---- those of the driver

eliminated : (l : ℕ) {p : Point} {ms : List Kept} {new : List Item} → Eliminates l p ms new → Rewrites p.body new
eliminated l (joins p new j) = moved (joins_changed l p.at.item j.place p.at.steps p.body new j.moves) (unchanged new)
eliminated l (moves k p q ms new m e) = moved (moved_changed k l p q m) (eliminated l e)

pub derived : {body : List Item} {ms : List Kept} {new : List Item} → Derives body ms new → Rewrites body new
derived (ends body n) = unchanged body
derived (chooses body at l ms ns mid new f e d) = rewrites_both (eliminated l e) (derived d)

pub reached : {old : List Item} {cs : List Choice} {new : List Item} → Reaches old cs new → Rewrites old new
reached {old = old} none = unchanged old
reached (then {body = body} {new = new} c r n) =
    rewrites_both (reached r) (simplified (chosen_simplified c body new (in_first (choices (trees_of body)) c n.next) n.applied) (unchanged new))

-- ---- what they keep of each item

module _ (P : Tree → Type 0) (by_moves : (xs ys : Forest) → Changed Moved xs ys → Everywhere P xs → Everywhere P ys)
    (by_simplifications : (xs ys : Forest) → Changed Simplified xs ys → Everywhere P xs → Everywhere P ys)
    (by_drops : (l : ℕ) (xs : Forest) → Everywhere P xs → Everywhere P (dropped (eqb l) xs)) where
  simplified_kept : (old new : List Item) → IsSimplified old new → Everywhere P (trees_of old) → Everywhere P (trees_of new)
  simplified_kept old new s h = elim s.either [
    | inl r ↦ by_simplifications (trees_of old) (trees_of new) r h
    | inr d ↦ subst (Everywhere P) (sym d.1) (by_drops d.0 (trees_of old) h)
  ]

  pub rewritten_kept : {old new : List Item} → Rewrites old new → Everywhere P (trees_of old) → Everywhere P (trees_of new)
  rewritten_kept (unchanged xs) h = h
  rewritten_kept (moved {xs = xs} {ys = ys} c r) h = rewritten_kept r (by_moves (trees_of xs) (trees_of ys) c h)
  rewritten_kept (simplified {xs = xs} {ys = ys} s r) h = rewritten_kept r (simplified_kept xs ys s h)
