-- A body is simplified to one body, by one list of simplifications.
use Rattle.std.proofs.Common.{◌≡◌, eqb, List, [], ◌∷◌, ◌++◌, Option, Some, None, refl, sym, ap, subst, ◌∙◌}
use Rattle.c_tree.specs.declared.tree.Item.{Item}
use Rattle.c_tree.specs.Trees.{trees_of}
use Rattle.c_tree.specs.Paths.{list_at, put_at}
use Rattle.move_laws.specs.Drops.{dropped}
use Rattle.report_moves.specs.declared.moves.MoveKind.{MoveKind}
use Rattle.report_moves.specs.declared.moves.MoveKind.TheVariants.{Z5}
use Rattle.guard_simplify.specs.declared.choice.Choice.{Choice}
use Rattle.guard_simplify.specs.Choice.{choices, first}
use Rattle.guard_simplify.specs.Application.{edited, IsEdited, IsDropped, applied_as, IsApplied, IsNext, Reaches, none, then, IsSimple}
use Rattle.restructure_laws.proofs.Items.{same_items}

-- ---- one simplification

same_some : {A : Type 0} {x y : A} (o : Option A) → o ≡ Some x → o ≡ Some y → x ≡ y
same_some {x = x} {y = y} o e f = let g : Some x ≡ Some y = sym e ∙ f in cc

one_edited : (c : Choice) (old a b : List Item) → IsEdited c old a → IsEdited c old b → a ≡ b
one_edited c old a b v w =
    let list = same_some (list_at old c.path.steps) v.list_is w.list_is in
    let other = same_items v.other w.other (v.trees ∙ ap (λ z. edited c.kind c.path.item (trees_of z)) list ∙ sym w.trees) in
    v.put ∙ ap (put_at old c.path.steps) other ∙ sym w.put

one_dropped : (c : Choice) (old a b : List Item) → IsDropped c old a → IsDropped c old b → a ≡ b
one_dropped c old a b v w =
    let label = same_some c.label v.label_is w.label_is in
    same_items a b (v.trees ∙ ap (λ l. dropped (eqb l) (trees_of old)) label ∙ sym w.trees)

one_applied : (k : MoveKind) (c : Choice) (old a b : List Item) → applied_as k c old a → applied_as k c old b → a ≡ b
one_applied Z5 c old a b v w = one_dropped c old a b v w
one_applied _ c old a b v w = one_edited c old a b v w

one_next : (c d : Choice) (old a b : List Item) → IsNext c old a → IsNext d old b → (c ≡ d) × (a ≡ b)
one_next c d old a b v w =
    let e = same_some (first (choices (trees_of old))) v.next w.next in
    (e, one_applied c.kind c old a b v.applied (subst (λ k. IsApplied k old b) (sym e) w.applied))

-- ---- many, from the first on

data Steps : List Item → List Choice → List Item → Type 0 where
  stops : {old : List Item} → Steps old [] old
  goes : {old body new : List Item} {cs : List Choice} (c : Choice) → IsNext c old body → Steps body cs new → Steps old (c ∷ cs) new

one_more : {old body new : List Item} {cs : List Choice} (c : Choice) → Steps old cs body → IsNext c body new → Steps old (cs ++ c ∷ []) new
one_more c stops n = goes c n stops
one_more c (goes d m s) n = goes d m (one_more c s n)

steps_of : {old new : List Item} {cs : List Choice} → Reaches old cs new → Steps old cs new
steps_of none = stops
steps_of (then c r n) = one_more c (steps_of r) n

no_next : (c : Choice) (old new : List Item) → IsSimple old → IsNext c old new → ⊥
no_next c old new s n = let e : None ≡ Some c = sym (ap first s) ∙ n.next in cc

one_end : {old a b : List Item} {cs ds : List Choice} → Steps old cs a → Steps old ds b → IsSimple a → IsSimple b → (cs ≡ ds) × (a ≡ b)
one_end stops stops i j = (refl, refl)
one_end stops (goes {old = old} {body = body} d n t) i j = absurd (no_next d old body i n)
one_end (goes {old = old} {body = body} c m s) stops i j = absurd (no_next c old body j m)
one_end (goes {old = old} {body = body} {new = new} {cs = cs} c m s) (goes {body = other} {new = end} {cs = ds} d n t) i j =
    let e = one_next c d old body other m n in
    let k = one_end s (subst (λ z. Steps z ds end) (sym e.1) t) i j in
    ((λ x. e.0 x ∷ k.0 x), k.1)

pub one_simple : (old a b : List Item) (cs ds : List Choice) → Reaches old cs a → Reaches old ds b → IsSimple a → IsSimple b → (cs ≡ ds) × (a ≡ b)
one_simple old a b cs ds v w i j = one_end (steps_of v) (steps_of w) i j
