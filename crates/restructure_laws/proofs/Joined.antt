-- Each join takes one Leap, and no other move takes or adds one.
use Rattle.std.proofs.Common.{inl, inr, ◌≡◌, ℕ, ◌+◌, true, eqb, cond, List, [], ◌∷◌, Option, Some, None, refl, sym, ap, subst, ◌∙◌, arith}
use Rattle.std.specs.Prelude.{sum_by}
use Rattle.std.proofs.lemmas.List.Sums.{sum_by-append}
use Rattle.c_tree.specs.declared.tree.Item.{Item}
use Rattle.c_tree.specs.declared.tree.Function.{Function}
use Rattle.c_tree.specs.declared.tree.Path.{Path}
use Rattle.c_tree.specs.declared.tree.Top.{Top}
use Rattle.c_tree.specs.declared.tree.Top.TheVariants as T
use Rattle.c_tree.specs.InRange.{body_of}
use Rattle.c_tree.specs.Trees.{Tree, Forest, Nil, Then, Sections, NoSection, Section, If, While, Do, For, Switch, Block, Leap, trees_of}
use Rattle.c_tree.specs.Everywhere.{total_of, total_in, Everywhere, EverywhereOf, EverywhereIn}
use Rattle.move_laws.proofs.Kept.{simplified_kept}
use Rattle.move_laws.proofs.DroppedItems.{becomes}
use Rattle.move_laws.specs.Bodies.{with_body}
use Rattle.plain_laws.specs.Laws.{IsNoLeap}
use Rattle.report_moves.specs.declared.moves.Move.{Move}
use Rattle.report_moves.specs.declared.moves.MoveKind.{MoveKind}
use Rattle.report_moves.specs.declared.moves.MoveKind.TheVariants.{Out, Lift, Inward}
use Rattle.move_order_laws.specs.MoveOrderCounts.{is_join}
use Rattle.move_order_laws.specs.Leaps.{leap_of, leaps}
use Rattle.move_order_laws.specs.Next.{Point, MovesBy}
use Rattle.move_order_laws.proofs.LeapsLeft.{one_fewer, same_leaps}
use Rattle.move_order_laws.specs.MoveFunctionCounts.{joined}
use Rattle.move_order_laws.proofs.Joined.{no_join}
use Rattle.move_bodies.specs.Moving.{MovesTo}
use Rattle.move_bodies.specs.Lawful.{IsMadeIn}
use Rattle.guard_simplify.proofs.Applied.{IsSimplified, chosen_simplified}
use Rattle.whole_laws.proofs.Flattened.{body_is}
use Rattle.restructure_laws.specs.Lawful as L
use Rattle.restructure_laws.specs.Lawful.{IsMovedBy, OneMoved, Moves, none, more}
use Rattle.restructure_laws.specs.Replayed.{top_leaps}
use Rattle.restructure_laws.proofs.ReplayedBodies.{IsChanged}
use Rattle.whole_laws.proofs.Ended.{no_leap, leapless_stable, leapless_become}

-- ---- no Leap

mutual
  none_counted : (a : Forest) → Everywhere IsNoLeap a → leaps a ≡ 0
  none_counted Nil h = refl
  none_counted (Then x a) h = let i = none_counted_of x h.0 in let j = none_counted a h.1 in omega (arith, i, j)

  none_counted_of : (x : Tree) → EverywhereOf IsNoLeap x → total_of leap_of x ≡ 0
  none_counted_of (If t a b) h = let i = none_counted a h.1 in let j = none_counted b h.2 in omega (arith, i, j)
  none_counted_of (While t a) h = let i = none_counted a h.1 in omega (arith, i)
  none_counted_of (Do a t) h = let i = none_counted a h.1 in omega (arith, i)
  none_counted_of (For first t u a) h = let i = none_counted first h.1 in let j = none_counted a h.2 in omega (arith, i, j)
  none_counted_of (Switch s c) h = let i = none_counted_in c h.1 in omega (arith, i)
  none_counted_of (Block a) h = let i = none_counted a h.1 in omega (arith, i)
  none_counted_of (Leap l) h = absurd h
  none_counted_of _ h = refl

  none_counted_in : (c : Sections) → EverywhereIn IsNoLeap c → total_in leap_of c ≡ 0
  none_counted_in NoSection h = refl
  none_counted_in (Section cases default a ends c) h = let i = none_counted a h.0 in let j = none_counted_in c h.1 in omega (arith, i, j)

simplified_leapless : (old new : List Item) → IsSimplified old new → Everywhere IsNoLeap (trees_of old) → Everywhere IsNoLeap (trees_of new)
simplified_leapless old new s h = elim s.either [
  | inl r ↦ simplified_kept IsNoLeap leapless_stable r h
  | inr d ↦ subst (Everywhere IsNoLeap) (sym d.1) (becomes (eqb d.0) IsNoLeap IsNoLeap (leapless_become (eqb d.0)) (trees_of old) h)
]

-- a simplification leaves none
pub still_leapless : (name : List ℕ) (labels : List (List ℕ)) (m : Move) (old new : List Item) → leaps (trees_of old) ≡ 0 →
    IsMadeIn name labels m old new → leaps (trees_of new) ≡ 0
still_leapless name labels m old new z h = none_counted (trees_of new)
    (simplified_leapless old new (chosen_simplified h.choice old new h.named.among h.applied) (no_leap (trees_of old) z))

-- ---- one move

abbrev pub one : MoveKind → ℕ
one k = cond (is_join k) 1 0

moved_none : (k : MoveKind) (l : ℕ) (p q : Point) → MovesBy k l p q → one k ≡ 0
moved_none Out l p q h = refl
moved_none Lift l p q h = refl
moved_none Inward l p q h = refl
moved_none _ l p q h = absurd h

to_leaps : (to : Option Path) (k : MoveKind) (l : ℕ) (p : Point) (new : List Item) → MovesTo to k l p new →
    one k + leaps (trees_of new) ≡ leaps (trees_of p.body)
to_leaps None k l p new h = let e : one k ≡ 1 = ap one h.0 in let f = one_fewer l p new h.1 in omega (arith, e, f)
to_leaps (Some to) k l p new h =
    let q : Point = record { body = new; at = to } in
    let e = moved_none k l p q h in
    let f = same_leaps k l p q h in
    omega (arith, e, f)

pub body_leaps : (name : List ℕ) (labels : List (List ℕ)) (m : Move) (old new : List Item) → IsChanged name labels m old new →
    one m.kind + leaps (trees_of new) ≡ leaps (trees_of old)
body_leaps name labels m old new h = elim h [
  | inl j ↦ to_leaps j.to m.kind j.label (record { body = old; at = m.path }) new j.moves.moves
  | inr z ↦
      let e : one m.kind ≡ 0 = ap one (sym z.made.named.kind) ∙ ap (λ b. cond {A = ℕ} b 1 0) (no_join z.made.choice old z.made.named.among) in
      let f = still_leapless name labels m old new z.leapless z.made in
      let g = z.leapless in
      omega (arith, e, f, g)
]

flat_leaps : (f : Function) (a : List Item) → f.flat ≡ true → f.body ≡ Some a → top_leaps (T.Function f) ≡ leaps (trees_of a)
flat_leaps f a e i = ap (λ b. cond b (leaps (body_of f)) 0) e ∙ ap leaps (body_is f a i)

function_leaps : (m : Move) (f g : Function) → IsMovedBy m f g → one m.kind + top_leaps (T.Function g) ≡ top_leaps (T.Function f)
function_leaps m f g h =
    let e = body_leaps f.name f.labels m h.body h.new h.made in
    let a = flat_leaps f h.body h.flat h.body_is in
    let b = ap (λ (z : Function). top_leaps (T.Function z)) h.result ∙ flat_leaps (with_body f h.new) h.new h.flat refl in
    omega (arith, e, a, b)

-- ---- of a program

tops_more : (t : Top) (ts : List Top) → sum_by top_leaps (t ∷ ts) ≡ top_leaps t + sum_by top_leaps ts
tops_more t ts = let a = sum_by-append top_leaps (t ∷ []) ts in omega (arith, a)

joined-more : (m : Move) (ms : List Move) → joined (m ∷ ms) ≡ one m.kind + joined ms
joined-more m ms = let a = sum_by-append (λ (m : Move). one m.kind) (m ∷ []) ms in omega (arith, a)

tops_leaps : {m : Move} {ts us : List Top} → OneMoved m ts us → one m.kind + sum_by top_leaps us ≡ sum_by top_leaps ts
tops_leaps {m = m} (L.this_function {f = f} {g = g} ts h) =
    let a = tops_more (T.Function f) ts in
    let b = tops_more (T.Function g) ts in
    let e = function_leaps m f g h in
    omega (arith, a, b, e)
tops_leaps (L.later_function t {ts = ts} {us = us} o h) =
    let a = tops_more t ts in
    let b = tops_more t us in
    let e = tops_leaps h in
    omega (arith, a, b, e)

pub joins : {ts us : List Top} {ms : List Move} → Moves ts ms us → joined ms + sum_by top_leaps us ≡ sum_by top_leaps ts
joins none = omega arith
joins (more {m = m} {ms = ms} h r) =
    let a = joined-more m ms in
    let b = tops_leaps h in
    let c = joins r in
    omega (arith, a, b, c)
