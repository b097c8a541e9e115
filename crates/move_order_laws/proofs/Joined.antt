-- Which functions have a derivation to make; and as many of its moves are joins as there are jumps before it.
use Rattle.std.proofs.Common.{inl, inr, ◌≡◌, ℕ, ◌+◌, false, cond, List, [], ◌∷◌, ◌++◌, Option, Some, All, refl, sym, ap, subst, ◌∙◌, arith}
use Rattle.std.proofs.lemmas.List.Sums.{sum_by-append}
use Rattle.std.proofs.lemmas.List.{map-append}
use Rattle.std.proofs.lemmas.List.Elements.{All-head, All-tail}
use Rattle.c_tree.specs.declared.tree.Item.{Item}
use Rattle.c_tree.specs.declared.tree.Function.{Function}
use Rattle.c_tree.specs.declared.tree.Top.{Top}
use Rattle.c_tree.specs.declared.tree.Top.TheVariants as T
use Rattle.c_tree.specs.Conversions.{convert}
use Rattle.c_tree.specs.InRange.{body_of}
use Rattle.c_tree.specs.Trees.{trees_of}
use Rattle.c_tree.specs.WellMade.{IsWellMade}
use Rattle.jump_meaning.specs.Laws.{IsTopUnflat}
use Rattle.guard_vars.specs.Conversion.{converted_list}
use Rattle.move_order_laws.proofs.ConvertedTrees.{converted_trees}
use Rattle.report_moves.specs.declared.moves.Move.{Move}
use Rattle.move_order_laws.specs.declared.kept.Kept.{Kept}
use Rattle.move_order_laws.specs.MoveOrderCounts.{is_join, join_count}
use Rattle.move_order_laws.specs.Leaps.{leaps}
use Rattle.move_order_laws.specs.Naming.{named, all_named}
use Rattle.move_order_laws.proofs.JoinCounts.{derived_joins}
use Rattle.move_order_laws.specs.MoveBodyLaws.{gotos}
use Rattle.move_order_laws.proofs.Depth.{depth_laws}
use Rattle.guard_simplify.specs.declared.choice.Choice.{Choice}
use Rattle.guard_simplify.specs.Application.{Reaches, none, then}
use Rattle.guard_simplify.specs.Choice.{Among, choices, barred}
use Rattle.guard_simplify.specs.Naming.{choice_named, choices_named}
use Rattle.guard_simplify.proofs.Members.{in_first, located}
use Rattle.move_order_laws.specs.Moved.{IsMoved, MovedTop, mt_moved, mt_other, MovedTops, mt_none, mt_more, IsMovable, IsTopMovable}
use Rattle.move_order_laws.specs.MoveFunctionCounts.{joined, jumps_of, jumps}
use Rattle.move_order_laws.specs.MoveFunctionLaws.{MovedLaws}

abbrev one : Move → ℕ
one m = cond (is_join m.kind) 1 0

joined-append : (ms ns : List Move) → joined (ms ++ ns) ≡ joined ms + joined ns
joined-append ms ns = sum_by-append one ms ns

joined-more : (m : Move) (ms : List Move) → joined (m ∷ ms) ≡ one m + joined ms
joined-more m ms = let a = sum_by-append one (m ∷ []) ms in omega (arith, a)

-- ---- moves of Leaps

abbrev one_kept : Kept → ℕ
one_kept k = cond (is_join k.kind) 1 0

kept-more : (k : Kept) (ks : List Kept) → join_count (k ∷ ks) ≡ one_kept k + join_count ks
kept-more k ks = let a = sum_by-append one_kept (k ∷ []) ks in omega (arith, a)

named_joins : (f : List ℕ) (labels : List (List ℕ)) (ks : List Kept) → joined (all_named f labels ks) ≡ join_count ks
named_joins f labels [] = refl
named_joins f labels (k ∷ ks) =
    let a = joined-more (named f labels k) (all_named f labels ks) in
    let b = kept-more k ks in
    let r = named_joins f labels ks in
    omega (arith, a, b, r)

-- ---- simplifications

pub no_join : (c : Choice) (body : List Item) → Among c (choices (trees_of body)) → is_join c.kind ≡ false
no_join c body h =
    let l = located (λ l. barred l (trees_of body)) c.path.steps body c refl h in
    elim l.shape [
      | inl a ↦ ap is_join a.0
      | inr s ↦ elim s [
        | inl a ↦ ap is_join a.0
        | inr s ↦ elim s [
          | inl a ↦ ap is_join a.0
          | inr s ↦ elim s [
            | inl a ↦ ap is_join a.0
            | inr a ↦ ap is_join a.0
          ]
        ]
      ]
    ]

simplified_joins : (f : List ℕ) (labels : List (List ℕ)) {old new : List Item} {cs : List Choice} → Reaches old cs new → joined (choices_named f labels cs) ≡ 0
simplified_joins f labels none = refl
simplified_joins f labels (then {cs = cs} {body = body} c r n) =
    let z : one (choice_named f labels c) ≡ 0 = ap (λ b. cond {A = ℕ} b 1 0) (no_join c body (in_first (choices (trees_of body)) c n.next)) in
    let a = ap joined (map-append (choice_named f labels) cs (c ∷ [])) in
    let b = joined-append (choices_named f labels cs) (choice_named f labels c ∷ []) in
    let m = joined-more (choice_named f labels c) [] in
    let i = simplified_joins f labels r in
    omega (arith, z, a, b, m, i)

-- ---- functions

function_joins : (f g : Function) (ms : List Move) → IsMovable f → IsMoved f g ms → joined ms ≡ gotos (body_of f) + leaps (body_of f)
function_joins f g ms w h =
    let same : Some w.body ≡ Some h.body = sym w.body_is ∙ h.body_is in
    let body : w.body ≡ h.body = cc in
    let made : IsWellMade (trees_of (converted_list h.body)) = subst (λ z. IsWellMade (trees_of (converted_list z))) body w.well_made in
    let a = ap joined h.made in
    let b = joined-append (all_named f.name f.labels h.moves) (choices_named f.name f.labels h.choices) in
    let c = named_joins f.name f.labels h.moves in
    let d = simplified_joins f.name f.labels h.reaches in
    let e = derived_joins h.derives made in
    let k = ap leaps (converted_trees h.body) ∙ depth_laws.jumps (trees_of h.body) in
    let t : body_of f ≡ trees_of h.body = ap (λ (o : Option (List Item)). body_of (record f { body = o })) h.body_is in
    let u = ap (λ z. gotos z + leaps z) t in
    omega (arith, a, b, c, d, e, k, u)

unflat : (t : Top) → IsTopUnflat t → jumps_of t ≡ 0
unflat (T.Function f) u = ap (λ b. cond b (gotos (body_of f) + leaps (body_of f)) 0) u
unflat _ u = refl

top_joins : (t u : Top) (ms : List Move) → IsTopMovable t → MovedTop t u ms → joined ms ≡ jumps_of t
top_joins _ _ ms w (mt_moved {f = f} {g = g} e m) = function_joins f g ms (w e) m ∙ sym (ap (λ b. cond b (gotos (body_of f) + leaps (body_of f)) 0) e)
top_joins _ _ _ w (mt_other t u) = sym (unflat t u)

joins : {ts us : List Top} {ms : List Move} → All IsTopMovable ts → MovedTops ts us ms → joined ms ≡ jumps ts
joins a mt_none = refl
joins a (mt_more {t = t} {u = u} {ts = ts} {us = us} {ms = ms} {ns = ns} m r) =
    let h = top_joins t u ms (All-head IsTopMovable t ts a) m in
    let i = joins (All-tail IsTopMovable t ts a) r in
    let p = joined-append ms ns in
    let q = sum_by-append jumps_of (t ∷ []) ts in
    omega (arith, h, i, p, q)

movable : (f : Function) (body : List Item) → f.body ≡ Some body → IsWellMade (convert (body_of f)) → IsMovable f
movable f body e w =
    let t : body_of f ≡ trees_of body = ap (λ (o : Option (List Item)). body_of (record f { body = o })) e in
    record { body = body; body_is = e; well_made = subst IsWellMade (ap convert t ∙ sym (converted_trees body)) w }

pub moved_laws : MovedLaws
moved_laws = record { movable = movable; joins = λ ts us ms a m. joins a m }
