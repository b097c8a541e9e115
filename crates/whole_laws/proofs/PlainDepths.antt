-- The plain form of a function with jumps of a resolved program nests no deeper than a text may, since the function isn't too tangled.
use Rattle.std.proofs.Common.{◌≡◌, inl, inr, ℕ, ◌+◌, ◌*◌, ◌≤◌, eqb, List, length, refl, sym, ap, subst, ◌∙◌, arith}
use Rattle.c_tree.specs.declared.tree.Item.{Item}
use Rattle.c_tree.specs.declared.tree.Function.{Function}
use Rattle.c_tree.specs.declared.tree.Top.{Top}
use Rattle.c_tree.specs.Conversions.{convert}
use Rattle.c_tree.specs.Everywhere.{total, total_of, total_in, Everywhere, EverywhereOf, EverywhereIn}
use Rattle.c_tree.specs.InRange.{body_of}
use Rattle.c_tree.specs.Numerals.{constant}
use Rattle.c_tree.specs.Trees.{Tree, Forest, Nil, Then, Sections, NoSection, Section, If, While, Do, For, Switch, Block, Goto, Leap, join, trees_of}
use Rattle.c_tree.specs.WellMade.{IsWellMade}
use Rattle.move_order_laws.proofs.ConvertedTrees.{converted_trees}
use Rattle.flat_laws.specs.Pieces.{Stays}
use Rattle.flat_laws.specs.Loose.{NoArrival}
use Rattle.flat_laws.specs.FlatForm.{coded, numbered, first_here, flat, flat_body, marks}
use Rattle.flat_laws.specs.FlatMade.{IsFlatItem}
use Rattle.flat_laws.specs.FlatWellMadeLaws.{IsGoodSource}
use Rattle.flat_laws.proofs.WellMade.{made_laws}
use Rattle.move_order_laws.specs.Leaps.{leap_of, leaps}
use Rattle.move_order_laws.specs.Nesting.{nesting, nesting_of, nesting_in}
use Rattle.move_order_laws.proofs.Around.{nesting_some, nesting-join}
use Rattle.move_order_laws.specs.MoveBodyLaws.{goto_of, gotos}
use Rattle.move_order_laws.proofs.Depth.{depth_laws}
use Rattle.guard_simplify.specs.declared.choice.Choice.{Choice}
use Rattle.guard_simplify.specs.Choice.{choices}
use Rattle.guard_simplify.specs.Application.{Reaches, none, then}
use Rattle.guard_simplify.proofs.Members.{in_first}
use Rattle.guard_vars.specs.Conversion.{converted_list}
use Rattle.plain_laws.specs.GuardSlots.{plain_list, plain_item, plain_sections}
use Rattle.plain_laws.specs.Slotted as D
use Rattle.plain_laws.specs.Slotted.{AreDeclarations, one_more, variable, guarding}
use Rattle.plain_laws.proofs.PlainFunctions.{are_declared}
use Rattle.guard_simplify.proofs.Applied.{IsSimplified, chosen_simplified}
use Rattle.c_resolved_defs.specs.PrintableStatements.{most, depth, depth_of, depth_in}
use Rattle.c_resolved_defs.specs.Resolved.{IsResolvedFunction}
use Rattle.c_resolved_laws.specs.Counts as measures
use Rattle.c_resolved_laws.specs.Counts.{counts_of, measured_form, flat_counts}
use Rattle.c_resolved_laws.proofs.GoodSource.{good_source}
use Rattle.c_resolved_laws.proofs.Measures.{same_gotos}
use Rattle.whole_laws.proofs.FactsMoved.{labels_of, slot_of, reached_of, flat_trees, plain_trees}
use Rattle.whole_laws.proofs.FlatDepths.{flat_depth}
use Rattle.whole_laws.proofs.Measured.{limits}
use Rattle.whole_laws.proofs.PlainForms.{decls, items}
use Rattle.whole_laws.proofs.PlainTops.{IsMovedForm, IsDerivedForm}
use Rattle.whole_laws.proofs.UnmovedSpelled.{depth_if, depth_tidy}

-- ---- the greatest list level is one more than the depth

mutual
  nesting_depth : (a : Forest) → nesting a ≡ 1 + depth a
  nesting_depth Nil = refl
  nesting_depth (Then x a) = let i = nesting_depth_of x in let j = nesting_depth a in omega (arith, i, j)

  nesting_depth_of : (x : Tree) → nesting_of x ≡ depth_of x
  nesting_depth_of (If t a b) = let i = nesting_depth a in let j = nesting_depth b in let k = depth_if t a b in omega (arith, i, j, k)
  nesting_depth_of (While t a) = let i = nesting_depth a in omega (arith, i)
  nesting_depth_of (Do a t) = let i = nesting_depth a in omega (arith, i)
  nesting_depth_of (For first t u a) = let i = nesting_depth a in omega (arith, i)
  nesting_depth_of (Switch s c) = let i = nesting_depth_in c in omega (arith, i)
  nesting_depth_of (Block a) = let i = nesting_depth a in omega (arith, i)
  nesting_depth_of _ = refl

  nesting_depth_in : (c : Sections) → nesting_in c ≡ 1 + depth_in c
  nesting_depth_in NoSection = refl
  nesting_depth_in (Section cases default a ends c) = let i = nesting_depth a in let j = nesting_depth_in c in omega (arith, i, j)

-- ---- guards as variables

module _ (slot : ℕ → ℕ) where
  mutual
    nesting_plain : (a : Forest) → nesting (plain_list slot a) ≡ nesting a
    nesting_plain Nil = refl
    nesting_plain (Then x a) = let i = nesting_plain_of x in let j = nesting_plain a in omega (arith, i, j)

    nesting_plain_of : (x : Tree) → nesting_of (plain_item slot x) ≡ nesting_of x
    nesting_plain_of (If t a b) = let i = nesting_plain a in let j = nesting_plain b in omega (arith, i, j)
    nesting_plain_of (While t a) = nesting_plain a
    nesting_plain_of (Do a t) = nesting_plain a
    nesting_plain_of (For first t u a) = nesting_plain a
    nesting_plain_of (Switch s c) = nesting_plain_in c
    nesting_plain_of (Block a) = nesting_plain a
    nesting_plain_of _ = refl

    nesting_plain_in : (c : Sections) → nesting_in (plain_sections slot c) ≡ nesting_in c
    nesting_plain_in NoSection = refl
    nesting_plain_in (Section cases default a ends c) = let i = nesting_plain a in let j = nesting_plain_in c in omega (arith, i, j)

declarations_flat : (base end : ℕ) (a : Forest) → AreDeclarations base end a → nesting a ≡ 1
declarations_flat base end Nil D.none = refl
declarations_flat base end (Then x a) (one_more (variable y) r) = let i = declarations_flat base end a r in omega (arith, i)
declarations_flat base end (Then x a) (one_more (guarding y k j) r) = let i = declarations_flat base end a r in omega (arith, i)

-- ---- simplifications

next_depth : (old new : List Item) → IsSimplified old new → nesting (trees_of new) ≤ nesting (trees_of old)
next_depth old new s = elim s.either [
  | inl r ↦ depth_laws.simplified (trees_of old) (trees_of new) r
  | inr g ↦ subst (λ a. nesting a ≤ nesting (trees_of old)) (sym g.1) (depth_laws.dropped (eqb g.0) (trees_of old))
]

reached_depth : {old : List Item} {cs : List Choice} {new : List Item} → Reaches old cs new → nesting (trees_of new) ≤ nesting (trees_of old)
reached_depth none = omega arith
reached_depth (then {body = body} {new = new} c r n) =
    let i = reached_depth r in
    let j = next_depth body new (chosen_simplified c body new (in_first (choices (trees_of body)) c n.next) n.applied) in
    omega (arith, i, j)

-- ---- numbers of gotos

same_goto : (x : Tree) → goto_of x ≡ measures.goto_of x
same_goto (Goto l) = refl
same_goto _ = refl

same_total : (a : Forest) → gotos a ≡ total measures.goto_of a
same_total a = ap (λ (f : Tree → ℕ). total f a) (λ i x. same_goto x i)

-- ---- a flat form has no Leap

module _ (P : ℕ → Type 0) where
  mutual
    no_leaps : (a : Forest) → Everywhere (IsFlatItem P) a → leaps a ≡ 0
    no_leaps Nil h = refl
    no_leaps (Then x a) h = let i = no_leaps_of x h.0 in let j = no_leaps a h.1 in omega (arith, i, j)

    no_leaps_of : (x : Tree) → EverywhereOf (IsFlatItem P) x → total_of leap_of x ≡ 0
    no_leaps_of (If t a b) h = let i = no_leaps a h.1 in let j = no_leaps b h.2 in omega (arith, i, j)
    no_leaps_of (While t a) h = let i = no_leaps a h.1 in omega (arith, i)
    no_leaps_of (Do a t) h = let i = no_leaps a h.1 in omega (arith, i)
    no_leaps_of (For first t u a) h = let i = no_leaps first h.1 in let j = no_leaps a h.2 in omega (arith, i, j)
    no_leaps_of (Switch s c) h = let i = no_leaps_in c h.1 in omega (arith, i)
    no_leaps_of (Block a) h = let i = no_leaps a h.1 in omega (arith, i)
    no_leaps_of (Leap l) h = absurd h
    no_leaps_of _ h = refl

    no_leaps_in : (c : Sections) → EverywhereIn (IsFlatItem P) c → total_in leap_of c ≡ 0
    no_leaps_in NoSection h = refl
    no_leaps_in (Section cases default a ends c) h = let i = no_leaps a h.0 in let j = no_leaps_in c h.1 in omega (arith, i, j)

-- ---- a function with jumps

module _ (ts : List Top) (f h : Function) (g : IsResolvedFunction flat_counts ts f) (d : IsDerivedForm f h) where
  abbrev m : IsMovedForm f h
  m = d.form

  abbrev n : ℕ
  n = length f.labels

  abbrev source : Forest
  source = body_of f

  abbrev flattened : Forest
  flattened = flat_body constant f.slots n source

  good : IsGoodSource n source
  good = good_source flat_counts ts f g

  few_gotos : gotos flattened ≡ total measures.goto_of (measured_form source)
  few_gotos = same_total flattened ∙ same_gotos f.slots n source

  flat_shallow : nesting flattened ≤ nesting source
  flat_shallow =
      let c = coded constant f.slots n source in
      flat_depth (numbered (marks (flat c (first_here (length f.slots)) Stays Stays NoArrival source)) c) (first_here (length f.slots)) Stays Stays
      NoArrival source good.items

  moved_shallow : nesting (trees_of d.middle) ≤ nesting flattened + 3 * gotos flattened
  moved_shallow =
      let made = made_laws.of_bodies constant f.slots n source good in
      let there : trees_of (converted_list m.body) ≡ convert flattened = converted_trees m.body ∙ ap convert (flat_trees f h m) in
      depth_laws.whole flattened (converted_list m.body) d.moves d.middle there (no_leaps _ flattened made.items)
      (subst IsWellMade (sym there) (made_laws.of_conversions constant f.slots n source good)) d.derives

  -- three levels more for each goto of the flat form
  pub moved_levels : depth (body_of h) ≤ depth (body_of f) + 3 * (counts_of (measured_form (body_of f))).0
  moved_levels =
      let params = g.form.parameters in
      let a = decls f h m params in
      let b = items f h m params in
      let plain = ap depth (plain_trees f h m) in
      let tidied = depth_tidy (join a b) in
      let all = nesting_depth (join a b) in
      let both = nesting-join a b in
      let first = declarations_flat _ _ a (are_declared (reached_of f h m) (labels_of f h m)) in
      let rest = nesting_plain (slot_of f h m) (trees_of m.new) in
      let some = nesting_some (trees_of m.new) in
      let reached = reached_depth d.reaches in
      let start = nesting_depth source in
      let gotos_few = few_gotos in
      let flat_so = flat_shallow in
      let moved_so = moved_shallow in
      omega (arith, plain, tidied, all, both, first, rest, some, reached, start, gotos_few, flat_so, moved_so)

  pub within_levels : 1 + depth (body_of h) ≤ most
  within_levels = let deep = (limits ts f h g d).depth in let levels = moved_levels in omega (arith, deep, levels)
