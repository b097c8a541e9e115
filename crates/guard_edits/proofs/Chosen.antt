-- A simplification that applies may be made where its path leads.
use Rattle.std.proofs.Common.{◌≡◌, ℕ, suc, ◌<◌, inl, inr, Bool, List, drop, length, Some, IsSome, slice_get, refl, sym, subst, ◌∙◌}
use Rattle.std.proofs.lemmas.Option.{slice_get_within}
use Rattle.c_tree.specs.declared.tree.Item.{Item}
use Rattle.c_tree.specs.Paths.{list_at}
use Rattle.c_tree.specs.Trees.{tree_of, trees_of}
use Rattle.report_moves.specs.declared.moves.MoveKind.TheVariants.{Z5}
use Rattle.guard_simplify.specs.declared.choice.Choice.{Choice}
use Rattle.guard_simplify.specs.Choice.{Among, choices, barred}
use Rattle.guard_simplify.proofs.Members.{OwnAt, Located, located}
use Rattle.guard_edits.specs.Built.{IsNest, MayEdit}
use Rattle.guard_edits.proofs.Nests.{nest_of}
use Rattle.guard_edits.proofs.Pairs.{one_item, pair_of}

abbrev found : (old : List Item) (c : Choice) → Among c (choices (trees_of old)) → Located (λ l. barred l (trees_of old)) old c
found old c h = located (λ l. barred l (trees_of old)) c.path.steps old c refl h

may_here : (bar : ℕ → Bool) (xs : List Item) (x : Item) (c : Choice) → slice_get xs c.path.item ≡ Some x →
    OwnAt bar c.path.item (tree_of x) (trees_of (drop (suc c.path.item) xs)) c → (c.kind ≡ Z5 → ⊥)
    → MayEdit c.kind xs c.path.item
may_here bar xs x c e h n = elim h [
  | inl a ↦ subst (λ k. MayEdit k xs c.path.item) (sym a.0) tt
  | inr h ↦ elim h [
    | inl a ↦ subst (λ k. MayEdit k xs c.path.item) (sym a.0) tt
    | inr h ↦ elim h [
      | inl a ↦ subst (λ k. MayEdit k xs c.path.item) (sym a.0) (pair_of xs c.path.item x e (subst IsSome a.1 a.2))
      | inr h ↦ elim h [
        | inl a ↦ subst (λ k. MayEdit k xs c.path.item) (sym a.0) (λ y f. subst IsNest (one_item (slice_get xs c.path.item) x y e f) (nest_of x a.2))
        | inr a ↦ absurd (n a.0)
      ]
    ]
  ]
]

some_same : (xs ys : List Item) → Some xs ≡ Some ys → xs ≡ ys
some_same xs ys e = cc

pub may_edit : (old xs : List Item) (c : Choice) → Among c (choices (trees_of old)) → (c.kind ≡ Z5 → ⊥) → list_at old c.path.steps ≡ Some xs →
    MayEdit c.kind xs c.path.item
may_edit old xs c h n e =
    let l = found old c h in
    subst (λ z. MayEdit c.kind z c.path.item) (some_same l.list xs (sym l.list_is ∙ e))
    (may_here (λ l. barred l (trees_of old)) l.list l.item c l.item_is l.shape n)

pub within_list : (old xs : List Item) (c : Choice) → Among c (choices (trees_of old)) → list_at old c.path.steps ≡ Some xs → c.path.item < length xs
within_list old xs c h e =
    let l = found old c h in
    subst (λ z. c.path.item < length z) (some_same l.list xs (sym l.list_is ∙ e)) (slice_get_within l.list c.path.item l.item l.item_is)

pub list_there : (old : List Item) (c : Choice) → Among c (choices (trees_of old)) → IsSome (list_at old c.path.steps)
list_there old c h = subst IsSome (sym (found old c h).list_is) refl
