-- What applies at an item is one of those of its list, and of the body that the list stands in.
use Rattle.std.proofs.Common.{◌≡◌, ℕ, zero, suc, ◌+◌, ◌⊎◌, inl, inr, Bool, true, false, cond, List, [], ◌∷◌, ◌++◌, drop, Option, Some, None, IsSome, slice_get, refl, sym, ap, subst, ◌∙◌, arith}
use Rattle.c_tree.specs.declared.tree.Item.{Item, Item-F, out-Item}
use Rattle.c_tree.specs.declared.tree.Item.TheOpen as O
use Rattle.c_tree.specs.declared.tree.Section as Real
use Rattle.c_tree.specs.declared.tree.Branch.{Branch}
use Rattle.c_tree.specs.declared.tree.Branch.TheVariants as B
use Rattle.c_tree.specs.declared.tree.Step.{Step}
use Rattle.c_tree.specs.declared.tree.Path.{Path}
use Rattle.c_tree.specs.Paths.{list_of, child_F, child, list_at}
use Rattle.c_tree.specs.Trees.{Tree, Forest, SectionTree, tree_of, trees_of, section_tree, sections_of}
use Rattle.c_tree.proofs.TreeLaws.{section-parts}
use Rattle.c_tree.proofs.ChangeLemmas.{layer_tree, tree-out}
use Rattle.c_tree.proofs.PathLemmas.{map_some, stepped}
use Rattle.report_moves.specs.declared.moves.MoveKind.{MoveKind}
use Rattle.report_moves.specs.declared.moves.MoveKind.TheVariants.{Z1, Z2, Z3, Z4, Z5}
use Rattle.guard_simplify.specs.declared.choice.Choice.{Choice}
use Rattle.guard_simplify.specs.declared.choice.Repeat.{Repeat}
use Rattle.guard_simplify.specs.Choice.{Among, if_true, if_some, own, under_one, under, choices_from, choices_in, choices_of_sections, choices, barred, is_empty_if, repeat_of, repeat_label, neighbours, is_nested, unread_guard}
use Rattle.guard_simplify.specs.Own.{choice_at, else_label, else_repeat, own_of}
use Rattle.guard_simplify.specs.Views.{empty_if, repeat_in, guard, beside, next_guard, arms_item, nested, unread}
use Rattle.guard_simplify.proofs.Members.{OwnAt, located}
use Rattle.guard_simplify.proofs.ViewLaws.{same_choices, empty-item, repeat-item, neighbours-item, nested-item, unread-item}

pub in_left : (c : Choice) (xs ys : List Choice) → Among c xs → Among c (xs ++ ys)
in_left c [] ys h = absurd h
in_left c (x ∷ xs) ys h = elim h [ inl e ↦ inl e | inr t ↦ inr (in_left c xs ys t) ]

pub in_right : (c : Choice) (xs ys : List Choice) → Among c ys → Among c (xs ++ ys)
in_right c [] ys h = h
in_right c (x ∷ xs) ys h = inr (in_right c xs ys h)

put_under : (i : ℕ) (b : Branch) (c : Choice) (cs : List Choice) → Among c cs → Among (under_one i b c) (under i b cs)
put_under i b c [] h = absurd h
put_under i b c (x ∷ xs) h = elim h [ inl e ↦ inl (ap (under_one i b) e) | inr t ↦ inr (put_under i b c xs t) ]

-- ---- a list

at_own : (bar : ℕ → Bool) (n : ℕ) (xs : List Item) (k : ℕ) (x : Item) (c : Choice) → slice_get xs k ≡ Some x
    → Among c (own bar (n + k) (tree_of x) (trees_of (drop (suc k) xs))) ⊎ Among c (choices_in bar (n + k) (tree_of x)) →
    Among c (choices_from bar n (trees_of xs))
unfolding trees_of
at_own bar n [] k x c e h = cc
at_own bar n (z ∷ zs) zero x c e h =
    let g : x ≡ z = cc in
    let m : n + 0 ≡ n = omega arith in
    let rest = choices_in bar n (tree_of z) ++ choices_from bar (n + 1) (trees_of zs) in
    elim h [
      | inl u ↦ in_left c (own bar n (tree_of z) (trees_of zs)) rest
          (subst (λ j. Among c (own bar j (tree_of z) (trees_of zs))) m (subst (λ y. Among c (own bar (n + 0) (tree_of y) (trees_of zs))) g u))
      | inr u ↦ in_right c (own bar n (tree_of z) (trees_of zs)) rest
          (in_left c (choices_in bar n (tree_of z)) (choices_from bar (n + 1) (trees_of zs))
          (subst (λ j. Among c (choices_in bar j (tree_of z))) m (subst (λ y. Among c (choices_in bar (n + 0) (tree_of y))) g u)))
    ]
at_own bar n (z ∷ zs) (suc k) x c e h =
    let m : n + suc k ≡ n + 1 + k = omega arith in
    in_right c (own bar n (tree_of z) (trees_of zs)) (choices_in bar n (tree_of z) ++ choices_from bar (n + 1) (trees_of zs))
    (in_right c (choices_in bar n (tree_of z)) (choices_from bar (n + 1) (trees_of zs))
    (at_own bar (n + 1) zs k x c e (subst (λ j. Among c (own bar j (tree_of x) (trees_of (drop (suc k) zs))) ⊎ Among c (choices_in bar j (tree_of x))) m h)))

-- ---- an item

in_section : (bar : ℕ → Bool) (i n : ℕ) (cs : List Real.Section) (k : ℕ) (s : Real.Section) (c : Choice) → slice_get cs k ≡ Some s →
    Among c (choices_from bar 0 (trees_of (list_of s)))
    → Among (under_one i (B.Section (n + k)) c) (choices_of_sections bar i n (sections_of cs))
unfolding sections_of
in_section bar i n [] k s c e h = cc
in_section bar i n (z ∷ zs) zero s c e h =
    let g : s ≡ z = cc in
    let m : n + 0 ≡ n = omega arith in
    let t = section_tree z in
    let same : trees_of (list_of s) ≡ t.list = ap (λ y. trees_of (list_of y)) g ∙ sym (ap (λ (y : SectionTree). y.list) (section-parts z)) in
    subst (λ j. Among (under_one i (B.Section j) c) (choices_of_sections bar i n (sections_of (z ∷ zs)))) (sym m)
    (in_left (under_one i (B.Section n) c) (under i (B.Section n) (choices_from bar 0 t.list)) (choices_of_sections bar i (n + 1) (sections_of zs))
    (put_under i (B.Section n) c (choices_from bar 0 t.list) (subst (λ y. Among c (choices_from bar 0 y)) same h)))
in_section bar i n (z ∷ zs) (suc k) s c e h =
    let m : n + 1 + k ≡ n + suc k = omega arith in
    let t = section_tree z in
    in_right (under_one i (B.Section (n + suc k)) c) (under i (B.Section n) (choices_from bar 0 t.list)) (choices_of_sections bar i (n + 1) (sections_of zs))
    (subst (λ j. Among (under_one i (B.Section j) c) (choices_of_sections bar i (n + 1) (sections_of zs))) m (in_section bar i (n + 1) zs k s c e h))

in_layer : (bar : ℕ → Bool) (i : ℕ) (b : Branch) (y : Item-F Item Real.Section) (a : List Item) (c : Choice) → child_F b y ≡ Some a →
    Among c (choices_from bar 0 (trees_of a)) → Among (under_one i b c) (choices_in bar i (layer_tree y))
unfolding trees_of sections_of
in_layer bar i B.Then (O.If t x z) a c e h =
    let g : a ≡ x = cc in
    in_left (under_one i B.Then c) (under i B.Then (choices_from bar 0 (trees_of x))) (under i B.Else (choices_from bar 0 (trees_of z)))
    (put_under i B.Then c (choices_from bar 0 (trees_of x)) (subst (λ v. Among c (choices_from bar 0 (trees_of v))) g h))
in_layer bar i B.Else (O.If t z x) a c e h =
    let g : a ≡ x = cc in
    in_right (under_one i B.Else c) (under i B.Then (choices_from bar 0 (trees_of z))) (under i B.Else (choices_from bar 0 (trees_of x)))
    (put_under i B.Else c (choices_from bar 0 (trees_of x)) (subst (λ v. Among c (choices_from bar 0 (trees_of v))) g h))
in_layer bar i B.Body (O.While t x) a c e h = let g : a ≡ x = cc in put_under i B.Body c (choices_from bar 0 (trees_of x))
    (subst (λ v. Among c (choices_from bar 0 (trees_of v))) g h)
in_layer bar i B.Body (O.Do x t) a c e h = let g : a ≡ x = cc in put_under i B.Body c (choices_from bar 0 (trees_of x))
    (subst (λ v. Among c (choices_from bar 0 (trees_of v))) g h)
in_layer bar i B.Body (O.For f t u x) a c e h = let g : a ≡ x = cc in put_under i B.Body c (choices_from bar 0 (trees_of x))
    (subst (λ v. Among c (choices_from bar 0 (trees_of v))) g h)
in_layer bar i B.Body (O.Block x) a c e h = let g : a ≡ x = cc in put_under i B.Body c (choices_from bar 0 (trees_of x))
    (subst (λ v. Among c (choices_from bar 0 (trees_of v))) g h)
in_layer bar i (B.Section k) (O.Switch s cs) a c e h =
    let p = map_some list_of (slice_get cs k) a e in
    let m : 0 + k ≡ k = omega arith in
    subst (λ j. Among (under_one i (B.Section j) c) (choices_of_sections bar i 0 (sections_of cs))) m
    (in_section bar i 0 cs k p.0 c p.1 (subst (λ v. Among c (choices_from bar 0 (trees_of v))) (sym p.2) h))
in_layer bar i _ _ a c e h = cc

in_item : (bar : ℕ → Bool) (i : ℕ) (b : Branch) (x : Item) (a : List Item) (c : Choice) → child b x ≡ Some a →
    Among c (choices_from bar 0 (trees_of a)) → Among (under_one i b c) (choices_in bar i (tree_of x))
in_item bar i b x a c e h = subst (λ t. Among (under_one i b c) (choices_in bar i t)) (sym (tree-out x)) (in_layer bar i b (out-Item x) a c e h)

-- ---- the list at a path

-- a choice of a list, as one of the body in which the steps lead to the list
abbrev pub under_steps : List Step → Choice → Choice
under_steps [] c = c
under_steps (s ∷ ss) c = under_one s.item s.branch (under_steps ss c)

pub placed : (bar : ℕ → Bool) (ss : List Step) (xs a : List Item) (c : Choice) → list_at xs ss ≡ Some a → Among c (choices_from bar 0 (trees_of a)) →
    Among (under_steps ss c) (choices_from bar 0 (trees_of xs))
placed bar [] xs a c e h = let g : a ≡ xs = cc in subst (λ v. Among c (choices_from bar 0 (trees_of v))) g h
placed bar (s ∷ ss) xs a c e h =
    let t = stepped xs s ss a e in
    let r = placed bar ss t.inner a c t.rest h in
    let m : s.item ≡ 0 + s.item = omega arith in
    at_own bar 0 xs s.item t.item (under_steps (s ∷ ss) c) t.item_is
    (inr (subst (λ j. Among (under_steps (s ∷ ss) c) (choices_in bar j (tree_of t.item))) m
    (in_item bar s.item s.branch t.item t.inner (under_steps ss c) t.inner_is r)))

-- ---- by kind

true_in : (i : ℕ) (k : MoveKind) (b : Bool) (c : Choice) → cond b (Some (choice_at k None i)) None ≡ Some c → Among c (if_true i k b)
true_in i k true c e = let f : c ≡ choice_at k None i = cc in inl f
true_in i k false c e = cc

some_in : (i : ℕ) (k : MoveKind) (o : Option ℕ) (c : Choice) → else_label i k o None ≡ Some c → Among c (if_some i k o)
some_in i k None c e = cc
some_in i k (Some l) c e = let f : c ≡ choice_at k (Some l) i = cc in inl f

repeat_found : (i : ℕ) (o : Option Repeat) (c : Choice) → else_repeat i o None ≡ Some c → Among c (if_some i Z2 (repeat_label o))
repeat_found i None c e = cc
repeat_found i (Some r) c e = let f : c ≡ choice_at Z2 (Some r.label) i = cc in inl f

abbrev fifth : (ℕ → Bool) → ℕ → Tree → Forest → List Choice
fifth bar i x rest = if_some i Z5 (unread_guard bar x)

abbrev fourth : (ℕ → Bool) → ℕ → Tree → Forest → List Choice
fourth bar i x rest = if_true i Z4 (is_nested x) ++ fifth bar i x rest

abbrev third : (ℕ → Bool) → ℕ → Tree → Forest → List Choice
third bar i x rest = if_some i Z3 (neighbours x rest) ++ fourth bar i x rest

abbrev second : (ℕ → Bool) → ℕ → Tree → Forest → List Choice
second bar i x rest = if_some i Z2 (repeat_label (repeat_of x)) ++ third bar i x rest

-- what is found by kind is one of those at the item
pub own_found : (k : MoveKind) (bar : ℕ → Bool) (i : ℕ) (x : Item) (xs : List Item) (c : Choice) → own_of k bar i x (slice_get xs (i + 1)) ≡ Some c →
    Among c (own bar i (tree_of x) (trees_of (drop (i + 1) xs)))
own_found Z1 bar i x xs c e =
    in_left c (if_true i Z1 (is_empty_if (tree_of x))) (second bar i (tree_of x) (trees_of (drop (i + 1) xs)))
    (subst (λ b. Among c (if_true i Z1 b)) (sym (empty-item x)) (true_in i Z1 (empty_if x) c e))
own_found Z2 bar i x xs c e =
    let rest = trees_of (drop (i + 1) xs) in
    in_right c (if_true i Z1 (is_empty_if (tree_of x))) (second bar i (tree_of x) rest)
    (in_left c (if_some i Z2 (repeat_label (repeat_of (tree_of x)))) (third bar i (tree_of x) rest)
    (subst (λ o. Among c (if_some i Z2 (repeat_label o))) (sym (repeat-item x)) (repeat_found i (repeat_in x) c e)))
own_found Z3 bar i x xs c e =
    let rest = trees_of (drop (i + 1) xs) in
    in_right c (if_true i Z1 (is_empty_if (tree_of x))) (second bar i (tree_of x) rest)
    (in_right c (if_some i Z2 (repeat_label (repeat_of (tree_of x)))) (third bar i (tree_of x) rest)
    (in_left c (if_some i Z3 (neighbours (tree_of x) rest)) (fourth bar i (tree_of x) rest)
    (subst (λ o. Among c (if_some i Z3 o)) (sym (neighbours-item x xs i))
    (some_in i Z3 (beside (guard x) (next_guard (slice_get xs (i + 1))) (λ l. arms_item l x)) c e))))
own_found Z4 bar i x xs c e =
    let rest = trees_of (drop (i + 1) xs) in
    in_right c (if_true i Z1 (is_empty_if (tree_of x))) (second bar i (tree_of x) rest)
    (in_right c (if_some i Z2 (repeat_label (repeat_of (tree_of x)))) (third bar i (tree_of x) rest)
    (in_right c (if_some i Z3 (neighbours (tree_of x) rest)) (fourth bar i (tree_of x) rest)
    (in_left c (if_true i Z4 (is_nested (tree_of x))) (fifth bar i (tree_of x) rest)
    (subst (λ b. Among c (if_true i Z4 b)) (sym (nested-item x)) (true_in i Z4 (nested x) c e)))))
own_found Z5 bar i x xs c e =
    let rest = trees_of (drop (i + 1) xs) in
    in_right c (if_true i Z1 (is_empty_if (tree_of x))) (second bar i (tree_of x) rest)
    (in_right c (if_some i Z2 (repeat_label (repeat_of (tree_of x)))) (third bar i (tree_of x) rest)
    (in_right c (if_some i Z3 (neighbours (tree_of x) rest)) (fourth bar i (tree_of x) rest)
    (in_right c (if_true i Z4 (is_nested (tree_of x))) (fifth bar i (tree_of x) rest)
    (subst (λ o. Among c (if_some i Z5 o)) (sym (unread-item bar x)) (some_in i Z5 (unread bar x) c e)))))
own_found _ bar i x xs c e = cc

-- its kind and its place
at_kind : (k : MoveKind) (i : ℕ) (o : Option ℕ) (c : Choice) → Some (choice_at k o i) ≡ Some c → (c.kind ≡ k) × (c.path ≡ record { steps = []; item = i })
at_kind k i o c e = let f : c ≡ choice_at k o i = cc in (ap (λ (z : Choice). z.kind) f, ap (λ (z : Choice). z.path) f)

true_at : (k : MoveKind) (i : ℕ) (b : Bool) (c : Choice) → cond b (Some (choice_at k None i)) None ≡ Some c →
    (c.kind ≡ k) × (c.path ≡ record { steps = []; item = i })
true_at k i true c e = at_kind k i None c e
true_at k i false c e = cc

some_at : (k : MoveKind) (i : ℕ) (o : Option ℕ) (c : Choice) → else_label i k o None ≡ Some c → (c.kind ≡ k) × (c.path ≡ record { steps = []; item = i })
some_at k i None c e = cc
some_at k i (Some l) c e = at_kind k i (Some l) c e

repeat_at : (i : ℕ) (o : Option Repeat) (c : Choice) → else_repeat i o None ≡ Some c → (c.kind ≡ Z2) × (c.path ≡ record { steps = []; item = i })
repeat_at i None c e = cc
repeat_at i (Some r) c e = at_kind Z2 i (Some r.label) c e

pub own_place : (k : MoveKind) (bar : ℕ → Bool) (i : ℕ) (x : Item) (next : Option Item) (c : Choice) → own_of k bar i x next ≡ Some c →
    (c.kind ≡ k) × (c.path ≡ record { steps = []; item = i })
own_place Z1 bar i x next c e = true_at Z1 i (empty_if x) c e
own_place Z2 bar i x next c e = repeat_at i (repeat_in x) c e
own_place Z3 bar i x next c e = some_at Z3 i (beside (guard x) (next_guard next) (λ l. arms_item l x)) c e
own_place Z4 bar i x next c e = true_at Z4 i (nested x) c e
own_place Z5 bar i x next c e = some_at Z5 i (unread bar x) c e
own_place _ bar i x next c e = cc

-- where none is found, none of the kind is there
not_true : (i : ℕ) (k : MoveKind) (b : Bool) → cond b (Some (choice_at k None i)) None ≡ None → b ≡ true → ⊥
not_true i k true e f = cc
not_true i k false e f = cc

no_label : (i : ℕ) (k : MoveKind) (o : Option ℕ) → else_label i k o None ≡ None → o ≡ None
no_label i k None e = refl
no_label i k (Some l) e = cc

no_repeat : (i : ℕ) (o : Option Repeat) → else_repeat i o None ≡ None → repeat_label o ≡ None
no_repeat i None e = refl
no_repeat i (Some r) e = cc

pub none_some : (o : Option ℕ) → o ≡ None → IsSome o → ⊥
none_some None e h = cc
none_some (Some l) e h = cc

other_kind : (k : MoveKind) (bar : ℕ → Bool) (i : ℕ) (x : Item) (next : Option Item) (c : Choice) (j : MoveKind) → own_of k bar i x next ≡ None →
    c.kind ≡ k → c.kind ≡ j → own_of j bar i x next ≡ None
other_kind k bar i x next c j e f g = subst (λ z. own_of z bar i x next ≡ None) (sym f ∙ g) e

pub own_missing : (k : MoveKind) (bar : ℕ → Bool) (i : ℕ) (x : Item) (xs : List Item) (c : Choice) → own_of k bar i x (slice_get xs (i + 1)) ≡ None →
    OwnAt bar i (tree_of x) (trees_of (drop (i + 1) xs)) c → c.kind ≡ k → ⊥
own_missing k bar i x xs c e h f =
    let next = slice_get xs (i + 1) in
    elim h [
      | inl a ↦ not_true i Z1 (empty_if x) (other_kind k bar i x next c Z1 e f a.0) (sym (empty-item x) ∙ a.2)
      | inr h ↦ elim h [
        | inl a ↦ none_some c.label (a.1 ∙ ap repeat_label (repeat-item x) ∙ no_repeat i (repeat_in x) (other_kind k bar i x next c Z2 e f a.0)) a.2
        | inr h ↦ elim h [
          | inl a ↦ none_some c.label (a.1 ∙ neighbours-item x xs i ∙ no_label i Z3 (beside (guard x) (next_guard next) (λ l. arms_item l x))
              (other_kind k bar i x next c Z3 e f a.0)) a.2
          | inr h ↦ elim h [
            | inl a ↦ not_true i Z4 (nested x) (other_kind k bar i x next c Z4 e f a.0) (sym (nested-item x) ∙ a.2)
            | inr a ↦ none_some c.label (a.1 ∙ unread-item bar x ∙ no_label i Z5 (unread bar x) (other_kind k bar i x next c Z5 e f a.0)) a.2
          ]
        ]
      ]
    ]

-- ---- what is found by kind, at a path

-- the choice with these steps before its place
abbrev pub at_steps : List Step → ℕ → Choice → Choice
at_steps ss i c = record { kind = c.kind; label = c.label; path = record { steps = ss; item = i } }

under_steps-is : (ss : List Step) (i : ℕ) (c : Choice) → c.path ≡ record { steps = []; item = i } → under_steps ss c ≡ at_steps ss i c
under_steps-is [] i c e = ap (λ (p : Path). record { kind = c.kind; label = c.label; path = p }) e
under_steps-is (s ∷ ss) i c e = ap (under_one s.item s.branch) (under_steps-is ss i c e)

module _ (bar : ℕ → Bool) (body : List Item) (bars : (l : ℕ) → bar l ≡ barred l (trees_of body)) where
  same : choices_from bar 0 (trees_of body) ≡ choices (trees_of body)
  same = same_choices bar (λ l. barred l (trees_of body)) (trees_of body) bars

  pub found_at : (k : MoveKind) (ss : List Step) (i : ℕ) (list : List Item) (x : Item) (c : Choice) → list_at body ss ≡ Some list →
      slice_get list i ≡ Some x → own_of k bar i x (slice_get list (i + 1)) ≡ Some c
      → Among (at_steps ss i c) (choices (trees_of body))
  found_at k ss i list x c e f g =
      let more : i + 1 ≡ suc i = omega arith in
      let zero_first : i ≡ 0 + i = omega arith in
      let own_one = own_found k bar i x list c g in
      let moved = subst (λ n. Among c (own bar i (tree_of x) (trees_of (drop n list)))) more own_one in
      let here : Among c (choices_from bar 0 (trees_of list)) = at_own bar 0 list i x c f
      (inl (subst (λ n. Among c (own bar n (tree_of x) (trees_of (drop (suc i) list)))) zero_first moved)) in
      let all = placed bar ss body list c e here in
      subst (λ cs. Among (at_steps ss i c) cs) same (subst (λ d. Among d (choices_from bar 0 (trees_of body)))
      (under_steps-is ss i c (own_place k bar i x (slice_get list (i + 1)) c g).1) all)

  some_list : (a b : List Item) (o : Option (List Item)) → o ≡ Some a → o ≡ Some b → a ≡ b
  some_list a b o e f = let g : Some a ≡ Some b = sym e ∙ f in cc

  some_item : (a b : Item) (o : Option Item) → o ≡ Some a → o ≡ Some b → a ≡ b
  some_item a b o e f = let g : Some a ≡ Some b = sym e ∙ f in cc

  pub missing_at : (k : MoveKind) (ss : List Step) (i : ℕ) (list : List Item) (x : Item) → list_at body ss ≡ Some list → slice_get list i ≡ Some x →
      own_of k bar i x (slice_get list (i + 1)) ≡ None
      → (d : Choice) → Among d (choices (trees_of body)) → d.kind ≡ k → d.path ≡ record { steps = ss; item = i } → ⊥
  missing_at k ss i list x e f g d h kind path =
      let steps : d.path.steps ≡ ss = ap (λ (p : Path). p.steps) path in
      let place : d.path.item ≡ i = ap (λ (p : Path). p.item) path in
      let l = located bar ss body d steps (subst (Among d) (sym same) h) in
      let lists : l.list ≡ list = some_list l.list list (list_at body ss) (ap (list_at body) (sym steps) ∙ l.list_is) e in
      let items : l.item ≡ x = some_item l.item x (slice_get list i)
      (ap (slice_get list) (sym place) ∙ ap (λ z. slice_get z d.path.item) (sym lists) ∙ l.item_is) f in
      let more : suc i ≡ i + 1 = omega arith in
      let one_shape : OwnAt bar d.path.item (tree_of x) (trees_of (drop (suc d.path.item) l.list)) d =
      subst (λ z. OwnAt bar d.path.item (tree_of z) (trees_of (drop (suc d.path.item) l.list)) d) items l.shape in
      let two_shape : OwnAt bar d.path.item (tree_of x) (trees_of (drop (suc d.path.item) list)) d =
      subst (λ z. OwnAt bar d.path.item (tree_of x) (trees_of (drop (suc d.path.item) z)) d) lists one_shape in
      let three_shape : OwnAt bar i (tree_of x) (trees_of (drop (suc i) list)) d =
      subst (λ n. OwnAt bar n (tree_of x) (trees_of (drop (suc n) list)) d) place two_shape in
      own_missing k bar i x list d g (subst (λ n. OwnAt bar i (tree_of x) (trees_of (drop n list)) d) more three_shape) kind

  pub no_list_at : (ss : List Step) (i : ℕ) → list_at body ss ≡ None → (d : Choice) → Among d (choices (trees_of body)) →
      d.path ≡ record { steps = ss; item = i } → ⊥
  no_list_at ss i e d h path =
      let steps : d.path.steps ≡ ss = ap (λ (p : Path). p.steps) path in
      let l = located bar ss body d steps (subst (Among d) (sym same) h) in
      let g : Some l.list ≡ None = sym l.list_is ∙ ap (list_at body) steps ∙ e in
      cc

  pub no_item_at : (ss : List Step) (i : ℕ) (list : List Item) → list_at body ss ≡ Some list → slice_get list i ≡ None → (d : Choice) →
      Among d (choices (trees_of body)) → d.path ≡ record { steps = ss; item = i } → ⊥
  no_item_at ss i list e f d h path =
      let steps : d.path.steps ≡ ss = ap (λ (p : Path). p.steps) path in
      let place : d.path.item ≡ i = ap (λ (p : Path). p.item) path in
      let l = located bar ss body d steps (subst (Among d) (sym same) h) in
      let lists : l.list ≡ list = some_list l.list list (list_at body ss) (ap (list_at body) (sym steps) ∙ l.list_is) e in
      let g : Some l.item ≡ None = sym l.item_is ∙ ap (slice_get l.list) place ∙ ap (λ z. slice_get z i) lists ∙ f in
      cc

-- ---- at one place there is one of each kind

abbrev label_of : MoveKind → (ℕ → Bool) → Tree → Forest → Option ℕ
label_of Z2 bar x rest = repeat_label (repeat_of x)
label_of Z3 bar x rest = neighbours x rest
label_of Z5 bar x rest = unread_guard bar x
label_of _ bar x rest = None

own_label : (bar : ℕ → Bool) (i : ℕ) (x : Tree) (rest : Forest) (c : Choice) → OwnAt bar i x rest c → c.label ≡ label_of c.kind bar x rest
own_label bar i x rest c h = elim h [
  | inl a ↦ a.1 ∙ sym (ap (λ k. label_of k bar x rest) a.0)
  | inr h ↦ elim h [
    | inl a ↦ a.1 ∙ sym (ap (λ k. label_of k bar x rest) a.0)
    | inr h ↦ elim h [
      | inl a ↦ a.1 ∙ sym (ap (λ k. label_of k bar x rest) a.0)
      | inr h ↦ elim h [
        | inl a ↦ a.1 ∙ sym (ap (λ k. label_of k bar x rest) a.0)
        | inr a ↦ a.1 ∙ sym (ap (λ k. label_of k bar x rest) a.0)
      ]
    ]
  ]
]

pub one_label : (body : List Item) (c d : Choice) → Among c (choices (trees_of body)) → Among d (choices (trees_of body)) → c.kind ≡ d.kind →
    c.path ≡ d.path → c.label ≡ d.label
one_label body c d g h k p =
    let bar : ℕ → Bool = λ l. barred l (trees_of body) in
    let u = located bar c.path.steps body c refl g in
    let v = located bar d.path.steps body d refl h in
    let lists : u.list ≡ v.list = some_list bar body (λ l. refl) u.list v.list (list_at body c.path.steps) u.list_is
    (ap (λ (z : Path). list_at body z.steps) p ∙ v.list_is) in
    let items : u.item ≡ v.item = some_item bar body (λ l. refl) u.item v.item (slice_get u.list c.path.item) u.item_is
    (ap (λ z. slice_get z c.path.item) lists ∙ ap (λ (z : Path). slice_get v.list z.item) p ∙ v.item_is) in
    own_label bar c.path.item (tree_of u.item) (trees_of (drop (suc c.path.item) u.list)) c u.shape
    ∙ ap (λ z. label_of z bar (tree_of u.item) (trees_of (drop (suc c.path.item) u.list))) k
    ∙ ap (λ z. label_of d.kind bar (tree_of z) (trees_of (drop (suc c.path.item) u.list))) items
    ∙ ap (λ z. label_of d.kind bar (tree_of v.item) (trees_of (drop (suc c.path.item) z))) lists
    ∙ ap (λ (z : Path). label_of d.kind bar (tree_of v.item) (trees_of (drop (suc z.item) v.list))) p
    ∙ sym (own_label bar d.path.item (tree_of v.item) (trees_of (drop (suc d.path.item) v.list)) d v.shape)
