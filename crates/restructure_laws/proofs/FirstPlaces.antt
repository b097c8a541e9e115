-- Where the next simplification is of a guard that goes, it stands at the first Arm or Land of its label.
use Rattle.std.proofs.Common.{inl, inr, ◌⊎◌, ◌≡◌, ℕ, ◌+◌, ◌==◌, Bool, true, false, true≢false, cond, List, [], ◌∷◌, ◌++◌, map, Option, Some, None, option_map, refl, sym, ap, ap₂, ◌∙◌}
use Rattle.std.proofs.lemmas.Bool.{eq-eqb, eqb-true}
use Rattle.c_tree.specs.declared.tree.Branch.{Branch}
use Rattle.c_tree.specs.declared.tree.Branch.TheVariants as B
use Rattle.c_tree.specs.declared.tree.Function.{Function}
use Rattle.c_tree.specs.declared.tree.Item.{Item, Item-F, roll-Item, map-Item, fold-roll-Item}
use Rattle.c_tree.specs.declared.tree.Item.TheOpen as I
use Rattle.c_tree.specs.declared.tree.Item.TheVariants as V
use Rattle.c_tree.specs.declared.tree.Section.{Section as RealSection, fold-roll-Section}
use Rattle.c_tree.specs.declared.tree.Path.{Path}
use Rattle.c_tree.specs.Trees.{Tree, Forest, Nil, Then, Sections, NoSection, Section, tree_of, trees_of}
use Rattle.c_tree.specs.Trees as t
use Rattle.c_tree.proofs.MoveLemmas.{some_same}
use Rattle.label_offsets.specs.Leaps as P
use Rattle.label_offsets.specs.Leaps.{here_if, paths_step, section_step, paths_of, section_paths, sections_paths, places_from}
use Rattle.label_offsets.specs.declared.first.Sought.TheVariants.{Guard}
use Rattle.label_offsets.proofs.Firsts.{first_some, first_none}
use Rattle.report_moves.specs.declared.moves.MoveKind.TheVariants.{Z1, Z2, Z3, Z4, Z5}
use Rattle.guard_simplify.specs.declared.choice.Choice.{Choice}
use Rattle.guard_simplify.specs.Choice as C
use Rattle.guard_simplify.specs.Choice.{own, choices_from, choices_in, choices_of_sections, choices, barred, unread_guard, under_one, if_some}
use Rattle.guard_simplify.proofs.Members.{in_first, own_is, located}
use Rattle.move_bodies.specs.Lawful.{MayCome}
use Rattle.reread_parts_laws.proofs.Mirrors.{expression_in}
use Rattle.reread_parts_laws.proofs.ItemMirrors.{test_in, selector_in, tree_in, forest_in, sections_in, items_whole}
use Rattle.whole_laws.proofs.Simple.{none_under}

-- ---- the places on trees

abbrev mutual
  places : ℕ → ℕ → Forest → List Path
  places l n Nil = []
  places l n (Then x xs) = places_at l x n ++ places l (n + 1) xs

  places_at : ℕ → Tree → ℕ → List Path
  places_at l (t.Arm m e) i = here_if (l == m) i
  places_at l (t.Land m) i = here_if (l == m) i
  places_at l (t.If x a b) i = P.under i B.Then (places l 0 a) ++ P.under i B.Else (places l 0 b)
  places_at l (t.While x a) i = P.under i B.Body (places l 0 a)
  places_at l (t.Do a x) i = P.under i B.Body (places l 0 a)
  places_at l (t.For a u v d) i = P.under i B.Body (places l 0 d)
  places_at l (t.Block a) i = P.under i B.Body (places l 0 a)
  places_at l (t.Switch s c) i = places_in l i 0 c
  places_at l _ i = []

  places_in : ℕ → ℕ → ℕ → Sections → List Path
  places_in l i k NoSection = []
  places_in l i k (Section cases default a ends c) = P.under i (B.Section k) (places l 0 a) ++ places_in l i (k + 1) c

-- an item by its layer
rolled : (l : ℕ) (y : Item-F Item RealSection) (x : Item) → roll-Item y ≡ x → (i : ℕ) →
    paths_of (Guard l) x i ≡ paths_step (Guard l) (map-Item Item RealSection (ℕ → List Path) (List Path) (paths_of (Guard l)) (section_paths (Guard l)) y) i
rolled l y x e i = ap (λ (f : ℕ → List Path). f i) (ap (paths_of (Guard l)) (sym e) ∙
    fold-roll-Item (ℕ → List Path) (List Path) (paths_step (Guard l)) section_step y)

mutual
  item_places : (l : ℕ) (x : Tree) (i : ℕ) → paths_of (Guard l) (tree_in x) i ≡ places_at l x i
  item_places l (t.Evaluate e) i = rolled l (I.Evaluate (expression_in e)) (tree_in (t.Evaluate e)) (V.rolls-Evaluate (expression_in e)) i
  item_places l (t.Return e) i = rolled l (I.Return (option_map expression_in e)) (tree_in (t.Return e)) (V.rolls-Return (option_map expression_in e)) i
  item_places l (t.Local k given) i = rolled l (I.Local k (option_map (map expression_in) given)) (tree_in (t.Local k given))
      (V.rolls-Local k (option_map (map expression_in) given)) i
  item_places l (t.Goto m) i = rolled l (I.Goto m) (tree_in (t.Goto m)) (V.rolls-Goto m) i
  item_places l (t.Mark m) i = rolled l (I.Mark m) (tree_in (t.Mark m)) (V.rolls-Mark m) i
  item_places l (t.Arm m e) i = rolled l (I.Arm m (option_map expression_in e)) (tree_in (t.Arm m e)) (V.rolls-Arm m (option_map expression_in e)) i
  item_places l (t.Leap m) i = rolled l (I.Leap m) (tree_in (t.Leap m)) (V.rolls-Leap m) i
  item_places l (t.Land m) i = rolled l (I.Land m) (tree_in (t.Land m)) (V.rolls-Land m) i
  item_places l (t.Arrival e) i = rolled l (I.Arrival (option_map expression_in e)) (tree_in (t.Arrival e)) (V.rolls-Arrival (option_map expression_in e)) i
  item_places l (t.Note bytes) i = rolled l (I.Note bytes) (tree_in (t.Note bytes)) (V.rolls-Note bytes) i
  item_places l t.Break i = rolled l I.Break (tree_in t.Break) V.rolls-Break i
  item_places l t.Continue i = rolled l I.Continue (tree_in t.Continue) V.rolls-Continue i
  item_places l (t.If x a b) i =
      rolled l (I.If (test_in x) (forest_in a) (forest_in b)) (tree_in (t.If x a b)) (V.rolls-If (test_in x) (forest_in a) (forest_in b)) i
      ∙ ap₂ (λ ps qs. P.under i B.Then ps ++ P.under i B.Else qs) (list_places l a 0) (list_places l b 0)
  item_places l (t.While x a) i = rolled l (I.While (test_in x) (forest_in a)) (tree_in (t.While x a)) (V.rolls-While (test_in x) (forest_in a)) i ∙
      ap (P.under i B.Body) (list_places l a 0)
  item_places l (t.Do a x) i = rolled l (I.Do (forest_in a) (test_in x)) (tree_in (t.Do a x)) (V.rolls-Do (forest_in a) (test_in x)) i ∙
      ap (P.under i B.Body) (list_places l a 0)
  item_places l (t.For a u v d) i =
      rolled l (I.For (forest_in a) (option_map expression_in u) (option_map expression_in v) (forest_in d)) (tree_in (t.For a u v d))
      (V.rolls-For (forest_in a) (option_map expression_in u) (option_map expression_in v) (forest_in d)) i
      ∙ ap (P.under i B.Body) (list_places l d 0)
  item_places l (t.Block a) i = rolled l (I.Block (forest_in a)) (tree_in (t.Block a)) (V.rolls-Block (forest_in a)) i ∙
      ap (P.under i B.Body) (list_places l a 0)
  item_places l (t.Switch s c) i = rolled l (I.Switch (selector_in s) (sections_in c)) (tree_in (t.Switch s c))
      (V.rolls-Switch (selector_in s) (sections_in c)) i ∙ all_places l i c 0

  list_places : (l : ℕ) (a : Forest) (n : ℕ) → places_from l n (forest_in a) ≡ places l n a
  list_places l Nil n = refl
  list_places l (Then x a) n = ap₂ (λ ps qs. ps ++ qs) (item_places l x n) (list_places l a (n + 1))

  all_places : (l i : ℕ) (c : Sections) (k : ℕ) → sections_paths (Guard l) i k (sections_in c) ≡ places_in l i k c
  all_places l i NoSection k = refl
  all_places l i (Section cases default a ends c) k =
      ap₂ (λ ps qs. P.under i (B.Section k) ps ++ qs)
      (fold-roll-Section (ℕ → List Path) (List Path) (paths_step (Guard l)) section_step
      (record { cases = map expression_in cases; default = default; list = forest_in a; ends = ends }) ∙ list_places l a 0)
      (all_places l i c (k + 1))

-- ---- lists of choices and of paths

first_or : (xs ys : List Choice) (c : Choice) → C.first (xs ++ ys) ≡ Some c → (C.first xs ≡ Some c) ⊎ ((xs ≡ []) × (C.first ys ≡ Some c))
first_or [] ys c h = inr (refl, h)
first_or (x ∷ xs) ys c h = inl h

no_more : (xs ys : List Choice) → xs ++ ys ≡ [] → (xs ≡ []) × (ys ≡ [])
no_more [] ys h = (refl, h)
no_more (x ∷ xs) ys h = cc

first_under : (i : ℕ) (b : Branch) (cs : List Choice) (c : Choice) → C.first (C.under i b cs) ≡ Some c →
    (d : Choice) × (C.first cs ≡ Some d) × (c ≡ under_one i b d)
first_under i b [] c h = cc
first_under i b (d ∷ cs) c h = (d, refl, sym (some_same h))

path_under : (i : ℕ) (b : Branch) (ps : List Path) (p : Path) → P.first ps ≡ Some p →
    P.first (P.under i b ps) ≡ Some (record { steps = record { item = i; branch = b } ∷ p.steps; item = p.item })
path_under i b [] p h = cc
path_under i b (q ∷ ps) p h = ap (λ o. option_map (λ (p : Path). record { steps = record { item = i; branch = b } ∷ p.steps; item = p.item }) o) h

both_none : (ps qs : List Path) → ps ≡ [] → qs ≡ [] → ps ++ qs ≡ []
both_none ps qs h k = ap₂ (λ (x : List Path) (y : List Path). x ++ y) h k

-- ---- a guard that may go

module _ (bar : ℕ → Bool) (l : ℕ) (free : bar l ≡ false) where
  same_yes : (m : ℕ) (b : Bool) → (l == m) ≡ b → bar m ≡ true → b ≡ false
  same_yes m true e h = absurd (true≢false (sym h ∙ (ap bar (sym (eqb-true l m e)) ∙ free)))
  same_yes m false e h = refl

  here_none : (m n : ℕ) (b : Bool) → bar m ≡ b → if_some n Z5 (cond b None (Some m)) ≡ [] → here_if (l == m) n ≡ []
  here_none m n true e h = ap (λ b. cond {A = List Path} b (record { steps = []; item = n } ∷ []) []) (same_yes m (l == m) refl e)
  here_none m n false e h = cc

  here_first : (m n : ℕ) (b : Bool) → cond {A = Option ℕ} b None (Some m) ≡ Some l → P.first (here_if (l == m) n) ≡ Some (record { steps = []; item = n })
  here_first m n true h = cc
  here_first m n false h = ap (λ b. P.first (cond {A = List Path} b (record { steps = []; item = n } ∷ []) [])) (eq-eqb l m (sym (some_same h)))

  mutual
    none : (n : ℕ) (a : Forest) → choices_from bar n a ≡ [] → places l n a ≡ []
    none n Nil h = refl
    none n (Then x a) h =
        let s = no_more (own bar n x a) (choices_in bar n x ++ choices_from bar (n + 1) a) h in
        let r = no_more (choices_in bar n x) (choices_from bar (n + 1) a) s.1 in
        both_none (places_at l x n) (places l (n + 1) a) (none_at n x a s.0 r.0) (none (n + 1) a r.1)

    none_at : (n : ℕ) (x : Tree) (rest : Forest) → own bar n x rest ≡ [] → choices_in bar n x ≡ [] → places_at l x n ≡ []
    none_at n (t.Arm m e) rest h k = here_none m n (bar m) refl h
    none_at n (t.Land m) rest h k = here_none m n (bar m) refl h
    none_at n (t.If x a b) rest h k =
        let s = no_more (C.under n B.Then (choices_from bar 0 a)) (C.under n B.Else (choices_from bar 0 b)) k in
        both_none (P.under n B.Then (places l 0 a)) (P.under n B.Else (places l 0 b))
        (ap (P.under n B.Then) (none 0 a (none_under n B.Then (choices_from bar 0 a) s.0)))
        (ap (P.under n B.Else) (none 0 b (none_under n B.Else (choices_from bar 0 b) s.1)))
    none_at n (t.While x a) rest h k = ap (P.under n B.Body) (none 0 a (none_under n B.Body (choices_from bar 0 a) k))
    none_at n (t.Do a x) rest h k = ap (P.under n B.Body) (none 0 a (none_under n B.Body (choices_from bar 0 a) k))
    none_at n (t.For a u v d) rest h k = ap (P.under n B.Body) (none 0 d (none_under n B.Body (choices_from bar 0 d) k))
    none_at n (t.Block a) rest h k = ap (P.under n B.Body) (none 0 a (none_under n B.Body (choices_from bar 0 a) k))
    none_at n (t.Switch s c) rest h k = none_in n 0 c k
    none_at n _ rest h k = refl

    none_in : (i k : ℕ) (c : Sections) → choices_of_sections bar i k c ≡ [] → places_in l i k c ≡ []
    none_in i k NoSection h = refl
    none_in i k (Section cases default a ends c) h =
        let s = no_more (C.under i (B.Section k) (choices_from bar 0 a)) (choices_of_sections bar i (k + 1) c) h in
        both_none (P.under i (B.Section k) (places l 0 a)) (places_in l i (k + 1) c)
        (ap (P.under i (B.Section k)) (none 0 a (none_under i (B.Section k) (choices_from bar 0 a) s.0))) (none_in i (k + 1) c s.1)

  unread_first : (n : ℕ) (x : Tree) → unread_guard bar x ≡ Some l → P.first (places_at l x n) ≡ Some (record { steps = []; item = n })
  unread_first n (t.Arm m e) h = here_first m n (bar m) h
  unread_first n (t.Land m) h = here_first m n (bar m) h
  unread_first n _ h = cc

  own_first : (n : ℕ) (x : Tree) (rest : Forest) (c : Choice) → C.first (own bar n x rest) ≡ Some c → c.kind ≡ Z5 → c.label ≡ Some l →
      P.first (places_at l x n) ≡ Some c.path
  own_first n x rest c h k e =
      let o = own_is bar n x rest c (in_first (own bar n x rest) c h) in
      elim o.shape [
        | inl a ↦ let f : Z1 ≡ Z5 = sym a.0 ∙ k in cc
        | inr s ↦ elim s [
          | inl a ↦ let f : Z2 ≡ Z5 = sym a.0 ∙ k in cc
          | inr s ↦ elim s [
            | inl a ↦ let f : Z3 ≡ Z5 = sym a.0 ∙ k in cc
            | inr s ↦ elim s [
              | inl a ↦ let f : Z4 ≡ Z5 = sym a.0 ∙ k in cc
              | inr a ↦ unread_first n x (sym a.1 ∙ e) ∙ ap Some (sym o.place)
            ]
          ]
        ]
      ]

  first_in : (i : ℕ) (b : Branch) (a : Forest) (c : Choice) →
      ((d : Choice) → C.first (choices_from bar 0 a) ≡ Some d → d.kind ≡ Z5 → d.label ≡ Some l → P.first (places l 0 a) ≡ Some d.path)
      → C.first (C.under i b (choices_from bar 0 a)) ≡ Some c → c.kind ≡ Z5 → c.label ≡ Some l → P.first (P.under i b (places l 0 a)) ≡ Some c.path
  first_in i b a c there h k e =
      let u = first_under i b (choices_from bar 0 a) c h in
      let kind = sym (ap (λ (c : Choice). c.kind) u.2) ∙ k in
      let label = sym (ap (λ (c : Choice). c.label) u.2) ∙ e in
      path_under i b (places l 0 a) u.0.path (there u.0 u.1 kind label) ∙ ap Some (sym (ap (λ (c : Choice). c.path) u.2))

  mutual
    first_is : (n : ℕ) (a : Forest) (c : Choice) → C.first (choices_from bar n a) ≡ Some c → c.kind ≡ Z5 → c.label ≡ Some l →
        P.first (places l n a) ≡ Some c.path
    first_is n Nil c h k e = cc
    first_is n (Then x a) c h k e = elim (first_or (own bar n x a) (choices_in bar n x ++ choices_from bar (n + 1) a) c h) [
      | inl u ↦ first_some (places_at l x n) (places l (n + 1) a) c.path (own_first n x a c u k e)
      | inr v ↦ elim (first_or (choices_in bar n x) (choices_from bar (n + 1) a) c v.1) [
        | inl u ↦ first_some (places_at l x n) (places l (n + 1) a) c.path (first_at n x c u k e)
        | inr w ↦ first_none (places_at l x n) (places l (n + 1) a) (ap P.first (none_at n x a v.0 w.0)) ∙ first_is (n + 1) a c w.1 k e
      ]
    ]

    first_at : (n : ℕ) (x : Tree) (c : Choice) → C.first (choices_in bar n x) ≡ Some c → c.kind ≡ Z5 → c.label ≡ Some l →
        P.first (places_at l x n) ≡ Some c.path
    first_at n (t.If x a b) c h k e = elim (first_or (C.under n B.Then (choices_from bar 0 a)) (C.under n B.Else (choices_from bar 0 b)) c h) [
      | inl u ↦ first_some (P.under n B.Then (places l 0 a)) (P.under n B.Else (places l 0 b)) c.path
          (first_in n B.Then a c (λ d h k e. first_is 0 a d h k e) u k e)
      | inr v ↦
          first_none (P.under n B.Then (places l 0 a)) (P.under n B.Else (places l 0 b))
          (ap (λ ps. P.first (P.under n B.Then ps)) (none 0 a (none_under n B.Then (choices_from bar 0 a) v.0))) ∙
          first_in n B.Else b c (λ d h k e. first_is 0 b d h k e) v.1 k e
    ]
    first_at n (t.While x a) c h k e = first_in n B.Body a c (λ d h k e. first_is 0 a d h k e) h k e
    first_at n (t.Do a x) c h k e = first_in n B.Body a c (λ d h k e. first_is 0 a d h k e) h k e
    first_at n (t.For a u v d) c h k e = first_in n B.Body d c (λ x h k e. first_is 0 d x h k e) h k e
    first_at n (t.Block a) c h k e = first_in n B.Body a c (λ d h k e. first_is 0 a d h k e) h k e
    first_at n (t.Switch s d) c h k e = first_among n 0 d c h k e
    first_at n _ c h k e = cc

    first_among : (i j : ℕ) (d : Sections) (c : Choice) → C.first (choices_of_sections bar i j d) ≡ Some c → c.kind ≡ Z5 → c.label ≡ Some l →
        P.first (places_in l i j d) ≡ Some c.path
    first_among i j NoSection c h k e = cc
    first_among i j (Section cases default a ends d) c h k e = elim
        (first_or (C.under i (B.Section j) (choices_from bar 0 a)) (choices_of_sections bar i (j + 1) d) c h) [
          | inl u ↦ first_some (P.under i (B.Section j) (places l 0 a)) (places_in l i (j + 1) d) c.path
              (first_in i (B.Section j) a c (λ d h k e. first_is 0 a d h k e) u k e)
          | inr v ↦
              first_none (P.under i (B.Section j) (places l 0 a)) (places_in l i (j + 1) d)
              (ap (λ ps. P.first (P.under i (B.Section j) ps)) (none 0 a (none_under i (B.Section j) (choices_from bar 0 a) v.0)))
              ∙ first_among i (j + 1) d c v.1 k e
        ]

-- ---- a body

guard_free : (bar : ℕ → Bool) (m l : ℕ) (b : Bool) → bar m ≡ b → cond {A = Option ℕ} b None (Some m) ≡ Some l → bar l ≡ false
guard_free bar m l true e h = cc
guard_free bar m l false e h = ap bar (sym (some_same h)) ∙ e

is_free : (bar : ℕ → Bool) (l : ℕ) (x : Tree) → unread_guard bar x ≡ Some l → bar l ≡ false
is_free bar l (t.Arm m e) h = guard_free bar m l (bar m) refl h
is_free bar l (t.Land m) h = guard_free bar m l (bar m) refl h
is_free bar l _ h = cc

next_free : (body : List Item) (c : Choice) (l : ℕ) → C.first (choices (trees_of body)) ≡ Some c → c.kind ≡ Z5 → c.label ≡ Some l →
    barred l (trees_of body) ≡ false
next_free body c l h k e =
    let bar : ℕ → Bool = λ l. barred l (trees_of body) in
    let a = located bar c.path.steps body c refl (in_first (choices (trees_of body)) c h) in
    elim a.shape [
      | inl a ↦ let f : Z1 ≡ Z5 = sym a.0 ∙ k in cc
      | inr s ↦ elim s [
        | inl a ↦ let f : Z2 ≡ Z5 = sym a.0 ∙ k in cc
        | inr s ↦ elim s [
          | inl a ↦ let f : Z3 ≡ Z5 = sym a.0 ∙ k in cc
          | inr s ↦ elim s [
            | inl a ↦ let f : Z4 ≡ Z5 = sym a.0 ∙ k in cc
            | inr u ↦ is_free bar l (tree_of a.item) (sym u.1 ∙ e)
          ]
        ]
      ]
    ]

pub may_come : (f : Function) (body : List Item) (c : Choice) → C.first (choices (trees_of body)) ≡ Some c → MayCome body c
may_come f body c h = λ k l e.
    let r = first_is (λ l. barred l (trees_of body)) l (next_free body c l h k e) 0 (trees_of body) c h k e in
    ap P.first (ap (places_from l 0) (sym (items_whole f body)) ∙ list_places l (trees_of body) 0) ∙ r
