-- In a well made body a chosen Leap has a next move.
use Rattle.std.proofs.Common.{◌≡◌, ◌⊎◌, inl, inr, ℕ, zero, suc, ◌+◌, ◌≤◌, ◌<◌, ℤ, pos, Bool, true, false, cond, List, [], ◌∷◌, ◌++◌, Option, Some, None, option_map, option_and_then, Equal, length, slice_get, refl, sym, ap, subst, ◌∙◌, arith}
use Rattle.std.specs.Prelude.{Contains, IsSome, IfSome, All}
use Rattle.std.specs.Option.{IsSomeAnd, option_cmp}
use Rattle.std.specs.Cmp.{IsEquivalence}
use Rattle.std.specs.Cmp.Lexicographic.{options_total}
use Rattle.std.specs.List.{list_any}
use Rattle.std.specs.Ordering.{eq_by_cmp, int_cmp}
use Rattle.std.proofs.lemmas.Bool.{cases_lt, true≢false}
use Rattle.std.proofs.lemmas.Cmp.{int_cmp_total, eq_by_cmp_equiv}
use Rattle.std.proofs.lemmas.Map.Lookups.{exact_signed}
use Rattle.std.proofs.lemmas.Map.Views.{Contains-from_any, list_any-from_Contains, tells_apart}
use Rattle.std.proofs.lemmas.List.Elements.{All-take, All-drop}
use Rattle.std.proofs.Math.Seq.{take-append_seam, drop-append_seam}
use Rattle.c_types.specs.Numbers.{promoted, converted}
use Rattle.c_types.specs.declared.kinds.IntKind.{IntKind}
use Rattle.c_tree.specs.ExpressionTrees.{ExpressionTree}
use Rattle.c_tree.specs.Constants.{constant_value, kind_of}
use Rattle.c_tree.specs.Cases.{IsFree, IsNumberFor, AreCases, SelectsBranch, selector_kind, selector_source, all_cases, cases_at, case_numbers}
use Rattle.c_tree.specs.Trees.{Sections, NoSection, Section}
use Rattle.c_tree.proofs.NumbersBelow.{count_below}
use Rattle.c_tree.specs.declared.tree.Item.{Item, Item-F, Leap, Land, out-Item}
use Rattle.c_tree.specs.declared.tree.Item.TheOpen as O
use Rattle.c_tree.specs.declared.tree.Section as Real
use Rattle.c_tree.specs.declared.tree.Branch.{Branch}
use Rattle.c_tree.specs.declared.tree.Branch.TheVariants as B
use Rattle.c_tree.specs.declared.tree.Step.{Step}
use Rattle.c_tree.specs.Paths.{list_of, child_F, list_at, item_at}
use Rattle.c_tree.specs.Join.{Holds, joined_at}
use Rattle.c_tree.specs.Lift.{lifted_at, path_lifted}
use Rattle.c_tree.specs.Outward.{HasBranch_F, HasBranch, moved_out_at, path_outside}
use Rattle.c_tree.specs.Inward.{moved_in_at, path_inside}
use Rattle.c_tree.specs.Labels.{land_of, lands, lands_of, lands_inside, jumps}
use Rattle.c_tree.specs.Everywhere.{total_in, Everywhere}
use Rattle.c_tree.specs.TestTrees.{selector_tree}
use Rattle.c_tree.specs.Trees.{Tree, tree_of, trees_of, sections_of}
use Rattle.c_tree.specs.WellMade.{IsConverted, IsPlainFor, HasSelectorKind, HasCases, IsWellMade}
use Rattle.c_tree.proofs.PathLemmas.{list_step}
use Rattle.c_tree.proofs.ChangeLemmas.{layer_tree, tree-out}
use Rattle.c_tree.proofs.KeptLemmas.{lands-jumps}
use Rattle.c_tree.proofs.TreeLaws.{tree-Leap, trees-none, trees-more, sections-none}
use Rattle.c_tree.proofs.MoveLemmas.{some_same}
use Rattle.c_tree.proofs.ExchangeLemmas.{list-append}
use Rattle.c_tree.proofs.RuleChanges.{Stands, stands}
use Rattle.label_offsets.specs.Marks.{is_land}
use Rattle.label_offsets.proofs.HeldLaws.{lands-parts, held-is, land-is, section_lands-first}
use Rattle.label_offsets.proofs.ItemFacts.{holds_at}
use Rattle.label_offsets.proofs.ChoiceLaws.{one_land, leap_jumps}
use Rattle.report_moves.specs.declared.moves.MoveKind.{MoveKind}
use Rattle.report_moves.specs.declared.moves.MoveKind.TheVariants.{Out, Lift, Inward}
use Rattle.move_order_laws.specs.Next.{Point, IsJoined, MovesBy}
use Rattle.move_order_laws.proofs.Parts.{there_is, ends}

-- a number that no case has

abbrev same : Option ℤ → Option ℤ → Bool
same m n = eq_by_cmp (option_cmp int_cmp) m n

same_laws : IsEquivalence (eq_by_cmp (option_cmp int_cmp))
same_laws = eq_by_cmp_equiv (options_total int_cmp_total)

exact : (m n : Option ℤ) → option_cmp int_cmp m n ≡ Equal → m ≡ n
exact None None e = refl
exact None (Some n) e = cc
exact (Some m) None e = cc
exact (Some m) (Some n) e = ap (λ k. Some k) (exact_signed m n e)

not_there : (n : Option ℤ) (xs : List (Option ℤ)) → list_any (same n) xs ≡ false → Contains xs n → ⊥
not_there n xs e h = absurd (true≢false (sym (list_any-from_Contains same_laws n xs h) ∙ e))

less_or_same : (j m : ℕ) → j < m + 1 → (j < m) ⊎ (j ≡ m)
less_or_same zero zero h = inr refl
less_or_same zero (suc m) h = inl (omega arith)
less_or_same (suc j) zero h = absurd (omega arith)
less_or_same (suc j) (suc m) h = elim (less_or_same j m (omega arith)) [ inl l ↦ inl (omega arith) | inr e ↦ inr (ap suc e) ]

-- search from m on, with as many tries as may fail
free_from : (k : IntKind) (c : Sections) (tries m : ℕ) → length (case_numbers k c) < tries + m →
    ((j : ℕ) → j < m → Contains (case_numbers k c) (Some (pos j))) → (n : ℤ) × IsFree k c n
free_from k c zero m h below = absurd (let r = count_below m (case_numbers k c) below in omega (arith, r))
free_from k c (suc tries) m h below = by_test (list_any (same (Some (pos m))) (case_numbers k c)) refl
    (λ more. free_from k c tries (m + 1) (omega arith) more) where
      by_test : (b : Bool) → list_any (same (Some (pos m))) (case_numbers k c) ≡ b →
          (((j : ℕ) → j < m + 1 → Contains (case_numbers k c) (Some (pos j))) → (n : ℤ) × IsFree k c n) → (n : ℤ) × IsFree k c n
      by_test true e go = go (λ j l. elim (less_or_same j m l) [
        | inl b ↦ below j b
        | inr f ↦ subst (λ z. Contains (case_numbers k c) (Some (pos z))) (sym f) (Contains-from_any (tells_apart exact) (Some (pos m)) (case_numbers k c) e)
      ])
      by_test false e go = (pos m, record { count = m; number = refl; free = not_there (Some (pos m)) (case_numbers k c) e; least = below })

some_free : (k : IntKind) (c : Sections) → (n : ℤ) × IsFree k c n
some_free k c = free_from k c (length (case_numbers k c) + 1) 0 (omega arith) (λ j h. absurd (omega arith))

-- the number for a section

all_of : (P : ExpressionTree → Type 0) (c : Sections) (k : ℕ) → All P (all_cases c) → All P (cases_at k c)
all_of P NoSection k h = h
all_of P (Section cases default a ends c) zero h = subst (All P) (take-append_seam cases (all_cases c)) (All-take P (length cases) (cases ++ all_cases c) h)
all_of P (Section cases default a ends c) (suc k) h = all_of P c k
    (subst (All P) (drop-append_seam cases (all_cases c)) (All-drop P (length cases) (cases ++ all_cases c) h))

first_of : (P : ExpressionTree → Type 0) (e : ExpressionTree) (es : List ExpressionTree) → All P (e ∷ es) → P e
first_of P e es h = h 0 e (omega arith)

map_is_some : {A B : Type 0} (f : A → B) (o : Option A) → IsSome o → (y : B) × (option_map f o ≡ Some y)
map_is_some f None h = absurd (true≢false (sym h))
map_is_some f (Some x) h = (f x, refl)

number_for : (k : IntKind) (c : Sections) (cases : List ExpressionTree) → All (λ e. IsSome (constant_value e)) cases → (n : ℤ) × IsNumberFor k c cases n
number_for k c [] h = some_free k c
number_for k c (e ∷ es) h = map_is_some (converted k) (constant_value e) (first_of (λ e. IsSome (constant_value e)) e es h)

section_number : (o : Option IntKind) (k : ℕ) (c : Sections) → IsSome o → IfSome o (λ j. AreCases j c) →
    (n : ℤ) × IsSomeAnd o (λ j. IsNumberFor j c (cases_at k c) n)
section_number None k c h f = absurd (true≢false (sym h))
section_number (Some j) k c h f = number_for j c (cases_at k c) (all_of (λ e. IsSome (constant_value e)) c k f.untrapped)

kind_some : (o : Option IntKind) → IsSome o → IsSome (option_map promoted o)
kind_some None h = h
kind_some (Some k) h = refl

-- the branch that leads to the Land

pub record Way (l : ℕ) (y : Item-F Item Real.Section) : Type 0 where
  pub branch : Branch
  pub number : ℤ
  pub list : List Item
  pub child_is : child_F branch y ≡ Some list
  pub has : HasBranch_F branch y
  pub held : 0 < lands l (trees_of list)
  pub selects : SelectsBranch branch number (layer_tree y)

one_of : (a b : ℕ) → 0 < a + b → (0 < a) ⊎ (0 < b)
one_of zero b h = inr (omega arith)
one_of (suc a) b h = inl (omega arith)

record SectionWith (l : ℕ) (cs : List Real.Section) : Type 0 where
  place : ℕ
  list : List Item
  list_is : option_map list_of (slice_get cs place) ≡ Some list
  held : 0 < lands l (trees_of list)

next_section : (l : ℕ) (c : Real.Section) (cs : List Real.Section) → SectionWith l cs → SectionWith l (c ∷ cs)
next_section l c cs w = record { place = suc w.place; list = w.list; list_is = w.list_is; held = w.held }

section_with : (l : ℕ) (cs : List Real.Section) → 0 < total_in (land_of l) (sections_of cs) → SectionWith l cs
section_with l [] h = absurd (let e = ap (total_in (land_of l)) sections-none in omega (arith, e, h))
section_with l (c ∷ cs) h =
    let e = section_lands-first l c cs in
    elim (one_of (lands l (trees_of (list_of c))) (total_in (land_of l) (sections_of cs)) (omega (arith, e, h))) [
      | inl p ↦ record { place = 0; list = list_of c; list_is = refl; held = p }
      | inr p ↦ next_section l c cs (section_with l cs p)
    ]

pub layer_way : (l : ℕ) (y : Item-F Item Real.Section) → 0 < lands_inside l (layer_tree y) → IsConverted (layer_tree y) → IsPlainFor (layer_tree y) →
    HasSelectorKind (layer_tree y) → HasCases (layer_tree y) → Way l y
unfolding trees_of sections_of
layer_way l (O.If t x z) h c f s k = elim (one_of (lands l (trees_of x)) (lands l (trees_of z)) (omega (arith, h))) [
  | inl p ↦ record { branch = B.Then; number = pos 0; list = x; child_is = refl; has = tt; held = p; selects = tt }
  | inr p ↦ record { branch = B.Else; number = pos 0; list = z; child_is = refl; has = tt; held = p; selects = tt }
]
layer_way l (O.While t x) h c f s k = record { branch = B.Body; number = pos 0; list = x; child_is = refl; has = tt; held = omega (arith, h); selects = tt }
layer_way l (O.Do x t) h c f s k = record { branch = B.Body; number = pos 0; list = x; child_is = refl; has = tt; held = omega (arith, h); selects = tt }
layer_way l (O.For g t u x) h c f s k =
    let a : lands l (trees_of g) ≡ 0 = ap (lands l) f.0 in
    let b = lands-jumps l (trees_of x) in
    let d = f.1 in
    absurd (omega (arith, h, a, b, d))
layer_way l (O.Switch e cs) h c f s k =
    let w = section_with l cs (omega (arith, h)) in
    let n = section_number (selector_kind (selector_tree e)) w.place (sections_of cs) (kind_some (kind_of (selector_source (selector_tree e))) s) k in
    record { branch = B.Section w.place; number = n.0; list = w.list; child_is = w.list_is; has = tt; held = w.held; selects = n.1 }
layer_way l (O.Block x) h c f s k = absurd c
layer_way l _ h c f s k = absurd (omega (arith, h))

pub none_or_some : (n : ℕ) → (n ≡ 0) ⊎ (0 < n)
none_or_some zero = inl refl
none_or_some (suc n) = inr (omega arith)

-- the construct round a Leap

pub branch_of : (b : Branch) (y : Item-F Item Real.Section) (a : List Item) → child_F b y ≡ Some a → 0 < jumps (trees_of a) →
    IsConverted (layer_tree y) → IsPlainFor (layer_tree y) → HasBranch_F b y
unfolding trees_of sections_of
branch_of B.Body (O.While t x) a e j c f = tt
branch_of B.Body (O.Do x t) a e j c f = tt
branch_of B.Body (O.For g t u x) a e j c f = let h : x ≡ a = cc in let z : jumps (trees_of x) ≡ jumps (trees_of a) = ap (λ z. jumps (trees_of z)) h in
    let w = f.1 in absurd (omega (arith, z, w, j))
branch_of B.Body (O.Block x) a e j c f = absurd c
branch_of B.Then (O.If t x z) a e j c f = tt
branch_of B.Else (O.If t x z) a e j c f = tt
branch_of (B.Section k) (O.Switch s cs) a e j c f = tt
branch_of _ _ a e j c f = cc

-- an element that is the Land or holds it

pub record ElementWith (l : ℕ) (xs : List Item) : Type 0 where
  pub place : ℕ
  pub item : Item
  pub item_is : slice_get xs place ≡ Some item
  pub some : 0 < lands_of l (tree_of item)

next_element : (l : ℕ) (x : Item) (xs : List Item) → ElementWith l xs → ElementWith l (x ∷ xs)
next_element l x xs w = record { place = suc w.place; item = w.item; item_is = w.item_is; some = w.some }

pub element_with : (l : ℕ) (xs : List Item) → 0 < lands l (trees_of xs) → ElementWith l xs
element_with l [] h = absurd (let e = ap (lands l) trees-none in omega (arith, e, h))
element_with l (x ∷ xs) h =
    let e = ap (lands l) (trees-more x xs) in
    elim (one_of (lands_of l (tree_of x)) (lands l (trees_of xs)) (omega (arith, e, h))) [
      | inl p ↦ record { place = 0; item = x; item_is = refl; some = p }
      | inr p ↦ next_element l x xs (element_with l xs p)
    ]

-- a step more

pub record Snoc (s : Step) (ss : List Step) : Type 0 where
  pub outer : List Step
  pub last : Step
  pub same : s ∷ ss ≡ outer ++ last ∷ []

pub snoc : (s : Step) (ss : List Step) → Snoc s ss
snoc s [] = record { outer = []; last = s; same = refl }
snoc s (t ∷ ss) = let r = snoc t ss in record { outer = s ∷ r.outer; last = r.last; same = ap (λ z. s ∷ z) r.same }

-- a next move, or the join
pub record SomeMove (l : ℕ) (p : Point) : Type 0 where
  pub kind : MoveKind
  pub next : Point
  pub move : MovesBy kind l p next

pub record SomeJoin (l : ℕ) (p : Point) : Type 0 where
  pub body : List Item
  pub join : IsJoined l p body

module _ (l : ℕ) (p : Point) (w : IsWellMade (trees_of p.body)) (leap : item_at p.body p.at.steps p.at.item ≡ Some (Leap l)) where
  here : Stands p.body p.at.steps p.at.item (Leap l)
  here = stands p.body p.at.steps p.at.item (Leap l) leap

  one : lands l (trees_of p.body) ≡ 1
  one = one_land p.body w l p.at leap

  item_is_at : (k : ℕ) (x : Item) → slice_get here.list k ≡ Some x → item_at p.body p.at.steps k ≡ Some x
  item_is_at k x e = ap (option_and_then (λ a. slice_get a k)) here.list_is ∙ e

  goes_out : (s : Step) (ss : List Step) → p.at.steps ≡ s ∷ ss → lands l (trees_of here.list) ≡ 0 → SomeMove l p
  goes_out s ss e none =
      let n = snoc s ss in
      let steps = e ∙ n.same in
      let all = ap (list_at p.body) (sym steps) ∙ here.list_is in
      let t = ends p.body n.outer n.last here.list all in
      let jump : 0 < jumps (trees_of here.list) = leap_jumps here.list p.at.item l here.item_is in
      let branch =
      branch_of n.last.branch (out-Item t.item) here.list t.child_is jump
      (subst IsConverted (tree-out t.item) (holds_at IsConverted p.body n.outer t.list n.last.item t.item t.list_is t.item_is w.converted))
      (subst IsPlainFor (tree-out t.item) (holds_at IsPlainFor p.body n.outer t.list n.last.item t.item t.list_is t.item_is w.loops)) in
      let there = ap (option_and_then (λ a. slice_get a n.last.item)) t.list_is ∙ t.item_is in
      record {
        kind = Out;
        next = record { body = moved_out_at l n.outer n.last p.at.item p.body; at = path_outside n.outer n.last };
        move = record {
          outer = n.outer;
          last = n.last;
          steps = steps;
          moves = record {
            applies = record {
              leap = ap (λ z. item_at p.body z p.at.item) (sym steps) ∙ leap;
              construct = subst (Holds (HasBranch n.last.branch)) (sym there) branch;
              elsewhere = ap (λ z. lands l (trees_of z)) (there_is p.body (n.outer ++ n.last ∷ []) here.list all) ∙ none;
            };
            body = refl;
            path = refl;
          };
        };
      }

  no_steps : p.at.steps ≡ [] → lands l (trees_of here.list) ≡ 0 → ⊥
  no_steps e none =
      let f : Some p.body ≡ Some here.list = ap (list_at p.body) (sym e) ∙ here.list_is in
      let g = ap (λ z. lands l (trees_of z)) (some_same f) in
      omega (arith, g, none, one)

  out : (ss : List Step) → p.at.steps ≡ ss → lands l (trees_of here.list) ≡ 0 → SomeMove l p
  out [] e none = absurd (no_steps e none)
  out (s ∷ ss) e none = goes_out s ss e none

  lift_before : (k : ℕ) (x : Item) → slice_get here.list k ≡ Some x → k < p.at.item → 0 < lands_inside l (tree_of x) → SomeMove l p
  lift_before k x e h i = record {
    kind = Lift;
    next = record { body = lifted_at l p.at.item k p.at.steps p.body; at = path_lifted k p.at.steps };
    move = record {
      place = k;
      moves = record {
        applies = record { leap = leap; earlier = h; held = subst (Holds (λ x. 0 < lands_inside l (tree_of x))) (sym (item_is_at k x e)) i };
        body = refl;
        path = refl;
      };
    };
  }

  go_in : (k : ℕ) (x : Item) → slice_get here.list k ≡ Some x → p.at.item < k → 0 < lands_inside l (tree_of x) → SomeMove l p
  go_in k x e h i =
      let each = λ (P : Tree → Type 0) (a : Everywhere P (trees_of p.body)). subst P (tree-out x)
      (holds_at P p.body p.at.steps here.list k x here.list_is e a) in
      let y = layer_way l (out-Item x) (subst (λ z. 0 < lands_inside l z) (tree-out x) i) (each IsConverted w.converted) (each IsPlainFor w.loops)
      (each HasSelectorKind w.selectors) (each HasCases w.cases) in
      let there = item_is_at k x e in
      let step : Step = record { item = k; branch = y.branch } in
      let list = list-append p.body p.at.steps (step ∷ []) here.list here.list_is ∙ list_step here.list step [] x y.list e y.child_is in
      record {
        kind = Inward;
        next = record { body = moved_in_at l y.number p.at.item k y.branch p.at.steps p.body; at = path_inside l p.at.item k y.branch p.at.steps p.body };
        move = record {
          number = y.number;
          place = k;
          branch = y.branch;
          moves = record {
            applies = record {
              leap = leap;
              later = h;
              construct = subst (Holds (HasBranch y.branch)) (sym there) y.has;
              held = subst (Holds (λ a. 0 < lands l (trees_of a))) (sym list) y.held;
              number = subst (Holds (λ x. SelectsBranch y.branch y.number (tree_of x))) (sym there)
                  (subst (SelectsBranch y.branch y.number) (sym (tree-out x)) y.selects);
            };
            body = refl;
            path = refl;
          };
        };
      }

  join_with : (k : ℕ) → slice_get here.list k ≡ Some (Land l) → SomeJoin l p
  join_with k e = record {
    body = joined_at l p.at.item k p.at.steps p.body;
    join = record { place = k; moves = record { applies = record { leap = leap; land = item_is_at k (Land l) e }; body = refl } };
  }

  is_the_land : (x : Item) → 0 < lands_of l (tree_of x) → lands_inside l (tree_of x) ≡ 0 → x ≡ Land l
  is_the_land x s z = land-is l x (by_test (is_land l x) refl) where
    by_test : (b : Bool) → is_land l x ≡ b → is_land l x ≡ true
    by_test true e = e
    by_test false e =
        let a = lands-parts l x in
        let b = held-is l x in
        let c : cond {A = ℕ} (is_land l x) 1 0 ≡ 0 = ap (λ z. cond {A = ℕ} z 1 0) e in
        absurd (omega (arith, a, b, c, s, z))

  not_itself : (k : ℕ) (x : Item) → slice_get here.list k ≡ Some x → 0 < lands_of l (tree_of x) → k ≡ p.at.item → ⊥
  not_itself k x e s n =
      let f : Some x ≡ Some (Leap l) = sym e ∙ ap (slice_get here.list) n ∙ here.item_is in
      let g = ap (λ z. lands_of l (tree_of z)) (some_same f) ∙ ap (lands_of l) (tree-Leap l) in
      omega (arith, g, s)

  beside : (k : ℕ) (x : Item) → slice_get here.list k ≡ Some x → 0 < lands_of l (tree_of x) → 0 < lands_inside l (tree_of x) → SomeMove l p
  beside k x e s i = elim (cases_lt k p.at.item) [
    | inl h ↦ lift_before k x e h i
    | inr h ↦ go_in k x e (apart h (λ n. not_itself k x e s (sym n))) i
  ] where
    apart : p.at.item ≤ k → (p.at.item ≡ k → ⊥) → p.at.item < k
    apart u n = omega arith

  by_element : ElementWith l here.list → SomeMove l p ⊎ SomeJoin l p
  by_element v = elim (none_or_some (lands_inside l (tree_of v.item))) [
    | inl z ↦ inr (join_with v.place (subst (λ x. slice_get here.list v.place ≡ Some x) (is_the_land v.item v.some z) v.item_is))
    | inr i ↦ inl (beside v.place v.item v.item_is v.some i)
  ]

  -- one of the rules applies
  pub some_move : SomeMove l p ⊎ SomeJoin l p
  some_move = elim (none_or_some (lands l (trees_of here.list))) [
    | inl z ↦ inl (out p.at.steps refl z)
    | inr s ↦ by_element (element_with l here.list s)
  ]
