-- The labels of the flat form of a body, numbered in the order in which they stand in it, stand at most once.
use Rattle.std.proofs.Common.{ℕ, zero, suc, ◌+◌, ◌-◌, ◌*◌, ◌≤◌, ◌<◌, inl, inr, ℤ, Bool, true, false, cond, eqb, List, [], ◌∷◌, length, map, Option, Some, None, ◌≡◌, refl, sym, ◌∙◌, ap, subst, arith, eqb-true, eq-eqb}
use Rattle.c_types.specs.declared.kinds.IntKind.{IntKind}
use Rattle.c_tree.specs.declared.tree.Slot.{Slot}
use Rattle.c_tree.specs.ExpressionTrees.{ExpressionTree}
use Rattle.c_tree.specs.Cases.{case_number}
use Rattle.c_tree.specs.Everywhere.{total, Everywhere}
use Rattle.c_tree.specs.Trees.{Tree, Forest, Sections, If, While, Do, For, Switch, Mark, Land}
use Rattle.jump_meaning.specs.Step.{switch_kind}
use Rattle.flat_laws.specs.Pieces.{Stays}
use Rattle.flat_laws.specs.Placed.{places, IsOnce}
use Rattle.flat_laws.specs.Loose.{NoArrival}
use Rattle.flat_laws.specs.Parts.{is_scattered, switch_labels, cases_among, constructs_of, cases_of, Here, past}
use Rattle.flat_laws.specs.FlatForm.{Plan, place_of, names_of, flat, marks, place_in, coded, numbered, first_here, flat_body}
use Rattle.flat_laws.specs.Source.{mark_bit, nones, AreOther, AreDifferent, IfTrue, HasOwnCases, HasOwnLabels}
use Rattle.flat_laws.proofs.Counts.{one_if, labelled, sourced, makes, within, gathered, bounded}
use Rattle.flat_laws.proofs.Ranges.{Range, order, range_none, range_less, range_one, range_join, range_as, IsConstruct, gathered_range, total_less}

pub bit_le : (X Y : ℕ) (b : Bool) → (X ≡ Y → b ≡ true) → one_if (eqb X Y) ≤ one_if b
bit_le X Y b f = at (eqb X Y) refl
  where
    at : (y : Bool) → eqb X Y ≡ y → one_if y ≤ one_if b
    at true e = let h = ap one_if (f (eqb-true X Y e)) in omega (arith, h)
    at false e = omega arith

pub bit_zero : (X Y : ℕ) → (X ≡ Y → ⊥) → one_if (eqb X Y) ≡ 0
bit_zero X Y f = at (eqb X Y) refl
  where
    at : (y : Bool) → eqb X Y ≡ y → one_if y ≡ 0
    at true e = absurd (f (eqb-true X Y e))
    at false e = refl

-- ---- where a label comes from

data Origin (n X : ℕ) : Type 0 where
  og_source : X < n → Origin n X
  og_break : (K : ℕ) → X ≡ n + 4 * K → Origin n X
  og_continue : (K : ℕ) → X ≡ n + (4 * K + 1) → Origin n X
  og_default : (K : ℕ) → X ≡ n + (4 * K + 2) → Origin n X
  og_case : (K : ℕ) → X ≡ n + (4 * K + 3) → Origin n X

behind : (n m : ℕ) → Origin n (n + m)
behind n zero = og_break 0 (omega arith)
behind n (suc m) = next (behind n m)
  where
    next : Origin n (n + m) → Origin n (n + suc m)
    next (og_source h) = absurd (omega (arith, h))
    next (og_break K e) = og_continue K (omega (arith, e))
    next (og_continue K e) = og_default K (omega (arith, e))
    next (og_default K e) = og_case K (omega (arith, e))
    next (og_case K e) = og_break (suc K) (omega (arith, e))

origin : (n X : ℕ) → Origin n X
origin n X = elim (order X n) as (λ _. Origin n X) [
  | inl h ↦ og_source h
  | inr h ↦ (let e : n + (X - n) ≡ X = omega (arith, h) in subst (Origin n) e (behind n (X - n)))
]

-- the labels of a plan hit L only where their codes hit X
pub record Hits (L X n : ℕ) (q : Plan) : Type 0 where
  pub source : (l : ℕ) → one_if (eqb L (q.source l)) ≤ one_if (eqb X l)
  pub break_label : (k : ℕ) → one_if (eqb L (q.break_label k)) ≤ one_if (eqb X (n + 4 * k))
  pub continue_label : (k : ℕ) → one_if (eqb L (q.continue_label k)) ≤ one_if (eqb X (n + (4 * k + 1)))
  pub default_label : (k : ℕ) → one_if (eqb L (q.default_label k)) ≤ one_if (eqb X (n + (4 * k + 2)))
  pub case_label : (k : ℕ) → one_if (eqb L (q.case_label k)) ≤ one_if (eqb X (n + (4 * k + 3)))

-- ---- labels of one construct alone

record Shares (K L : ℕ) (q : Plan) : Type 0 where
  pub loop : (k : ℕ) → one_if (eqb L (q.break_label k)) + one_if (eqb L (q.continue_label k)) ≤ one_if (eqb K k)
  pub switch : (k : ℕ) → one_if (eqb L (q.default_label k)) + one_if (eqb L (q.break_label k)) ≤ one_if (eqb K k)
  pub case : (j : ℕ) → one_if (eqb L (q.case_label j)) ≡ 0

labelled_default : (L : ℕ) (q : Plan) (h : Here) (k : IntKind) (d : Sections) → ((j : ℕ) → one_if (eqb L (q.case_label j)) ≡ 0) →
    (es : List (Option ExpressionTree)) → nones es ≡ 0 → labelled L (names_of q h k d) es ≡ 0
labelled_default L q h k d f [] z = refl
labelled_default L q h k d f (Some x ∷ es) z =
    let i = f (h.case + place_of (case_number k x) (map (case_number k) (cases_among (switch_labels d)))) in
    let j = labelled_default L q h k d f es z in omega (arith, i, j)
labelled_default L q h k d f (None ∷ es) z = absurd (omega (arith, z))

pub labelled_once : (L : ℕ) (q : Plan) (h : Here) (k : IntKind) (d : Sections) → ((j : ℕ) → one_if (eqb L (q.case_label j)) ≡ 0) →
    (es : List (Option ExpressionTree)) → nones es ≤ 1 → labelled L (names_of q h k d) es ≤ one_if (eqb L (q.default_label h.construct))
labelled_once L q h k d f [] z = omega arith
labelled_once L q h k d f (Some x ∷ es) z =
    let i = f (h.case + place_of (case_number k x) (map (case_number k) (cases_among (switch_labels d)))) in
    let j = labelled_once L q h k d f es z in omega (arith, i, j)
labelled_once L q h k d f (None ∷ es) z = let j = labelled_default L q h k d f es (omega (arith, z)) in omega (arith, j)

switch_makes : (L : ℕ) (q : Plan) (y : Bool) (lab brk def : ℕ) → (y ≡ true → lab ≤ def) → cond y lab 0 + brk ≤ def + brk
switch_makes L q true lab brk def f = let h = f refl in omega (arith, h)
switch_makes L q false lab brk def f = omega arith

shared : (K L : ℕ) (q : Plan) → Shares K L q → (x : Tree) (h : Here) → IsConstruct x → HasOwnCases x → Range K h.construct (constructs_of x) (makes L q x h)
shared K L q s (If t a b) h i g = range_none K h.construct
shared K L q s (While t a) h i g = range_less K h.construct 1 (makes L q (While t a) h) (one_if (eqb K h.construct)) (s.loop h.construct)
    (range_one K h.construct)
shared K L q s (Do a t) h i g = range_less K h.construct 1 (makes L q (Do a t) h) (one_if (eqb K h.construct)) (s.loop h.construct) (range_one K h.construct)
shared K L q s (For f t u a) h i g = range_less K h.construct 1 (makes L q (For f t u a) h) (one_if (eqb K h.construct)) (s.loop h.construct)
    (range_one K h.construct)
shared K L q s (Switch t d) h i g =
    let m = switch_makes L q (is_scattered d) (labelled L (names_of q h (switch_kind t) d) (switch_labels d))
    (one_if (eqb L (q.break_label h.construct))) (one_if (eqb L (q.default_label h.construct)))
    (λ e. labelled_once L q h (switch_kind t) d s.case (switch_labels d)
    (subst (λ y. IfTrue y ((nones (switch_labels d) ≤ 1) × AreDifferent (map (case_number (switch_kind t)) (cases_among (switch_labels d))))) e g).0) in
    let n = s.switch h.construct in
    range_less K h.construct 1 (makes L q (Switch t d) h) (one_if (eqb K h.construct)) (omega (arith, m, n)) (range_one K h.construct)
shared K L q s _ h i g = absurd i

construct_within : (x : Tree) (h : Here) → IsConstruct x → (within x h).construct ≡ h.construct + constructs_of x
construct_within (If t a b) h i = omega arith
construct_within (While t a) h i = omega arith
construct_within (Do a t) h i = omega arith
construct_within (For f t u a) h i = omega arith
construct_within (Switch s d) h i = omega arith
construct_within _ h i = absurd i

no_construct : (x : Tree) → (IsConstruct x → ⊥) → constructs_of x ≡ 0
no_construct (If t a b) n = refl
no_construct (While t a) n = absurd (n tt)
no_construct (Do a t) n = absurd (n tt)
no_construct (For f t u a) n = absurd (n tt)
no_construct (Switch s d) n = absurd (n tt)
no_construct _ n = refl

no_cases : (x : Tree) → (IsConstruct x → ⊥) → cases_of x ≡ 0
no_cases (Switch s d) n = absurd (n tt)
no_cases _ n = refl

shared_range : (K L : ℕ) (q : Plan) → Shares K L q → (xs : Forest) (h : Here) → Everywhere HasOwnCases xs →
    Range K h.construct (total constructs_of xs) (gathered within past (makes L q) h xs)
shared_range K L q s xs h g = gathered_range within past K (makes L q) constructs_of (λ h. h.construct) HasOwnCases (shared K L q s) construct_within
    (λ xs h. refl) no_construct xs h g

-- ---- case labels

-- how often J is the number of the place of one of the numbers, a the first place
abbrev hits : ℕ → ℕ → List (Option ℤ) → List (Option ℤ) → ℕ
hits J a [] ms = 0
hits J a (n ∷ ns) ms = one_if (eqb J (a + place_of n ms)) + hits J a ns ms

hits_later : (J a : ℕ) (m : Option ℤ) (ms ns : List (Option ℤ)) → AreOther m ns → hits J a ns (m ∷ ms) ≡ hits J (suc a) ns ms
hits_later J a m ms [] h = refl
hits_later J a m ms (n ∷ ns) h =
    let e : a + suc (place_of n ms) ≡ suc a + place_of n ms = omega arith in
    let i = ap (λ b. one_if (eqb J (a + cond b 0 (suc (place_of n ms))))) h.0 ∙ ap (λ z. one_if (eqb J z)) e in
    let j = hits_later J a m ms ns h.1 in omega (arith, i, j)

different_range : (J a : ℕ) (ms : List (Option ℤ)) → AreDifferent ms → Range J a (length ms) (hits J a ms ms)
different_range J a [] h = range_none J a
different_range J a (m ∷ ms) h =
    let e : a + 0 ≡ a = omega arith in
    let i = ap (λ b. one_if (eqb J (a + cond b 0 (suc (place_of m ms))))) h.0 ∙ ap (λ z. one_if (eqb J z)) e in
    let j = hits_later J a m ms ms h.1 in
    range_join J a (suc a) 1 (length ms) (length (m ∷ ms)) (one_if (eqb J a)) (hits J (suc a) ms ms) (hits J a (m ∷ ms) (m ∷ ms)) (range_one J a)
    (different_range J (suc a) ms h.2) (omega arith) (omega arith) (omega (arith, i, j))

length_numbers : (k : IntKind) (es : List ExpressionTree) → length (map (case_number k) es) ≡ length es
length_numbers k [] = refl
length_numbers k (e ∷ es) = ap suc (length_numbers k es)

-- of the labels of a switch only those of cases hit L, and these only where the number of the case is J
module _ (J L : ℕ) (q : Plan) (default : (k : ℕ) → one_if (eqb L (q.default_label k)) ≡ 0)
    (case : (j : ℕ) → one_if (eqb L (q.case_label j)) ≤ one_if (eqb J j)) (h : Here) (k : IntKind) (d : Sections) where
  labelled_hits : (es : List (Option ExpressionTree)) → labelled L (names_of q h k d) es ≤ hits J h.case (map (case_number k) (cases_among es))
      (map (case_number k) (cases_among (switch_labels d)))
  labelled_hits [] = omega arith
  labelled_hits (Some e ∷ es) =
      let i = case (h.case + place_of (case_number k e) (map (case_number k) (cases_among (switch_labels d)))) in
      let j = labelled_hits es in omega (arith, i, j)
  labelled_hits (None ∷ es) = let i = default h.construct in let j = labelled_hits es in omega (arith, i, j)

  pub labelled_range : AreDifferent (map (case_number k) (cases_among (switch_labels d))) →
      Range J h.case (length (cases_among (switch_labels d))) (labelled L (names_of q h k d) (switch_labels d))
  labelled_range g =
      let ms = map (case_number k) (cases_among (switch_labels d)) in
      range_less J h.case (length (cases_among (switch_labels d))) (labelled L (names_of q h k d) (switch_labels d)) (hits J h.case ms ms)
      (labelled_hits (switch_labels d))
      (range_as J h.case (length ms) (length (cases_among (switch_labels d))) (hits J h.case ms ms) (hits J h.case ms ms)
      (different_range J h.case ms g) (sym (length_numbers k (cases_among (switch_labels d)))) refl)

record CaseShares (J L : ℕ) (q : Plan) : Type 0 where
  pub break_label : (k : ℕ) → one_if (eqb L (q.break_label k)) ≡ 0
  pub continue_label : (k : ℕ) → one_if (eqb L (q.continue_label k)) ≡ 0
  pub default_label : (k : ℕ) → one_if (eqb L (q.default_label k)) ≡ 0
  pub case : (j : ℕ) → one_if (eqb L (q.case_label j)) ≤ one_if (eqb J j)

switch_cases : (J a L : ℕ) (q : Plan) (h : Here) (k : IntKind) (d : Sections) (y : Bool) (brk : ℕ) → brk ≡ 0 →
    (y ≡ true → Range J h.case (length (cases_among (switch_labels d))) (labelled L (names_of q h k d) (switch_labels d)))
    → Range J h.case (cond y (length (cases_among (switch_labels d))) 0) (cond y (labelled L (names_of q h k d) (switch_labels d)) 0 + brk)
switch_cases J a L q h k d true brk e f =
    range_as J h.case (length (cases_among (switch_labels d))) (length (cases_among (switch_labels d)))
    (labelled L (names_of q h k d) (switch_labels d)) (labelled L (names_of q h k d) (switch_labels d) + brk) (f refl) refl (omega (arith, e))
switch_cases J a L q h k d false brk e f = range_as J h.case 0 0 0 (0 + brk) (range_none J h.case) refl (omega (arith, e))

pub no_hits : (J a c : ℕ) → c ≡ 0 → Range J a 0 c
no_hits J a c e = range_as J a 0 0 0 c (range_none J a) refl e

cased : (J L : ℕ) (q : Plan) → CaseShares J L q → (x : Tree) (h : Here) → IsConstruct x → HasOwnCases x → Range J h.case (cases_of x) (makes L q x h)
cased J L q s (If t a b) h i g = range_none J h.case
cased J L q s (While t a) h i g = let b = s.break_label h.construct in let c = s.continue_label h.construct in
    no_hits J h.case (makes L q (While t a) h) (omega (arith, b, c))
cased J L q s (Do a t) h i g = let b = s.break_label h.construct in let c = s.continue_label h.construct in
    no_hits J h.case (makes L q (Do a t) h) (omega (arith, b, c))
cased J L q s (For f t u a) h i g = let b = s.break_label h.construct in let c = s.continue_label h.construct in
    no_hits J h.case (makes L q (For f t u a) h) (omega (arith, b, c))
cased J L q s (Switch t d) h i g =
    let k = switch_kind t in
    switch_cases J 0 L q h k d (is_scattered d) (one_if (eqb L (q.break_label h.construct))) (s.break_label h.construct)
    (λ e. labelled_range J L q s.default_label s.case h k d
    (subst (λ y. IfTrue y ((nones (switch_labels d) ≤ 1) × AreDifferent (map (case_number k) (cases_among (switch_labels d))))) e g).1)
cased J L q s _ h i g = absurd i

case_within : (x : Tree) (h : Here) → IsConstruct x → (within x h).case ≡ h.case + cases_of x
case_within (If t a b) h i = omega arith
case_within (While t a) h i = refl
case_within (Do a t) h i = refl
case_within (For f t u a) h i = refl
case_within (Switch s d) h i = refl
case_within _ h i = absurd i

cased_range : (J L : ℕ) (q : Plan) → CaseShares J L q → (xs : Forest) (h : Here) → Everywhere HasOwnCases xs →
    Range J h.case (total cases_of xs) (gathered within past (makes L q) h xs)
cased_range J L q s xs h g = gathered_range within past J (makes L q) cases_of (λ h. h.case) HasOwnCases (cased J L q s) case_within (λ xs h. refl)
    no_cases xs h g

-- ---- the whole

abbrev pub NoLand : Tree → Type 0
NoLand (Land l) = ⊥
NoLand _ = Unit {0}

-- a label of the source hits L only where its number is X
module _ (L X : ℕ) (q : Plan) (source : (l : ℕ) → one_if (eqb L (q.source l)) ≤ one_if (eqb X l)) where
  pub sources : (x : Tree) → NoLand x → sourced L q x ≤ mark_bit X x
  sources (Mark l) g = source l
  sources (Land l) g = absurd g
  sources _ g = omega arith

no_land : (x : Tree) → HasOwnCases x → NoLand x
no_land (Land l) g = absurd g
no_land _ g = tt

module _ (L X n : ℕ) (q : Plan) (s : Hits L X n q) where
  -- no code hits X
  misses : (Y m : ℕ) → m ≤ one_if (eqb X Y) → (X ≡ Y → ⊥) → m ≡ 0
  misses Y m l f = let e = bit_zero X Y f in omega (arith, l, e)

  matches : (Y m K k : ℕ) → m ≤ one_if (eqb X Y) → (X ≡ Y → K ≡ k) → m ≤ one_if (eqb K k)
  matches Y m K k l f = let h = bit_le X Y (eqb K k) (λ e. eq-eqb K k (f e)) in omega (arith, l, h)

  shares_source : (K : ℕ) → X < n → Shares K L q
  shares_source K h = record {
    loop = λ k. (let a = misses (n + 4 * k) (one_if (eqb L (q.break_label k))) (s.break_label k) (λ e. omega (arith, h, e)) in
        let b = misses (n + (4 * k + 1)) (one_if (eqb L (q.continue_label k))) (s.continue_label k) (λ e. omega (arith, h, e)) in omega (arith, a, b));
    switch = λ k. (let a = misses (n + (4 * k + 2)) (one_if (eqb L (q.default_label k))) (s.default_label k) (λ e. omega (arith, h, e)) in
        let b = misses (n + 4 * k) (one_if (eqb L (q.break_label k))) (s.break_label k) (λ e. omega (arith, h, e)) in omega (arith, a, b));
    case = λ j. misses (n + (4 * j + 3)) (one_if (eqb L (q.case_label j))) (s.case_label j) (λ e. omega (arith, h, e));
  }

  shares_break : (K : ℕ) → X ≡ n + 4 * K → Shares K L q
  shares_break K h = record {
    loop = λ k. (let a = matches (n + 4 * k) (one_if (eqb L (q.break_label k))) K k (s.break_label k) (λ e. omega (arith, h, e)) in
        let b = misses (n + (4 * k + 1)) (one_if (eqb L (q.continue_label k))) (s.continue_label k) (λ e. omega (arith, h, e)) in omega (arith, a, b));
    switch = λ k. (let a = misses (n + (4 * k + 2)) (one_if (eqb L (q.default_label k))) (s.default_label k) (λ e. omega (arith, h, e)) in
        let b = matches (n + 4 * k) (one_if (eqb L (q.break_label k))) K k (s.break_label k) (λ e. omega (arith, h, e)) in omega (arith, a, b));
    case = λ j. misses (n + (4 * j + 3)) (one_if (eqb L (q.case_label j))) (s.case_label j) (λ e. omega (arith, h, e));
  }

  shares_continue : (K : ℕ) → X ≡ n + (4 * K + 1) → Shares K L q
  shares_continue K h = record {
    loop = λ k. (let a = misses (n + 4 * k) (one_if (eqb L (q.break_label k))) (s.break_label k) (λ e. omega (arith, h, e)) in
        let b = matches (n + (4 * k + 1)) (one_if (eqb L (q.continue_label k))) K k (s.continue_label k) (λ e. omega (arith, h, e)) in omega (arith, a, b));
    switch = λ k. (let a = misses (n + (4 * k + 2)) (one_if (eqb L (q.default_label k))) (s.default_label k) (λ e. omega (arith, h, e)) in
        let b = misses (n + 4 * k) (one_if (eqb L (q.break_label k))) (s.break_label k) (λ e. omega (arith, h, e)) in omega (arith, a, b));
    case = λ j. misses (n + (4 * j + 3)) (one_if (eqb L (q.case_label j))) (s.case_label j) (λ e. omega (arith, h, e));
  }

  shares_default : (K : ℕ) → X ≡ n + (4 * K + 2) → Shares K L q
  shares_default K h = record {
    loop = λ k. (let a = misses (n + 4 * k) (one_if (eqb L (q.break_label k))) (s.break_label k) (λ e. omega (arith, h, e)) in
        let b = misses (n + (4 * k + 1)) (one_if (eqb L (q.continue_label k))) (s.continue_label k) (λ e. omega (arith, h, e)) in omega (arith, a, b));
    switch = λ k. (let a = matches (n + (4 * k + 2)) (one_if (eqb L (q.default_label k))) K k (s.default_label k) (λ e. omega (arith, h, e)) in
        let b = misses (n + 4 * k) (one_if (eqb L (q.break_label k))) (s.break_label k) (λ e. omega (arith, h, e)) in omega (arith, a, b));
    case = λ j. misses (n + (4 * j + 3)) (one_if (eqb L (q.case_label j))) (s.case_label j) (λ e. omega (arith, h, e));
  }

  shares_case : (K : ℕ) → X ≡ n + (4 * K + 3) → CaseShares K L q
  shares_case K h = record {
    break_label = λ k. misses (n + 4 * k) (one_if (eqb L (q.break_label k))) (s.break_label k) (λ e. omega (arith, h, e));
    continue_label = λ k. misses (n + (4 * k + 1)) (one_if (eqb L (q.continue_label k))) (s.continue_label k) (λ e. omega (arith, h, e));
    default_label = λ k. misses (n + (4 * k + 2)) (one_if (eqb L (q.default_label k))) (s.default_label k) (λ e. omega (arith, h, e));
    case = λ j. matches (n + (4 * j + 3)) (one_if (eqb L (q.case_label j))) K j (s.case_label j) (λ e. omega (arith, h, e));
  }

  pub places_once : (h : Here) (body : Forest) → HasOwnLabels n body → places L (flat q h Stays Stays NoArrival body) ≤ 1
  places_once h body o =
      let a = bounded L q body h Stays Stays NoArrival in
      let b = total_less (sourced L q) (mark_bit X) HasOwnCases (λ x g. sources L X q s.source x (no_land x g)) body o.cases in
      at a b (origin n X)
    where
      at : places L (flat q h Stays Stays NoArrival body) ≤ total (sourced L q) body + gathered within past (makes L q) h body + 0 →
          total (sourced L q) body ≤ total (mark_bit X) body → Origin n X → places L (flat q h Stays Stays NoArrival body) ≤ 1
      at a b (og_source i) =
          let K = h.construct + total constructs_of body in
          let r = (shared_range K L q (shares_source K i) body h o.cases).behind (omega arith) in
          let c = o.once X in omega (arith, a, b, r, c)
      at a b (og_break K i) = let r = (shared_range K L q (shares_break K i) body h o.cases).once in let c = o.all X (omega (arith, i)) in
          omega (arith, a, b, r, c)
      at a b (og_continue K i) = let r = (shared_range K L q (shares_continue K i) body h o.cases).once in let c = o.all X (omega (arith, i)) in
          omega (arith, a, b, r, c)
      at a b (og_default K i) = let r = (shared_range K L q (shares_default K i) body h o.cases).once in let c = o.all X (omega (arith, i)) in
          omega (arith, a, b, r, c)
      at a b (og_case K i) = let r = (cased_range K L q (shares_case K i) body h o.cases).once in let c = o.all X (omega (arith, i)) in
          omega (arith, a, b, r, c)

-- ---- labels by their places

pub inverse : List ℕ → ℕ → ℕ
inverse [] L = L
inverse (m ∷ ms) zero = m
inverse (m ∷ ms) (suc L) = inverse ms L

place_back : (ls : List ℕ) (L x : ℕ) → L ≡ place_in ls x → inverse ls L ≡ x
unfolding inverse
place_back [] L x e = e
place_back (m ∷ ms) zero x e = at (eqb m x) refl e
  where
    at : (b : Bool) → eqb m x ≡ b → zero ≡ cond b 0 (suc (place_in ms x)) → m ≡ x
    at true q e = eqb-true m x q
    at false q e = absurd (omega (arith, e))
place_back (m ∷ ms) (suc L) x e = at (eqb m x) (place_back ms L x) e
  where
    at : (b : Bool) → (L ≡ place_in ms x → inverse ms L ≡ x) → suc L ≡ cond b 0 (suc (place_in ms x)) → inverse ms L ≡ x
    at true f e = absurd (omega (arith, e))
    at false f e = f (omega (arith, e))

pub back : (ls : List ℕ) (L x : ℕ) → one_if (eqb L (place_in ls x)) ≤ one_if (eqb (inverse ls L) x)
back ls L x = bit_le L (place_in ls x) (eqb (inverse ls L) x) (λ e. eq-eqb (inverse ls L) x (place_back ls L x e))

-- each label of a flat form stands at most once
pub flat_once : (number : IntKind → ℤ → ExpressionTree) (slots : List Slot) (n : ℕ) (body : Forest) → HasOwnLabels n body →
    IsOnce (flat_body number slots n body)
flat_once number slots n body o L =
    let p = coded number slots n body in
    let h = first_here (length slots) in
    let ls = marks (flat p h Stays Stays NoArrival body) in
    places_once L (inverse ls L) n (numbered ls p)
    (record {
      source = λ l. back ls L l;
      break_label = λ k. back ls L (n + 4 * k);
      continue_label = λ k. back ls L (n + (4 * k + 1));
      default_label = λ k. back ls L (n + (4 * k + 2));
      case_label = λ k. back ls L (n + (4 * k + 3));
    }) h body o
