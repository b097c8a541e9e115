-- The labels of the flat list of a body, numbered in the order in which they stand in it, stand at most once.
use Rattle.std.proofs.Common.{ℕ, zero, suc, ◌+◌, ◌-◌, ◌*◌, ◌≤◌, ◌<◌, ◌⊎◌, inl, inr, ℤ, eqb, List, length, ◌≡◌, refl, arith, eq-eqb}
use Rattle.c_types.specs.declared.kinds.IntKind.{IntKind}
use Rattle.c_tree.specs.declared.tree.Slot.{Slot}
use Rattle.c_tree.specs.ExpressionTrees.{ExpressionTree}
use Rattle.c_tree.specs.Everywhere.{total, Everywhere}
use Rattle.c_tree.specs.Trees.{Tree, Forest, If, While, Do, For, Switch, Land}
use Rattle.jump_meaning.specs.Step.{switch_kind}
use Rattle.flat_laws.specs.Pieces.{Stays}
use Rattle.flat_laws.specs.Placed.{places, IsOnce}
use Rattle.flat_laws.specs.Loose.{NoArrival}
use Rattle.flat_laws.specs.Parts.{switch_labels, cases_among, Here}
use Rattle.flat_laws.specs.FlatForm.{names_of, marks, first_here}
use Rattle.flat_laws.specs.Source.{mark_bit}
use Rattle.flat_laws.proofs.Counts.{one_if, places_join, labelled, sourced, gathered}
use Rattle.flat_laws.proofs.Ranges.{Range, order, range_less, range_one, range_join, range_as, IsConstruct, gathered_range, total_less}
use Rattle.flat_laws.proofs.Once.{bit_le, bit_zero, labelled_once, labelled_range, no_hits, NoLand, sources, inverse, back}
use Rattle.lower_laws.specs.Lowered.{Layout, constructs_of, cases_of, variables_of, past, inside, lowered, coded, placed, lowered_list, declarations, lowered_body}
use Rattle.lower_laws.specs.Source.{HasOwnCases, HasOwnLabels}
use Rattle.lower_laws.proofs.Counts.{five, makes, bounded}

-- ---- where a label comes from

-- a number by sevens
record Digit (X : ℕ) : Type 0 where
  high : ℕ
  low : ℕ
  is : X ≡ 7 * high + low
  below : low < 7

digit : (X : ℕ) → Digit X
digit zero = record { high = 0; low = 0; is = omega arith; below = omega arith }
digit (suc X) = next (digit X)
  where
    next : Digit X → Digit (suc X)
    next d = let e = d.is in let b = d.below in elim (order (suc d.low) 7) as (λ _. Digit (suc X)) [
      | inl h ↦ record { high = d.high; low = suc d.low; is = omega (arith, e); below = h }
      | inr h ↦ record { high = suc d.high; low = 0; is = omega (arith, e, b, h); below = omega arith }
    ]

-- the labels of a layout hit L only where their codes hit X
record Hits (L X : ℕ) (q : Layout) : Type 0 where
  source : (l : ℕ) → one_if (eqb L (q.plan.source l)) ≤ one_if (eqb X (7 * l))
  break_label : (k : ℕ) → one_if (eqb L (q.plan.break_label k)) ≤ one_if (eqb X (7 * k + 1))
  continue_label : (k : ℕ) → one_if (eqb L (q.plan.continue_label k)) ≤ one_if (eqb X (7 * k + 2))
  default_label : (k : ℕ) → one_if (eqb L (q.plan.default_label k)) ≤ one_if (eqb X (7 * k + 3))
  case_label : (j : ℕ) → one_if (eqb L (q.plan.case_label j)) ≤ one_if (eqb X (7 * j + 4))
  head_label : (k : ℕ) → one_if (eqb L (q.head_label k)) ≤ one_if (eqb X (7 * k + 5))
  list_label : (k : ℕ) → one_if (eqb L (q.list_label k)) ≤ one_if (eqb X (7 * k + 6))

-- those of one construct
three : ℕ → Layout → ℕ → ℕ
three L q k = one_if (eqb L (q.plan.break_label k)) + one_if (eqb L (q.plan.continue_label k)) + one_if (eqb L (q.plan.default_label k))

two : ℕ → Layout → ℕ → ℕ
two L q k = one_if (eqb L (q.head_label k)) + one_if (eqb L (q.list_label k))

three_range : (L X : ℕ) (q : Layout) → Hits L X q → (k : ℕ) → Range X (7 * k + 1) 3 (three L q k)
unfolding three
three_range L X q s k =
    let a = one_if (eqb X (7 * k + 1)) in let b = one_if (eqb X (7 * k + 2)) in let c = one_if (eqb X (7 * k + 3)) in
    range_less X (7 * k + 1) 3 (three L q k) (a + b + c) (let x = s.break_label k in let y = s.continue_label k in let z = s.default_label k in
    omega (arith, x, y, z))
    (range_join X (7 * k + 1) (7 * k + 3) 2 1 3 (a + b) c (a + b + c)
    (range_join X (7 * k + 1) (7 * k + 2) 1 1 2 a b (a + b) (range_one X (7 * k + 1)) (range_one X (7 * k + 2)) (omega arith) (omega arith) refl)
    (range_one X (7 * k + 3)) (omega arith) (omega arith) refl)

two_range : (L X : ℕ) (q : Layout) → Hits L X q → (k : ℕ) → Range X (7 * k + 5) 2 (two L q k)
unfolding two
two_range L X q s k =
    let a = one_if (eqb X (7 * k + 5)) in let b = one_if (eqb X (7 * k + 6)) in
    range_less X (7 * k + 5) 2 (two L q k) (a + b) (let x = s.head_label k in let y = s.list_label k in omega (arith, x, y))
    (range_join X (7 * k + 5) (7 * k + 6) 1 1 2 a b (a + b) (range_one X (7 * k + 5)) (range_one X (7 * k + 6)) (omega arith) (omega arith) refl)

-- X is below a or not below it
below_or : (L X a n c : ℕ) → Range X a n c → (X < a) ⊎ (a + n ≤ X) → c ≡ 0
below_or L X a n c r (inl h) = r.before h
below_or L X a n c r (inr h) = r.behind h

apart : (X a n : ℕ) → ((a ≤ X) → X < a + n → ⊥) → (X < a) ⊎ (a + n ≤ X)
apart X a n f = elim (order X a) as (λ _. (X < a) ⊎ (a + n ≤ X)) [
  | inl h ↦ inl h
  | inr h ↦ elim (order X (a + n)) as (λ _. (X < a) ⊎ (a + n ≤ X)) [ inl g ↦ absurd (f h g) | inr g ↦ inr g ]
]

module _ (L X : ℕ) (q : Layout) (s : Hits L X q) (K i : ℕ) (is : X ≡ 7 * K + i) (below : i < 7) where
  misses : (Y m : ℕ) → m ≤ one_if (eqb X Y) → (X ≡ Y → ⊥) → m ≡ 0
  misses Y m l f = let e = bit_zero X Y f in omega (arith, l, e)

  five_is : (k : ℕ) → five L q k ≡ three L q k + two L q k
  unfolding three two
  five_is k = refl

  -- they hit a label of construct K alone, at most once
  five_range : (k : ℕ) → Range K k 1 (five L q k)
  five_range k =
      let e = five_is k in
      let r = three_range L X q s k in
      let t = two_range L X q s k in
      let a = three L q k in let b = two L q k in
      let w = range_join X (7 * k + 1) (7 * k + 4) 3 3 6 a b (a + b) r
      (range_join X (7 * k + 4) (7 * k + 5) 1 2 3 0 b b
      (range_less X (7 * k + 4) 1 0 (one_if (eqb X (7 * k + 4))) (omega arith) (range_one X (7 * k + 4))) t (omega arith) (omega arith)
      (omega arith)) (omega arith) (omega arith) refl in
      record {
        once = (let o = w.once in omega (arith, o, e));
        before = λ h. (let z = w.before (omega (arith, h, is, below)) in omega (arith, z, e));
        behind = λ h. (let z = w.behind (omega (arith, h, is, below)) in omega (arith, z, e));
      }

  -- none where X is a label of the source, or of a case
  five_none : (i ≡ 0) ⊎ (i ≡ 4) → (k : ℕ) → five L q k ≡ 0
  five_none c k =
      let e = five_is k in
      let a = below_or L X (7 * k + 1) 3 (three L q k) (three_range L X q s k) (apart X (7 * k + 1) 3 (λ g h. no_three c g h)) in
      let b = below_or L X (7 * k + 5) 2 (two L q k) (two_range L X q s k) (apart X (7 * k + 5) 2 (λ g h. no_two c g h)) in omega (arith, a, b, e)
    where
      no_three : (i ≡ 0) ⊎ (i ≡ 4) → 7 * k + 1 ≤ X → X < 7 * k + 1 + 3 → ⊥
      no_three (inl z) g h = omega (arith, z, g, h, is)
      no_three (inr z) g h = omega (arith, z, g, h, is)

      no_two : (i ≡ 0) ⊎ (i ≡ 4) → 7 * k + 5 ≤ X → X < 7 * k + 5 + 2 → ⊥
      no_two (inl z) g h = omega (arith, z, g, h, is)
      no_two (inr z) g h = omega (arith, z, g, h, is)

-- ---- labels of one construct alone

-- each construct makes no label but its own
record Shares (K L : ℕ) (q : Layout) : Type 0 where
  own : (k : ℕ) → Range K k 1 (five L q k)
  case : (j : ℕ) → one_if (eqb L (q.plan.case_label j)) ≡ 0

shared : (K L : ℕ) (q : Layout) → Shares K L q → (x : Tree) (h : Here) → IsConstruct x → HasOwnCases x → Range K h.construct (constructs_of x) (makes L q x h)
shared K L q s (If t a b) h i g = s.own h.construct
shared K L q s (While t a) h i g = s.own h.construct
shared K L q s (Do a t) h i g = s.own h.construct
shared K L q s (For f t u a) h i g = s.own h.construct
shared K L q s (Switch t d) h i g =
    let m = labelled_once L q.plan h (switch_kind t) d s.case (switch_labels d) g.0 in
    range_less K h.construct 1 (makes L q (Switch t d) h) (five L q h.construct) (omega (arith, m)) (s.own h.construct)
shared K L q s _ h i g = absurd i

construct_inside : (x : Tree) (h : Here) → IsConstruct x → (inside x h).construct ≡ h.construct + constructs_of x
construct_inside (If t a b) h i = omega arith
construct_inside (While t a) h i = omega arith
construct_inside (Do a t) h i = omega arith
construct_inside (For f t u a) h i = omega arith
construct_inside (Switch s d) h i = omega arith
construct_inside _ h i = absurd i

no_construct : (x : Tree) → (IsConstruct x → ⊥) → constructs_of x ≡ 0
no_construct (If t a b) n = absurd (n tt)
no_construct (While t a) n = absurd (n tt)
no_construct (Do a t) n = absurd (n tt)
no_construct (For f t u a) n = absurd (n tt)
no_construct (Switch s d) n = absurd (n tt)
no_construct _ n = refl

no_cases : (x : Tree) → (IsConstruct x → ⊥) → cases_of x ≡ 0
no_cases (Switch s d) n = absurd (n tt)
no_cases _ n = refl

shared_range : (K L : ℕ) (q : Layout) → Shares K L q → (xs : Forest) (h : Here) → Everywhere HasOwnCases xs →
    Range K h.construct (total constructs_of xs) (gathered inside past (makes L q) h xs)
shared_range K L q s xs h g = gathered_range inside past K (makes L q) constructs_of (λ h. h.construct) HasOwnCases (shared K L q s) construct_inside
    (λ xs h. refl) no_construct xs h g

-- ---- case labels

record CaseShares (J L : ℕ) (q : Layout) : Type 0 where
  own : (k : ℕ) → five L q k ≡ 0
  case : (j : ℕ) → one_if (eqb L (q.plan.case_label j)) ≤ one_if (eqb J j)

cased : (J L : ℕ) (q : Layout) → CaseShares J L q → (x : Tree) (h : Here) → IsConstruct x → HasOwnCases x → Range J h.case (cases_of x) (makes L q x h)
cased J L q s (If t a b) h i g = no_hits J h.case (makes L q (If t a b) h) (s.own h.construct)
cased J L q s (While t a) h i g = no_hits J h.case (makes L q (While t a) h) (s.own h.construct)
cased J L q s (Do a t) h i g = no_hits J h.case (makes L q (Do a t) h) (s.own h.construct)
cased J L q s (For f t u a) h i g = no_hits J h.case (makes L q (For f t u a) h) (s.own h.construct)
cased J L q s (Switch t d) h i g =
    let z = s.own h.construct in
    let k = switch_kind t in
    range_as J h.case (length (cases_among (switch_labels d))) (length (cases_among (switch_labels d)))
    (labelled L (names_of q.plan h k d) (switch_labels d)) (makes L q (Switch t d) h)
    (labelled_range J L q.plan (λ k. let o = s.own k in omega (arith, o)) s.case h k d g.1) refl (omega (arith, z))
cased J L q s _ h i g = absurd i

cased_range : (J L : ℕ) (q : Layout) → CaseShares J L q → (xs : Forest) (h : Here) → Everywhere HasOwnCases xs →
    Range J h.case (total cases_of xs) (gathered inside past (makes L q) h xs)
cased_range J L q s xs h g = gathered_range inside past J (makes L q) cases_of (λ h. h.case) HasOwnCases (cased J L q s) (λ x h i. refl)
    (λ xs h. refl) no_cases xs h g

-- ---- the whole

no_land : (x : Tree) → HasOwnCases x → NoLand x
no_land (Land l) g = absurd g
no_land _ g = tt

module _ (L X n : ℕ) (q : Layout) (s : Hits L X q) (h : Here) (body : Forest) (o : HasOwnLabels n body) where
  abbrev Bounded : Type 0
  Bounded = places L (lowered q h Stays Stays NoArrival body) ≤ 1

  sum : places L (lowered q h Stays Stays NoArrival body) ≤ total (sourced L q.plan) body + gathered inside past (makes L q) h body + 0
  sum = bounded L q body h Stays Stays NoArrival

  from : (Y : ℕ) → ((l : ℕ) → one_if (eqb L (q.plan.source l)) ≤ one_if (eqb Y l)) → total (sourced L q.plan) body ≤ total (mark_bit Y) body
  from Y f = total_less (sourced L q.plan) (mark_bit Y) HasOwnCases (λ x g. sources L Y q.plan f x (no_land x g)) body o.cases

  module _ (K i : ℕ) (is : X ≡ 7 * K + i) (below : i < 7) where
    miss : (Y m : ℕ) → m ≤ one_if (eqb X Y) → (X ≡ Y → ⊥) → m ≡ 0
    miss Y m l f = let e = bit_zero X Y f in omega (arith, l, e)

    -- no label of the source
    no_source : 1 ≤ i → total (sourced L q.plan) body ≡ 0
    no_source g =
        let a = from n (λ l. let z = miss (7 * l) (one_if (eqb L (q.plan.source l))) (s.source l) (λ e. omega (arith, e, is, below, g)) in omega (arith, z)) in
        let b = o.all n (omega arith) in omega (arith, a, b)

    no_case : (i < 4) ⊎ (5 ≤ i) → (j : ℕ) → one_if (eqb L (q.plan.case_label j)) ≡ 0
    no_case (inl g) j = miss (7 * j + 4) (one_if (eqb L (q.plan.case_label j))) (s.case_label j) (λ e. omega (arith, e, is, below, g))
    no_case (inr g) j = miss (7 * j + 4) (one_if (eqb L (q.plan.case_label j))) (s.case_label j) (λ e. omega (arith, e, is, below, g))

    at_construct : 1 ≤ i → (i < 4) ⊎ (5 ≤ i) → Bounded
    at_construct g c =
        let a = no_source g in
        let r = (shared_range K L q (record { own = λ k. five_range L X q s K i is below k; case = no_case c }) body h o.cases).once in
        let m = sum in omega (arith, a, r, m)

    at_source : i ≡ 0 → Bounded
    at_source z =
        let far = h.construct + total constructs_of body in
        let r = (shared_range far L q (record {
          own = λ k. (let y = five_none L X q s K i is below (inl z) k in
              range_less far k 1 (five L q k) (one_if (eqb far k)) (omega (arith, y)) (range_one far k));
          case = no_case (inl (omega (arith, z)));
        })
        body h o.cases).behind (omega arith) in
        let a = from K (λ l. let b = s.source l in let c = bit_le X (7 * l) (eqb K l) (λ e. eq-eqb K l (omega (arith, e, is, z))) in omega (arith, b, c)) in
        let b = o.once K in
        let m = sum in omega (arith, r, a, b, m)

    at_case : i ≡ 4 → Bounded
    at_case z =
        let a = no_source (omega (arith, z)) in
        let r = (cased_range K L q (record {
          own = five_none L X q s K i is below (inr z);
          case = λ j. (let b = s.case_label j in let c = bit_le X (7 * j + 4) (eqb K j) (λ e. eq-eqb K j (omega (arith, e, is, z))) in
              omega (arith, b, c));
        }) body h o.cases).once in
        let m = sum in omega (arith, a, r, m)

    places_once : Bounded
    places_once = elim (order i 1) as (λ _. Bounded) [
      | inl g ↦ at_source (omega (arith, g))
      | inr g ↦ elim (order i 4) as (λ _. Bounded) [
        | inl j ↦ at_construct g (inl j)
        | inr j ↦ elim (order i 5) as (λ _. Bounded) [ inl k ↦ at_case (omega (arith, j, k)) | inr k ↦ at_construct g (inr k) ]
      ]
    ]

-- ---- the list and the body

list_once : (number : IntKind → ℤ → ExpressionTree) (slots : List Slot) (n : ℕ) (body : Forest) → HasOwnLabels n body → IsOnce (lowered_list number slots body)
list_once number slots n body o L =
    let p = coded number slots body in
    let h = first_here (length slots) in
    let ls = marks (lowered p h Stays Stays NoArrival body) in
    let X = inverse ls L in
    let d = digit X in
    places_once L X n (placed ls p)
    (record {
      source = λ l. back ls L (7 * l);
      break_label = λ k. back ls L (7 * k + 1);
      continue_label = λ k. back ls L (7 * k + 2);
      default_label = λ k. back ls L (7 * k + 3);
      case_label = λ k. back ls L (7 * k + 4);
      head_label = λ k. back ls L (7 * k + 5);
      list_label = λ k. back ls L (7 * k + 6);
    }) h body o d.high d.low d.is d.below

no_declared : (L x n : ℕ) → places L (declarations x n) ≡ 0
no_declared L x zero = refl
no_declared L x (suc n) = let h = no_declared L (suc x) n in omega (arith, h)

-- each label of a lowered body stands at most once
pub lowered_once : (number : IntKind → ℤ → ExpressionTree) (params : ℕ) (slots : List Slot) (n : ℕ) (body : Forest) → HasOwnLabels n body →
    IsOnce (lowered_body number params slots body)
lowered_once number params slots n body o L =
    let h = list_once number slots n body o L in
    let i = places_join L (declarations params (length slots - params + total variables_of body)) (lowered_list number slots body) in
    let j = no_declared L params (length slots - params + total variables_of body) in omega (arith, h, i, j)
