-- The body of a resolved function is one that can be flattened.
use Rattle.std.proofs.Common.{ℕ, zero, suc, ◌+◌, ◌≤◌, ◌<◌, ◌≢◌, Bool, true, false, not, cond, eqb, List, [], ◌∷◌, map, length, Option, Some, None, option_map, IsSome, ◌≡◌, refl, sym, ap, subst, ◌∙◌, slice_get, All, AllPairs, arith, true≢false, eq-eqb, eqb-true}
use Rattle.std.specs.Prelude.{IfSome, IsSomeAnd}
use Rattle.std.proofs.lemmas.List.Elements.{All-from_recursion}
use Rattle.std.proofs.lemmas.List.Kept.{AllPairs-cons}
use Rattle.c_types.specs.declared.kinds.IntKind.{IntKind}
use Rattle.c_types.specs.Numbers.{promoted}
use Rattle.c_tree.specs.declared.tree.Slot.{Slot}
use Rattle.c_tree.specs.declared.tree.Function.{Function}
use Rattle.c_tree.specs.declared.tree.Top.{Top}
use Rattle.c_tree.specs.TestTrees.{SelectorTree}
use Rattle.c_tree.specs.Constants.{kind_of, IsConstant, constant_value}
use Rattle.c_tree.specs.Cases.{selector_source, selector_kind, all_cases, defaults, case_number, AllEntered, AreCases}
use Rattle.c_tree.specs.Trees.{Tree, Forest, Nil, Then, Sections, NoSection, Section, Evaluate, If, While, Do, For, Switch, Block, Local, Goto, Arm, Leap, Land}
use Rattle.c_tree.specs.Everywhere.{total, total_of, total_in, Everywhere, EverywhereOf, EverywhereIn}
use Rattle.c_tree.specs.InRange.{body_of}
use Rattle.c_tree.proofs.WellMoved.{everywhere_map, everywhere_both}
use Rattle.flat_laws.specs.Parts as P
use Rattle.flat_laws.specs.Parts.{is_scattered, is_some_number, is_named, gotos_to}
use Rattle.flat_laws.specs.Source.{mark_bit, nones, IfTrue}
use Rattle.flat_laws.specs.FlatMade.{HasGoodCases, AreFirst, IsPlainItem}
use Rattle.flat_laws.specs.FlatWellMadeLaws.{IsGoodSource}
use Rattle.flat_laws.proofs.Unscattered.{unscattered_cases, unscattered_defaults}
use Rattle.c_resolved_defs.specs.Within.{AllDiffer}
use Rattle.c_resolved_defs.specs.Form.{numbers_from, HasSourceForm, IsFirstPart, AreAlike, AreSections}
use Rattle.c_resolved_defs.specs.Switches.{switch_labels, cases_among, defaults_among, IsConstantValue, AreLabels, HasCases}
use Rattle.c_resolved_defs.specs.Limits.{FlatCounts}
use Rattle.c_resolved_defs.specs.Resolved.{IsResolvedFunction}
use Rattle.c_resolved_laws.proofs.Ranged.{the_some, each_map}
use Rattle.c_resolved_laws.proofs.LabelsGiven.{count_in, counted, labels_same, cases_same, nones_same, function_labels}
use Rattle.c_resolved_laws.proofs.SourceGiven.{function_calm}

-- ---- first parts of `for`s

alike_first : (ss : List Slot) (s : Slot) (xs : Forest) → AreAlike ss s xs → AreFirst xs
alike_first ss s Nil h = tt
alike_first ss s (Then (Local k given) xs) h = (tt, alike_first ss s xs h.1)
alike_first ss s (Then _ xs) h = absurd h

pub first_part : (ss : List Slot) (xs : Forest) → IsFirstPart ss xs → AreFirst xs
first_part ss Nil h = tt
first_part ss (Then (Evaluate e) Nil) h = (tt, tt)
first_part ss (Then (Local k given) xs) h = let s = the_some _ (slice_get ss k) h in (tt, alike_first ss s.0 xs s.2)
first_part ss _ h = absurd h

-- ---- switches that aren't scattered

entered : (c : Sections) → AreSections c → AllEntered c
entered NoSection h = tt
entered (Section cases default a ends c) h = (h.0, entered c h.4)

pub all_pairs : {A : Type 0} (xs : List A) → AllDiffer xs → AllPairs (λ m n. m ≢ n) xs
all_pairs [] h = λ i j d b k. absurd (omega (arith, b, k))
all_pairs (x ∷ xs) h = AllPairs-cons (λ m n. m ≢ n) x xs (All-from_recursion (λ y. x ≢ y) xs
    (each_map (λ y. y ≢ x) (λ y. x ≢ y) (λ y d e. d (sym e)) xs h.0)) (all_pairs xs h.1)

pub same_cases : (c : Sections) → is_scattered c ≡ false → cases_among (switch_labels c) ≡ all_cases c
same_cases c e = sym (cases_same (switch_labels c)) ∙ ap P.cases_among (sym (labels_same c)) ∙ unscattered_cases c e

pub same_defaults : (c : Sections) → is_scattered c ≡ false → defaults_among (switch_labels c) ≡ defaults c
same_defaults c e = sym (nones_same (switch_labels c)) ∙ ap nones (sym (labels_same c)) ∙ unscattered_defaults c e

good_cases : (k : IntKind) (c : Sections) → is_scattered c ≡ false → AreLabels k (switch_labels c) → AreCases k c
good_cases k c e h =
    let es = cases_among (switch_labels c) in
    let same = same_cases c e in
    record {
      constant = subst (All IsConstant) same (All-from_recursion IsConstant es (each_map IsConstantValue IsConstant (λ x i. i.constant) es h.constant));
      untrapped = subst (All (λ x. IsSome (constant_value x))) same
          (All-from_recursion (λ x. IsSome (constant_value x)) es
          (each_map IsConstantValue (λ x. IsSome (constant_value x)) (λ x i. i.untrapped) es h.constant));
      distinct = subst (λ xs. AllPairs (λ m n. m ≢ n) (map (case_number k) xs)) same (all_pairs (map (case_number k) es) h.distinct);
      few = subst (λ xs. length xs < 2147483648) same h.few;
    }

if_there : {A : Type 0} (Q R : A → Type 0) → ((a : A) → Q a → R a) → (o : Option A) → IsSomeAnd o Q → IfSome o R
if_there Q R f None h = absurd h
if_there Q R f (Some a) h = f a h

pub kind_given : (Q : IntKind → Type 0) (o : Option IntKind) → IsSomeAnd (option_map promoted o) Q → IsSome o
kind_given Q None h = absurd h
kind_given Q (Some k) h = refl

-- the selector of a switch has a kind
pub has_kind : (s : SelectorTree) (c : Sections) → HasCases (Switch s c) → IsSome (kind_of (selector_source s))
has_kind s c h = kind_given (λ k. AreLabels k (switch_labels c)) (kind_of (selector_source s)) h

single_default : (s : SelectorTree) (c : Sections) → HasCases (Switch s c) → defaults_among (switch_labels c) ≤ 1
single_default s c h = (the_some (λ k. AreLabels k (switch_labels c)) (selector_kind s) h).2.single

good_switch : (s : SelectorTree) (c : Sections) → AreSections c → HasCases (Switch s c) → is_scattered c ≡ false → HasGoodCases s c
good_switch s c f h e = record {
  kind = has_kind s c h;
  entered = entered c f;
  default = subst (λ n. n ≤ 1) (same_defaults c e) (single_default s c h);
  cases = if_there (λ k. AreLabels k (switch_labels c)) (λ k. AreCases k c) (λ k i. good_cases k c e i) (selector_kind s) h;
}

if_unscattered : (b : Bool) (A : Type 0) → (b ≡ false → A) → IfTrue (not b) A
if_unscattered true A f = tt
if_unscattered false A f = f refl

-- ---- items

plain_item : (f : Function) (x : Tree) → HasSourceForm f x × HasCases x → IsPlainItem x
plain_item f (If t a b) h = h.0
plain_item f (While t a) h = h.0
plain_item f (Do a t) h = h.0
plain_item f (For first t u a) h = first_part f.slots first h.0
plain_item f (Switch s c) h = (h.0.1, if_unscattered (is_scattered c) (HasGoodCases s c) (good_switch s c h.0.0 h.1))
plain_item f (Arm l e) h = h.0
plain_item f (Leap l) h = h.0
plain_item f (Land l) h = h.0
plain_item f x h = tt

-- ---- labels of gotos

pub some_there : (n : ℕ) → is_some_number n ≡ true → 0 < n
some_there zero h = absurd (true≢false (sym h))
some_there (suc n) h = omega arith

bit_there : (b : Bool) → 0 < cond b 1 0 → b ≡ true
bit_there true h = refl
bit_there false h = absurd (omega (arith, h))

in_sum : (A : Type 0) (m n : ℕ) → 0 < m + n → (0 < m → A) → (0 < n → A) → A
in_sum A zero n h f g = g (omega (arith, h))
in_sum A (suc m) n h f g = f (omega arith)

-- a label that a goto names is one of the function
module _ (f : Function) (l : ℕ) where
  abbrev IsOne : Type 0
  IsOne = l < length f.labels

  mutual
    goto_there : (a : Forest) → Everywhere (HasSourceForm f) a → 0 < total (gotos_to l) a → IsOne
    goto_there Nil h n = absurd (omega (arith, n))
    goto_there (Then x a) h n = in_sum IsOne (total_of (gotos_to l) x) (total (gotos_to l) a) n (goto_in x h.0) (goto_there a h.1)

    goto_in : (x : Tree) → EverywhereOf (HasSourceForm f) x → 0 < total_of (gotos_to l) x → IsOne
    goto_in (If t a b) h n = in_sum IsOne (total (gotos_to l) a) (total (gotos_to l) b) (omega (arith, n)) (goto_there a h.1) (goto_there b h.2)
    goto_in (While t a) h n = goto_there a h.1 (omega (arith, n))
    goto_in (Do a t) h n = goto_there a h.1 (omega (arith, n))
    goto_in (For first t u a) h n = in_sum IsOne (total (gotos_to l) first) (total (gotos_to l) a) (omega (arith, n)) (goto_there first h.1) (goto_there a h.2)
    goto_in (Switch s d) h n = goto_among d h.1 (omega (arith, n))
    goto_in (Block a) h n = goto_there a h.1 (omega (arith, n))
    goto_in (Goto m) h n = let e = eqb-true l m (bit_there (eqb l m) n) in subst (λ k. k < length f.labels) (sym e) h
    goto_in x h n = absurd (omega (arith, n))

    goto_among : (d : Sections) → EverywhereIn (HasSourceForm f) d → 0 < total_in (gotos_to l) d → IsOne
    goto_among NoSection h n = absurd (omega (arith, n))
    goto_among (Section cases default a ends d) h n = in_sum IsOne (total (gotos_to l) a) (total_in (gotos_to l) d) n (goto_there a h.0) (goto_among d h.1)

further : (a b : ℕ) → b ≤ a → a ≢ b → suc b ≤ a
further a b q d = grind (arith)

-- each of n numbers from i on stands among them
number_there : (l i n : ℕ) → i ≤ l → l < i + n → 0 < count_in l (numbers_from i n)
number_there l i zero h k = absurd (omega (arith, h, k))
number_there l i (suc n) h k = by_test (eqb l i) refl (λ j. number_there l (suc i) n j (omega (arith, k)))
  where
    by_test : (b : Bool) → eqb l i ≡ b → (suc i ≤ l → 0 < count_in l (numbers_from (suc i) n)) → 0 < cond b 1 0 + count_in l (numbers_from (suc i) n)
    by_test true e g = omega arith
    by_test false e g =
        let d : l ≢ i = λ q. true≢false (sym (eq-eqb l i q) ∙ e) in
        let m = g (further l i h d) in omega (arith, m)

label_stands : (counts : FlatCounts) (ts : List Top) (f : Function) → IsResolvedFunction counts ts f → (l : ℕ) → is_named (body_of f) l ≡ true →
    0 < total (mark_bit l) (body_of f)
label_stands counts ts f r l e =
    let one = goto_there f l (body_of f) r.form.items (some_there (total (gotos_to l) (body_of f)) e) in
    let there = number_there l 0 (length f.labels) (omega arith) (omega (arith, one)) in
    subst (λ n. 0 < n) (sym (counted l (body_of f) ∙ ap (count_in l) r.form.labels)) there

-- ---- functions

pub good_source : (counts : FlatCounts) (ts : List Top) (f : Function) → IsResolvedFunction counts ts f → IsGoodSource (length f.labels) (body_of f)
good_source counts ts f r = record {
  items = everywhere_map (λ x. HasSourceForm f x × HasCases x) IsPlainItem (plain_item f) (body_of f)
      (everywhere_both (HasSourceForm f) HasCases (body_of f) r.form.items r.cases);
  own = function_labels counts ts f r;
  stand = label_stands counts ts f r;
  cases = function_calm counts ts f r;
  bound = r.form.exits;
}
