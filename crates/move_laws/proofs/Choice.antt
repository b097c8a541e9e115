-- The number by which a guard selects a section leads to that section.
use Rattle.std.proofs.Common.{◌≡◌, ◌≢◌, ℕ, zero, suc, ◌+◌, ◌<◌, ◌≤◌, ℤ, Bool, true, false, cond, ◌||◌, List, [], ◌∷◌, ◌++◌, length, map, Option, Some, None, option_map, ◌⊎◌, inl, inr, refl, sym, ap, subst, ◌∙◌, arith, true≢false}
use Rattle.std.specs.Prelude.{IfSome, AllPairs, Contains, IsTrue}
use Rattle.std.specs.List.{list_any}
use Rattle.std.specs.Option.{IsSomeAnd, option_map_or}
use Rattle.std.specs.Ordering.{int_eq}
use Rattle.std.proofs.lemmas.Bool.Decides.{Decides-int_eq}
use Rattle.std.proofs.lemmas.Bool.{false_from_ne_true, or_cases}
use Rattle.c_types.specs.declared.kinds.IntKind.{IntKind}
use Rattle.c_types.specs.Numbers.{promoted}
use Rattle.c_tree.specs.declared.tree.Branch.TheVariants as B
use Rattle.c_tree.specs.ExpressionTrees.{ExpressionTree}
use Rattle.c_tree.specs.TestTrees.{SelectorTree}
use Rattle.c_tree.specs.Trees.{Sections, NoSection, Section, Switch}
use Rattle.c_tree.specs.Constants.{kind_of}
use Rattle.c_tree.specs.Cases.{selector_source, all_cases, cases_at, defaults, case_number, case_numbers, AllEntered, AreCases, IsNumberFor, SelectsBranch}
use Rattle.c_tree.specs.WellMade.{HasEntries, HasCases}
use Rattle.c_tree.specs.Moves.{SectionsEntered, entered_here, entered_later}
use Rattle.jump_meaning.specs.Search.{Goal, ToCase, ToDefault, is_case, is_section_goal}
use Rattle.jump_meaning.specs.Operations.{operand_kind}
use Rattle.jump_meaning.specs.Step.{switch_kind}

-- ---- elements of lists

abbrev In : {A : Type 0} → A → List A → Type 0
In x [] = ⊥
In x (y ∷ ys) = (y ≡ x) ⊎ In x ys

contained : {A : Type 0} (x : A) (xs : List A) → In x xs → Contains xs x
contained x [] h = absurd h
contained x (y ∷ ys) (inl e) = (zero, omega arith, e)
contained x (y ∷ ys) (inr r) = let c = contained x ys r in (suc c.0, (let l = c.1 in omega arith), c.2)

-- no element stands twice
abbrev Apart : {A : Type 0} → List A → Type 0
Apart [] = Unit {0}
Apart (x ∷ xs) = (In x xs → ⊥) × Apart xs

apart : {A : Type 0} (xs : List A) → AllPairs (λ x y. x ≢ y) xs → Apart xs
apart [] h = tt
apart (x ∷ xs) h = (
  (λ i. let c = contained x xs i in h zero (suc c.0) x (omega arith) (let l = c.1 in omega arith) (sym c.2)),
  apart xs (λ i j d l m. h (suc i) (suc j) d (omega arith) (omega arith)),
)

module _ {A B : Type 0} (f : A → B) where
  in_front : (x : B) (xs ys : List A) → In x (map f xs) → In x (map f (xs ++ ys))
  in_front x [] ys h = absurd h
  in_front x (z ∷ xs) ys (inl e) = inl e
  in_front x (z ∷ xs) ys (inr r) = inr (in_front x xs ys r)

  in_back : (x : B) (xs ys : List A) → In x (map f ys) → In x (map f (xs ++ ys))
  in_back x [] ys h = h
  in_back x (z ∷ xs) ys h = inr (in_back x xs ys h)

  apart_back : (xs ys : List A) → Apart (map f (xs ++ ys)) → Apart (map f ys)
  apart_back [] ys h = h
  apart_back (z ∷ xs) ys h = apart_back xs ys h.1

  apart_both : (x : B) (xs ys : List A) → Apart (map f (xs ++ ys)) → In x (map f xs) → In x (map f ys) → ⊥
  apart_both x [] ys h i j = i
  apart_both x (z ∷ xs) ys h (inl e) j = h.0 (subst (λ w. In w (map f (xs ++ ys))) (sym e) (in_back x xs ys j))
  apart_both x (z ∷ xs) ys h (inr r) j = apart_both x xs ys h.1 r j

-- ---- cases of a number

some_eq : (n : ℤ) (o : Option ℤ) → option_map_or (int_eq n) o false ≡ true → o ≡ Some n
some_eq n None e = absurd (true≢false (sym e))
some_eq n (Some m) e = ap Some (sym ((Decides-int_eq n m).0 e))

eq_some : (n : ℤ) (o : Option ℤ) → o ≡ Some n → option_map_or (int_eq n) o false ≡ true
eq_some n o e = ap (λ p. option_map_or (int_eq n) p false) e ∙ (Decides-int_eq n n).1 refl

case_in : (k : IntKind) (n : ℤ) (cs : List ExpressionTree) → list_any (is_case k n) cs ≡ true → In (Some n) (map (case_number k) cs)
case_in k n [] e = absurd (true≢false (sym e))
case_in k n (x ∷ cs) e = elim (or_cases (is_case k n x) (list_any (is_case k n) cs) e) [
  | inl h ↦ inl (some_eq n (case_number k x) h)
  | inr h ↦ inr (case_in k n cs h)
]

-- ---- the first section with a label

-- section k is the first with a label of the goal
abbrev pub IsFirst : Goal → ℕ → Sections → Type 0
IsFirst g k NoSection = ⊥
IsFirst g zero (Section cases default a ends c) = is_section_goal g cases default ≡ true
IsFirst g (suc k) (Section cases default a ends c) = (is_section_goal g cases default ≡ false) × IsFirst g k c

-- no section has one
abbrev pub NoneHas : Goal → Sections → Type 0
NoneHas g NoSection = Unit {0}
NoneHas g (Section cases default a ends c) = (is_section_goal g cases default ≡ false) × NoneHas g c

-- the number leads to section k
abbrev pub IsChosen : IntKind → ℤ → ℕ → Sections → Type 0
IsChosen kind n k c = IsFirst (ToCase kind n) k c ⊎ (NoneHas (ToCase kind n) c × IsFirst ToDefault k c)

none_free : (kind : IntKind) (n : ℤ) (c : Sections) → (In (Some n) (case_numbers kind c) → ⊥) → NoneHas (ToCase kind n) c
none_free kind n NoSection h = tt
none_free kind n (Section cases default a ends c) h = (
  false_from_ne_true (list_any (is_case kind n) cases) (λ e. h (in_front (case_number kind) (Some n) cases (all_cases c) (case_in kind n cases e))),
  none_free kind n c (λ i. h (in_back (case_number kind) (Some n) cases (all_cases c) i)),
)

in_all : (kind : IntKind) (n : ℤ) (k : ℕ) (c : Sections) → In (Some n) (map (case_number kind) (cases_at k c)) → In (Some n) (case_numbers kind c)
in_all kind n k NoSection h = h
in_all kind n zero (Section cases default a ends c) h = in_front (case_number kind) (Some n) cases (all_cases c) h
in_all kind n (suc k) (Section cases default a ends c) h = in_back (case_number kind) (Some n) cases (all_cases c) (in_all kind n k c h)

first_case : (kind : IntKind) (n : ℤ) (k : ℕ) (c : Sections) (e : ExpressionTree) (es : List ExpressionTree) → Apart (case_numbers kind c) →
    cases_at k c ≡ e ∷ es → case_number kind e ≡ Some n
    → IsFirst (ToCase kind n) k c
first_case kind n k NoSection e es p q h = absurd (let z : [] ≡ e ∷ es = q in cc)
first_case kind n zero (Section cases default a ends c) e es p q h =
    ap (list_any (is_case kind n)) q ∙ ap (λ b. b || list_any (is_case kind n) es) (eq_some n (case_number kind e) h)
first_case kind n (suc k) (Section cases default a ends c) e es p q h = (
  false_from_ne_true (list_any (is_case kind n) cases)
      (λ t. apart_both (case_number kind) (Some n) cases (all_cases c) p (case_in kind n cases t)
      (in_all kind n k c (subst (λ l. In (Some n) (map (case_number kind) l)) (sym q) (inl h)))),
  first_case kind n k c e es (apart_back (case_number kind) cases (all_cases c) p) q h,
)

-- a section without a case has the default
has_default : (cases : List ExpressionTree) (default : Bool) → cases ≡ [] → (0 < length cases) ⊎ IsTrue default → default ≡ true
has_default cases default e (inl p) = absurd (let q = ap length e in omega arith)
has_default cases default e (inr p) = p

default_there : (l k : ℕ) {c d : Sections} → SectionsEntered l k c d → AllEntered c → cases_at k c ≡ [] → 1 ≤ defaults c
default_there l _ (entered_here cases default ends a c z) h e = subst (λ b. 1 ≤ cond b 1 0 + defaults c) (sym (has_default cases default e h.0)) (omega arith)
default_there l _ (entered_later cases default ends a r) h e = let p = default_there l _ r h.1 e in omega arith

no_default : (b : Bool) (n : ℕ) → cond b 1 0 + n ≤ 1 → 1 ≤ n → b ≡ false
no_default true n h p = absurd (omega arith)
no_default false n h p = refl

-- which then stands in no other
first_default : (l k : ℕ) {c d : Sections} → SectionsEntered l k c d → AllEntered c → defaults c ≤ 1 → cases_at k c ≡ [] → IsFirst ToDefault k c
first_default l _ (entered_here cases default ends a c z) h m e = has_default cases default e h.0
first_default l _ (entered_later cases default ends a {c = c} r) h m e =
    (no_default default (defaults c) m (default_there l _ r h.1 e), first_default l _ r h.1 (omega arith) e)

chosen_among : (kind : IntKind) (n : ℤ) (l k : ℕ) {c d : Sections} → SectionsEntered l k c d → AllEntered c → defaults c ≤ 1 → AreCases kind c
    → (cases : List ExpressionTree) → cases_at k c ≡ cases → IsNumberFor kind c cases n → IsChosen kind n k c
chosen_among kind n l k {c = c} r h m a [] e f =
    inr (none_free kind n c (λ i. f.free (contained (Some n) (case_numbers kind c) i)), first_default l k r h m e)
chosen_among kind n l k {c = c} r h m a (x ∷ xs) e f = inl (first_case kind n k c x xs (apart (case_numbers kind c) a.distinct) e f)

choice : (o : Option IntKind) (n : ℤ) (l k : ℕ) {c d : Sections} → SectionsEntered l k c d → AllEntered c → defaults c ≤ 1 →
    IfSome (option_map promoted o) (λ kind. AreCases kind c)
    → IsSomeAnd (option_map promoted o) (λ kind. IsNumberFor kind c (cases_at k c) n) → IsChosen (promoted (operand_kind o)) n k c
choice None n l k r h m a f = absurd f
choice (Some j) n l k {c = c} r h m a f = chosen_among (promoted j) n l k r h m a (cases_at k c) refl f

-- the number by which a guard selects a section leads to it
pub selects_chosen : (s : SelectorTree) (n : ℤ) (l k : ℕ) {c d : Sections} → SectionsEntered l k c d → HasEntries (Switch s c) →
    HasCases (Switch s c) → SelectsBranch (B.Section k) n (Switch s c)
    → IsChosen (switch_kind s) n k c
selects_chosen s n l k r e a f = choice (kind_of (selector_source s)) n l k r e.0 e.1 a f
