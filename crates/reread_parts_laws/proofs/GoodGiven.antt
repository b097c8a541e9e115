-- The items of a resolved function are what reading their text needs at each place.
use Rattle.std.proofs.Common.{◌≡◌, ◌≤◌, ◌<◌, ◌+◌, ℕ, zero, suc, Bool, true, false, ◌||◌, List, [], ◌∷◌, ◌++◌, length, Option, Some, None, is_some, refl, ap, sym, subst, ◌∙◌, arith, length-append}
use Rattle.std.specs.Prelude.{slice_get, IfSome, IsSomeAnd}
use Rattle.std.specs.Option.{option_map_or}
use Rattle.c_types.specs.declared.kinds.IntKind.{IntKind}
use Rattle.c_tree.specs.declared.tree.Slot.{Slot}
use Rattle.c_tree.specs.declared.tree.Function.{Function}
use Rattle.c_tree.specs.declared.tree.Top.{Top}
use Rattle.c_tree.specs.declared.tree.Home.TheVariants as H
use Rattle.c_tree.specs.ExpressionTrees.{ExpressionTree}
use Rattle.c_tree.specs.ExpressionTrees as e
use Rattle.c_tree.specs.TestTrees.{TestTree, Source, SelectorTree, Selects, Pick}
use Rattle.c_tree.specs.Trees.{Tree, Forest, Nil, Then, Sections, NoSection, Section}
use Rattle.c_tree.specs.Trees as t
use Rattle.c_tree.specs.Everywhere.{Everywhere, EverywhereOf, EverywhereIn}
use Rattle.c_tree.specs.Exits.{breaks, breaks_of, breaks_in, continues, continues_of, continues_in}
use Rattle.c_tree.specs.Constants.{IsConstant}
use Rattle.c_tree.specs.Cases.{selector_source, selector_kind}
use Rattle.c_tree.specs.TextExpressions.{slot_name}
use Rattle.c_tree.specs.TextItems.{label_name}
use Rattle.c_kinds.specs.Scopes.{found}
use Rattle.c_statements.specs.Context.{Context, Around, in_loop, in_switch}
use Rattle.c_resolved_defs.specs.Within.{Each, Within, TestExpression, CaseExpressions}
use Rattle.c_resolved_defs.specs.Names.{Names}
use Rattle.c_resolved_defs.specs.Kinds.{IsOperand, HasValue, ItemAgrees, ReturnFits, KeepsConsts, KindsAgree, WritesNoConst}
use Rattle.c_resolved_defs.specs.Scopes.{Scope, AVariable, bind, behind, behind_all, inside, IsBound, ItemIsBound, AreBound, SectionsAreBound}
use Rattle.c_resolved_defs.specs.Form.{gathered, gathered_of, gathered_in, declared_slot, marked_label, numbers_from, AreAlike, IsFirstPart, HasSourceForm, AreSections}
use Rattle.c_resolved_defs.specs.Switches.{AreLabels, HasCases, IsConstantValue, arrivals, section_labels, switch_labels, cases_among}
use Rattle.c_resolved_defs.specs.Scopes as resolved
use Rattle.c_resolved_defs.specs.Files.{IsLength, AreInitialisers}
use Rattle.c_resolved_defs.specs.PrintableStatements.{OptionPrints, TestPrints, SelectorPrints, FullPrints, ListPrints, ValuesPrint, SlotPrints, FurtherPrint, StartPrints, ItemPrints, ItemsPrint, SectionsPrint}
use Rattle.c_resolved_defs.specs.Resolved.{names_in, IsInitialised}
use Rattle.reread_parts_laws.specs.Places.{IsExpressionOf}
use Rattle.reread_parts_laws.specs.GoodItems.{IsValueOf, with_slot, IsVariable, slots_in, slots_of, slots_within, IsTest, AreFurther, IsStart, IsCase, IsSelector, IsGood, AreGood, SectionsAreGood}

-- ---- two facts everywhere

module _ (P Q : Tree → Type 0) where
  abbrev pub Both : Tree → Type 0
  Both x = P x × Q x

  mutual
    pub both_everywhere : (xs : Forest) → Everywhere P xs → Everywhere Q xs → Everywhere Both xs
    both_everywhere Nil p q = tt
    both_everywhere (Then x xs) p q = (both_of x (p.0) (q.0), both_everywhere xs (p.1) (q.1))

    both_of : (x : Tree) → EverywhereOf P x → EverywhereOf Q x → EverywhereOf Both x
    both_of (t.If c a b) p q = ((p.0, q.0), both_everywhere a (p.1) (q.1), both_everywhere b (p.2) (q.2))
    both_of (t.While c a) p q = ((p.0, q.0), both_everywhere a (p.1) (q.1))
    both_of (t.Do a c) p q = ((p.0, q.0), both_everywhere a (p.1) (q.1))
    both_of (t.For first c u a) p q = ((p.0, q.0), both_everywhere first (p.1) (q.1), both_everywhere a (p.2) (q.2))
    both_of (t.Switch s c) p q = ((p.0, q.0), both_in c (p.1) (q.1))
    both_of (t.Block a) p q = ((p.0, q.0), both_everywhere a (p.1) (q.1))
    both_of _ p q = (p, q)

    both_in : (c : Sections) → EverywhereIn P c → EverywhereIn Q c → EverywhereIn Both c
    both_in NoSection p q = tt
    both_in (Section cases default a ends c) p q = (both_everywhere a (p.0) (q.0), both_in c (p.1) (q.1))

-- ---- numbers in order

mutual
  pub slots_counted : (xs : Forest) → length (gathered declared_slot xs) ≡ slots_in xs
  slots_counted Nil = refl
  slots_counted (Then x xs) = length-append (gathered_of declared_slot x) (gathered declared_slot xs) ∙ (λ i. counted_of x i + slots_counted xs i)

  counted_of : (x : Tree) → length (gathered_of declared_slot x) ≡ slots_of x
  counted_of (t.If c a b) = length-append (gathered declared_slot a) (gathered declared_slot b) ∙ (λ i. slots_counted a i + slots_counted b i)
  counted_of (t.While c a) = slots_counted a
  counted_of (t.Do a c) = slots_counted a
  counted_of (t.For first c u a) = length-append (gathered declared_slot first) (gathered declared_slot a) ∙ (λ i. slots_counted first i + slots_counted a i)
  counted_of (t.Switch s c) = counted_in c
  counted_of (t.Block a) = slots_counted a
  counted_of (t.Local k given) = refl
  counted_of _ = refl

  counted_in : (c : Sections) → length (gathered_in declared_slot c) ≡ slots_within c
  counted_in NoSection = refl
  counted_in (Section cases default a ends c) = length-append (gathered declared_slot a) (gathered_in declared_slot c) ∙
      (λ i. slots_counted a i + counted_in c i)

record Split (a b : List ℕ) (k m n : ℕ) : Type 0 where
  first : a ≡ numbers_from k m
  last : b ≡ numbers_from (k + m) n

split : (a b : List ℕ) (k m n : ℕ) → length a ≡ m → a ++ b ≡ numbers_from k (m + n) → Split a b k m n
split [] b k zero n l e =
    let z : k ≡ k + 0 = omega arith in
    let y : 0 + n ≡ n = omega arith in
    record { first = refl; last = e ∙ (λ i. numbers_from (z i) (y i)) }
split [] b k (suc m) n l e = absurd (omega (arith, l))
split (x ∷ a) b k zero n l e = absurd (omega (arith, l))
split (x ∷ a) b k (suc m) n l e =
    let s : suc m + n ≡ suc (m + n) = omega arith in
    let u : (x ∷ (a ++ b)) ≡ k ∷ numbers_from (suc k) (m + n) = e ∙ ap (numbers_from k) s in
    let h : x ≡ k = head x k (a ++ b) (numbers_from (suc k) (m + n)) u in
    let r = split a b (suc k) m n (omega (arith, l)) (tail x k (a ++ b) (numbers_from (suc k) (m + n)) u) in
    let z : suc k + m ≡ k + suc m = omega arith in
    record { first = λ i. h i ∷ r.first i; last = r.last ∙ ap (λ j. numbers_from j n) z }
  where
    head : (x y : ℕ) (xs ys : List ℕ) → x ∷ xs ≡ y ∷ ys → x ≡ y
    head x y xs ys e = cc

    tail : (x y : ℕ) (xs ys : List ℕ) → x ∷ xs ≡ y ∷ ys → xs ≡ ys
    tail x y xs ys e = cc

-- a list declares the next slots
abbrev pub Ordered : ℕ → List ℕ → ℕ → Type 0
Ordered k numbers count = numbers ≡ numbers_from k count

-- ---- facts of both parts of a list

each_first : {A : Type 0} (P : A → Type 0) (xs ys : List A) → Each P (xs ++ ys) → Each P xs
each_first P [] ys h = tt
each_first P (x ∷ xs) ys h = (h.0, each_first P xs ys (h.1))

each_last : {A : Type 0} (P : A → Type 0) (xs ys : List A) → Each P (xs ++ ys) → Each P ys
each_last P [] ys h = h
each_last P (x ∷ xs) ys h = each_last P xs ys (h.1)

cases_both : (xs ys : List (Option ExpressionTree)) → cases_among (xs ++ ys) ≡ cases_among xs ++ cases_among ys
cases_both [] ys = refl
cases_both (Some x ∷ xs) ys = ap (λ l. x ∷ l) (cases_both xs ys)
cases_both (None ∷ xs) ys = cases_both xs ys

section_cases : (cases : List ExpressionTree) (default : Bool) → cases_among (section_labels cases default) ≡ cases
section_cases [] true = refl
section_cases [] false = refl
section_cases (x ∷ xs) default = ap (λ l. x ∷ l) (section_cases xs default)

-- a constant is an operand
pub constant_operand : (x : ExpressionTree) → IsConstant x → IsOperand x
constant_operand (e.Typed kind (e.Text bytes)) h = absurd h
constant_operand (e.Typed kind (e.Array a)) h = absurd h
constant_operand (e.Typed kind _) h = tt

-- how often `break` and `continue` of a list leave it
pub record Exits (around : Around) (b c : ℕ) : Type 0 where
  pub breaks_are : (around.loop || around.switch) ≡ false → b ≡ 0
  pub continues_are : around.loop ≡ false → c ≡ 0

exits_first : (around : Around) (b c d e : ℕ) → Exits around (b + d) (c + e) → Exits around b c
exits_first around b c d e h = record {
  breaks_are = λ x. let y = h.breaks_are x in
      omega (arith, y);
  continues_are = λ x. let y = h.continues_are x in omega (arith, y);
}

exits_last : (around : Around) (b c d e : ℕ) → Exits around (b + d) (c + e) → Exits around d e
exits_last around b c d e h = record {
  breaks_are = λ x. let y = h.breaks_are x in omega (arith, y);
  continues_are = λ x. let y = h.continues_are x in
      omega (arith, y);
}

-- in a loop neither leaves it
of_loop : (around : Around) (b c : ℕ) → Exits (in_loop around) b c
of_loop around b c = record { breaks_are = λ x. cc; continues_are = λ x. cc }

in_a_switch : (around : Around) (b c : ℕ) → (around.loop ≡ false → c ≡ 0) → Exits (in_switch around) b c
in_a_switch around b c h = record { breaks_are = λ x. none around.loop x; continues_are = h }
  where
    none : (l : Bool) → (l || true) ≡ false → b ≡ 0
    none true x = cc
    none false x = cc

is_there : (b : Bool) (n : ℕ) → 1 ≤ n → (b ≡ false → n ≡ 0) → b ≡ true
is_there true n l h = refl
is_there false n l h = let e = h refl in absurd (omega (arith, l, e))

module _ (ts : List Top) (f : Function) (ctx : Context) (result : ctx.result ≡ f.result)
    (labels : (l : ℕ) → l < length f.labels → found (label_name f l) ctx.labels ≡ Some l)
    (lengths : (k : ℕ) (s : Slot) → f.params ≤ k → slice_get f.slots k ≡ Some s → IsLength s.cells) where
  abbrev nm : Names
  nm = names_in ts f

  -- form, kinds, returns, cases, consts, initialisers
  abbrev pub Fact : Tree → Type 0
  Fact = Both (Both (Both (Both (Both (HasSourceForm f) (ItemAgrees nm)) (ReturnFits f.result)) HasCases) (KeepsConsts nm)) (IsInitialised f.slots)

  abbrev form_in : (x : Tree) → Fact x → HasSourceForm f x
  form_in x h = h.0.0.0.0.0

  abbrev kinds_in : (x : Tree) → Fact x → ItemAgrees nm x
  kinds_in x h = h.0.0.0.0.1

  abbrev returns_in : (x : Tree) → Fact x → ReturnFits f.result x
  returns_in x h = h.0.0.0.1

  abbrev cases_in : (x : Tree) → Fact x → HasCases x
  cases_in x h = h.0.0.1

  abbrev consts_in : (x : Tree) → Fact x → KeepsConsts nm x
  consts_in x h = h.0.1

  abbrev initial_in : (x : Tree) → Fact x → IsInitialised f.slots x
  initial_in x h = h.1

  -- ---- expressions

  expression_good : (ss : List Scope) (need : ℕ) (x : ExpressionTree) → KindsAgree nm x → IsBound f.slots ss x → Within (WritesNoConst nm) x →
      IsOperand x → FullPrints f.slots need x → IsExpressionOf nm ss x
  expression_good ss need x k b c o p = record { kinds = k; bound = b; consts = c; operand = o; prints = p.prints }

  value_good : (ss : List Scope) (need : ℕ) (x : ExpressionTree) → KindsAgree nm x → IsBound f.slots ss x → Within (WritesNoConst nm) x → HasValue x →
      FullPrints f.slots need x → IsValueOf nm ss x
  value_good ss need x k b c v p = record { good = expression_good ss need x k b c (v.operand) p; kind = v.kind }

  values_good : (ss : List Scope) (xs : List ExpressionTree) → Each (KindsAgree nm) xs → Each (IsBound f.slots ss) xs →
      Each (Within (WritesNoConst nm)) xs → Each HasValue xs → ListPrints f.slots 2 xs → Each (IsValueOf nm ss) xs
  values_good ss [] k b c v p = tt
  values_good ss (x ∷ xs) k b c v p = (value_good ss 2 x (k.0) (b.0) (c.0) (v.0) (p.0), values_good ss xs (k.1) (b.1) (c.1) (v.1) (p.1))

  given_prints : (cells : Option ℕ) (xs : List ExpressionTree) → ValuesPrint f.slots cells (Some xs) → ListPrints f.slots 2 xs
  given_prints None (x ∷ []) h = (h, tt)
  given_prints (Some c) (x ∷ xs) h = h
  given_prints None [] h = absurd h
  given_prints None (x ∷ y ∷ xs) h = absurd h
  given_prints (Some c) [] h = absurd h

  given_good : (ss : List Scope) (cells : Option ℕ) (given : Option (List ExpressionTree)) → IfSome given (Each (KindsAgree nm)) →
      IfSome given (Each (IsBound f.slots ss)) → IfSome given (Each (Within (WritesNoConst nm))) → IfSome given (Each HasValue) →
      ValuesPrint f.slots cells given
      → IfSome given (Each (IsValueOf nm ss))
  given_good ss cells None k b c v p = k
  given_good ss cells (Some xs) k b c v p = values_good ss xs k b c v (given_prints cells xs p)

  -- ---- variables

  record LocalGood (ss : List Scope) (k : ℕ) (given : Option (List ExpressionTree)) : Type 0 where
    slot : Slot
    is : slice_get f.slots k ≡ Some slot
    good : IsVariable nm ss k slot given

  local_good : (ss : List Scope) (k : ℕ) (given : Option (List ExpressionTree)) → Fact (t.Local k given) →
      SlotPrints f.slots (slice_get f.slots k) given → ItemIsBound f.slots ss (t.Local k given) → f.params ≤ k → LocalGood ss k given
  local_good ss k given h p b low = by_slot (slice_get f.slots k) refl p (initial_in (t.Local k given) h) b
    where
      by_slot : (o : Option Slot) → slice_get f.slots k ≡ o → SlotPrints f.slots o given → IsInitialised (f.slots) (t.Local k given)
          → (resolved.IsNew (slot_name f.slots k) ss × IfSome given (Each (IsBound f.slots (bind (slot_name f.slots k) (AVariable (H.Slot k)) ss)))) →
          LocalGood ss k given
      by_slot None q p i b = absurd p
      by_slot (Some s) q p i b =
          let name : slot_name f.slots k ≡ s.name = ap (λ o. option_map_or (λ (r : Slot). r.name) o []) q in
          let ks = kinds_in (t.Local k given) h in
          record {
            slot = s;
            is = q;
            good = record {
              slot_is = q;
              prints = p;
              length = lengths k s low q;
              fits = subst (λ o. IsSomeAnd o (λ r. IfSome given (AreInitialisers 1024 r.cells))) q i;
              new = subst (λ m. resolved.IsNew m ss) name (b.0);
              values = given_good (with_slot k s ss) s.cells given (ks.kinds)
                  (subst (λ m. IfSome given (Each (IsBound f.slots (bind m (AVariable (H.Slot k)) ss)))) name (b.1)) (consts_in (t.Local k given) h)
                  (ks.values) (p.values);
            };
          }

  some_slot : (o : Option Slot) (s : Slot) (P : Slot → Type 0) → o ≡ Some s → P s → IsSomeAnd o P
  some_slot o s P q h = subst (λ z. IsSomeAnd z P) (sym q) h

  here : (j k : ℕ) (numbers : List ℕ) (count : ℕ) → Ordered k (j ∷ numbers) (1 + count) → (j ≡ k) × Ordered (suc k) numbers count
  here j k numbers count h =
      let r = split (j ∷ []) numbers k 1 count refl h in
      let z : k + 1 ≡ suc k = omega arith in
      (same j k (r.first), r.last ∙ ap (λ i. numbers_from i count) z)
    where
      same : (x y : ℕ) → x ∷ [] ≡ y ∷ [] → x ≡ y
      same x y e = cc

  -- further variables of one declaration
  further_good : (xs : Forest) (s : Slot) (ss : List Scope) (k : ℕ) → AreAlike f.slots s xs → Everywhere Fact xs → FurtherPrint f.slots xs →
      AreBound f.slots ss xs → Ordered k (gathered declared_slot xs) (slots_in xs) → f.params ≤ k → AreFurther nm f ctx ss k s xs
  further_good Nil s ss k a h p b o low = tt
  further_good (Then (t.Local j given) xs) s ss k a h p b o low =
      let q = here j k (gathered declared_slot xs) (slots_in xs) o in
      let l = local_good ss j given (h.0) (p.0) (b.0) (let z = q.0 in omega (arith, low, z)) in
      let r = l.slot in
      let name : slot_name f.slots j ≡ r.name = ap (λ o. option_map_or (λ (r : Slot). r.name) o []) (l.is) in
      let alike = subst (λ z. IsSomeAnd z (λ r. (r.kind ≡ s.kind) × (r.constant ≡ s.constant))) (l.is) (a.0) in
      let rest = further_good xs s (bind (slot_name f.slots j) (AVariable (H.Slot j)) ss) (suc k) (a.1) (h.1) (p.1) (b.1) (q.1) (omega (arith, low)) in (
        q.0,
        some_slot (slice_get f.slots k) r (λ r. IsVariable nm ss k r given × (r.kind ≡ s.kind) × (r.constant ≡ s.constant) ×
            AreFurther nm f ctx (with_slot k r ss) (suc k) s xs) (ap (slice_get f.slots) (sym (q.0)) ∙ l.is) (
              subst (λ i. IsVariable nm ss i r given) (q.0) (l.good),
              alike.0,
              alike.1,
              subst (λ i. AreFurther nm f ctx (bind r.name (AVariable (H.Slot i)) ss) (suc k) s xs) (q.0)
                  (subst (λ m. AreFurther nm f ctx (bind m (AVariable (H.Slot j)) ss) (suc k) s xs) name rest),
            ),
      )
  further_good (Then _ xs) s ss k a h p b o low = absurd a

  start_good : (first : Forest) (ss : List Scope) (k : ℕ) → IsFirstPart f.slots first → Everywhere Fact first → StartPrints f.slots first →
      AreBound f.slots ss first → Ordered k (gathered declared_slot first) (slots_in first) → f.params ≤ k → IsStart nm f ctx ss k first
  start_good Nil ss k a h p b o low = tt
  start_good (Then (t.Evaluate x) Nil) ss k a h p b o low =
      let w = h.0 in
      let ks = kinds_in (t.Evaluate x) w in
      expression_good ss 1 x (ks.kinds) (b.0) (consts_in (t.Evaluate x) w) (ks.values) p
  start_good (Then (t.Local j given) xs) ss k a h p b o low =
      let q = here j k (gathered declared_slot xs) (slots_in xs) o in
      let l = local_good ss j given (h.0) (p.0) (b.0) (let z = q.0 in omega (arith, low, z)) in
      let r = l.slot in
      let name : slot_name f.slots j ≡ r.name = ap (λ o. option_map_or (λ (r : Slot). r.name) o []) (l.is) in
      let alike = subst (λ z. IsSomeAnd z (λ s. AreAlike f.slots s xs)) (l.is) a in
      let rest = further_good xs r (bind (slot_name f.slots j) (AVariable (H.Slot j)) ss) (suc k) alike (h.1) (p.1) (b.1) (q.1) (omega (arith, low)) in (
        q.0,
        some_slot (slice_get f.slots k) r (λ r. IsVariable nm ss k r given × AreFurther nm f ctx (with_slot k r ss) (suc k) r xs)
            (ap (slice_get f.slots) (sym (q.0)) ∙ l.is) (
              subst (λ i. IsVariable nm ss i r given) (q.0) (l.good),
              subst (λ i. AreFurther nm f ctx (bind r.name (AVariable (H.Slot i)) ss) (suc k) r xs) (q.0)
                  (subst (λ m. AreFurther nm f ctx (bind m (AVariable (H.Slot j)) ss) (suc k) r xs) name rest),
            ),
      )
  start_good (Then (t.Evaluate x) (Then y ys)) ss k a h p b o low = absurd a
  start_good (Then _ xs) ss k a h p b o low = absurd a

  -- ---- items

  test_good : (ss : List Scope) (c : TestTree) → TestExpression (KindsAgree nm) c → TestExpression (IsBound f.slots ss) c →
      TestExpression (Within (WritesNoConst nm)) c → TestExpression HasValue c → TestPrints f.slots c → IsTest nm f ctx ss c
  test_good ss (Source x) k b c v p = value_good ss 1 x k b c v p
  test_good ss _ k b c v p = absurd p

  optional_value : (ss : List Scope) (o : Option ExpressionTree) → IfSome o (KindsAgree nm) → IfSome o (IsBound f.slots ss) →
      IfSome o (Within (WritesNoConst nm)) → IfSome o HasValue → OptionPrints f.slots o → IfSome o (IsValueOf nm ss)
  optional_value ss None k b c v p = k
  optional_value ss (Some x) k b c v p = value_good ss 1 x k b c v p

  optional_dropped : (ss : List Scope) (o : Option ExpressionTree) → IfSome o (KindsAgree nm) → IfSome o (IsBound f.slots ss) →
      IfSome o (Within (WritesNoConst nm)) → IfSome o IsOperand → OptionPrints f.slots o → IfSome o (IsExpressionOf nm ss)
  optional_dropped ss None k b c v p = k
  optional_dropped ss (Some x) k b c v p = expression_good ss 1 x k b c v p

  selector_good : (ss : List Scope) (s : SelectorTree) → KindsAgree nm (selector_source s) → IsBound f.slots ss (selector_source s) →
      Within (WritesNoConst nm) (selector_source s) → HasValue (selector_source s) → SelectorPrints f.slots s → IsSelector nm f ctx ss s
  selector_good ss (Selects x) k b c v p = value_good ss 1 x k b c v p
  selector_good ss (Pick l i x) k b c v p = absurd p

  no_result : (o : Option IntKind) → ReturnFits o (t.Return None) → o ≡ None
  no_result None h = refl
  no_result (Some k) h = absurd h

  a_result : (o : Option IntKind) (x : ExpressionTree) → ReturnFits o (t.Return (Some x)) → is_some o ≡ true
  a_result None x h = absurd h
  a_result (Some k) x h = refl

  abbrev Marks : List ℕ → Type 0
  Marks ls = Each (λ l. l < length f.labels) ls

  cases_good : (ss : List Scope) (xs : List ExpressionTree) → Each (KindsAgree nm) xs → Each (IsBound f.slots ss) xs →
      Each (Within (WritesNoConst nm)) xs → Each IsConstantValue xs → ListPrints f.slots 3 xs → Each (IsCase nm f ctx ss) xs
  cases_good ss [] k b c v p = tt
  cases_good ss (x ∷ xs) k b c v p = (
    record {
      good = expression_good ss 3 x (k.0) (b.0) (c.0) (constant_operand x ((v.0).constant)) (p.0);
      constant = v.0;
    },
    cases_good ss xs (k.1) (b.1) (c.1) (v.1) (p.1),
  )

  labels_of_switch : (s : SelectorTree) (c : Sections) → HasCases (t.Switch s c) → Each IsConstantValue (cases_among (switch_labels c))
  labels_of_switch s c h = by_kind (selector_kind s) h
    where
      by_kind : (o : Option IntKind) → IsSomeAnd o (λ k. AreLabels k (switch_labels c)) → Each IsConstantValue (cases_among (switch_labels c))
      by_kind None h = absurd h
      by_kind (Some k) h = h.constant

  mutual
    good_of : (x : Tree) (ss : List Scope) (k : ℕ) (around : Around) → EverywhereOf Fact x → ItemPrints f x → ItemIsBound f.slots ss x →
        Ordered k (gathered_of declared_slot x) (slots_of x) → Marks (gathered_of marked_label x) → f.params ≤ k
        → Exits around (breaks_of x) (continues_of x) → IsGood nm f ctx ss k around x
    good_of (t.Evaluate x) ss k around h p b o m low z =
        let ks = kinds_in (t.Evaluate x) h in
        expression_good ss 1 x (ks.kinds) b (consts_in (t.Evaluate x) h) (ks.values) p
    good_of (t.Return None) ss k around h p b o m low z = result ∙ no_result f.result (returns_in (t.Return None) h)
    good_of (t.Return (Some x)) ss k around h p b o m low z =
        let ks = kinds_in (t.Return (Some x)) h in (
          value_good ss 1 x (ks.kinds) b (consts_in (t.Return (Some x)) h) (ks.values) p,
          ap is_some result ∙
              a_result f.result x (returns_in (t.Return (Some x)) h),
        )
    good_of (t.If c a d) ss k around h p b o m low z =
        let x = t.If c a d in
        let ks = kinds_in x (h.0) in
        let r = split (gathered declared_slot a) (gathered declared_slot d) k (slots_in a) (slots_in d) (slots_counted a) o in (
          test_good ss c (ks.kinds) (b.0) (consts_in x (h.0)) (ks.values) (p.0),
          good_in a (inside ss) k around (h.1) (p.1) (b.1) (r.first)
              (each_first (λ l. l < length f.labels) (gathered marked_label a) (gathered marked_label d) m) low
              (exits_first around (breaks a) (continues a) (breaks d) (continues d) z),
          good_in d (inside ss) (k + slots_in a) around (h.2) (p.2) (b.2) (r.last)
              (each_last (λ l. l < length f.labels) (gathered marked_label a) (gathered marked_label d) m) (omega (arith, low))
              (exits_last around (breaks a) (continues a) (breaks d) (continues d) z),
        )
    good_of (t.While c a) ss k around h p b o m low z =
        let x = t.While c a in
        let ks = kinds_in x (h.0) in (
          test_good ss c (ks.kinds) (b.0) (consts_in x (h.0)) (ks.values) (p.0),
          good_in a (inside ss) k (in_loop around) (h.1) (p.1) (b.1) o m low (of_loop around (breaks a) (continues a)),
        )
    good_of (t.Do a c) ss k around h p b o m low z =
        let x = t.Do a c in
        let ks = kinds_in x (h.0) in (
          good_in a (inside ss) k (in_loop around) (h.1) (p.0) (b.1) o m low (of_loop around (breaks a) (continues a)),
          test_good ss c (ks.kinds) (b.0) (consts_in x (h.0)) (ks.values) (p.1),
        )
    good_of (t.For first c u a) ss k around h p b o m low z =
        let x = t.For first c u a in
        let ks = kinds_in x (h.0) in
        let cs = consts_in x (h.0) in
        let rs = behind_all f.slots (inside ss) first in
        let r = split (gathered declared_slot first) (gathered declared_slot a) k (slots_in first) (slots_in a) (slots_counted first) o in (
          start_good first (inside ss) k (form_in x (h.0)) (h.1) (p.0) (b.0) (r.first) low,
          optional_value rs c (ks.kinds.0) (b.1) (cs.0) (ks.values.0) (p.1),
          optional_dropped rs u (ks.kinds.1) (b.2) (cs.1) (ks.values.1) (p.2),
          good_in a (inside rs) (k + slots_in first) (in_loop around) (h.2) (p.3) (b.3) (r.last)
              (each_last (λ l. l < length f.labels) (gathered marked_label first) (gathered marked_label a) m) (omega (arith, low))
              (of_loop around (breaks a) (continues a)),
        )
    good_of (t.Switch s c) ss k around h p b o m low z =
        let x = t.Switch s c in
        let ks = kinds_in x (h.0) in
        let cs = consts_in x (h.0) in (
          selector_good ss s (ks.kinds.0) (b.0) (cs.0) (ks.values) (p.0),
          cases_in x (h.0),
          sections_good c (inside ss) k (in_switch around) (h.1) (p.1) (b.1) o m low
              (in_a_switch around (breaks_in c) (continues_in c) (z.continues_are)) (ks.kinds.1) (cs.1) ((form_in x (h.0)).0)
              (labels_of_switch s c (cases_in x (h.0))),
        )
    good_of (t.Block a) ss k around h p b o m low z = good_in a (inside ss) k around (h.1) p b o m low z
    good_of (t.Local j given) ss k around h p b o m low z =
        let q = here j k [] 0 o in
        let l = local_good ss j given h p b (let y = q.0 in omega (arith, low, y)) in (
          q.0,
          some_slot (slice_get f.slots k) (l.slot) (λ s. IsVariable nm ss k s given) (ap (slice_get f.slots) (sym (q.0)) ∙ l.is)
              (subst (λ i. IsVariable nm ss i (l.slot) given) (q.0) (l.good)),
        )
    good_of t.Break ss k around h p b o m low z = is_there (around.loop || around.switch) 1 (omega arith) (z.breaks_are)
    good_of t.Continue ss k around h p b o m low z = is_there around.loop 1 (omega arith) (z.continues_are)
    good_of (t.Goto l) ss k around h p b o m low z = record { name = p; number = labels l (form_in (t.Goto l) h) }
    good_of (t.Mark l) ss k around h p b o m low z = record { name = p; number = labels l (m.0) }
    good_of (t.Note bytes) ss k around h p b o m low z = p
    good_of _ ss k around h p b o m low z = absurd p

    pub good_in : (xs : Forest) (ss : List Scope) (k : ℕ) (around : Around) → Everywhere Fact xs → ItemsPrint f xs → AreBound f.slots ss xs →
        Ordered k (gathered declared_slot xs) (slots_in xs) → Marks (gathered marked_label xs) → f.params ≤ k
        → Exits around (breaks xs) (continues xs) → AreGood nm f ctx ss k around xs
    good_in Nil ss k around h p b o m low z = tt
    good_in (Then x xs) ss k around h p b o m low z =
        let r = split (gathered_of declared_slot x) (gathered declared_slot xs) k (slots_of x) (slots_in xs) (counted_of x) o in (
          good_of x ss k around (h.0) (p.0) (b.0) (r.first) (each_first (λ l. l < length f.labels) (gathered_of marked_label x)
              (gathered marked_label xs) m) low (exits_first around (breaks_of x) (continues_of x) (breaks xs) (continues xs) z),
          good_in xs (behind f.slots ss x) (k + slots_of x) around (h.1) (p.1) (b.1) (r.last)
              (each_last (λ l. l < length f.labels) (gathered_of marked_label x) (gathered marked_label xs) m) (omega (arith, low))
              (exits_last around (breaks_of x) (continues_of x) (breaks xs) (continues xs) z),
        )

    sections_good : (c : Sections) (ss : List Scope) (k : ℕ) (around : Around) → EverywhereIn Fact c → SectionsPrint f c →
        SectionsAreBound f.slots ss c → Ordered k (gathered_in declared_slot c) (slots_within c) → Marks (gathered_in marked_label c) → f.params ≤ k
        → Exits around (breaks_in c) (continues_in c) → CaseExpressions (KindsAgree nm) c → CaseExpressions (Within (WritesNoConst nm)) c →
        AreSections c → Each IsConstantValue (cases_among (switch_labels c)) → SectionsAreGood nm f ctx ss k around c
    sections_good NoSection ss k around h p b o m low z ks cs s v = tt
    sections_good (Section cases default a ends c) ss k around h p b o m low z ks cs s v =
        let r = split (gathered declared_slot a) (gathered_in declared_slot c) k (slots_in a) (slots_within c) (slots_counted a) o in
        let v1 = subst (Each IsConstantValue) (cases_both (section_labels cases default) (arrivals a ++ switch_labels c)) v in
        let own = subst (Each IsConstantValue) (section_cases cases default)
        (each_first IsConstantValue (cases_among (section_labels cases default)) (cases_among (arrivals a ++ switch_labels c)) v1) in
        let v2 = subst (Each IsConstantValue) (cases_both (arrivals a) (switch_labels c))
        (each_last IsConstantValue (cases_among (section_labels cases default)) (cases_among (arrivals a ++ switch_labels c)) v1) in
        let later = each_last IsConstantValue (cases_among (arrivals a)) (cases_among (switch_labels c)) v2 in (
          cases_good ss cases (ks.0) (b.0) (cs.0) own (p.0),
          s.0,
          good_in a ss k around (h.0) (p.1) (b.1) (r.first) (each_first (λ l. l < length f.labels) (gathered marked_label a)
              (gathered_in marked_label c) m) low (exits_first around (breaks a) (continues a) (breaks_in c) (continues_in c) z),
          s.1,
          s.2,
          sections_good c (behind_all f.slots ss a) (k + slots_in a) around (h.1) (p.2) (b.2) (r.last)
              (each_last (λ l. l < length f.labels) (gathered marked_label a) (gathered_in marked_label c) m) (omega (arith, low))
              (exits_last around (breaks a) (continues a) (breaks_in c) (continues_in c) z) (ks.1) (cs.1) (s.4) later,
        )
