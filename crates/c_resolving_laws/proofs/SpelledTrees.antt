-- Items that print, within the limits, are spelled as C spells them.
use Rattle.std.proofs.Common.{ℕ, zero, suc, ◌+◌, ◌≤◌, ◌<◌, Bool, true, false, cond, List, [], ◌∷◌, ◌++◌, length, Option, Some, None, ◌≡◌, refl, subst, slice_get, arith, unwrap_or}
use Rattle.std.specs.Prelude.{IfSome, IsSomeAnd, max, nat_lt}
use Rattle.std.proofs.lemmas.Bool.Decides.{nat_tests}
use Rattle.c_types.specs.declared.kinds.ArithOp.{ArithOp}
use Rattle.c_types.specs.declared.kinds.ArithOp.TheVariants as A
use Rattle.c_tree.specs.declared.tree.BinaryOp.{BinaryOp}
use Rattle.c_tree.specs.declared.tree.BinaryOp.TheVariants as O
use Rattle.c_tree.specs.declared.tree.Slot.{Slot}
use Rattle.c_tree.specs.declared.tree.Function.{Function}
use Rattle.c_tree.specs.Everywhere.{Everywhere, EverywhereOf, EverywhereIn}
use Rattle.c_tree.specs.ExpressionTrees.{ExpressionTree, Typed}
use Rattle.c_tree.specs.ExpressionTrees as e
use Rattle.c_tree.specs.InRange.{IsSourceTest, IsSourceSelector}
use Rattle.c_tree.specs.TestTrees.{TestTree, Source, SelectorTree, Selects, Pick}
use Rattle.c_tree.specs.TextExpressions.{binary_level}
use Rattle.c_tree.specs.Cases.{selector_source}
use Rattle.c_tree.specs.Trees.{Tree, Forest, Nil, Then, Sections, NoSection, Section, Evaluate, Return, If, While, Do, For, Switch, Block, Local, Break, Continue, Goto, Mark, Arm, Leap, Land, Arrival, Note}
use Rattle.c_resolved_defs.specs.Files.{IsLength, AreInitialisers, SlotIsInitialised}
use Rattle.c_resolved_defs.specs.Form.{gathered, gathered_of, gathered_in, marked_label, numbers_from, AreAlike, IsFirstPart, HasSourceForm}
use Rattle.c_resolved_defs.specs.Limits.{most_of, most_if, most_listed, most_tested, most_counted, most_counted_of, most_counted_in}
use Rattle.c_resolved_defs.specs.PrintableExpressions.{IsName, Prints, bracket_count, level_of, counted, counted_at}
use Rattle.c_resolved_defs.specs.PrintableStatements.{most, FullPrints, OptionPrints, ListPrints, LengthPrints, ValuesPrint, SlotPrints, TestPrints, SelectorPrints, FurtherPrint, StartPrints}
use Rattle.c_resolved_defs.specs.Resolved.{IsInitialised}
use Rattle.c_resolved_defs.specs.Spelling.{ItemIsSpelled, AreSpelled, SectionsAreSpelled}
use Rattle.c_resolved_defs.specs.Within.{Each, TestExpression, CaseExpressions}
use Rattle.c_resolving_laws.proofs.PrintedItems.{IsGivenList, IsNamedSlot, PrintsItem}

-- ---- labels

-- a label is one of these
abbrev pub MarkIs : (ℕ → Type 0) → Tree → Type 0
MarkIs Q (Mark l) = Q l
MarkIs Q _ = Unit {0}

module _ (Q : ℕ → Type 0) where
  front : (xs ys : List ℕ) → Each Q (xs ++ ys) → Each Q xs
  front [] ys h = tt
  front (x ∷ xs) ys h = (h.0, front xs ys h.1)

  back : (xs ys : List ℕ) → Each Q (xs ++ ys) → Each Q ys
  back [] ys h = h
  back (x ∷ xs) ys h = back xs ys h.1

  mutual
    pub marks_are : (a : Forest) → Each Q (gathered marked_label a) → Everywhere (MarkIs Q) a
    marks_are Nil h = tt
    marks_are (Then x a) h = (
      mark_is x (front (gathered_of marked_label x) (gathered marked_label a) h),
      marks_are a (back (gathered_of marked_label x) (gathered marked_label a) h),
    )

    mark_is : (x : Tree) → Each Q (gathered_of marked_label x) → EverywhereOf (MarkIs Q) x
    mark_is (If t a b) h = (
      tt,
      marks_are a (front (gathered marked_label a) (gathered marked_label b) h),
      marks_are b (back (gathered marked_label a) (gathered marked_label b) h),
    )
    mark_is (While t a) h = (tt, marks_are a h)
    mark_is (Do a t) h = (tt, marks_are a h)
    mark_is (For g t u a) h = (
      tt,
      marks_are g (front (gathered marked_label g) (gathered marked_label a) h),
      marks_are a (back (gathered marked_label g) (gathered marked_label a) h),
    )
    mark_is (Switch s c) h = (tt, marks_in c h)
    mark_is (Block a) h = (tt, marks_are a h)
    mark_is (Evaluate e) h = tt
    mark_is (Return e) h = tt
    mark_is (Local x es) h = tt
    mark_is Break h = tt
    mark_is Continue h = tt
    mark_is (Goto l) h = tt
    mark_is (Mark l) h = h.0
    mark_is _ h = tt

    marks_in : (c : Sections) → Each Q (gathered_in marked_label c) → EverywhereIn (MarkIs Q) c
    marks_in NoSection h = tt
    marks_in (Section cases default a ends c) h = (
      marks_are a (front (gathered marked_label a) (gathered_in marked_label c) h),
      marks_in c
          (back (gathered marked_label a) (gathered_in marked_label c) h),
    )

numbers_below : (n i : ℕ) → Each (λ l. l < i + n) (numbers_from i n)
numbers_below zero i = tt
numbers_below (suc n) i = (omega arith, subst (λ k. Each (λ l. l < k) (numbers_from (suc i) n)) (omega arith) (numbers_below n (suc i)))

none_before : (n : ℕ) → 0 + n ≡ n
none_before n = omega arith

pub numbers_all : (n : ℕ) → Each (λ l. l < n) (numbers_from 0 n)
numbers_all n = subst (λ k. Each (λ l. l < k) (numbers_from 0 n)) (none_before n) (numbers_below n 0)

name_at : (ls : List (List ℕ)) (l : ℕ) → Each IsName ls → l < length ls → IsName (unwrap_or (slice_get ls l) [])
name_at [] l h k = absurd (omega arith)
name_at (m ∷ ls) zero h k = h.0
name_at (m ∷ ls) (suc l) h k = name_at ls l h.1 (omega arith)

-- ---- full expressions

arith_above : (op : ArithOp) → 1 ≤ binary_level (O.Arith op)
arith_above A.Add = omega arith
arith_above A.Sub = omega arith
arith_above A.Mul = omega arith
arith_above A.Div = omega arith
arith_above A.Rem = omega arith
arith_above A.Shl = omega arith
arith_above A.Shr = omega arith
arith_above A.And = omega arith
arith_above A.Or = omega arith
arith_above A.Xor = omega arith

binary_above : (op : BinaryOp) → 1 ≤ binary_level op
binary_above (O.Arith op) = arith_above op
binary_above _ = omega arith

level_above : (x : ExpressionTree) → 1 ≤ level_of x
level_above (Typed kind (e.Number n)) = omega arith
level_above (Typed kind (e.Character b)) = omega arith
level_above (Typed kind (e.EnumName name n)) = omega arith
level_above (Typed kind (e.Text bytes)) = omega arith
level_above (Typed kind (e.Array home)) = omega arith
level_above (Typed kind (e.Read p)) = omega arith
level_above (Typed kind (e.Unary op a)) = omega arith
level_above (Typed kind (e.Cast a)) = omega arith
level_above (Typed kind (e.Binary op a b)) = binary_above op
level_above (Typed kind (e.Conditional a b c)) = omega arith
level_above (Typed kind (e.Assign p a)) = omega arith
level_above (Typed kind (e.Update op p a)) = omega arith
level_above (Typed kind (e.Count p up after)) = omega arith
level_above (Typed kind (e.Comma a b)) = omega arith
level_above (Typed kind (e.Call name xs)) = omega arith

none_round : (l : ℕ) → 1 ≤ l → bracket_count l 1 ≡ 0
none_round l h = by (nat_lt l 1) refl
  where
    by : (b : Bool) → nat_lt l 1 ≡ b → ◌≡◌ {A = ℕ} (cond b 1 0) 0
    by false e = refl
    by true e = absurd (grind (arith, nat_tests))

module _ (slots : List Slot) where
  full : (x : ExpressionTree) → Prints slots x → counted x ≤ most → FullPrints slots 1 x
  full x p h = record { prints = p; few = let z = none_round (level_of x) (level_above x) in omega arith }

  option : (o : Option ExpressionTree) → IfSome o (Prints slots) → most_if o ≤ most → OptionPrints slots o
  option None p h = tt
  option (Some x) p h = full x p h

  first_most : (a b : ℕ) → max a b ≤ most → a ≤ most
  first_most a b h = omega arith

  second_most : (a b : ℕ) → max a b ≤ most → b ≤ most
  second_most a b h = omega arith

  listed : (need : ℕ) (xs : List ExpressionTree) → Each (Prints slots) xs → most_of need xs ≤ most → ListPrints slots need xs
  listed need [] p h = tt
  listed need (x ∷ xs) p h = (
    record { prints = p.0; few = first_most (counted_at need x) (most_of need xs) h },
    listed need xs p.1 (second_most (counted_at need x) (most_of need xs) h),
  )

  test : (t : TestTree) → IsSourceTest t → TestExpression (Prints slots) t → most_tested t ≤ most → TestPrints slots t
  test (Source x) s p h = full x p h
  test _ s p h = absurd s

  selector : (s : SelectorTree) → IsSourceSelector s → Prints slots (selector_source s) → counted (selector_source s) ≤ most → SelectorPrints slots s
  selector (Selects x) s p h = full x p h
  selector (Pick l k x) s p h = absurd s

  -- ---- declarations

  pub length_prints : (o : Option ℕ) → IsLength o → LengthPrints o
  length_prints None h = tt
  length_prints (Some n) h = let k = h.1 in omega arith

  pub values_print : (limit : ℕ) (cells : Option ℕ) (given : Option (List ExpressionTree)) → IfSome given (Each (Prints slots)) →
      IfSome given (AreInitialisers limit cells) → IfSome given (IsGivenList slots) → most_listed given ≤ most → ValuesPrint slots cells given
  values_print limit cells None p i g h = tt
  values_print limit cells (Some []) p i g h = absurd (omega arith)
  values_print limit None (Some (x ∷ [])) p i g h = record { prints = p.0; few = first_most (counted_at 2 x) 0 h }
  values_print limit None (Some (x ∷ y ∷ xs)) p i g h = absurd (omega arith)
  values_print limit (Some n) (Some (x ∷ xs)) p i g h = listed 2 (x ∷ xs) p h

  declared : (o : Option Slot) (given : Option (List ExpressionTree)) → IsSomeAnd o (IsNamedSlot slots) → SlotIsInitialised o given →
      IfSome given (Each (Prints slots)) → IfSome given (IsGivenList slots) → most_listed given ≤ most → SlotPrints slots o given
  declared None given n i p g h = absurd n
  declared (Some s) given n i p g h = record { named = n.named; length = length_prints s.cells n.length; values = values_print 1024 s.cells given p i g h }

-- ---- items

module _ (f : Function) (names : Each IsName f.labels) where
  -- what is known of an item
  pub record Good (x : Tree) : Type 0 where
    pub prints : PrintsItem f.slots x
    pub initialised : IsInitialised f.slots x
    pub form : HasSourceForm f x
    pub mark : MarkIs (λ l. l < length f.labels) x

  local_spelled : (k : ℕ) (given : Option (List ExpressionTree)) → Good (Local k given) → most_listed given ≤ most →
      SlotPrints f.slots (slice_get f.slots k) given
  local_spelled k given g h = declared f.slots (slice_get f.slots k) given g.prints.1.0 g.initialised g.prints.0 g.prints.1.1 h

  further : (s : Slot) (a : Forest) → AreAlike f.slots s a → Everywhere Good a → most_counted a ≤ most → FurtherPrint f.slots a
  further s Nil q g h = tt
  further s (Then (Local k given) a) q g h = (
    local_spelled k given g.0 (first_most f.slots (most_listed given) (most_counted a) h),
    further s a q.1
        g.1 (second_most f.slots (most_listed given) (most_counted a) h),
  )
  further s (Then _ a) q g h = absurd q

  start : (a : Forest) → IsFirstPart f.slots a → Everywhere Good a → most_counted a ≤ most → StartPrints f.slots a
  start Nil q g h = tt
  start (Then (Evaluate x) Nil) q g h = full f.slots x g.0.prints.0 (first_most f.slots (counted x) 0 h)
  start (Then (Local k given) a) q g h = (local_spelled k given g.0 (first_most f.slots (most_listed given) (most_counted a) h), rest (slice_get f.slots k) q)
    where
      rest : (o : Option Slot) → IsSomeAnd o (λ s. AreAlike f.slots s a) → FurtherPrint f.slots a
      rest None q = absurd q
      rest (Some s) q = further s a q g.1 (second_most f.slots (most_listed given) (most_counted a) h)
  start (Then _ _) q g h = absurd q

  abbrev up : (a b : ℕ) → max a b ≤ most → a ≤ most
  up = first_most f.slots

  abbrev down : (a b : ℕ) → max a b ≤ most → b ≤ most
  down = second_most f.slots

  mutual
    pub are_spelled : (a : Forest) → Everywhere Good a → most_counted a ≤ most → AreSpelled f a
    are_spelled Nil g h = tt
    are_spelled (Then x a) g h = (is_spelled x g.0 (up (most_counted_of x) (most_counted a) h), are_spelled a g.1 (down (most_counted_of x) (most_counted a) h))

    is_spelled : (x : Tree) → EverywhereOf Good x → most_counted_of x ≤ most → ItemIsSpelled f x
    is_spelled (If t a b) g h =
        let l = down (most_tested t) (max (most_counted a) (most_counted b)) h in (
          test f.slots t g.0.form g.0.prints.0 (up (most_tested t) (max (most_counted a) (most_counted b)) h),
          are_spelled a g.1 (up (most_counted a) (most_counted b) l),
          are_spelled b g.2 (down (most_counted a) (most_counted b) l),
        )
    is_spelled (While t a) g h = (
      test f.slots t g.0.form g.0.prints.0 (up (most_tested t) (most_counted a) h),
      are_spelled a g.1 (down (most_tested t) (most_counted a) h),
    )
    is_spelled (Do a t) g h = (
      are_spelled a g.1 (up (most_counted a) (most_tested t) h),
      test f.slots t g.0.form g.0.prints.0 (down (most_counted a) (most_tested t) h),
    )
    is_spelled (For first t u a) g h =
        let r = max (most_if t) (max (most_if u) (most_counted a)) in
        let s = max (most_if u) (most_counted a) in
        let k = down (most_counted first) r h in
        let l = down (most_if t) s k in (
          start first g.0.form g.1 (up (most_counted first) r h),
          option f.slots t g.0.prints.0.0 (up (most_if t) s k),
          option f.slots u g.0.prints.0.1 (up (most_if u) (most_counted a) l),
          are_spelled a g.2 (down (most_if u) (most_counted a) l),
        )
    is_spelled (Switch s c) g h = (
      selector f.slots s g.0.form.1 g.0.prints.0.0 (up (counted (selector_source s)) (most_counted_in c) h),
      sections_spelled c g.0.prints.0.1 g.1 (down (counted (selector_source s)) (most_counted_in c) h),
    )
    is_spelled (Block a) g h = are_spelled a g.1 h
    is_spelled (Evaluate x) g h = full f.slots x g.prints.0 h
    is_spelled (Return o) g h = option f.slots o g.prints.0 h
    is_spelled (Local k given) g h = local_spelled k given g h
    is_spelled Break g h = tt
    is_spelled Continue g h = tt
    is_spelled (Goto l) g h = name_at f.labels l names g.form
    is_spelled (Mark l) g h = name_at f.labels l names g.mark
    is_spelled (Arm l o) g h = absurd g.form
    is_spelled (Leap l) g h = absurd g.form
    is_spelled (Land l) g h = absurd g.form
    is_spelled (Arrival None) g h = tt
    is_spelled (Arrival (Some x)) g h = record { prints = g.prints.0; few = h }
    is_spelled (Note bs) g h = g.prints.1

    sections_spelled : (c : Sections) → CaseExpressions (Prints f.slots) c → EverywhereIn Good c → most_counted_in c ≤ most → SectionsAreSpelled f c
    sections_spelled NoSection p g h = tt
    sections_spelled (Section cases default a ends c) p g h =
        let l = down (most_of 3 cases) (max (most_counted a) (most_counted_in c)) h in (
          listed f.slots 3 cases p.0 (up (most_of 3 cases) (max (most_counted a) (most_counted_in c)) h),
          are_spelled a g.0 (up (most_counted a) (most_counted_in c) l),
          sections_spelled c p.1 g.1 (down (most_counted a) (most_counted_in c) l),
        )
