-- The expressions of a body that is spelled print within the limits where other names stand for their variables.
use Rattle.std.proofs.Common.{◌≡◌, ℕ, zero, suc, ◌≤◌, arith, cond, List, [], ◌∷◌, Option, Some, None, slice_get, sym, ap, subst}
use Rattle.std.specs.Prelude.{IfSome}
use Rattle.std.specs.List.{AllByRecursion}
use Rattle.std.proofs.lemmas.Bool.{lt-ltb, le-ltb}
use Rattle.c_tree.specs.declared.tree.Function.{Function}
use Rattle.c_tree.specs.declared.tree.Slot.{Slot}
use Rattle.c_tree.specs.Cases.{selector_source, all_cases}
use Rattle.c_tree.specs.ExpressionTrees.{ExpressionTree}
use Rattle.c_tree.specs.TestTrees.{TestTree, Source, SelectorTree, Selects, Pick}
use Rattle.c_tree.specs.TextExpressions.{slot_name}
use Rattle.c_tree.specs.Trees.{Tree, Forest, Nil, Then, Sections, NoSection, Section, Evaluate, Return, If, While, Do, For, Switch, Block, Local, Break, Continue, Goto, Mark, Arm, Note}
use Rattle.c_tree.specs.Everywhere.{Everywhere, EverywhereOf, EverywhereIn}
use Rattle.c_resolved_defs.specs.Within.{TestExpression}
use Rattle.c_resolved_defs.specs.PrintableExpressions.{IsName, bracket_count, level_of}
use Rattle.c_resolved_defs.specs.PrintableStatements.{FullPrints, OptionPrints, ListPrints, ValuesPrint, SlotPrints, TestPrints, SelectorPrints, FurtherPrint, StartPrints}
use Rattle.c_resolved_defs.specs.Spelling.{ItemIsSpelled, AreSpelled, SectionsAreSpelled}
use Rattle.c_resolved_defs.specs.Verbatims.{IsComment}
use Rattle.whole_laws.proofs.Facts.{ItemHas}
use Rattle.whole_laws.proofs.PrintsOver.{prints_over}
use Rattle.whole_laws.proofs.Wrappers.{bracket_most}

-- where the grammar needs less, no bracket comes in addition
fewer : (l n : ℕ) → 1 ≤ n → bracket_count l 1 ≤ bracket_count l n
fewer zero n h = subst (λ b. bracket_count 0 1 ≤ cond b 1 0) (sym (lt-ltb 0 n (omega (arith, h)))) (bracket_most 0 1)
fewer (suc l) n h = let e : bracket_count (suc l) 1 ≡ 0 = ap {B = ℕ} (λ b. cond b 1 0) (le-ltb (suc l) 1 (omega arith)) in omega (arith, e)

module _ (old new : List Slot) (name : (k : ℕ) → IsName (slot_name old k) → IsName (slot_name new k)) where
  -- a full expression
  abbrev pub A : ExpressionTree → Type 0
  A e = FullPrints new 1 e

  abbrev pub C : ExpressionTree → Type 0
  C e = Unit {0}

  abbrev pub HasPrints : Tree → Type 0
  HasPrints x = ItemHas A A C (OptionPrints new) IsComment x

  full_over : (n : ℕ) → 1 ≤ n → (e : ExpressionTree) → FullPrints old n e → A e
  full_over n i e h = let f = h.few in let b = fewer (level_of e) n i in record { prints = prints_over old new name e h.prints; few = omega (arith, f, b) }

  option_over : (o : Option ExpressionTree) → OptionPrints old o → OptionPrints new o
  option_over None h = tt
  option_over (Some e) h = full_over 1 (omega arith) e h

  some_over : (o : Option ExpressionTree) → OptionPrints old o → IfSome o A
  some_over None h = tt
  some_over (Some e) h = full_over 1 (omega arith) e h

  list_over : (es : List ExpressionTree) → ListPrints old 2 es → AllByRecursion A es
  list_over [] h = tt
  list_over (e ∷ es) h = (full_over 2 (omega arith) e h.0, list_over es h.1)

  values_over : (c : Option ℕ) (o : Option (List ExpressionTree)) → ValuesPrint old c o → IfSome o (AllByRecursion A)
  values_over c None h = tt
  values_over None (Some []) h = absurd h
  values_over None (Some (e ∷ [])) h = (full_over 2 (omega arith) e h, tt)
  values_over None (Some (e ∷ d ∷ es)) h = absurd h
  values_over (Some n) (Some []) h = absurd h
  values_over (Some n) (Some (e ∷ es)) h = list_over (e ∷ es) h

  slot_over : (s : Option Slot) (o : Option (List ExpressionTree)) → SlotPrints old s o → IfSome o (AllByRecursion A)
  slot_over None o h = absurd h
  slot_over (Some s) o h = values_over s.cells o h.values

  test_over : (t : TestTree) → TestPrints old t → TestExpression A t
  test_over (Source e) h = full_over 1 (omega arith) e h
  test_over _ h = absurd h

  selector_over : (s : SelectorTree) → SelectorPrints old s → A (selector_source s)
  selector_over (Selects e) h = full_over 1 (omega arith) e h
  selector_over (Pick l n s) h = absurd h

  no_cases : (es : List ExpressionTree) → AllByRecursion C es
  no_cases [] = tt
  no_cases (e ∷ es) = (tt, no_cases es)

  further_over : (a : Forest) → FurtherPrint old a → Everywhere HasPrints a
  further_over Nil h = tt
  further_over (Then (Local k o) a) h = (slot_over (slice_get old k) o h.0, further_over a h.1)
  further_over (Then _ a) h = absurd h

  start_over : (a : Forest) → StartPrints old a → Everywhere HasPrints a
  start_over Nil h = tt
  start_over (Then (Evaluate e) Nil) h = (full_over 1 (omega arith) e h, tt)
  start_over (Then (Local k o) a) h = (slot_over (slice_get old k) o h.0, further_over a h.1)
  start_over _ h = absurd h

module _ (f : Function) (new : List Slot) (name : (k : ℕ) → IsName (slot_name f.slots k) → IsName (slot_name new k)) where
  abbrev Q : Tree → Type 0
  Q x = HasPrints f.slots new name x

  abbrev test : (t : TestTree) → TestPrints f.slots t → TestExpression (A f.slots new name) t
  test t h = test_over f.slots new name t h

  mutual
    pub source_prints : (a : Forest) → AreSpelled f a → Everywhere Q a
    source_prints Nil h = tt
    source_prints (Then x a) h = (item_prints x h.0, source_prints a h.1)

    item_prints : (x : Tree) → ItemIsSpelled f x → EverywhereOf Q x
    item_prints (Evaluate e) h = full_over f.slots new name 1 (omega arith) e h
    item_prints (Return e) h = option_over f.slots new name e h
    item_prints (If t a b) h = (test t h.0, source_prints a h.1, source_prints b h.2)
    item_prints (While t a) h = (test t h.0, source_prints a h.1)
    item_prints (Do a t) h = (test t h.1, source_prints a h.0)
    item_prints (For first t u a) h = (
      (some_over f.slots new name t h.1, some_over f.slots new name u h.2),
      start_over f.slots new name first h.0,
      source_prints a h.3,
    )
    item_prints (Switch s c) h = ((selector_over f.slots new name s h.0, no_cases f.slots new name (all_cases c)), sections_print c h.1)
    item_prints (Block a) h = (tt, source_prints a h)
    item_prints (Local k o) h = slot_over f.slots new name (slice_get f.slots k) o h
    item_prints (Note bs) h = h
    item_prints Break h = tt
    item_prints Continue h = tt
    item_prints (Goto l) h = tt
    item_prints (Mark l) h = tt
    item_prints (Arm l e) h = absurd h
    item_prints _ h = tt

    sections_print : (c : Sections) → SectionsAreSpelled f c → EverywhereIn Q c
    sections_print NoSection h = tt
    sections_print (Section cases default a ends c) h = (source_prints a h.1, sections_print c h.2)
