-- Expressions that print do so where other names stand for their variables; and what the rewriting makes prints.
use Rattle.std.proofs.Common.{◌≡◌, ℕ, suc, ◌≤◌, ℤ, pos, negsuc, int_le, Bool, true, false, cond, List, [], ◌∷◌, Option, Some, None, slice_get, refl, sym, subst, arith}
use Rattle.std.specs.Prelude.{IfSome}
use Rattle.std.specs.List.{AllByRecursion}
use Rattle.std.proofs.lemmas.Int.{ints}
use Rattle.c_types.specs.declared.kinds.IntKind.{IntKind}
use Rattle.c_types.specs.declared.kinds.IntKind.TheVariants.{Char, UChar, Int, UInt, Long, ULong}
use Rattle.c_types.specs.Numbers.{promoted, least, IsInRange}
use Rattle.c_tree.specs.declared.tree.Slot.{Slot}
use Rattle.c_tree.specs.declared.tree.Function.{Function}
use Rattle.c_tree.specs.declared.tree.Home.{Home}
use Rattle.c_tree.specs.declared.tree.Home.TheVariants as H
use Rattle.c_tree.specs.declared.tree.UnaryOp.TheVariants.{Minus}
use Rattle.c_tree.specs.Cases.{selector_source, all_cases}
use Rattle.c_tree.specs.ExpressionTrees.{ExpressionTree, PlaceTree, NodeTree, Arguments, Typed, Var, Cell, Number, Character, EnumName, Text, Array, Read, Unary, Cast, Binary, Conditional, Assign, Update, Count, Comma, Call, NoArgument, Argument}
use Rattle.c_tree.specs.Numerals.{number, least_constant, constant}
use Rattle.c_tree.specs.TestTrees.{TestTree, Source, SelectorTree, Selects, Pick}
use Rattle.c_tree.specs.TextExpressions.{slot_name, home_name}
use Rattle.c_tree.specs.Trees.{Tree, Forest, Nil, Then, Sections, NoSection, Section, Evaluate, Return, If, While, Do, For, Switch, Block, Local, Break, Continue, Goto, Mark, Arm, Note}
use Rattle.c_tree.specs.Everywhere.{Everywhere, EverywhereOf, EverywhereIn}
use Rattle.c_tree.proofs.NumeralLaws.{constant_pos}
use Rattle.c_resolved_defs.specs.Within.{TestExpression}
use Rattle.c_resolved_defs.specs.PrintableExpressions.{IsName, IsConstant, ArgumentPrints, Prints, NodePrints, PlacePrints, AllPrint}
use Rattle.c_resolved_defs.specs.PrintableStatements.{FullPrints, OptionPrints, ListPrints, ValuesPrint, SlotPrints, TestPrints, SelectorPrints, FurtherPrint, StartPrints}
use Rattle.c_resolved_defs.specs.Spelling.{ItemIsSpelled, AreSpelled, SectionsAreSpelled}
use Rattle.c_resolved_defs.specs.Verbatims.{IsComment}
use Rattle.whole_laws.proofs.KindsFlat.{negated_in_kind}
use Rattle.whole_laws.proofs.Facts.{ItemHas}
use Rattle.whole_laws.proofs.ItemKinds.{each_join}

-- ---- other names

module _ (old new : List Slot) (name : (k : ℕ) → IsName (slot_name old k) → IsName (slot_name new k)) where
  home_over : (h : Home) → IsName (home_name old h) → IsName (home_name new h)
  home_over (H.Slot k) i = name k i
  home_over (H.Global m) i = i

  mutual
    pub prints_over : (e : ExpressionTree) → Prints old e → Prints new e
    prints_over (Typed kind node) h = node_over kind node h

    node_over : (kind : Option IntKind) (node : NodeTree) → NodePrints old kind node → NodePrints new kind node
    node_over kind (Number z) h = h
    node_over kind (Character b) h = h
    node_over kind (EnumName m z) h = h
    node_over kind (Text bs) h = absurd h
    node_over kind (Array a) h = home_over a h
    node_over kind (Read at) h = place_over at h
    node_over kind (Unary op a) h = prints_over a h
    node_over kind (Cast a) h = prints_over a h
    node_over kind (Binary op a b) h = (prints_over a h.0, prints_over b h.1)
    node_over kind (Conditional a b c) h = (prints_over a h.0, prints_over b h.1, prints_over c h.2)
    node_over kind (Assign at a) h = (place_over at h.0, prints_over a h.1)
    node_over kind (Update op at a) h = (place_over at h.0, prints_over a h.1)
    node_over kind (Count at up after) h = place_over at h
    node_over kind (Comma a b) h = (prints_over a h.0, prints_over b h.1)
    node_over kind (Call m xs) h = (h.0, arguments_over xs h.1)

    place_over : (at : PlaceTree) → PlacePrints old at → PlacePrints new at
    place_over (Var h) i = home_over h i
    place_over (Cell h a) i = (home_over h i.0, prints_over a i.1)

    arguments_over : (xs : Arguments) → AllPrint old xs → AllPrint new xs
    arguments_over NoArgument h = tt
    arguments_over (Argument x xs) h = (argument_over x h.0, arguments_over xs h.1)

    argument_over : (x : ExpressionTree) → ArgumentPrints (Prints old x) x → ArgumentPrints (Prints new x) x
    argument_over (Typed kind node) h = argument_node kind node h

    argument_node : (kind : Option IntKind) (node : NodeTree) → ArgumentPrints (NodePrints old kind node) (Typed kind node) →
        ArgumentPrints (NodePrints new kind node) (Typed kind node)
    argument_node kind (Text bs) h = h
    argument_node kind (Number z) h = h
    argument_node kind (Character b) h = h
    argument_node kind (EnumName m z) h = h
    argument_node kind (Array a) h = home_over a h
    argument_node kind (Read at) h = place_over at h
    argument_node kind (Unary op a) h = prints_over a h
    argument_node kind (Cast a) h = prints_over a h
    argument_node kind (Binary op a b) h = (prints_over a h.0, prints_over b h.1)
    argument_node kind (Conditional a b c) h = (prints_over a h.0, prints_over b h.1, prints_over c h.2)
    argument_node kind (Assign at a) h = (place_over at h.0, prints_over a h.1)
    argument_node kind (Update op at a) h = (place_over at h.0, prints_over a h.1)
    argument_node kind (Count at up after) h = place_over at h
    argument_node kind (Comma a b) h = (prints_over a h.0, prints_over b h.1)
    argument_node kind (Call m xs) h = (h.0, arguments_over xs h.1)

  -- ---- of a body

  abbrev A : ExpressionTree → Type 0
  A e = Prints new e

  abbrev pub Returns : Option ExpressionTree → Type 0
  Returns o = IfSome o A

  abbrev pub HasPrints : Tree → Type 0
  HasPrints x = ItemHas A A A Returns IsComment x

  full_over : (n : ℕ) (e : ExpressionTree) → FullPrints old n e → A e
  full_over n e h = prints_over e h.prints

  option_over : (o : Option ExpressionTree) → OptionPrints old o → IfSome o A
  option_over None h = tt
  option_over (Some e) h = full_over 1 e h

  list_over : (n : ℕ) (es : List ExpressionTree) → ListPrints old n es → AllByRecursion A es
  list_over n [] h = tt
  list_over n (e ∷ es) h = (full_over n e h.0, list_over n es h.1)

  values_over : (c : Option ℕ) (o : Option (List ExpressionTree)) → ValuesPrint old c o → IfSome o (AllByRecursion A)
  values_over c None h = tt
  values_over None (Some []) h = absurd h
  values_over None (Some (e ∷ [])) h = (full_over 2 e h, tt)
  values_over None (Some (e ∷ d ∷ es)) h = absurd h
  values_over (Some n) (Some []) h = absurd h
  values_over (Some n) (Some (e ∷ es)) h = list_over 2 (e ∷ es) h

  slot_over : (s : Option Slot) (o : Option (List ExpressionTree)) → SlotPrints old s o → IfSome o (AllByRecursion A)
  slot_over None o h = absurd h
  slot_over (Some s) o h = values_over s.cells o h.values

  test_over : (t : TestTree) → TestPrints old t → TestExpression A t
  test_over (Source e) h = full_over 1 e h
  test_over _ h = absurd h

  selector_over : (s : SelectorTree) → SelectorPrints old s → A (selector_source s)
  selector_over (Selects e) h = full_over 1 e h
  selector_over (Pick l n s) h = absurd h

  further_over : (a : Forest) → FurtherPrint old a → Everywhere HasPrints a
  further_over Nil h = tt
  further_over (Then (Local k o) a) h = (slot_over (slice_get old k) o h.0, further_over a h.1)
  further_over (Then _ a) h = absurd h

  start_over : (a : Forest) → StartPrints old a → Everywhere HasPrints a
  start_over Nil h = tt
  start_over (Then (Evaluate e) Nil) h = (full_over 1 e h, tt)
  start_over (Then (Local k o) a) h = (slot_over (slice_get old k) o h.0, further_over a h.1)
  start_over _ h = absurd h

-- the facts of a body that is spelled
module _ (f : Function) (new : List Slot) (name : (k : ℕ) → IsName (slot_name f.slots k) → IsName (slot_name new k)) where
  abbrev Q : Tree → Type 0
  Q x = HasPrints f.slots new name x

  mutual
    pub spelled_prints : (a : Forest) → AreSpelled f a → Everywhere Q a
    spelled_prints Nil h = tt
    spelled_prints (Then x a) h = (item_prints x h.0, spelled_prints a h.1)

    item_prints : (x : Tree) → ItemIsSpelled f x → EverywhereOf Q x
    item_prints (Evaluate e) h = full_over f.slots new name 1 e h
    item_prints (Return e) h = option_over f.slots new name e h
    item_prints (If t a b) h = (test_over f.slots new name t h.0, spelled_prints a h.1, spelled_prints b h.2)
    item_prints (While t a) h = (test_over f.slots new name t h.0, spelled_prints a h.1)
    item_prints (Do a t) h = (test_over f.slots new name t h.1, spelled_prints a h.0)
    item_prints (For first t u a) h = (
      (option_over f.slots new name t h.1, option_over f.slots new name u h.2),
      start_over f.slots new name first h.0,
      spelled_prints a h.3,
    )
    item_prints (Switch s c) h = let r = sections_print c h.1 in ((selector_over f.slots new name s h.0, r.1), r.0)
    item_prints (Block a) h = (tt, spelled_prints a h)
    item_prints (Local k o) h = slot_over f.slots new name (slice_get f.slots k) o h
    item_prints (Note bs) h = h
    item_prints Break h = tt
    item_prints Continue h = tt
    item_prints (Goto l) h = tt
    item_prints (Mark l) h = tt
    item_prints (Arm l e) h = absurd h
    item_prints _ h = tt

    sections_print : (c : Sections) → SectionsAreSpelled f c → EverywhereIn Q c × AllByRecursion (λ e. Prints new e) (all_cases c)
    sections_print NoSection h = (tt, tt)
    sections_print (Section cases default a ends c) h = let r = sections_print c h.2 in
        ((spelled_prints a h.1, r.0), each_join (λ e. Prints new e) cases (all_cases c) (list_over f.slots new name 3 cases h.0) r.1)

-- ---- constants

number_prints : (k : IntKind) (n : ℕ) → promoted k ≡ k → IsInRange k (pos n) → IsConstant (Some k) (pos n)
number_prints Char n e r = cc
number_prints UChar n e r = cc
number_prints Int n e r = let a = r.to_greatest in let b : n ≤ 2147483647 = grind (arith, ints, a) in omega (arith, b)
number_prints UInt n e r = let a = r.to_greatest in let b : n ≤ 4294967295 = grind (arith, ints, a) in omega (arith, b)
number_prints Long n e r = let a = r.to_greatest in let b : n ≤ 9223372036854775807 = grind (arith, ints, a) in omega (arith, b)
number_prints ULong n e r = let a = r.to_greatest in let b : n ≤ 18446744073709551615 = grind (arith, ints, a) in omega (arith, b)

least_prints : (slots : List Slot) (k : IntKind) → promoted k ≡ k → Prints slots (least_constant k)
least_prints slots Char e = cc
least_prints slots UChar e = cc
least_prints slots _ e = (omega arith, omega arith)

pub constant_prints : (slots : List Slot) (k : IntKind) (z : ℤ) → promoted k ≡ k → IsInRange k z → Prints slots (constant k z)
constant_prints slots k (pos n) e r = subst (Prints slots) (sym (constant_pos k n)) (number_prints k n e r)
constant_prints slots k (negsuc n) e r = at (int_le (negsuc n) (least k)) refl
  where
    at : (b : Bool) → int_le (negsuc n) (least k) ≡ b → Prints slots (cond b (least_constant k) (Typed (Some k) (Unary Minus (number k (pos (suc n))))))
    at true h = least_prints slots k e
    at false h = number_prints k (suc n) e (negated_in_kind k n r h)
