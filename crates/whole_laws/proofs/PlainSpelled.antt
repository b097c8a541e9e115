-- A function of the plain form is spelled, and within the limits of a text.
use Rattle.std.proofs.Common.{◌≡◌, ℕ, ◌≤◌, false, cond, List, [], ◌∷◌, Option, Some, None, slice_get, refl, sym, ap, subst, arith}
use Rattle.std.specs.Prelude.{IfSome, max, nat_lt}
use Rattle.std.specs.List.{AllByRecursion}
use Rattle.c_types.specs.declared.kinds.ArithOp.TheVariants.{Add, Sub, Mul, Div, Rem, Shl, Shr, And, Or, Xor}
use Rattle.c_tree.specs.declared.tree.BinaryOp.{BinaryOp}
use Rattle.c_tree.specs.declared.tree.BinaryOp.TheVariants.{Arith, Less}
use Rattle.c_tree.specs.declared.tree.Slot.{Slot}
use Rattle.c_tree.specs.declared.tree.Function.{Function}
use Rattle.c_tree.specs.Cases.{selector_source, all_cases}
use Rattle.c_tree.specs.ExpressionTrees.{ExpressionTree, Typed, Number, Character, EnumName, Text, Array, Read, Unary, Cast, Binary, Conditional, Assign, Update, Count, Comma, Call}
use Rattle.c_tree.specs.TestTrees.{TestTree, Source as SourceTest, SelectorTree, Selects, Pick}
use Rattle.c_tree.specs.TextExpressions.{binary_level}
use Rattle.c_tree.specs.Trees.{Tree, Forest, Nil, Then, Sections, NoSection, Section, Evaluate, Return, If, While, Do, For, Switch, Block, Local, Break, Continue, Note}
use Rattle.c_tree.specs.Everywhere.{Everywhere, EverywhereOf, EverywhereIn}
use Rattle.whole_laws.proofs.Unlabelled.{IsPlainItem}
use Rattle.c_resolved_defs.specs.Within.{TestExpression}
use Rattle.c_resolved_defs.specs.Limits.{most_of, most_if, most_tested, most_counted, most_counted_of, most_counted_in}
use Rattle.c_resolved_defs.specs.PrintableExpressions.{Prints, level_of, bracket_count, counted, counted_at}
use Rattle.c_resolved_defs.specs.PrintableStatements.{most, FullPrints, OptionPrints, ListPrints, SlotPrints, TestPrints, SelectorPrints, StartPrints}
use Rattle.c_resolved_defs.specs.Spelling.{ItemIsSpelled, AreSpelled, SectionsAreSpelled}
use Rattle.c_resolved_defs.specs.Verbatims.{IsComment}
use Rattle.whole_laws.proofs.Facts.{ItemHas}
use Rattle.whole_laws.proofs.ItemKinds.{each_front, each_back}
use Rattle.whole_laws.proofs.PlainLengths.{OfLocals}

-- ---- counted tokens

of_max : (a b c : ℕ) → max a b ≤ c → (a ≤ c) × (b ≤ c)
of_max a b c h = (omega (arith, h), omega (arith, h))

binary_above : (op : BinaryOp) → nat_lt (binary_level op) 1 ≡ false
binary_above (Arith Add) = refl
binary_above (Arith Sub) = refl
binary_above (Arith Mul) = refl
binary_above (Arith Div) = refl
binary_above (Arith Rem) = refl
binary_above (Arith Shl) = refl
binary_above (Arith Shr) = refl
binary_above (Arith And) = refl
binary_above (Arith Or) = refl
binary_above (Arith Xor) = refl
binary_above Less = refl
binary_above _ = refl

level_above : (e : ExpressionTree) → nat_lt (level_of e) 1 ≡ false
level_above (Typed kind (Binary op a b)) = binary_above op
level_above (Typed kind (Conditional a b c)) = refl
level_above (Typed kind (Assign at a)) = refl
level_above (Typed kind (Update op at a)) = refl
level_above (Typed kind (Comma a b)) = refl
level_above (Typed kind (Number z)) = refl
level_above (Typed kind (Character b)) = refl
level_above (Typed kind (EnumName m z)) = refl
level_above (Typed kind (Text bs)) = refl
level_above (Typed kind (Array a)) = refl
level_above (Typed kind (Read at)) = refl
level_above (Typed kind (Unary op a)) = refl
level_above (Typed kind (Cast a)) = refl
level_above (Typed kind (Count at up after)) = refl
level_above (Typed kind (Call m xs)) = refl

-- where the grammar needs no more than an expression
counted_one : (e : ExpressionTree) → counted_at 1 e ≡ counted e
counted_one e = let q : bracket_count (level_of e) 1 ≡ 0 = ap {B = ℕ} (λ b. cond b 1 0) (level_above e) in omega (arith, q)

full_one : (slots : List Slot) (e : ExpressionTree) → Prints slots e → counted e ≤ most → FullPrints slots 1 e
full_one slots e p c = record { prints = p; few = subst (λ n. n ≤ most) (sym (counted_one e)) c }

option_one : (slots : List Slot) (o : Option ExpressionTree) → IfSome o (Prints slots) → most_if o ≤ most → OptionPrints slots o
option_one slots None p c = tt
option_one slots (Some e) p c = full_one slots e p c

list_three : (slots : List Slot) (es : List ExpressionTree) → AllByRecursion (Prints slots) es → most_of 3 es ≤ most → ListPrints slots 3 es
list_three slots [] p c = tt
list_three slots (e ∷ es) p c = let m = of_max (counted_at 3 e) (most_of 3 es) most c in (record { prints = p.0; few = m.0 }, list_three slots es p.1 m.1)

-- ---- a body that is spelled

abbrev pub NilFirst : Tree → Type 0
NilFirst (For first t u a) = first ≡ Nil
NilFirst _ = Unit {0}

module _ (h : Function) where
  abbrev pub HasText : Tree → Type 0
  HasText x = ItemHas (Prints h.slots) (Prints h.slots) (Prints h.slots) (λ o. IfSome o (Prints h.slots)) IsComment x

  abbrev pub Printed : ℕ → Option (List ExpressionTree) → Type 0
  Printed k es = SlotPrints h.slots (slice_get h.slots k) es

  abbrev pub IsReady : Tree → Type 0
  IsReady x = HasText x × (IsPlainItem x × (NilFirst x × OfLocals Printed x))

  test_one : (t : TestTree) (a b : Forest) → TestExpression (Prints h.slots) t → IsPlainItem (If t a b) → most_tested t ≤ most → TestPrints h.slots t
  test_one (SourceTest e) a b p i c = full_one h.slots e p c
  test_one _ a b p i c = absurd i

  selector_one : (s : SelectorTree) (d : Sections) → Prints h.slots (selector_source s) → IsPlainItem (Switch s d) →
      counted (selector_source s) ≤ most → SelectorPrints h.slots s
  selector_one (Selects e) d p i c = full_one h.slots e p c
  selector_one (Pick l n s) d p i c = absurd i

  mutual
    pub spelled_list : (a : Forest) → Everywhere IsReady a → most_counted a ≤ most → AreSpelled h a
    spelled_list Nil r c = tt
    spelled_list (Then x a) r c = let m = of_max (most_counted_of x) (most_counted a) most c in (spelled_item x r.0 m.0, spelled_list a r.1 m.1)

    spelled_item : (x : Tree) → EverywhereOf IsReady x → most_counted_of x ≤ most → ItemIsSpelled h x
    spelled_item (Evaluate e) r c = full_one h.slots e r.0 c
    spelled_item (Return e) r c = option_one h.slots e r.0 c
    spelled_item (If t a b) r c =
        let m = of_max (most_tested t) (max (most_counted a) (most_counted b)) most c in
        let n = of_max (most_counted a) (most_counted b) most m.1 in (test_one t a b r.0.0 r.0.1.0 m.0, spelled_list a r.1 n.0, spelled_list b r.2 n.1)
    spelled_item (While t a) r c = let m = of_max (most_tested t) (most_counted a) most c in (test_one t a Nil r.0.0 r.0.1.0 m.0, spelled_list a r.1 m.1)
    spelled_item (Do a t) r c = let m = of_max (most_counted a) (most_tested t) most c in (spelled_list a r.1 m.0, test_one t a Nil r.0.0 r.0.1.0 m.1)
    spelled_item (For first t u a) r c =
        let m = of_max (most_counted first) (max (most_if t) (max (most_if u) (most_counted a))) most c in
        let n = of_max (most_if t) (max (most_if u) (most_counted a)) most m.1 in
        let o = of_max (most_if u) (most_counted a) most n.1 in
        (subst (StartPrints h.slots) (sym r.0.1.1.0) tt, option_one h.slots t r.0.0.0 n.0, option_one h.slots u r.0.0.1 o.0, spelled_list a r.2 o.1)
    spelled_item (Switch s d) r c = let m = of_max (counted (selector_source s)) (most_counted_in d) most c in
        (selector_one s d r.0.0.0 r.0.1.0 m.0, spelled_sections d r.1 r.0.0.1 m.1)
    spelled_item (Block a) r c = spelled_list a r.1 c
    spelled_item (Local k es) r c = r.1.1.1
    spelled_item (Note bs) r c = r.0
    spelled_item Break r c = tt
    spelled_item Continue r c = tt
    spelled_item _ r c = absurd r.1.0

    spelled_sections : (d : Sections) → EverywhereIn IsReady d → AllByRecursion (Prints h.slots) (all_cases d) → most_counted_in d ≤ most →
        SectionsAreSpelled h d
    spelled_sections NoSection r p c = tt
    spelled_sections (Section cases default a ends d) r p c =
        let m = of_max (most_of 3 cases) (max (most_counted a) (most_counted_in d)) most c in
        let n = of_max (most_counted a) (most_counted_in d) most m.1 in (
          list_three h.slots cases (each_front (Prints h.slots) cases (all_cases d) p) m.0,
          spelled_list a r.0 n.0,
          spelled_sections d r.1 (each_back (Prints h.slots) cases (all_cases d) p) n.1,
        )
