-- Kinds agree in other programs with functions and variables of the same kinds.
use Rattle.std.proofs.Common.{ℕ, zero, suc, ◌<◌, List, [], ◌∷◌, length, Option, Some, None, ◌≡◌, sym, ◌∙◌, subst, arith}
use Rattle.std.specs.Prelude.{IfSome}
use Rattle.c_tree.specs.declared.tree.Slot.{Slot}
use Rattle.c_tree.specs.declared.tree.Home.{Home}
use Rattle.c_tree.specs.declared.tree.Home.TheVariants as H
use Rattle.c_tree.specs.ExpressionTrees.{ExpressionTree, PlaceTree, Arguments, Typed, Read, Assign, Update, Count, Call}
use Rattle.c_tree.specs.TestTrees.{TestTree, Source, On, Off, AndOff, OrOn, SelectorTree, Selects, Pick}
use Rattle.c_tree.specs.Trees.{Tree, Evaluate, Return, If, While, Do, For, Switch, Local, Arm}
use Rattle.jump_meaning.specs.Code.{Code, entry_or}
use Rattle.jump_meaning.specs.World.{no_slot}
use Rattle.plain_laws.specs.Kinded.{Kinded, k_number, k_character, k_enum, k_text, k_read, k_unary, k_cast, k_binary, k_conditional, k_assign, k_update, k_count, k_comma, k_call, KindedPlace, k_var, k_cell, KindedArguments, k_none, k_argument, k_array, IsHome, home_kind, place_kind, first_slot, later_slots, KindedTest, KindedSelector, AreKinded, KindedItem, Grown, SameKinds}

grown_length : (ts us : List Slot) (x : ℕ) → Grown ts us → x < length ts → x < length us
grown_length [] us x g h = let i : x < 0 = h in grind (arith)
grown_length (t ∷ ts) [] x g h = absurd g
grown_length (t ∷ ts) (u ∷ us) zero g h = grind (arith)
grown_length (t ∷ ts) (u ∷ us) (suc x) g h =
    let i : x < length us = grown_length ts us x g.1 (let j : suc x < suc (length ts) = h in grind (arith)) in
    let j : suc x < suc (length us) = grind (arith) in
    j

grown_kind : (ts us : List Slot) (x : ℕ) → Grown ts us → x < length ts → (entry_or no_slot us x).kind ≡ (entry_or no_slot ts x).kind
grown_kind [] us x g h = let i : x < 0 = h in grind (arith)
grown_kind (t ∷ ts) [] x g h = absurd g
grown_kind (t ∷ ts) (u ∷ us) zero g h = g.0
grown_kind (t ∷ ts) (u ∷ us) (suc x) g h = grown_kind ts us x g.1 (let j : suc x < suc (length ts) = h in grind (arith))

grown_first : (ts us : List Slot) → Grown ts us → 0 < length ts → (first_slot us).kind ≡ (first_slot ts).kind
grown_first [] us g h = let i : 0 < 0 = h in grind (arith)
grown_first (t ∷ ts) [] g h = absurd g
grown_first (t ∷ ts) (u ∷ us) g h = g.0

grown_later : (ts us : List Slot) → Grown ts us → Grown (later_slots ts) (later_slots us)
grown_later [] us g = tt
grown_later (t ∷ ts) [] g = absurd g
grown_later (t ∷ ts) (u ∷ us) g = g.1

module _ (p q : Code) (ss ss' : List Slot) (same : SameKinds p q) (grown : Grown ss ss') where
  home_kept : (h : Home) → IsHome ss h → IsHome ss' h
  home_kept (H.Slot x) i = grown_length ss ss' x grown i
  home_kept (H.Global m) i = tt

  kind_kept : (h : Home) → IsHome ss h → home_kind q ss' h ≡ home_kind p ss h
  kind_kept (H.Slot x) i = grown_kind ss ss' x grown i
  kind_kept (H.Global m) i = same.globals m

  place_kind_kept : (at : PlaceTree) → KindedPlace p ss at → place_kind q ss' at ≡ place_kind p ss at
  place_kind_kept _ (k_var h i) = kind_kept h i
  place_kind_kept _ (k_cell h a i j) = kind_kept h i

  mutual
    kept : (e : ExpressionTree) → Kinded p ss e → Kinded q ss' e
    kept _ (k_number kind n i) = k_number kind n i
    kept _ (k_character kind b i) = k_character kind b i
    kept _ (k_enum kind m n i) = k_enum kind m n i
    kept _ (k_text kind bs) = k_text kind bs
    kept _ (k_read at i) = subst (λ k. Kinded q ss' (Typed (Some k) (Read at))) (place_kind_kept at i) (k_read at (place_kept at i))
    kept _ (k_unary op a i) = k_unary op a (kept a i)
    kept _ (k_cast kind a i) = k_cast kind a (kept a i)
    kept _ (k_binary op a b i j) = k_binary op a b (kept a i) (kept b j)
    kept _ (k_conditional kind a b c i j l) = k_conditional kind a b c (kept a i) (kept b j) (kept c l)
    kept _ (k_assign at a i j) = subst (λ k. Kinded q ss' (Typed (Some k) (Assign at a))) (place_kind_kept at i) (k_assign at a (place_kept at i) (kept a j))
    kept _ (k_update op at a i j) = subst (λ k. Kinded q ss' (Typed (Some k) (Update op at a))) (place_kind_kept at i)
        (k_update op at a (place_kept at i) (kept a j))
    kept _ (k_count at up after i) = subst (λ k. Kinded q ss' (Typed (Some k) (Count at up after))) (place_kind_kept at i)
        (k_count at up after (place_kept at i))
    kept _ (k_comma a b i j) = k_comma a b (kept a i) (kept b j)
    kept _ (k_call m xs i) = subst (λ k. Kinded q ss' (Typed k (Call m xs))) (same.calls m)
        (k_call m xs (arguments_kept (p.functions m).slots (q.functions m).slots xs (same.slots m) i))

    place_kept : (at : PlaceTree) → KindedPlace p ss at → KindedPlace q ss' at
    place_kept _ (k_var h i) = k_var h (home_kept h i)
    place_kept _ (k_cell h a i j) = k_cell h a (home_kept h i) (kept a j)

    arguments_kept : (ts us : List Slot) (xs : Arguments) → Grown ts us → KindedArguments p ss ts xs → KindedArguments q ss' us xs
    arguments_kept ts us _ g (k_none ts') = k_none us
    arguments_kept ts us _ g (k_argument ts' x xs i j) = k_argument us x xs (kept x i)
        (arguments_kept (later_slots ts) (later_slots us) xs (grown_later ts us g) j)
    arguments_kept ts us _ g (k_array ts' kind h xs i z e j) =
        k_array us kind h xs (home_kept h i) (grown_length ts us 0 g z) (kind_kept h i ∙ (e ∙ sym (grown_first ts us g z)))
        (arguments_kept (later_slots ts) (later_slots us) xs (grown_later ts us g) j)

  optional_kept : (o : Option ExpressionTree) → IfSome o (Kinded p ss) → IfSome o (Kinded q ss')
  optional_kept None h = h
  optional_kept (Some e) h = kept e h

  test_kept : (t : TestTree) → KindedTest p ss t → KindedTest q ss' t
  test_kept (Source e) h = (kept e h.0, h.1)
  test_kept (On l) h = tt
  test_kept (Off l) h = tt
  test_kept (AndOff l t) h = test_kept t h
  test_kept (OrOn l t) h = test_kept t h

  selector_kept : (s : SelectorTree) → KindedSelector p ss s → KindedSelector q ss' s
  selector_kept (Selects e) h = kept e h
  selector_kept (Pick l n s) h = selector_kept s h

  list_kept : (es : List ExpressionTree) → AreKinded p ss es → AreKinded q ss' es
  list_kept [] h = tt
  list_kept (e ∷ es) h = (kept e h.0, list_kept es h.1)

  pub item_kept : (x : Tree) → KindedItem p ss x → KindedItem q ss' x
  item_kept (Evaluate e) h = kept e h
  item_kept (Return e) h = optional_kept e h
  item_kept (If t a b) h = test_kept t h
  item_kept (While t a) h = test_kept t h
  item_kept (Do a t) h = test_kept t h
  item_kept (For first t u a) h = (optional_kept t h.0, optional_kept u h.1)
  item_kept (Switch s c) h = selector_kept s h
  item_kept (Local x None) h = (grown_length ss ss' x grown h.0, h.1)
  item_kept (Local x (Some es)) h = (grown_length ss ss' x grown h.0, list_kept es h.1)
  item_kept (Arm l None) h = h
  item_kept (Arm l (Some e)) h = (kept e h.0, h.1)
  item_kept _ h = tt
