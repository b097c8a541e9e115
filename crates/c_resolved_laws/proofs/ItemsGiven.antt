-- Kinds agree in each item of a resolved function.
use Rattle.std.proofs.Common.{ℕ, false, List, [], ◌∷◌, Option, Some, None, ◌≡◌, sym, ◌∙◌, true≢false, slice_get, All}
use Rattle.std.specs.Prelude.{IfSome}
use Rattle.std.proofs.lemmas.List.Elements.{All-from_recursion}
use Rattle.std.proofs.lemmas.Option.{slice_get_within}
use Rattle.c_tree.specs.declared.tree.Slot.{Slot}
use Rattle.c_tree.specs.declared.tree.Function.{Function}
use Rattle.c_tree.specs.declared.tree.Top.{Top}
use Rattle.c_tree.specs.declared.tree.Top.TheVariants as T
use Rattle.c_tree.specs.declared.tree.Program.{Program}
use Rattle.c_tree.specs.ExpressionTrees.{ExpressionTree}
use Rattle.c_tree.specs.TestTrees.{TestTree, Source, On, Off, AndOff, OrOn, SelectorTree, Selects, Pick}
use Rattle.c_tree.specs.Trees.{Tree, Evaluate, Return, If, While, Do, For, Switch, Block, Local, Break, Continue, Goto, Mark, Arm, Note}
use Rattle.c_tree.specs.Cases.{selector_source}
use Rattle.c_tree.specs.Everywhere.{Everywhere}
use Rattle.c_tree.specs.InRange.{IsUnguarded, body_of}
use Rattle.c_tree.proofs.WellMoved.{everywhere_map, everywhere_both}
use Rattle.jump_meaning.specs.Code.{code_of}
use Rattle.plain_laws.specs.Kinded.{Kinded, gives_int, KindedTest, KindedSelector, AreKinded, KindedItem}
use Rattle.plain_laws.specs.Laws.{IsReady, IsTopReady, IsProgramReady}
use Rattle.c_resolved_defs.specs.Within.{Each, TestExpression}
use Rattle.c_resolved_defs.specs.Names.{the_function}
use Rattle.c_resolved_defs.specs.Kinds.{IsOperand, HasValue, KindsAgree, ItemAgrees}
use Rattle.c_resolved_defs.specs.Form.{HasSourceForm}
use Rattle.c_resolved_defs.specs.Limits.{FlatCounts}
use Rattle.c_resolved_defs.specs.Resolved.{IsResolvedFunction, IsResolvedTop, IsResolvedWith, IsInitialised, names_in}
use Rattle.c_resolved_laws.specs.Laws.{IsTopKinded, HasNameEach, HaveNames}
use Rattle.c_resolved_laws.proofs.Ranged.{the_some, each_map, unguarded, function_ranged}
use Rattle.c_resolved_laws.proofs.KindsGiven.{names, kinded, unknown_named}

module _ (p : Program) (ss : List Slot) (unknown : (m : List ℕ) → IfSome (the_function m p.tops) (λ f. gives_int m ≡ false)) where
  abbrev pub Agrees : ExpressionTree → Type 0
  Agrees x = KindsAgree (names p ss unknown) x

  pub test_kinded : (t : TestTree) → TestExpression Agrees t → TestExpression HasValue t → KindedTest (code_of p) ss t
  test_kinded (Source e) h v = (kinded p ss unknown e v.operand h, v.kind)
  test_kinded (On l) h v = tt
  test_kinded (Off l) h v = tt
  test_kinded (AndOff l t) h v = test_kinded t h v
  test_kinded (OrOn l t) h v = test_kinded t h v

  pub selector_kinded : (s : SelectorTree) → Agrees (selector_source s) → HasValue (selector_source s) → KindedSelector (code_of p) ss s
  selector_kinded (Selects e) h v = kinded p ss unknown e v.operand h
  selector_kinded (Pick l k s) h v = selector_kinded s h v

  pub value_kinded : (o : Option ExpressionTree) → IfSome o Agrees → IfSome o HasValue → IfSome o (Kinded (code_of p) ss)
  value_kinded None h v = tt
  value_kinded (Some e) h v = kinded p ss unknown e v.operand h

  pub operand_kinded : (o : Option ExpressionTree) → IfSome o Agrees → IfSome o IsOperand → IfSome o (Kinded (code_of p) ss)
  operand_kinded None h v = tt
  operand_kinded (Some e) h v = kinded p ss unknown e v h

  pub all_kinded : (es : List ExpressionTree) → Each Agrees es → Each HasValue es → AreKinded (code_of p) ss es
  all_kinded [] h v = tt
  all_kinded (e ∷ es) h v = (kinded p ss unknown e v.0.operand h.0, all_kinded es h.1 v.1)

  pub given_kinded : (o : Option (List ExpressionTree)) → IfSome o (Each Agrees) → IfSome o (Each HasValue) → IfSome o (AreKinded (code_of p) ss)
  given_kinded None h v = tt
  given_kinded (Some es) h v = all_kinded es h v

  abbrev Known : Tree → Type 0
  Known x = ItemAgrees (names p ss unknown) x × (IsInitialised ss x × IsUnguarded x)

  item_kinded : (x : Tree) → Known x → KindedItem (code_of p) ss x
  item_kinded (Evaluate e) h = kinded p ss unknown e h.0.values h.0.kinds
  item_kinded (Return e) h = value_kinded e h.0.kinds h.0.values
  item_kinded (If t a b) h = test_kinded t h.0.kinds h.0.values
  item_kinded (While t a) h = test_kinded t h.0.kinds h.0.values
  item_kinded (Do a t) h = test_kinded t h.0.kinds h.0.values
  item_kinded (For first t u a) h = let k = h.0.kinds in let v = h.0.values in (value_kinded t k.0 v.0, operand_kinded u k.1 v.1)
  item_kinded (Switch s c) h = let k = h.0.kinds in selector_kinded s k.0 h.0.values
  item_kinded (Block a) h = tt
  item_kinded (Local x given) h = let s = the_some _ (slice_get ss x) h.1.0 in (slice_get_within ss x s.0 s.1, given_kinded given h.0.kinds h.0.values)
  item_kinded Break h = tt
  item_kinded Continue h = tt
  item_kinded (Goto l) h = tt
  item_kinded (Mark l) h = tt
  item_kinded (Arm l e) h = absurd h.1.1
  item_kinded _ h = tt

-- ---- functions and programs

module _ (counts : FlatCounts) (p : Program) (r : IsResolvedWith counts p) where
  function_kinded : (f : Function) → IsResolvedFunction counts p.tops f → Everywhere (KindedItem (code_of p) f.slots) (body_of f)
  function_kinded f g =
      let u = unknown_named p.tops r.bound in
      let n = names_in p.tops f in
      let a = body_of f in
      everywhere_map (Known p f.slots u) (KindedItem (code_of p) f.slots) (item_kinded p f.slots u) a
      (everywhere_both (ItemAgrees n) (λ x. IsInitialised f.slots x × IsUnguarded x) a g.kinds
      (everywhere_both (IsInitialised f.slots) IsUnguarded a g.initialised (everywhere_map (HasSourceForm f) IsUnguarded (unguarded f) a g.form.items)))

  top_kinded : (t : Top) → IsResolvedTop counts p.tops t → IsTopKinded p t
  top_kinded (T.Function f) g = function_kinded f g
  top_kinded _ g = tt

  pub resolved_kinded : All (IsTopKinded p) p.tops
  resolved_kinded = All-from_recursion (IsTopKinded p) p.tops (each_map (IsResolvedTop counts p.tops) (IsTopKinded p) top_kinded p.tops r.tops)

  -- it is ready for its plain form
  function_ready : (names : Function → List (List ℕ)) (f : Function) → HasNameEach names f → IsResolvedFunction counts p.tops f → IsReady (code_of p) names f
  function_ready given f h g = record {
    ranged = function_ranged counts p.tops f g;
    finished = record {
      kinded = function_kinded f g;
      made = λ e. absurd (true≢false (sym e ∙ g.form.unflat));
      leapless = λ e. absurd (true≢false (sym e ∙ g.form.unflat));
      named = h;
    };
  }

  tops_ready : (names : Function → List (List ℕ)) → HaveNames names → (ts : List Top) → Each (IsResolvedTop counts p.tops) ts →
      Each (IsTopReady (code_of p) names) ts
  tops_ready given h [] g = tt
  tops_ready given h (T.Function f ∷ ts) g = (function_ready given f (h f) g.0, tops_ready given h ts g.1)
  tops_ready given h (T.Include bytes ∷ ts) g = (tt, tops_ready given h ts g.1)
  tops_ready given h (T.Enum xs ∷ ts) g = (tt, tops_ready given h ts g.1)
  tops_ready given h (T.Global x ∷ ts) g = (tt, tops_ready given h ts g.1)
  tops_ready given h (T.Note bytes ∷ ts) g = (tt, tops_ready given h ts g.1)

  pub resolved_ready : (names : Function → List (List ℕ)) → HaveNames names → IsProgramReady names p
  resolved_ready given h = All-from_recursion (IsTopReady (code_of p) given) p.tops (tops_ready given h p.tops r.tops)
