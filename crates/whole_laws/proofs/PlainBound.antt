-- The names of a function of the plain form are bound.
use Rattle.std.proofs.Common.{◌≡◌, ◌≢◌, ℕ, zero, suc, ◌-◌, ◌<◌, ◌≤◌, ℤ, pos, int_le, neg_ℤ, Bool, true, false, cond, List, [], ◌∷◌, length, map, take, drop, Option, Some, None, refl, sym, ap, subst, ◌∙◌, arith}
use Rattle.std.specs.Prelude.{IfSome}
use Rattle.std.specs.Option.{option_or}
use Rattle.std.specs.List.{AllByRecursion}
use Rattle.c_types.specs.declared.kinds.IntKind.{IntKind}
use Rattle.c_types.specs.Numbers.{least, converted}
use Rattle.c_types.specs.Words.{is_known}
use Rattle.c_tree.specs.declared.tree.Slot.{Slot}
use Rattle.c_tree.specs.declared.tree.Function.{Function}
use Rattle.c_tree.specs.declared.tree.Top.{Top}
use Rattle.c_tree.specs.declared.tree.Home.TheVariants as Home
use Rattle.c_tree.specs.declared.tree.UnaryOp.TheVariants.{Minus}
use Rattle.c_tree.specs.Cases.{selector_source}
use Rattle.c_tree.specs.ExpressionTrees.{ExpressionTree, Typed, Unary}
use Rattle.c_tree.specs.Labels.{SelectorLabels}
use Rattle.c_tree.specs.Numerals.{number, least_constant, constant}
use Rattle.c_tree.specs.TestTrees.{SelectorTree, Selects, Pick}
use Rattle.c_tree.specs.TextExpressions.{slot_name}
use Rattle.c_tree.specs.Trees.{Tree, Evaluate, Return, If, While, Do, For, Switch, Block, Local, Break, Continue, Goto, Mark, Arm, Leap, Land, Arrival, Note, trees_of}
use Rattle.c_tree.specs.Everywhere.{Everywhere}
use Rattle.c_tree.specs.InRange.{body_of}
use Rattle.c_tree.specs.WellMade.{IsConverted}
use Rattle.c_tree.proofs.KeptLemmas.{everywhere_back}
use Rattle.c_tree.proofs.WellMoved.{everywhere_map, everywhere_both}
use Rattle.jump_meaning.specs.Step.{switch_kind}
use Rattle.flat_laws.specs.Pieces.{assign_number, assigned_cells}
use Rattle.flat_laws.specs.FlatForm.{assigned}
use Rattle.flat_laws.specs.Source.{IsVariable}
use Rattle.plain_laws.specs.GuardSlots.{is_truth, unequal_zero, truth, picked, plain_item}
use Rattle.plain_laws.specs.Tidied.{tidy}
use Rattle.plain_laws.proofs.LeftLabels.{slot_below, slot_within}
use Rattle.plain_laws.proofs.PlainFunctions.{are_declared, tidy_declared}
use Rattle.plain_laws.proofs.PlainRange.{tidy_everywhere, plain_everywhere}
use Rattle.whole_laws.specs.Rewritten.{setting}
use Rattle.whole_laws.proofs.Unlabelled.{IsPlainItem}
use Rattle.c_resolved_defs.specs.Within.{Each, AllDiffer}
use Rattle.c_resolved_defs.specs.Form.{numbers_from}
use Rattle.c_resolved_defs.specs.Scopes.{Meaning, AVariable, Scope, found, look_up, inside, IsBound, AreBound, with_parameters}
use Rattle.c_resolved_laws.specs.Laws.{BindsNothing}
use Rattle.c_resolved_laws.proofs.OneScope.{one_scope}
use Rattle.c_resolved_laws.proofs.Ranged.{each_map}
use Rattle.whole_laws.specs.Names.{IsFreeIn, HasOwnNames}
use Rattle.whole_laws.proofs.PlainLists.{each_both, each_name}
use Rattle.whole_laws.proofs.Facts.{AnyNote, ItemHas}
use Rattle.whole_laws.proofs.FactsFlat.{Tests}
use Rattle.whole_laws.proofs.FactsMoved.{labels_of, slot_of, reached_of, Left, Source, plain_trees, facts_of_plain}
use Rattle.whole_laws.proofs.FactsPlain.{GuardFacts}
use Rattle.whole_laws.proofs.ItemKinds.{all_in_cases}
use Rattle.whole_laws.proofs.PlainForms.{decls, items, moved_length, moved_within, declarations_gathered, moved_ready, body_before}
use Rattle.whole_laws.proofs.PlainLengths.{OfLocals, locals_tidy}
use Rattle.whole_laws.proofs.PlainTops.{IsMovedForm}
use Rattle.whole_laws.proofs.SameTops.{moved_declared, moved_params}
use Rattle.whole_laws.proofs.ScopeLists.{IsNoSlot, none_some, parameter_scope, parameters_bound, parameters_take, found_beside, FromParameters, parameter, before, parameters_found, declared_scope, declarations_bind, found_undeclared, found_declared, declarations_bound, bound_join, names_from}
use Rattle.whole_laws.proofs.SourceBound.{DeclaresIn, slot_some, not_slot, source_seen}
use Rattle.whole_laws.proofs.TidyForm.{plain_of, tidy_plain}

-- ---- lists

each_under : (g : ℕ → List ℕ) (Q : List ℕ → Type 0) (ks : List ℕ) → Each Q (map g ks) → Each (λ k. Q (g k)) ks
each_under g Q [] h = tt
each_under g Q (k ∷ ks) h = (h.0, each_under g Q ks h.1)

pub first_name : (k n : ℕ) (ss ts : List Slot) → take n ts ≡ take n ss → k < n → slot_name ts k ≡ slot_name ss k
first_name k zero ss ts e b = absurd (omega (arith, b))
first_name k (suc n) [] [] e b = refl
first_name k (suc n) [] (t ∷ ts) e b = cc
first_name k (suc n) (s ∷ ss) [] e b = cc
first_name zero (suc n) (s ∷ ss) (t ∷ ts) e b = ap (λ l. slot_name l 0) e
first_name (suc k) (suc n) (s ∷ ss) (t ∷ ts) e b = first_name k n ss ts (ap (drop 1) e) (omega (arith, b))

-- ---- the scopes of the plain form of a function with jumps, in those of the file

module _ (f h : Function) (m : IsMovedForm f h) (params : f.params ≤ length f.slots) (ts : List Top) (own : HasOwnNames ts h) (file : List Scope)
    (no_slots : (n : List ℕ) → IsNoSlot (look_up file n))
    (unbound : (n : List ℕ) → IsFreeIn ts n → is_known n ≡ false → look_up file n ≡ None) where
  abbrev P : ℕ
  P = h.params

  abbrev parameters : Scope
  parameters = parameter_scope P 0 h.slots []

  abbrev base : List Scope
  base = parameters ∷ file

  abbrev ks : List ℕ
  ks = numbers_from P (length h.slots - P)

  abbrev last : List Scope
  last = declared_scope h.slots ks parameters ∷ file

  within : P ≤ length h.slots
  within = moved_within f h m params

  -- the names of the variables
  names : map (slot_name h.slots) ks ≡ map (λ (s : Slot). s.name) (drop P h.slots)
  names = names_from P h.slots within

  distinct : AllDiffer (map (slot_name h.slots) ks)
  distinct = subst AllDiffer (sym names) own.apart

  abbrev IsNowhere : List ℕ → Type 0
  IsNowhere n = (found n parameters ≡ None) × (look_up file n ≡ None)

  nowhere : Each (λ k. IsNowhere (slot_name h.slots k)) ks
  nowhere =
      let D = drop P h.slots in
      let besides = each_map (λ (s : Slot). Each (λ (t : Slot). t.name ≢ s.name) (take P h.slots)) (λ s. found s.name parameters ≡ None)
      (λ s d. found_beside P 0 h.slots [] s.name d) D own.beside in
      let free = each_map (λ (s : Slot). IsFreeIn ts s.name × (is_known s.name ≡ false)) (λ s. look_up file s.name ≡ None)
      (λ s d. unbound s.name d.0 d.1) D (each_both (λ (s : Slot). IsFreeIn ts s.name) (λ s. is_known s.name ≡ false) D own.free own.unknown) in
      each_under (slot_name h.slots) IsNowhere ks
      (subst (Each IsNowhere) (sym names)
      (each_name IsNowhere D (each_both (λ (s : Slot). found s.name parameters ≡ None) (λ s. look_up file s.name ≡ None) D besides free)))

  slot_bound : (k : ℕ) → P ≤ k → k < length h.slots → look_up last (slot_name h.slots k) ≡ Some (AVariable (Home.Slot k))
  slot_bound k a b =
      let w = within in
      ap (λ o. option_or o (look_up file (slot_name h.slots k)))
      (found_declared h.slots P (length h.slots - P) parameters k a (omega (arith, a, b, w)) distinct)

  others : (n : List ℕ) (b : Meaning) → look_up base n ≡ Some b → look_up last n ≡ Some b
  others n b e = ap (λ o. option_or o (look_up file n)) (found_undeclared h.slots ks parameters n
      (each_map (λ k. IsNowhere (slot_name h.slots k)) (λ k. slot_name h.slots k ≢ n) differ ks nowhere)) ∙ e
    where
      differ : (k : ℕ) → IsNowhere (slot_name h.slots k) → slot_name h.slots k ≢ n
      differ k w q = none_some b (sym ((λ i. option_or (w.0 i) (w.1 i))) ∙ ap (look_up base) q ∙ e)

  same_base : with_parameters f.params 0 f.slots (inside file) ≡ base
  same_base =
      let d = moved_declared f h m params in
      sym ((λ i. with_parameters (moved_params f h m params i) 0 h.slots (inside file)) ∙
      parameters_take f.params 0 f.slots h.slots (inside file) (ap (λ n. take n h.slots) (sym (moved_params f h m params)) ∙ d.parameters))
      ∙ parameters_bound P 0 h.slots [] file

  named : (k : ℕ) → look_up base (slot_name f.slots k) ≡ Some (AVariable (Home.Slot k)) → slot_name h.slots k ≡ slot_name f.slots k
  named k e = at (parameters_found P 0 h.slots [] (slot_name f.slots k))
    where
      no_file : (o : Option Meaning) → IsNoSlot o → o ≡ Some (AVariable (Home.Slot k)) → ⊥
      no_file None i q = cc
      no_file (Some b) i q = not_slot b k i q

      at : FromParameters P 0 None (found (slot_name f.slots k) parameters) → slot_name h.slots k ≡ slot_name f.slots k
      at (parameter j a b q) =
          let s = slot_some k j (sym e ∙ ap (λ o. option_or o (look_up file (slot_name f.slots k))) q) in
          let p = moved_params f h m params in
          let d = moved_declared f h m params in
          first_name k f.params f.slots h.slots (ap (λ n. take n h.slots) (sym p) ∙ d.parameters) (omega (arith, b, s, p))
      at (before q) = absurd (no_file (look_up file (slot_name f.slots k)) (no_slots (slot_name f.slots k))
          (sym (ap (λ o. option_or o (look_up file (slot_name f.slots k))) q) ∙ e))

  -- ---- what the rewriting makes is bound

  abbrev A : ExpressionTree → Type 0
  A e = IsBound h.slots last e

  abbrev Returns : Option ExpressionTree → Type 0
  Returns o = IfSome o A

  abbrev HasNames : Tree → Type 0
  HasNames x = ItemHas A A A Returns AnyNote x

  constant_bound : (k : IntKind) (z : ℤ) → A (constant k z)
  constant_bound k z = at (int_le (pos 0) z) (int_le z (least k))
    where
      at : (a b : Bool) → A (cond a (number k z) (cond b (least_constant k) (Typed (Some k) (Unary Minus (number k (neg_ℤ z))))))
      at true b = (tt, tt)
      at false true = (tt, ((tt, (tt, tt)), (tt, tt)))
      at false false = (tt, (tt, tt))

  assign_bound : (k : IntKind) (x : ℕ) (e : ExpressionTree) → P ≤ x → x < length h.slots → A e → A (assign_number k x e)
  assign_bound k x e a b i = (slot_bound x a b, (tt, i))

  cells_bound : (k : IntKind) (x i : ℕ) (es : List ExpressionTree) (n : ℕ) → P ≤ x → x < length h.slots → AllByRecursion A es →
      Everywhere HasNames (assigned_cells k x i es n)
  cells_bound k x i (e ∷ es) n a b j = ((slot_bound x a b, ((tt, tt), j.0)), cells_bound k x (suc i) es n a b j.1)
  cells_bound k x i [] zero a b j = tt
  cells_bound k x i [] (suc n) a b j = ((slot_bound x a b, ((tt, tt), (tt, tt))), cells_bound k x (suc i) [] n a b tt)

  assigned_bound : (k : IntKind) (x : ℕ) (o : Option ℕ) (es : List ExpressionTree) → P ≤ x → x < length h.slots → AllByRecursion A es →
      Everywhere HasNames (assigned k x o es)
  assigned_bound k x None [] a b j = tt
  assigned_bound k x None (e ∷ es) a b j = (assign_bound k x e a b j.0, tt)
  assigned_bound k x (Some n) es a b j = cells_bound k x 0 es _ a b j

  longer : length m.flat_form.slots ≤ length h.slots
  longer = let e = moved_length f h m params in omega (arith, e)

  selects : (t : SelectorTree) (v : ℕ) → A (selector_source t) → IsVariable (setting f m.flat_form) v (switch_kind t) → v < length m.flat_form.slots
      → A (assign_number (switch_kind t) v (selector_source t)) × Tests A A A Returns AnyNote constant (switch_kind t) v
  selects t v i w b =
      let n = w.new in
      let a = n.0 in
      let p = moved_params f h m params in
      let l = longer in
      let low : P ≤ v = omega (arith, a, p) in
      let high : v < length h.slots = omega (arith, b, l) in (
        assign_bound (switch_kind t) v (selector_source t) low high i,
        λ z.
            (tt, ((slot_bound v low high, tt), constant_bound (switch_kind t) (converted (switch_kind t) z))),
      )

  abbrev FromSource : Tree → Type 0
  FromSource x = Source A A A Returns AnyNote (λ e i. i) f h m (tt, tt) selects x

  from_source : (x : Tree) → HasNames x × DeclaresIn f.params (length f.slots) x → FromSource x
  from_source (Local x None) g = (g.0, tt)
  from_source (Local x (Some es)) g =
      let a = g.1.0 in
      let b = g.1.1 in
      let p = moved_params f h m params in
      let w = m.is_flat in
      let l = longer in
      let q = w.more_slots in (g.0, assigned_bound _ x _ es (omega (arith, a, p)) (omega (arith, b, l, q)) g.0)
  from_source x g = (g.0, tt)

  guard_bound : (l : ℕ) → Left f h m l → look_up last (slot_name h.slots (slot_of f h m l)) ≡ Some (AVariable (Home.Slot (slot_of f h m l)))
  guard_bound l i =
      let low = slot_below (length m.flat_form.slots) (labels_of f h m) l in
      let high = slot_within (length m.flat_form.slots) (labels_of f h m) l i in
      let e = moved_length f h m params in
      let w = m.is_flat in
      let q = w.more_slots in
      let p = moved_params f h m params in
      slot_bound (slot_of f h m l) (omega (arith, low, q, p, params)) (omega (arith, high, e))

  picks : (s : SelectorTree) (k : IntKind) → A (selector_source s) → SelectorLabels (Left f h m) s → A (picked (slot_of f h m) k s)
  picks (Selects e) k i l = i
  picks (Pick n z s) k i l = (tt, ((guard_bound n l.0, tt), constant_bound k z, picks s k i l.1))

  truths : (e : ExpressionTree) → A e → A (truth e)
  truths e i = at (is_truth e)
    where
      at : (b : Bool) → A (cond b e (unequal_zero e))
      at true = i
      at false = (tt, (i, (tt, tt)))

  guards : GuardFacts A A A Returns AnyNote (slot_of f h m) (Left f h m)
  guards = record {
    on = λ l i. (guard_bound l i, tt);
    off = λ l i. (tt, (guard_bound l i, tt));
    and = λ l e i v. (tt, ((tt, (guard_bound l i, tt)), v));
    or = λ l e i v. (tt, ((guard_bound l i, tt), v));
    picks = λ s i l p. picks s (switch_kind s) i l;
    truths = truths;
    sets = λ l e i v. (guard_bound l i, (tt, v));
    one = (tt, tt);
    zero = (tt, tt);
  }

  -- ---- the body

  abbrev Undeclaring : Tree → Type 0
  Undeclaring = OfLocals (λ x es. ⊥)

  undeclaring : (x : Tree) → IsConverted x → Undeclaring (plain_item (slot_of f h m) x)
  undeclaring (Local x es) i = absurd i
  undeclaring _ i = tt

  binds : (x : Tree) → HasNames x × (Undeclaring x × IsPlainItem x) → BindsNothing h.slots last x
  binds (Evaluate e) i = (i.0, tt)
  binds (Return e) i = (i.0, tt)
  binds (If t a b) i = (i.0, tt)
  binds (While t a) i = (i.0, tt)
  binds (Do a t) i = (i.0, tt)
  binds (For first t u a) i = (i.0, tt)
  binds (Switch s c) i = ((i.0.0, all_in_cases A c i.0.1), tt)
  binds (Block a) i = (tt, tt)
  binds (Local x es) i = absurd i.1.0
  binds Break i = (tt, tt)
  binds Continue i = (tt, tt)
  binds (Goto l) i = (tt, tt)
  binds (Mark l) i = (tt, tt)
  binds (Arm l e) i = (i.0, tt)
  binds (Leap l) i = (tt, tt)
  binds (Land l) i = (tt, tt)
  binds (Arrival e) i = absurd i.1.1
  binds (Note bs) i = (tt, tt)

  pub moved_bound : AreBound f.slots (with_parameters f.params 0 f.slots (inside file)) (body_of f) →
      Everywhere (DeclaresIn f.params (length f.slots)) (body_of f) → AreBound h.slots (with_parameters P 0 h.slots (inside file)) (body_of h)
  moved_bound bound declares =
      let d = decls f h m params in
      let b = items f h m params in
      let is_declared = are_declared (reached_of f h m) (labels_of f h m) in
      let p = moved_params f h m params in
      let w = m.is_flat in
      let l = longer in
      let q = w.more_slots in
      let source = source_seen f.slots h.slots f.params (length f.slots) base last
      (λ k i j. slot_bound k (omega (arith, i, p)) (omega (arith, j, l, q))) others named (body_of f)
      (subst (λ sc. AreBound f.slots sc (body_of f)) same_base bound) declares in
      let given = everywhere_map (λ x. HasNames x × DeclaresIn f.params (length f.slots) x) FromSource from_source (body_of f)
      (everywhere_both HasNames (DeclaresIn f.params (length f.slots)) (body_of f) source declares) in
      let all = facts_of_plain A A A Returns AnyNote (λ e i. i) f h m (tt, tt) selects guards given in
      let same = plain_trees f h m ∙ tidy_declared _ _ d b is_declared in
      let names_there = everywhere_back HasNames d (tidy b) (subst (Everywhere HasNames) same all) in
      let undeclared = tidy_everywhere Undeclaring (locals_tidy (λ x es. ⊥)) b
      (plain_everywhere (slot_of f h m) IsConverted Undeclaring undeclaring (trees_of m.new) m.made.converted) in
      let plain = tidy_plain b (everywhere_back IsPlainItem d b (plain_of h (body_before f h m params) (moved_ready f h m params))) in
      let nothing = everywhere_map (λ x. HasNames x × (Undeclaring x × IsPlainItem x)) (BindsNothing h.slots last) binds (tidy b)
      (everywhere_both HasNames (λ x. Undeclaring x × IsPlainItem x) (tidy b) names_there
      (everywhere_both Undeclaring IsPlainItem (tidy b) undeclared plain)) in
      let numbers = declarations_gathered f h m params in
      let behind = declarations_bind h.slots _ _ d parameters file is_declared ∙ ap (λ l. declared_scope h.slots l parameters ∷ file) numbers in
      let first = declarations_bound h.slots _ _ d parameters file is_declared (subst (λ l. AllDiffer (map (slot_name h.slots) l)) (sym numbers) distinct)
      (subst (Each (λ k. found (slot_name h.slots k) parameters ≡ None)) (sym numbers)
      (each_map (λ k. IsNowhere (slot_name h.slots k)) (λ k. found (slot_name h.slots k) parameters ≡ None) (λ k i. i.0) ks nowhere)) in
      let whole = bound_join h.slots d (tidy b) base first (subst (λ sc. AreBound h.slots sc (tidy b)) (sym behind)
      (one_scope h.slots last (tidy b) nothing)) in
      subst (λ sc. AreBound h.slots sc (body_of h)) (sym (parameters_bound P 0 h.slots [] file)) (subst (AreBound h.slots base) (sym same) whole)
