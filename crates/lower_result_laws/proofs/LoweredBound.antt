-- The names of a lowered function are bound.
use Rattle.std.proofs.Common.{◌≡◌, ◌≢◌, ℕ, zero, suc, ◌+◌, ◌-◌, ◌≤◌, ◌<◌, arith, ℤ, pos, int_le, neg_ℤ, Bool, true, false, cond, List, [], ◌∷◌, length, map, take, drop, Option, Some, None, sym, ap, subst, ◌∙◌}
use Rattle.std.specs.Prelude.{IfSome}
use Rattle.std.specs.Option.{option_or}
use Rattle.std.specs.List.{AllByRecursion}
use Rattle.c_types.specs.declared.kinds.IntKind.{IntKind}
use Rattle.c_types.specs.Numbers.{converted, least}
use Rattle.c_types.specs.Words.{is_known}
use Rattle.c_tree.specs.declared.tree.Function.{Function}
use Rattle.c_tree.specs.declared.tree.Home.TheVariants as Home
use Rattle.c_tree.specs.declared.tree.Slot.{Slot}
use Rattle.c_tree.specs.declared.tree.Top.{Top}
use Rattle.c_tree.specs.declared.tree.UnaryOp.TheVariants.{Minus}
use Rattle.c_tree.specs.Cases.{selector_source}
use Rattle.c_tree.specs.ExpressionTrees.{ExpressionTree, Typed, Unary}
use Rattle.c_tree.specs.Numerals.{number, least_constant, constant}
use Rattle.c_tree.specs.TestTrees.{SelectorTree}
use Rattle.c_tree.specs.TextExpressions.{slot_name}
use Rattle.c_tree.specs.Trees.{Tree, Forest, Nil, Then, Evaluate, Return, If, While, Do, For, Switch, Block, Local, Break, Continue, Goto, Mark, Arm, Leap, Land, Arrival, Note, join}
use Rattle.c_tree.specs.Everywhere.{total, Everywhere, EverywhereOf}
use Rattle.c_tree.proofs.WellMoved.{everywhere_map, everywhere_both}
use Rattle.jump_meaning.specs.Step.{switch_kind}
use Rattle.flat_laws.specs.Pieces.{assign_number, assigned_cells}
use Rattle.flat_laws.specs.FlatForm.{assigned}
use Rattle.flat_laws.specs.Source.{IsVariable}
use Rattle.plain_laws.specs.Slotted.{variable, AreDeclarations, none, one_more}
use Rattle.lower_laws.specs.Lowered.{declarations, variables_of}
use Rattle.lower_laws.specs.Functions.{AreFlat}
use Rattle.c_resolved_defs.specs.Within.{Each, AllDiffer}
use Rattle.c_resolved_defs.specs.Form.{numbers_from}
use Rattle.c_resolved_defs.specs.Scopes.{Meaning, AVariable, Scope, found, look_up, inside, with_parameters, IsBound, AreBound}
use Rattle.c_resolved_laws.specs.Laws.{BindsNothing}
use Rattle.c_resolved_laws.proofs.OneScope.{one_scope}
use Rattle.whole_laws.specs.Names.{IsFreeIn, HasOwnNames}
use Rattle.whole_laws.proofs.Facts.{AnyNote, ItemHas}
use Rattle.whole_laws.proofs.PlainLists.{each_map, each_both, each_name}
use Rattle.whole_laws.proofs.PlainBound.{first_name}
use Rattle.whole_laws.proofs.ScopeLists.{none_some, IsNoSlot, parameter_scope, parameters_bound, parameters_take, found_beside, FromParameters, parameter, before, parameters_found, declared_scope, declarations_bind, found_undeclared, found_declared, declarations_bound, bound_join, names_from}
use Rattle.whole_laws.proofs.SourceBound.{DeclaresIn, slot_some, not_slot, source_seen}
use Rattle.lower_result_laws.proofs.Lowered.{setting}
use Rattle.lower_result_laws.proofs.FactsLowered.{H, AreH, Tests}
use Rattle.lower_result_laws.proofs.LoweredFacts.{new_slots, slots_length, list, front, Source, list_has}
use Rattle.lower_result_laws.proofs.LoweredSlots.{same_parameters}
use Rattle.lower_result_laws.proofs.Numbered.{FlatView, fv_evaluate, fv_return, fv_note, fv_local, fv_goto, fv_mark, fv_jump, view}
use Rattle.lower_result_laws.proofs.LoweredForm.{declared}

each_under : (g : ℕ → List ℕ) (Q : List ℕ → Type 0) (ks : List ℕ) → Each Q (map g ks) → Each (λ k. Q (g k)) ks
each_under g Q [] h = tt
each_under g Q (k ∷ ks) h = (h.0, each_under g Q ks h.1)

are_declarations : (base end x n : ℕ) → AreDeclarations base end (declarations x n)
are_declarations base end x zero = none
are_declarations base end x (suc n) = one_more (variable x) (are_declarations base end (suc x) n)

-- ---- a lowered function, in the scopes of its file

module _ (f : Function) (params : f.params ≤ length f.slots) (used taken : List (List ℕ)) (a : Forest) (ts : List Top)
    (own : HasOwnNames ts (record f { slots = new_slots f params used taken a })) (file : List Scope) (no_slots : (n : List ℕ) → IsNoSlot (look_up file n))
    (unbound : (n : List ℕ) → IsFreeIn ts n → is_known n ≡ false → look_up file n ≡ None) where
  abbrev G : List Slot
  G = new_slots f params used taken a

  abbrev P : ℕ
  P = f.params

  abbrev parameters : Scope
  parameters = parameter_scope P 0 G []

  abbrev base : List Scope
  base = parameters ∷ file

  abbrev ks : List ℕ
  ks = numbers_from P (length G - P)

  abbrev last : List Scope
  last = declared_scope G ks parameters ∷ file

  within : P ≤ length G
  within = let n = slots_length f params used taken a in omega (arith, n, params)

  -- the names of the variables
  names : map (slot_name G) ks ≡ map (λ (s : Slot). s.name) (drop P G)
  names = names_from P G within

  distinct : AllDiffer (map (slot_name G) ks)
  distinct = subst AllDiffer (sym names) own.apart

  abbrev IsNowhere : List ℕ → Type 0
  IsNowhere n = (found n parameters ≡ None) × (look_up file n ≡ None)

  nowhere : Each (λ k. IsNowhere (slot_name G k)) ks
  nowhere =
      let D = drop P G in
      let besides = each_map (λ (s : Slot). Each (λ (t : Slot). t.name ≢ s.name) (take P G)) (λ s. found s.name parameters ≡ None)
      (λ s d. found_beside P 0 G [] s.name d) D own.beside in
      let free = each_map (λ (s : Slot). IsFreeIn ts s.name × (is_known s.name ≡ false)) (λ s. look_up file s.name ≡ None)
      (λ s d. unbound s.name d.0 d.1) D (each_both (λ (s : Slot). IsFreeIn ts s.name) (λ s. is_known s.name ≡ false) D own.free own.unknown) in
      each_under (slot_name G) IsNowhere ks
      (subst (Each IsNowhere) (sym names)
      (each_name IsNowhere D (each_both (λ (s : Slot). found s.name parameters ≡ None) (λ s. look_up file s.name ≡ None) D besides free)))

  slot_bound : (k : ℕ) → P ≤ k → k < length G → look_up last (slot_name G k) ≡ Some (AVariable (Home.Slot k))
  slot_bound k i j =
      let w = within in
      ap (λ o. option_or o (look_up file (slot_name G k))) (found_declared G P (length G - P) parameters k i (omega (arith, i, j, w)) distinct)

  others : (n : List ℕ) (b : Meaning) → look_up base n ≡ Some b → look_up last n ≡ Some b
  others n b e = ap (λ o. option_or o (look_up file n)) (found_undeclared G ks parameters n
      (each_map (λ k. IsNowhere (slot_name G k)) (λ k. slot_name G k ≢ n) differ ks nowhere)) ∙ e
    where
      differ : (k : ℕ) → IsNowhere (slot_name G k) → slot_name G k ≢ n
      differ k w q = none_some b (sym ((λ i. option_or (w.0 i) (w.1 i))) ∙ ap (look_up base) q ∙ e)

  same_base : with_parameters P 0 f.slots (inside file) ≡ base
  same_base = sym (parameters_take P 0 f.slots G (inside file) (same_parameters f params used taken a)) ∙ parameters_bound P 0 G [] file

  named : (k : ℕ) → look_up base (slot_name f.slots k) ≡ Some (AVariable (Home.Slot k)) → slot_name G k ≡ slot_name f.slots k
  named k e = at (parameters_found P 0 G [] (slot_name f.slots k))
    where
      no_file : (o : Option Meaning) → IsNoSlot o → o ≡ Some (AVariable (Home.Slot k)) → ⊥
      no_file None i q = cc
      no_file (Some b) i q = not_slot b k i q

      at : FromParameters P 0 None (found (slot_name f.slots k) parameters) → slot_name G k ≡ slot_name f.slots k
      at (parameter j i b q) =
          let s = slot_some k j (sym e ∙ ap (λ o. option_or o (look_up file (slot_name f.slots k))) q) in
          first_name k P f.slots G (same_parameters f params used taken a) (omega (arith, b, s))
      at (before q) = absurd (no_file (look_up file (slot_name f.slots k)) (no_slots (slot_name f.slots k))
          (sym (ap (λ o. option_or o (look_up file (slot_name f.slots k))) q) ∙ e))

  -- ---- what lowering makes is bound

  abbrev A : ExpressionTree → Type 0
  A e = IsBound G last e

  abbrev Returns : Option ExpressionTree → Type 0
  Returns o = IfSome o A

  abbrev HasNames : Tree → Type 0
  HasNames x = ItemHas A A A Returns AnyNote x

  abbrev AreBoundItems : Forest → Type 0
  AreBoundItems xs = AreH A A A Returns AnyNote xs

  constant_bound : (k : IntKind) (z : ℤ) → A (constant k z)
  constant_bound k z = at (int_le (pos 0) z) (int_le z (least k))
    where
      at : (c b : Bool) → A (cond c (number k z) (cond b (least_constant k) (Typed (Some k) (Unary Minus (number k (neg_ℤ z))))))
      at true b = (tt, tt)
      at false true = (tt, ((tt, (tt, tt)), (tt, tt)))
      at false false = (tt, (tt, tt))

  cells_bound : (k : IntKind) (x i : ℕ) (es : List ExpressionTree) (n : ℕ) → P ≤ x → x < length G → AllByRecursion A es →
      AreBoundItems (assigned_cells k x i es n)
  cells_bound k x i (e ∷ es) n l b j = (((slot_bound x l b, ((tt, tt), j.0)), tt), cells_bound k x (suc i) es n l b j.1)
  cells_bound k x i [] zero l b j = tt
  cells_bound k x i [] (suc n) l b j = (((slot_bound x l b, ((tt, tt), (tt, tt))), tt), cells_bound k x (suc i) [] n l b tt)

  assigned_bound : (k : IntKind) (x : ℕ) (o : Option ℕ) (es : List ExpressionTree) → P ≤ x → x < length G → AllByRecursion A es →
      AreBoundItems (assigned k x o es)
  assigned_bound k x None [] l b j = tt
  assigned_bound k x None (e ∷ es) l b j = (((slot_bound x l b, (tt, j.0)), tt), tt)
  assigned_bound k x (Some n) es l b j = cells_bound k x 0 es _ l b j

  selects : (t : SelectorTree) → A (selector_source t) → (v : ℕ) → IsVariable (setting f a G) v (switch_kind t) → v < length G →
      A (assign_number (switch_kind t) v (selector_source t)) × Tests A A A Returns AnyNote constant (switch_kind t) v
  selects t i v w b =
      let n = w.new in
      let there = slot_bound v n.0 b in
      ((there, (tt, i)), λ z. (tt, ((there, tt), constant_bound (switch_kind t) (converted (switch_kind t) z))))

  abbrev FromSource : Tree → Type 0
  FromSource x = Source f params used taken a A A A Returns AnyNote x

  from_source : (x : Tree) → HasNames x × DeclaresIn P (length f.slots) x → FromSource x
  from_source (Local x None) g = (g.0, tt)
  from_source (Local x (Some es)) g =
      let i = g.1.0 in
      let b = g.1.1 in
      let n = slots_length f params used taken a in
      (g.0, assigned_bound _ x _ es i (omega (arith, b, n)) g.0)
  from_source (Switch s c) g = (g.0, selects s g.0.0)
  from_source x g = (g.0, tt)

  -- ---- the body

  binds : (xs : Forest) → AreFlat xs → AreBoundItems xs → Everywhere (BindsNothing G last) xs
  binds Nil w h = tt
  binds (Then x xs) w h = (at (view x w.0) h.0, binds xs w.1 h.1)
    where
      at : {y : Tree} → FlatView y → EverywhereOf (H A A A Returns AnyNote) y → EverywhereOf (BindsNothing G last) y
      at (fv_evaluate e) i = i
      at (fv_return e) i = i
      at (fv_note bs) i = (tt, tt)
      at (fv_local x) i = absurd i.1
      at (fv_goto l) i = (tt, tt)
      at (fv_mark l) i = (tt, tt)
      at (fv_jump t l) i = (i.0, ((tt, tt), tt), tt)

  pub lowered_bound : AreBound f.slots (with_parameters P 0 f.slots (inside file)) a → Everywhere (DeclaresIn P (length f.slots)) a →
      AreFlat (list f params used taken a) → AreBound G (with_parameters P 0 G (inside file)) (join (front f params used taken a) (list f params used taken a))
  lowered_bound bound declares flat =
      let D = front f params used taken a in
      let L = list f params used taken a in
      let n = slots_length f params used taken a in
      let source = source_seen f.slots G P (length f.slots) base last (λ k i j. slot_bound k i (omega (arith, j, n))) others named a
      (subst (λ sc. AreBound f.slots sc a) same_base bound) declares in
      let given = everywhere_map (λ x. HasNames x × DeclaresIn P (length f.slots) x) FromSource from_source a
      (everywhere_both HasNames (DeclaresIn P (length f.slots)) a source declares) in
      let nothing = binds L flat (list_has f params used taken a A A A Returns AnyNote given) in
      let is_declared = are_declarations 0 0 P (length f.slots - P + total variables_of a) in
      let numbers = declared P (length f.slots - P + total variables_of a) ∙ ap (numbers_from P) (omega (arith, n, params)) in
      let behind = declarations_bind G _ _ D parameters file is_declared ∙ ap (λ l. declared_scope G l parameters ∷ file) numbers in
      let first = declarations_bound G _ _ D parameters file is_declared (subst (λ l. AllDiffer (map (slot_name G) l)) (sym numbers) distinct)
      (subst (Each (λ k. found (slot_name G k) parameters ≡ None)) (sym numbers)
      (each_map (λ k. IsNowhere (slot_name G k)) (λ k. found (slot_name G k) parameters ≡ None) (λ k i. i.0) ks nowhere)) in
      let whole = bound_join G D L base first (subst (λ sc. AreBound G sc L) (sym behind) (one_scope G last L nothing)) in
      subst (λ sc. AreBound G sc (join D L)) (sym (parameters_bound P 0 G [] file)) whole
