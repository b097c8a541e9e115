-- The plain form of a function with jumps is spelled.
use Rattle.std.proofs.Common.{◌≡◌, ◌⊎◌, inl, inr, ℕ, zero, suc, ◌+◌, ◌-◌, ◌<◌, ◌≤◌, pos, Bool, true, false, true≢false, cond, List, [], ◌∷◌, length, map, take, drop, Option, Some, None, slice_get, refl, sym, ap, subst, ◌∙◌, arith}
use Rattle.std.specs.Prelude.{IfSome, IsSomeAnd}
use Rattle.std.specs.Option.{option_map_or}
use Rattle.std.specs.List.{AllByRecursion}
use Rattle.std.proofs.lemmas.Option.{slice_get_within}
use Rattle.std.proofs.lemmas.Bool.{cases_lt}
use Rattle.c_types.specs.declared.kinds.IntKind.{IntKind}
use Rattle.c_types.specs.declared.kinds.IntKind.TheVariants.{Int}
use Rattle.c_types.specs.Numbers.{promoted, converted}
use Rattle.c_types.proofs.Residues.{converted-in_range}
use Rattle.c_tree.specs.declared.tree.Slot.{Slot}
use Rattle.c_tree.specs.declared.tree.Function.{Function}
use Rattle.c_tree.specs.declared.tree.Top.{Top}
use Rattle.c_tree.specs.Cases.{selector_source, ArePicks}
use Rattle.c_tree.specs.Constants.{kind_of}
use Rattle.c_tree.specs.ExpressionTrees.{ExpressionTree}
use Rattle.c_tree.specs.Labels.{SelectorLabels}
use Rattle.c_tree.specs.Numerals.{number, constant}
use Rattle.c_tree.specs.Slots.{ItemSlots}
use Rattle.c_tree.specs.TestTrees.{SelectorTree, Selects, Pick}
use Rattle.c_tree.specs.TextExpressions.{slot_name}
use Rattle.c_tree.specs.Trees.{Tree, Forest, Nil, Then, For, Local, join, trees_of}
use Rattle.c_tree.specs.Everywhere.{Everywhere}
use Rattle.c_tree.specs.InRange.{body_of}
use Rattle.c_tree.specs.WellMade.{IsConverted, IsPlainFor}
use Rattle.c_tree.proofs.WellMoved.{everywhere_map, everywhere_both}
use Rattle.jump_meaning.specs.Code.{entry_or}
use Rattle.jump_meaning.specs.World.{no_slot}
use Rattle.jump_meaning.specs.Operations.{operand_kind}
use Rattle.jump_meaning.specs.Step.{switch_kind}
use Rattle.flat_laws.specs.Pieces.{assign_number, assigned_cells}
use Rattle.flat_laws.specs.FlatForm.{assigned, initialised}
use Rattle.flat_laws.specs.Source.{IsVariable}
use Rattle.plain_laws.specs.GuardSlots.{is_truth, unequal_zero, truth, picked, plain_list, plain_item}
use Rattle.plain_laws.specs.Plain.{declared, names_left, guard_slot}
use Rattle.plain_laws.specs.Slotted.{AreDeclarations, none, one_more, variable, guarding}
use Rattle.plain_laws.specs.Tidied.{tidy, tidy_item}
use Rattle.plain_laws.proofs.LeftLabels.{slot_below, slot_within, slots_left}
use Rattle.plain_laws.proofs.PlainFunctions.{are_declared}
use Rattle.plain_laws.proofs.PlainRange.{tidy_everywhere, plain_everywhere, join_everywhere}
use Rattle.plain_laws.proofs.Statements.{promoted_twice}
use Rattle.whole_laws.specs.Rewritten.{plan_of, setting}
use Rattle.whole_laws.proofs.Unlabelled.{IsPlainItem}
use Rattle.c_resolved_defs.specs.Files.{IsLength, AreLengths, AreInitialisers}
use Rattle.c_resolved_defs.specs.Limits.{FlatCounts, most_counted}
use Rattle.c_resolved_defs.specs.PrintableExpressions.{IsName, Prints}
use Rattle.c_resolved_defs.specs.PrintableStatements.{most, FullPrints, LengthPrints, ValuesPrint, SlotPrints}
use Rattle.c_resolved_defs.specs.Resolved.{IsInitialised, IsResolvedFunction}
use Rattle.c_resolved_defs.specs.Spelling.{AreSpelled}
use Rattle.c_resolved_laws.proofs.Ranged.{function_ranged}
use Rattle.c_resolved_laws.proofs.SourceGiven.{Declared, function_declared}
use Rattle.c_resolved_defs.specs.Verbatims.{IsComment}
use Rattle.whole_laws.specs.Names.{HasOwnNames}
use Rattle.whole_laws.proofs.FactsFlat.{Tests}
use Rattle.whole_laws.proofs.FactsMoved.{labels_of, slot_of, reached_of, Left, Source, plain_trees, facts_of_plain}
use Rattle.whole_laws.proofs.FactsPlain.{GuardFacts}
use Rattle.whole_laws.proofs.PlainBound.{first_name}
use Rattle.whole_laws.proofs.PlainForms.{body_before, moved_ready, moved_length}
use Rattle.whole_laws.proofs.PlainLengths.{OfLocals, locals_tidy}
use Rattle.whole_laws.proofs.PlainSlots.{entry_there, in_drop, get_guard}
use Rattle.whole_laws.proofs.PlainSpelled.{NilFirst, HasText, Printed, IsReady, spelled_list}
use Rattle.whole_laws.proofs.PlainTops.{IsMovedForm}
use Rattle.whole_laws.proofs.PrintsOver.{spelled_prints, constant_prints}
use Rattle.whole_laws.proofs.SameTops.{moved_slots, moved_declared, moved_params}
use Rattle.whole_laws.proofs.TidyForm.{plain_of, tidy_plain}

abbrev cells_in : Option Slot → Option ℕ
cells_in None = None
cells_in (Some s) = s.cells

-- ---- names of slots

name_there : (ss : List Slot) (k : ℕ) → IsName (slot_name ss k) → k < length ss
name_there ss k h = at (slice_get ss k) refl h
  where
    at : (o : Option Slot) → slice_get ss k ≡ o → IsName (option_map_or (λ (s : Slot). s.name) o []) → k < length ss
    at None e i = absurd (true≢false (sym i.0))
    at (Some s) e i = slice_get_within ss k s e

name_at : (ss : List Slot) (k : ℕ) (s : Slot) → slice_get ss k ≡ Some s → slot_name ss k ≡ s.name
name_at ss k s e = ap (λ o. option_map_or (λ (r : Slot). r.name) o []) e

length_at : (n : ℕ) (ss : List Slot) (k : ℕ) (s : Slot) → AreLengths IsLength (drop n ss) → n ≤ k → slice_get ss k ≡ Some s → IsLength s.cells
length_at n [] k s h i e = cc
length_at zero (r ∷ ss) zero s h i e = subst IsLength (ap cells_in e) h.0
length_at zero (r ∷ ss) (suc k) s h i e = length_at zero ss k s h.1 (omega arith) e
length_at (suc n) (r ∷ ss) zero s h i e = absurd (omega (arith, i))
length_at (suc n) (r ∷ ss) (suc k) s h i e = length_at n ss k s h (omega (arith, i)) e

length_prints : (c : Option ℕ) → IsLength c → LengthPrints c
length_prints None h = tt
length_prints (Some n) h = let b = h.1 in omega (arith, b)

-- ---- a function with jumps

module _ (f h : Function) (m : IsMovedForm f h) (params : f.params ≤ length f.slots) (ts : List Top) (own : HasOwnNames ts h) where
  slot_named : (k : ℕ) → h.params ≤ k → k < length h.slots → IsName (slot_name h.slots k)
  slot_named k a b =
      let e = entry_there h.slots k b in
      subst IsName (sym (name_at h.slots k (entry_or no_slot h.slots k) e))
      (in_drop (λ (s : Slot). IsName s.name) h.params h.slots k (entry_or no_slot h.slots k) own.words a e)

  longer : length m.flat_form.slots ≤ length h.slots
  longer = let e = moved_length f h m params in omega (arith, e)

  name_over : (k : ℕ) → IsName (slot_name f.slots k) → IsName (slot_name h.slots k)
  name_over k i = at (cases_lt k f.params)
    where
      at : (k < f.params) ⊎ (f.params ≤ k) → IsName (slot_name h.slots k)
      at (inl b) =
          let d = moved_declared f h m params in
          subst IsName (sym (first_name k f.params f.slots h.slots (ap (λ n. take n h.slots) (sym (moved_params f h m params)) ∙ d.parameters) b)) i
      at (inr b) =
          let p = moved_params f h m params in
          let t = name_there f.slots k i in
          let w = m.is_flat in
          let q = w.more_slots in
          let l = longer in slot_named k (omega (arith, b, p)) (omega (arith, t, q, l))

  abbrev A : ExpressionTree → Type 0
  A e = Prints h.slots e

  abbrev Returns : Option ExpressionTree → Type 0
  Returns o = IfSome o A

  cells_print : (k : IntKind) (x i : ℕ) (es : List ExpressionTree) (n : ℕ) → IsName (slot_name h.slots x) → i + length es + n ≤ 1024 →
      AllByRecursion A es → Everywhere (HasText h) (assigned_cells k x i es n)
  cells_print k x i (e ∷ es) n a b v = (((a, omega (arith, b)), v.0), cells_print k x (suc i) es n a (omega (arith, b)) v.1)
  cells_print k x i [] zero a b v = tt
  cells_print k x i [] (suc n) a b v = (((a, omega (arith, b)), omega arith), cells_print k x (suc i) [] n a (omega (arith, b)) tt)

  assigned_print : (k : IntKind) (x : ℕ) (o : Option ℕ) (es : List ExpressionTree) → IsName (slot_name h.slots x) → AreInitialisers 1024 o es →
      AllByRecursion A es → Everywhere (HasText h) (assigned k x o es)
  assigned_print k x None [] a i v = tt
  assigned_print k x None (e ∷ es) a i v = ((a, v.0), tt)
  assigned_print k x (Some n) es a i v = let l = i.0 in let q = i.1 in cells_print k x 0 es (n - length es) a (omega (arith, l, q)) v

  selects : (t : SelectorTree) (v : ℕ) → A (selector_source t) → IsVariable (setting f m.flat_form) v (switch_kind t) → v < length m.flat_form.slots →
      A (assign_number (switch_kind t) v (selector_source t)) × Tests A A A Returns IsComment constant (switch_kind t) v
  selects t v i w b =
      let n = w.new in
      let a = n.0 in
      let p = moved_params f h m params in
      let l = longer in
      let name = slot_named v (omega (arith, a, p)) (omega (arith, b, l)) in
      let k = switch_kind t in
      ((name, i), λ z. (name, constant_prints h.slots k (converted k z) (promoted_twice (operand_kind (kind_of (selector_source t)))) (converted-in_range k z)))

  one : A (number Int (pos 1))
  one = omega arith

  abbrev FromSource : Tree → Type 0
  FromSource x = Source A A A Returns IsComment (λ e i. i) f h m one selects x

  local_print : (x : ℕ) (es : List ExpressionTree) → IsInitialised f.slots (Local x (Some es)) → f.params ≤ x → AllByRecursion A es →
      Everywhere (HasText h) (initialised (plan_of f) x es)
  local_print x es i a v = at (slice_get f.slots x) refl i
    where
      initialisers : (s r : Slot) → Some s ≡ Some r → AreInitialisers 1024 s.cells es → AreInitialisers 1024 r.cells es
      initialisers s r e j = subst (λ c. AreInitialisers 1024 c es) (ap cells_in e) j

      at : (o : Option Slot) → slice_get f.slots x ≡ o → IsSomeAnd o (λ (s : Slot). AreInitialisers 1024 s.cells es) →
          Everywhere (HasText h) (initialised (plan_of f) x es)
      at None e j = absurd j
      at (Some s) e j =
          let b = slice_get_within f.slots x s e in
          let r = entry_or no_slot f.slots x in
          let p = moved_params f h m params in
          let w = m.is_flat in
          let q = w.more_slots in
          let l = longer in
          assigned_print r.kind x r.cells es (slot_named x (omega (arith, a, p)) (omega (arith, b, q, l)))
          (initialisers s r (sym e ∙ entry_there f.slots x b) j) v

  abbrev Given : Tree → Type 0
  Given x = HasText h x × (IsInitialised f.slots x × Declared (λ y. f.params ≤ y) x)

  from_source : (x : Tree) → Given x → FromSource x
  from_source (Local x None) g = (g.0, tt)
  from_source (Local x (Some es)) g = (g.0, local_print x es g.1.0 g.1.1.0 g.0)
  from_source x g = (g.0, tt)

  guard_named : (l : ℕ) → Left f h m l → IsName (slot_name h.slots (slot_of f h m l))
  guard_named l i =
      let low = slot_below (length m.flat_form.slots) (labels_of f h m) l in
      let high = slot_within (length m.flat_form.slots) (labels_of f h m) l i in
      let e = moved_length f h m params in
      let w = m.is_flat in
      let q = w.more_slots in
      let p = moved_params f h m params in
      slot_named (slot_of f h m l) (omega (arith, low, q, p, params)) (omega (arith, high, e))

  picks : (s : SelectorTree) (k : IntKind) → promoted k ≡ k → A (selector_source s) → SelectorLabels (Left f h m) s → ArePicks k s →
      A (picked (slot_of f h m) k s)
  picks (Selects e) k q i l p = i
  picks (Pick n z s) k q i l p = (guard_named n l.0, constant_prints h.slots k z q p.0, picks s k q i l.1 p.1)

  truths : (e : ExpressionTree) → A e → A (truth e)
  truths e i = at (is_truth e)
    where
      at : (b : Bool) → A (cond b e (unequal_zero e))
      at true = i
      at false = (i, omega arith)

  guards : GuardFacts A A A Returns IsComment (slot_of f h m) (Left f h m)
  guards = record {
    on = λ l i. guard_named l i;
    off = λ l i. guard_named l i;
    and = λ l e i v. (guard_named l i, v);
    or = λ l e i v. (guard_named l i, v);
    picks = λ s i l p. picks s (switch_kind s) (promoted_twice (operand_kind (kind_of (selector_source s)))) i l p;
    truths = truths;
    sets = λ l e i v. (guard_named l i, v);
    one = one;
    zero = omega arith;
  }

  text_there : (counts : FlatCounts) (all : List Top) → IsResolvedFunction counts all f → AreSpelled f (body_of f) → Everywhere (HasText h) (body_of h)
  text_there counts all r s =
      facts_of_plain A A A Returns IsComment (λ e i. i) f h m one selects guards
      (everywhere_map Given FromSource from_source (body_of f)
      (everywhere_both (HasText h) (λ x. IsInitialised f.slots x × Declared (λ y. f.params ≤ y) x) (body_of f)
      (spelled_prints f h.slots name_over (body_of f) s)
      (everywhere_both (IsInitialised f.slots) (Declared (λ y. f.params ≤ y)) (body_of f) r.initialised (function_declared counts all f r))))

  -- ---- first parts and declarations

  nil_tidy : (x : Tree) → NilFirst x → NilFirst (tidy_item x)
  nil_tidy (For first t u a) i = ap tidy i
  nil_tidy _ i = tt

  -- a declaration has no value, or is that of a guard, which is 0
  abbrev Zeros : ℕ → Option (List ExpressionTree) → Type 0
  Zeros x es = (es ≡ None) ⊎ ((es ≡ Some (number Int (pos 0) ∷ [])) × (length m.flat_form.slots ≤ x) × (x < length h.slots))

  abbrev Simple : Tree → Type 0
  Simple x = NilFirst x × OfLocals Zeros x

  declarations_simple : (base end : ℕ) (a : Forest) → AreDeclarations base end a → length m.flat_form.slots ≤ base → end ≤ length h.slots → Everywhere Simple a
  declarations_simple base end Nil none l q = tt
  declarations_simple base end (Then x a) (one_more (variable y) r) l q = ((tt, inl refl), declarations_simple base end a r l q)
  declarations_simple base end (Then x a) (one_more (guarding y i j) r) l q =
      ((tt, inr (refl, omega (arith, l, i), omega (arith, j, q))), declarations_simple base end a r l q)

  first_nil : (first : Forest) → first ≡ Nil → plain_list (slot_of f h m) first ≡ Nil
  first_nil first e = ap (plain_list (slot_of f h m)) e

  item_simple : (x : Tree) → IsConverted x × IsPlainFor x → Simple (plain_item (slot_of f h m) x)
  item_simple (For first t u a) i = (first_nil first i.1.0, tt)
  item_simple (Local x es) i = absurd i.0
  item_simple _ i = (tt, tt)

  all_simple : Everywhere Simple (body_of h)
  all_simple =
      let d = trees_of (declared (reached_of f h m) (labels_of f h m)) in
      let slot = slot_of f h m in
      let new = trees_of m.new in
      let e = moved_length f h m params in
      subst (Everywhere Simple) (sym (plain_trees f h m))
      (tidy_everywhere Simple (λ x i. (nil_tidy x i.0, locals_tidy Zeros x i.1)) (join d (plain_list slot new))
      (join_everywhere Simple d (plain_list slot new) (declarations_simple _ _ d (are_declared (reached_of f h m) (labels_of f h m)) (omega arith)
      (omega (arith, e)))
      (plain_everywhere slot (λ x. IsConverted x × IsPlainFor x) Simple item_simple new
      (everywhere_both IsConverted IsPlainFor new m.made.converted m.made.loops))))

  module _ (counts : FlatCounts) (all : List Top) (resolved : IsResolvedFunction counts all h) where
    -- a guard is a number, and its value 0
    guard_cells : (k : ℕ) → length m.flat_form.slots ≤ k → k < length h.slots → (entry_or no_slot h.slots k).cells ≡ None
    guard_cells k a b =
        let ns = names_left m.new 0 m.names in
        let c = slots_left m.new 0 m.names in
        let d = length_slots ns in
        let e = moved_length f h m params in
        let g = get_guard m.flat_form.slots ns k a (omega (arith, b, e, c, d)) in
        ap cells_in (sym (entry_there h.slots k b) ∙ ap (λ ss. slice_get ss k) (moved_slots f h m params) ∙ g.1)
      where
        length_slots : (ns : List (List ℕ)) → length (map guard_slot ns) ≡ length ns
        length_slots [] = refl
        length_slots (n ∷ ns) = ap suc (length_slots ns)

    zero_prints : FullPrints h.slots 2 (number Int (pos 0))
    zero_prints = record { prints = omega arith; few = omega arith }

    values : (k : ℕ) (es : Option (List ExpressionTree)) → Zeros k es → ValuesPrint h.slots (entry_or no_slot h.slots k).cells es
    values k es (inl q) = subst (ValuesPrint h.slots (entry_or no_slot h.slots k).cells) (sym q) tt
    values k es (inr q) =
        subst (ValuesPrint h.slots (entry_or no_slot h.slots k).cells) (sym q.0)
        (subst (λ c. ValuesPrint h.slots c (Some (number Int (pos 0) ∷ []))) (sym (guard_cells k q.1 q.2)) zero_prints)

    declarator : (k : ℕ) (es : Option (List ExpressionTree)) → h.params ≤ k → k < length h.slots → Zeros k es → Printed h k es
    declarator k es a b z =
        let s = entry_or no_slot h.slots k in
        let e = entry_there h.slots k b in
        subst (λ o. SlotPrints h.slots o es) (sym e) (record {
          named = subst IsName (name_at h.slots k s e) (slot_named k a b);
          length = length_prints s.cells (length_at h.params h.slots k s resolved.lengths.others a e);
          values = values k es z;
        })

    printed : (x : Tree) → OfLocals Zeros x × (Declared (λ y. h.params ≤ y) x × ItemSlots (λ y. y < length h.slots) x) → OfLocals (Printed h) x
    printed (Local k es) i = declarator k es i.1.0.0 i.1.1.0 i.0
    printed _ i = tt

    ready : (counts' : FlatCounts) (ts' : List Top) → IsResolvedFunction counts' ts' f → AreSpelled f (body_of f) → Everywhere (IsReady h) (body_of h)
    ready counts' ts' r s =
        let a = body_of h in
        let simple = all_simple in
        let plain = subst (Everywhere IsPlainItem) (sym (plain_trees f h m))
        (tidy_plain (body_before f h m params) (plain_of h (body_before f h m params) (moved_ready f h m params))) in
        let locals = everywhere_map (λ x. OfLocals Zeros x × (Declared (λ y. h.params ≤ y) x × ItemSlots (λ y. y < length h.slots) x))
        (OfLocals (Printed h)) printed a
        (everywhere_both (OfLocals Zeros) (λ x. Declared (λ y. h.params ≤ y) x × ItemSlots (λ y. y < length h.slots) x) a
        (everywhere_map Simple (OfLocals Zeros) (λ x i. i.1) a simple)
        (everywhere_both (Declared (λ y. h.params ≤ y)) (ItemSlots (λ y. y < length h.slots)) a (function_declared counts all h resolved)
        (function_ranged counts all h resolved).slots)) in
        everywhere_both (HasText h) (λ x. IsPlainItem x × (NilFirst x × OfLocals (Printed h) x)) a (text_there counts' ts' r s)
        (everywhere_both IsPlainItem (λ x. NilFirst x × OfLocals (Printed h) x) a plain
        (everywhere_both NilFirst (OfLocals (Printed h)) a (everywhere_map Simple NilFirst (λ x i. i.0) a simple) locals))

    pub moved_items : (counts' : FlatCounts) (ts' : List Top) → IsResolvedFunction counts' ts' f → AreSpelled f (body_of f) →
        most_counted (body_of h) ≤ most → AreSpelled h (body_of h)
    moved_items counts' ts' r s w = spelled_list h (body_of h) (ready counts' ts' r s) w
