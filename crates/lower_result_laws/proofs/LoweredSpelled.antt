-- A lowered function is spelled, and within the limits of a text.
use Rattle.std.proofs.Common.{◌≡◌, ◌⊎◌, inl, inr, ℕ, zero, suc, ◌+◌, ◌-◌, ◌≤◌, ◌<◌, arith, true≢false, List, [], ◌∷◌, length, drop, Option, Some, None, slice_get, get_or, refl, sym, ap, subst, ◌∙◌}
use Rattle.std.specs.Prelude.{IsSomeAnd}
use Rattle.std.specs.Option.{option_map_or}
use Rattle.std.specs.List.{AllByRecursion}
use Rattle.std.proofs.lemmas.Option.{unwrap_or-slice_get}
use Rattle.std.proofs.lemmas.Bool.{cases_lt}
use Rattle.c_types.specs.declared.kinds.IntKind.{IntKind}
use Rattle.c_types.specs.Numbers.{converted}
use Rattle.c_types.specs.Words.{is_word}
use Rattle.c_types.proofs.Residues.{converted-in_range}
use Rattle.c_tree.specs.declared.tree.Function.{Function}
use Rattle.c_tree.specs.declared.tree.Slot.{Slot}
use Rattle.c_tree.specs.declared.tree.Top.{Top}
use Rattle.c_tree.specs.Cases.{selector_source}
use Rattle.c_tree.specs.Constants.{kind_of}
use Rattle.c_tree.specs.ExpressionTrees.{ExpressionTree}
use Rattle.c_tree.specs.Numerals.{constant}
use Rattle.c_tree.specs.TestTrees.{SelectorTree}
use Rattle.c_tree.specs.TextExpressions.{slot_name}
use Rattle.c_tree.specs.TextItems.{label_name}
use Rattle.c_tree.specs.Trees.{Tree, Forest, Nil, Then, Switch, Local, join}
use Rattle.c_tree.specs.Everywhere.{total, Everywhere, EverywhereOf}
use Rattle.c_tree.proofs.WellMoved.{everywhere_map, everywhere_both}
use Rattle.jump_meaning.specs.Code.{entry_or}
use Rattle.jump_meaning.specs.World.{no_slot}
use Rattle.jump_meaning.specs.Operations.{operand_kind}
use Rattle.jump_meaning.specs.Step.{switch_kind}
use Rattle.flat_laws.specs.Pieces.{assign_number, assigned_cells}
use Rattle.flat_laws.specs.FlatForm.{assigned, initialised, marks}
use Rattle.flat_laws.specs.Source.{IsVariable}
use Rattle.plain_laws.proofs.Statements.{promoted_twice}
use Rattle.lower_laws.specs.Lowered.{declarations, variables_of}
use Rattle.lower_laws.specs.Functions.{AreFlat}
use Rattle.c_resolved_defs.specs.Within.{Each}
use Rattle.c_resolved_defs.specs.Files.{AreInitialisers, IsLength, AreLengths}
use Rattle.c_resolved_defs.specs.PrintableExpressions.{IsName, counted, counted_at, level_of}
use Rattle.c_resolved_defs.specs.PrintableStatements.{most, FullPrints, OptionPrints, LengthPrints, SlotPrints, depth}
use Rattle.c_resolved_defs.specs.Resolved.{IsInitialised}
use Rattle.c_resolved_defs.specs.Spelling.{AreSpelled}
use Rattle.c_resolved_defs.specs.Verbatims.{IsComment}
use Rattle.whole_laws.specs.Names.{HasOwnNames}
use Rattle.whole_laws.proofs.PlainBound.{first_name}
use Rattle.whole_laws.proofs.PlainSlots.{entry_there, in_drop}
use Rattle.whole_laws.proofs.PrintsOver.{constant_prints}
use Rattle.whole_laws.proofs.SourceBound.{DeclaresIn}
use Rattle.whole_laws.proofs.Wrappers.{bracket_most, case_counted}
use Rattle.lower_result_laws.proofs.Lowered.{layout_of, setting}
use Rattle.lower_result_laws.proofs.FactsLowered.{H, AreH, Tests}
use Rattle.lower_result_laws.proofs.LoweredFacts.{new_slots, slots_length, list, front, Source, list_has}
use Rattle.lower_result_laws.proofs.LoweredSlots.{same_parameters}
use Rattle.lower_result_laws.proofs.Numbered.{FlatView, fv_evaluate, fv_return, fv_note, fv_local, fv_goto, fv_mark, fv_jump, view}
use Rattle.lower_result_laws.proofs.GotosStand.{OfGoto}
use Rattle.lower_result_laws.specs.Modest.{IsModestItem}
use Rattle.lower_result_laws.proofs.SourcePrints.{A, C, HasPrints, source_prints}

-- ---- nesting

flat_depth : (xs : Forest) → AreFlat xs → depth xs ≤ 1
flat_depth Nil w = omega arith
flat_depth (Then x xs) w = at (view x w.0) (flat_depth xs w.1)
  where
    at : {y : Tree} → FlatView y → depth xs ≤ 1 → depth (Then y xs) ≤ 1
    at (fv_evaluate e) i = omega (arith, i)
    at (fv_return e) i = omega (arith, i)
    at (fv_note bs) i = omega (arith, i)
    at (fv_local x) i = omega (arith, i)
    at (fv_goto l) i = omega (arith, i)
    at (fv_mark l) i = omega (arith, i)
    at (fv_jump t l) i = omega (arith, i)

pub flat_shallow : (xs : Forest) → AreFlat xs → 1 + depth xs ≤ most
flat_shallow xs w = let h = flat_depth xs w in omega (arith, h)

-- ---- labels

at_label : (ls : List (List ℕ)) (l : ℕ) → Each IsName ls → l < length ls → IsName (get_or ls l [])
at_label [] l h b = absurd (omega (arith, b))
at_label (n ∷ ls) zero h b = h.0
at_label (n ∷ ls) (suc l) h b = at_label ls l h.1 (omega (arith, b))

label_named : (h : Function) → Each IsName h.labels → (l : ℕ) → l < length h.labels → IsName (label_name h l)
label_named h n l b = subst IsName (sym (unwrap_or-slice_get h.labels l [])) (at_label h.labels l n b)

-- ---- slots

named_at : (ss : List Slot) (x : ℕ) (s : Slot) → slice_get ss x ≡ Some s → slot_name ss x ≡ s.name
named_at ss x s e = ap (λ o. option_map_or (λ (r : Slot). r.name) o []) e

no_slot_there : (ss : List Slot) (x : ℕ) → length ss ≤ x → slot_name ss x ≡ []
no_slot_there [] x b = refl
no_slot_there (s ∷ ss) zero b = absurd (omega (arith, b))
no_slot_there (s ∷ ss) (suc x) b = no_slot_there ss x (omega (arith, b))

length_at : (n : ℕ) (ss : List Slot) (x : ℕ) (s : Slot) → AreLengths IsLength (drop n ss) → n ≤ x → slice_get ss x ≡ Some s → IsLength s.cells
length_at n ss x s h b e = in_drop (λ (r : Slot). IsLength r.cells) n ss x s (as_each (drop n ss) h) b e
  where
    as_each : (rs : List Slot) → AreLengths IsLength rs → AllByRecursion (λ (r : Slot). IsLength r.cells) rs
    as_each [] i = tt
    as_each (r ∷ rs) i = (i.0, as_each rs i.1)

length_prints : (o : Option ℕ) → IsLength o → LengthPrints o
length_prints None h = tt
length_prints (Some n) h = let b = h.1 in omega (arith, b)

-- ---- a lowered function

module _ (f : Function) (params : f.params ≤ length f.slots) (used taken : List (List ℕ)) (a : Forest) (ts : List Top)
    (own : HasOwnNames ts (record f { slots = new_slots f params used taken a }))
    (lengths : AreLengths IsLength (drop f.params (new_slots f params used taken a))) where
  abbrev G : List Slot
  G = new_slots f params used taken a

  -- a variable that is no parameter has a name
  name_at : (x : ℕ) → f.params ≤ x → x < length G → IsName (slot_name G x)
  name_at x p b =
      let e = entry_there G x b in
      subst IsName (sym (named_at G x (entry_or no_slot G x) e)) (in_drop (λ (s : Slot). IsName s.name) f.params G x (entry_or no_slot G x) own.words p e)

  pub names_over : (x : ℕ) → IsName (slot_name f.slots x) → IsName (slot_name G x)
  names_over x h = at (cases_lt x f.params) (cases_lt x (length G))
    where
      at : (x < f.params) ⊎ (f.params ≤ x) → (x < length G) ⊎ (length G ≤ x) → IsName (slot_name G x)
      at (inl b) o = subst IsName (sym (first_name x f.params f.slots G (same_parameters f params used taken a) b)) h
      at (inr p) (inl b) = name_at x p b
      at (inr p) (inr b) =
          let n = slots_length f params used taken a in
          absurd (true≢false (sym h.0 ∙ ap is_word (no_slot_there f.slots x (omega (arith, b, n)))))

  abbrev E : ExpressionTree → Type 0
  E e = A f.slots G names_over e

  abbrev HasText : Tree → Type 0
  HasText x = HasPrints f.slots G names_over x

  abbrev ArePrinted : Forest → Type 0
  ArePrinted xs = AreH E E (C f.slots G names_over) (OptionPrints G) IsComment xs

  -- ---- what lowering makes prints

  abbrev IsModestOne : ExpressionTree → Type 0
  IsModestOne e = counted_at 2 e ≤ 398

  assign_prints : (k : IntKind) (x : ℕ) (e : ExpressionTree) → f.params ≤ x → x < length G → E e → IsModestOne e → E (assign_number k x e)
  assign_prints k x e p b i m = record { prints = (name_at x p b, i.prints); few = omega (arith, m) }

  cells_print : (k : IntKind) (x i : ℕ) (es : List ExpressionTree) (n : ℕ) → f.params ≤ x → x < length G → i + length es + n ≤ 1024 →
      AllByRecursion E es → AllByRecursion IsModestOne es → ArePrinted (assigned_cells k x i es n)
  cells_print k x i (e ∷ es) n p b s j m =
      let o = m.0 in
      let q = j.0 in (
        (record { prints = ((name_at x p b, omega (arith, s)), q.prints); few = omega (arith, o) }, tt),
        cells_print k x (suc i) es n p b (omega (arith, s)) j.1 m.1,
      )
  cells_print k x i [] zero p b s j m = tt
  cells_print k x i [] (suc n) p b s j m = (
    (record { prints = ((name_at x p b, omega (arith, s)), omega arith); few = omega arith }, tt),
    cells_print
        k x (suc i) [] n p b (omega (arith, s)) tt tt,
  )

  assigned_print : (k : IntKind) (x : ℕ) (o : Option ℕ) (es : List ExpressionTree) → f.params ≤ x → x < length G → AreInitialisers 1024 o es →
      AllByRecursion E es → AllByRecursion IsModestOne es → ArePrinted (assigned k x o es)
  assigned_print k x None [] p b s j m = tt
  assigned_print k x None (e ∷ es) p b s j m = ((assign_prints k x e p b j.0 m.0, tt), tt)
  assigned_print k x (Some c) es p b s j m = let l = s.0 in let q = s.1 in cells_print k x 0 es (c - length es) p b (omega (arith, l, q)) j m

  selects : (t : SelectorTree) → E (selector_source t) → counted (selector_source t) ≤ 398 → (v : ℕ) → IsVariable (setting f a G) v (switch_kind t) →
      v < length G
      → E (assign_number (switch_kind t) v (selector_source t)) × Tests E E (C f.slots G names_over) (OptionPrints G) IsComment constant (switch_kind t) v
  selects t i m v w b =
      let n = w.new in
      let k = switch_kind t in
      let o = bracket_most (level_of (selector_source t)) 2 in
      let name = name_at v n.0 b in (
        record { prints = (name, i.prints); few = omega (arith, m, o) },
        λ z. (let c = case_counted k v (converted k z) in
            record {
              prints = (
                name,
                constant_prints G k (converted k z) (promoted_twice (operand_kind (kind_of (selector_source t))))
                    (converted-in_range k z),
              );
              few = omega (arith, c);
            }),
      )

  abbrev FromSource : Tree → Type 0
  FromSource x = Source f params used taken a E E (C f.slots G names_over) (OptionPrints G) IsComment x

  abbrev Given : Tree → Type 0
  Given x = (HasText x × IsModestItem x) × (IsInitialised f.slots x × DeclaresIn f.params (length f.slots) x)

  local_prints : (x : ℕ) (es : List ExpressionTree) → IsInitialised f.slots (Local x (Some es)) → f.params ≤ x → x < length f.slots →
      AllByRecursion E es → AllByRecursion IsModestOne es → ArePrinted (initialised (layout_of f a).plan x es)
  local_prints x es i p b j m = at (slice_get f.slots x) refl i
    where
      cells_in : Option Slot → Option ℕ
      cells_in None = None
      cells_in (Some s) = s.cells

      at : (o : Option Slot) → slice_get f.slots x ≡ o → IsSomeAnd o (λ (s : Slot). AreInitialisers 1024 s.cells es) →
          ArePrinted (initialised (layout_of f a).plan x es)
      at None e q = absurd q
      at (Some s) e q =
          let n = slots_length f params used taken a in
          let there = entry_there f.slots x b in
          let own = entry_or no_slot f.slots x in
          assigned_print own.kind x own.cells es p (omega (arith, b, n)) (subst (λ c. AreInitialisers 1024 c es) (ap cells_in (sym e ∙ there)) q) j m

  from_source : (x : Tree) → Given x → FromSource x
  from_source (Local x None) g = (g.0.0, tt)
  from_source (Local x (Some es)) g = (g.0.0, local_prints x es g.1.0 g.1.1.0 g.1.1.1 g.0.0 g.0.1)
  from_source (Switch s c) g = (g.0.0, selects s g.0.0.0 g.0.1)
  from_source _ g = (g.0.0, tt)

  -- ---- the whole, with these labels

  module _ (h : Function) (slots : h.slots ≡ G) (names : Each IsName h.labels) where
    abbrev Below : ℕ → Type 0
    Below l = l < length h.labels

    spelled_flat : (xs : Forest) → AreFlat xs → ArePrinted xs → Everywhere (OfGoto Below) xs → Each Below (marks xs) → AreSpelled h xs
    spelled_flat Nil w p g m = tt
    spelled_flat (Then x xs) w p g m = at (view x w.0) p.0 g.0 m (λ n. spelled_flat xs w.1 p.1 g.1 n)
      where
        at : {y : Tree} → FlatView y → EverywhereOf (H E E (C f.slots G names_over) (OptionPrints G) IsComment) y → EverywhereOf (OfGoto Below) y →
            Each Below (marks (Then y xs)) → (Each Below (marks xs) → AreSpelled h xs) → AreSpelled h (Then y xs)
        at (fv_evaluate e) p g m k = (subst (λ ss. FullPrints ss 1 e) (sym slots) p.0, k m)
        at (fv_return e) p g m k = (subst (λ ss. OptionPrints ss e) (sym slots) p.0, k m)
        at (fv_note bs) p g m k = (p.0, k m)
        at (fv_local x) p g m k = absurd p.1
        at (fv_goto l) p g m k = (label_named h names l g, k m)
        at (fv_mark l) p g m k = (label_named h names l m.0, k m.1)
        at (fv_jump t l) p g m k = ((subst (λ ss. FullPrints ss 1 t) (sym slots) p.0.0, (label_named h names l g.1.0, tt), tt), k m)

    declared_prints : (x : ℕ) → f.params ≤ x → x < length G → SlotPrints h.slots (slice_get h.slots x) None
    declared_prints x p b =
        let e = entry_there G x b in
        let s = entry_or no_slot G x in
        subst (λ ss. SlotPrints ss (slice_get ss x) None) (sym slots)
        (subst (λ o. SlotPrints G o None) (sym e)
        (record {
          named = in_drop (λ (r : Slot). IsName r.name) f.params G x s own.words p e;
          length = length_prints s.cells (length_at f.params G x s lengths p e);
          values = tt;
        }))

    declarations_spelled : (x n : ℕ) (xs : Forest) → f.params ≤ x → x + n ≤ length G → AreSpelled h xs → AreSpelled h (join (declarations x n) xs)
    declarations_spelled x zero xs p b s = s
    declarations_spelled x (suc n) xs p b s = (
      declared_prints x p (omega (arith, b)),
      declarations_spelled (suc x) n xs (omega (arith, p))
          (omega (arith, b)) s,
    )

    pub lowered_spelled : AreSpelled f a → Everywhere IsModestItem a → Everywhere (IsInitialised f.slots) a →
        Everywhere (DeclaresIn f.params (length f.slots)) a
        → AreFlat (list f params used taken a) → Everywhere (OfGoto Below) (list f params used taken a) → Each Below (marks (list f params used taken a))
        → AreSpelled h (join (front f params used taken a) (list f params used taken a))
    lowered_spelled spelled modest initialised declares flat gotos labels =
        let L = list f params used taken a in
        let given = everywhere_map Given FromSource from_source a
        (everywhere_both (λ x. HasText x × IsModestItem x) (λ x. IsInitialised f.slots x × DeclaresIn f.params (length f.slots) x) a
        (everywhere_both HasText IsModestItem a (source_prints f G names_over a spelled) modest)
        (everywhere_both (IsInitialised f.slots) (DeclaresIn f.params (length f.slots)) a initialised declares)) in
        let printed = list_has f params used taken a E E (C f.slots G names_over) (OptionPrints G) IsComment given in
        let n = slots_length f params used taken a in
        declarations_spelled f.params (length f.slots - f.params + total variables_of a) L (omega arith) (omega (arith, n, params))
        (spelled_flat L flat printed gotos labels)
