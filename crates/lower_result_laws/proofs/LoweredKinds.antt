-- Kinds agree in what a function of a resolved program is lowered to.
use Rattle.std.proofs.Common.{◌≡◌, ℕ, zero, suc, ◌+◌, ◌-◌, ◌≤◌, ◌<◌, arith, pos, List, [], ◌∷◌, length, Option, Some, None, IsSome, slice_get, refl, sym, ap, subst, ◌∙◌}
use Rattle.std.specs.Prelude.{IsSomeAnd}
use Rattle.std.specs.List.{AllByRecursion}
use Rattle.std.proofs.lemmas.Int.{ints}
use Rattle.std.proofs.lemmas.Option.{slice_get_within}
use Rattle.c_types.specs.declared.kinds.IntKind.{IntKind}
use Rattle.c_types.specs.declared.kinds.IntKind.TheVariants.{Int}
use Rattle.c_types.specs.Numbers.{IsInRange}
use Rattle.c_tree.specs.declared.tree.Function.{Function}
use Rattle.c_tree.specs.declared.tree.Slot.{Slot}
use Rattle.c_tree.specs.declared.tree.Top.{Top}
use Rattle.c_tree.specs.Constants.{kind_of}
use Rattle.c_tree.specs.Cases.{selector_source}
use Rattle.c_tree.specs.ExpressionTrees.{ExpressionTree}
use Rattle.c_tree.specs.Everywhere.{Everywhere}
use Rattle.c_tree.specs.InRange.{body_of}
use Rattle.c_tree.specs.Numerals.{constant}
use Rattle.c_tree.specs.TestTrees.{SelectorTree}
use Rattle.c_tree.specs.Trees.{Tree, Forest, Evaluate, Return, If, While, Do, For, Switch, Block, Local, Break, Continue, Goto, Mark, Arm, Leap, Land, Arrival, Note, join}
use Rattle.c_tree.proofs.WellMoved.{everywhere_map, everywhere_both}
use Rattle.jump_meaning.specs.Code.{entry_or}
use Rattle.jump_meaning.specs.World.{no_slot}
use Rattle.jump_meaning.specs.Operations.{operand_kind}
use Rattle.jump_meaning.specs.Step.{switch_kind}
use Rattle.flat_laws.specs.Pieces.{assigned_cells, assign_number}
use Rattle.flat_laws.specs.FlatForm.{assigned, initialised}
use Rattle.flat_laws.specs.Source.{IsVariable}
use Rattle.plain_laws.proofs.Statements.{promoted_twice}
use Rattle.c_resolved_defs.specs.Names.{Names}
use Rattle.c_resolved_defs.specs.Files.{AreInitialisers}
use Rattle.c_resolved_defs.specs.Limits.{FlatCounts}
use Rattle.c_resolved_defs.specs.Resolved.{IsInitialised, IsResolvedFunction, names_in}
use Rattle.c_resolved_laws.proofs.SourceGiven.{Declared, function_declared}
use Rattle.whole_laws.proofs.Facts.{AnyNote}
use Rattle.whole_laws.proofs.ItemKinds.{HasKinds, Returned}
use Rattle.whole_laws.proofs.MadeKinds.{Known, Value, Operand, value_operand, IsFreeNumber, IsFreeArray, number_known, assign_known, cell_known, test_known}
use Rattle.whole_laws.proofs.NamesKept.{KeepsNames}
use Rattle.whole_laws.proofs.PlainKinds.{source_kinds}
use Rattle.whole_laws.proofs.PlainSlots.{entry_there}
use Rattle.lower_result_laws.proofs.Lowered.{layout_of, setting}
use Rattle.lower_result_laws.proofs.FactsLowered.{AreH, Tests}
use Rattle.lower_result_laws.proofs.LoweredFacts.{new_slots, Source, front, list, list_has, facts_lowered}
use Rattle.lower_result_laws.proofs.LoweredSlots.{switch_free, block_number, block_array}

small_in : (i : ℕ) → i ≤ 1024 → IsInRange Int (pos i)
small_in i h = record { from_least = grind (arith, ints); to_greatest = grind (arith, ints, h) }

abbrev cells_in : Option Slot → Option ℕ
cells_in None = None
cells_in (Some s) = s.cells

-- ---- the assignments of declarations

module _ (k : Names) (result : Option IntKind) where
  abbrev AreKinds : Forest → Type 0
  AreKinds a = AreH (Value k) (Operand k) (Known k) (Returned k result) AnyNote a

  cells_have : (kind : IntKind) (x i : ℕ) (es : List ExpressionTree) (m : ℕ) → IsFreeArray k x kind → i + length es + m ≤ 1024 →
      AllByRecursion (Value k) es → AreKinds (assigned_cells kind x i es m)
  cells_have kind x i (e ∷ es) m a h v = (
    (value_operand k _ (cell_known k x i kind e a (small_in i (omega (arith, h))) v.0), tt),
    cells_have kind x
        (suc i) es m a (omega (arith, h)) v.1,
  )
  cells_have kind x i [] zero a h v = tt
  cells_have kind x i [] (suc m) a h v = (
    (value_operand k _ (cell_known k x i kind _ a (small_in i (omega (arith, h))) (number_known k Int (pos 0) (small_in 0 (omega arith)))), tt),
    cells_have kind x (suc i) [] m a (omega (arith, h)) tt,
  )

  assigned_have : (kind : IntKind) (x : ℕ) (o : Option ℕ) (es : List ExpressionTree) → (o ≡ None → IsFreeNumber k x kind) →
      (IsSome o → IsFreeArray k x kind) → AreInitialisers 1024 o es → AllByRecursion (Value k) es → AreKinds (assigned kind x o es)
  assigned_have kind x None [] n a i v = tt
  assigned_have kind x None (e ∷ es) n a i v = ((value_operand k _ (assign_known k x kind e (n refl) v.0), tt), tt)
  assigned_have kind x (Some c) es n a i v = let l = i.0 in let q = i.1 in cells_have kind x 0 es (c - length es) (a refl) (omega (arith, l, q)) v

-- ---- of a function of a resolved program

module _ (counts : FlatCounts) (ts : List Top) (f : Function) (r : IsResolvedFunction counts ts f) (used taken : List (List ℕ)) (k : Names)
    (slots : k.slots ≡ new_slots f r.form.parameters used taken (body_of f)) (kept : KeepsNames (names_in ts f) k) where
  abbrev params : f.params ≤ length f.slots
  params = r.form.parameters

  abbrev a : Forest
  a = body_of f

  abbrev FromSource : Tree → Type 0
  FromSource x = Source f params used taken a (Value k) (Operand k) (Known k) (Returned k f.result) AnyNote x

  selects : (t : SelectorTree) → Value k (selector_source t) → (v : ℕ) →
      IsVariable (setting f a (new_slots f params used taken a)) v (switch_kind t) → v < length (new_slots f params used taken a)
      → Operand k (assign_number (switch_kind t) v (selector_source t)) ×
      Tests (Value k) (Operand k) (Known k) (Returned k f.result) AnyNote constant (switch_kind t) v
  selects t s v w b =
      let kind = switch_kind t in
      let free = switch_free f params used taken a k slots v kind w b in (
        value_operand k _ (assign_known k v kind (selector_source t) free s),
        λ z. test_known k v kind z (promoted_twice (operand_kind (kind_of (selector_source t)))) free,
      )

  local_has : (x : ℕ) (es : List ExpressionTree) → IsInitialised f.slots (Local x (Some es)) → f.params ≤ x → AllByRecursion (Value k) es →
      AreKinds k f.result (initialised (layout_of f a).plan x es)
  local_has x es i p v = at (slice_get f.slots x) refl i
    where
      at : (o : Option Slot) → slice_get f.slots x ≡ o → IsSomeAnd o (λ (s : Slot). AreInitialisers 1024 s.cells es) →
          AreKinds k f.result (initialised (layout_of f a).plan x es)
      at None e j = absurd j
      at (Some s) e j =
          let b = slice_get_within f.slots x s e in
          let there = entry_there f.slots x b in
          let own = entry_or no_slot f.slots x in
          assigned_have k f.result own.kind x own.cells es (λ c. block_number f params used taken a k slots x own there p c)
          (λ c. block_array f params used taken a k slots x own there p c)
          (initialisers s (sym e ∙ there) j) v
        where
          initialisers : (s : Slot) → Some s ≡ Some (entry_or no_slot f.slots x) → AreInitialisers 1024 s.cells es →
              AreInitialisers 1024 (entry_or no_slot f.slots x).cells es
          initialisers s q j = subst (λ c. AreInitialisers 1024 c es) (ap cells_in q) j

  abbrev Given : Tree → Type 0
  Given x = HasKinds k f.result x × (IsInitialised f.slots x × Declared (λ y. f.params ≤ y) x)

  from_source : (x : Tree) → Given x → FromSource x
  from_source (Local x None) g = (g.0, tt)
  from_source (Local x (Some es)) g = (g.0, local_has x es g.1.0 g.1.1.0 g.0)
  from_source (Switch s c) g = (g.0, selects s g.0.0)
  from_source x g = (g.0, tt)

  from_body : Everywhere FromSource a
  from_body =
      everywhere_map Given FromSource from_source a
      (everywhere_both (HasKinds k f.result) (λ x. IsInitialised f.slots x × Declared (λ y. f.params ≤ y) x) a (source_kinds counts ts f r k kept)
      (everywhere_both (IsInitialised f.slots) (Declared (λ y. f.params ≤ y)) a r.initialised (function_declared counts ts f r)))

  -- of the list, which declares nothing
  pub list_kinds : AreH (Value k) (Operand k) (Known k) (Returned k f.result) AnyNote (list f params used taken a)
  list_kinds = list_has f params used taken a (Value k) (Operand k) (Known k) (Returned k f.result) AnyNote from_body

  pub lowered_kinds : Everywhere (HasKinds k f.result) (join (front f params used taken a) (list f params used taken a))
  lowered_kinds = facts_lowered f params used taken a (Value k) (Operand k) (Known k) (Returned k f.result) AnyNote from_body
