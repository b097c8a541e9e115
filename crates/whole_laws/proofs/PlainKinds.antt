-- Kinds agree in the plain form of a function.
use Rattle.std.proofs.Common.{◌≡◌, ℕ, zero, suc, ◌+◌, ◌-◌, ◌<◌, ◌≤◌, pos, List, [], ◌∷◌, length, Option, Some, None, IsSome, slice_get, refl, sym, ap, subst, ◌∙◌, arith}
use Rattle.std.specs.Prelude.{IsSomeAnd}
use Rattle.std.specs.List.{AllByRecursion}
use Rattle.std.proofs.lemmas.Int.{ints}
use Rattle.std.proofs.lemmas.Option.{slice_get_within}
use Rattle.c_types.specs.declared.kinds.IntKind.{IntKind}
use Rattle.c_types.specs.declared.kinds.IntKind.TheVariants.{Int}
use Rattle.c_types.specs.Numbers.{promoted, IsInRange}
use Rattle.c_tree.specs.declared.tree.Slot.{Slot}
use Rattle.c_tree.specs.declared.tree.Function.{Function}
use Rattle.c_tree.specs.declared.tree.Top.{Top}
use Rattle.c_tree.specs.Cases.{selector_source, ArePicks}
use Rattle.c_tree.specs.Constants.{kind_of}
use Rattle.c_tree.specs.ExpressionTrees.{ExpressionTree}
use Rattle.c_tree.specs.Labels.{SelectorLabels}
use Rattle.c_tree.specs.Numerals.{number, constant}
use Rattle.c_tree.specs.TestTrees.{SelectorTree}
use Rattle.c_tree.specs.Trees.{Tree, Forest, Evaluate, Return, If, While, Do, For, Switch, Block, Local, Break, Continue, Goto, Mark, Arm, Leap, Land, Arrival, Note}
use Rattle.c_tree.specs.Everywhere.{Everywhere}
use Rattle.c_tree.specs.InRange.{body_of}
use Rattle.c_tree.proofs.WellMoved.{everywhere_map, everywhere_both}
use Rattle.jump_meaning.specs.Code.{entry_or}
use Rattle.jump_meaning.specs.World.{no_slot}
use Rattle.jump_meaning.specs.Operations.{operand_kind}
use Rattle.jump_meaning.specs.Step.{switch_kind}
use Rattle.flat_laws.specs.Pieces.{assign_number, assigned_cells}
use Rattle.flat_laws.specs.FlatForm.{assigned, initialised}
use Rattle.flat_laws.specs.Source.{IsVariable}
use Rattle.plain_laws.specs.GuardSlots.{plain_selector}
use Rattle.plain_laws.proofs.Statements.{promoted_twice}
use Rattle.whole_laws.specs.Rewritten.{plan_of, setting}
use Rattle.c_resolved_defs.specs.Names.{Names}
use Rattle.c_resolved_defs.specs.Files.{AreInitialisers}
use Rattle.c_resolved_defs.specs.Form.{HasSourceForm}
use Rattle.c_resolved_defs.specs.Kinds.{ReturnFits, ItemAgrees, KeepsConsts}
use Rattle.c_resolved_defs.specs.Limits.{FlatCounts}
use Rattle.c_resolved_defs.specs.Resolved.{IsInitialised, IsResolvedFunction, names_in}
use Rattle.c_resolved_laws.proofs.SourceGiven.{Declared, function_declared}
use Rattle.whole_laws.proofs.Facts.{AnyNote, facts_map, some_map}
use Rattle.whole_laws.proofs.FactsFlat.{Tests}
use Rattle.whole_laws.proofs.FactsMoved.{slot_of, Left, Source, facts_of_plain, facts_of_unmoved}
use Rattle.whole_laws.proofs.FactsPlain.{GuardFacts}
use Rattle.whole_laws.proofs.ItemKinds.{Returned, HasKinds, Agrees, to_kinds}
use Rattle.whole_laws.proofs.MadeKinds.{Known, Value, Operand, value_operand, IsFreeNumber, IsFreeArray, number_known, assign_known, cell_known, test_known, guard_known, off_known, and_known, or_known, truth_known, IsPickable, picked_known, kind_there}
use Rattle.whole_laws.proofs.NamesKept.{KeepsNames, kinds_over, consts_over}
use Rattle.whole_laws.proofs.PlainSlots.{entry_there, switch_free, block_number, block_array, guard_free}
use Rattle.whole_laws.proofs.PlainTops.{IsMovedForm, IsUnmovedForm}

small_in : (i : ℕ) → i ≤ 1024 → IsInRange Int (pos i)
small_in i h = record { from_least = grind (arith, ints); to_greatest = grind (arith, ints, h) }

abbrev cells_in : Option Slot → Option ℕ
cells_in None = None
cells_in (Some s) = s.cells

-- ---- the assignments of declarations

module _ (k : Names) (result : Option IntKind) where
  abbrev AreKinds : Forest → Type 0
  AreKinds a = Everywhere (HasKinds k result) a

  cells_have : (kind : IntKind) (x i : ℕ) (es : List ExpressionTree) (m : ℕ) → IsFreeArray k x kind → i + length es + m ≤ 1024 →
      AllByRecursion (Value k) es → AreKinds (assigned_cells kind x i es m)
  cells_have kind x i (e ∷ es) m a h v = (
    value_operand k _ (cell_known k x i kind e a (small_in i (omega (arith, h))) v.0),
    cells_have kind x (suc i)
        es m a (omega (arith, h)) v.1,
  )
  cells_have kind x i [] zero a h v = tt
  cells_have kind x i [] (suc m) a h v = (
    value_operand k _ (cell_known k x i kind _ a (small_in i (omega (arith, h))) (number_known k Int (pos 0) (small_in 0 (omega arith)))),
    cells_have kind x (suc i) [] m a (omega (arith, h)) tt,
  )

  assigned_have : (kind : IntKind) (x : ℕ) (o : Option ℕ) (es : List ExpressionTree) → (o ≡ None → IsFreeNumber k x kind) →
      (IsSome o → IsFreeArray k x kind) → AreInitialisers 1024 o es → AllByRecursion (Value k) es → AreKinds (assigned kind x o es)
  assigned_have kind x None [] n a i v = tt
  assigned_have kind x None (e ∷ es) n a i v = (value_operand k _ (assign_known k x kind e (n refl) v.0), tt)
  assigned_have kind x (Some c) es n a i v = let l = i.0 in let q = i.1 in cells_have kind x 0 es (c - length es) (a refl) (omega (arith, l, q)) v

returned_over : (n k : Names) → KeepsNames n k → (result : Option IntKind) (e : Option ExpressionTree) → Returned n result e → Returned k result e
returned_over n k kept result e h = (some_map (Value n) (Value k) (λ x v. ((kinds_over n k kept x v.0.0, consts_over n k kept x v.0.1), v.1)) e h.0, h.1)

-- with other names
pub kinds_map : (n k : Names) → KeepsNames n k → (result : Option IntKind) (x : Tree) → HasKinds n result x → HasKinds k result x
kinds_map n k kept result x h =
    facts_map (Value n) (Operand n) (Known n) (Value k) (Operand k) (Known k) (Returned n result) (Returned k result)
    (λ e v. ((kinds_over n k kept e v.0.0, consts_over n k kept e v.0.1), v.1))
    (λ e v. ((kinds_over n k kept e v.0.0, consts_over n k kept e v.0.1), v.1)) (λ e v. (kinds_over n k kept e v.0, consts_over n k kept e v.1))
    (returned_over n k kept result) AnyNote AnyNote (λ bs i. i) x h

-- ---- of a function of a resolved program

module _ (counts : FlatCounts) (ts : List Top) (f : Function) (r : IsResolvedFunction counts ts f) where
  abbrev N : Names
  N = names_in ts f

  agreeing : Everywhere (λ x. Agrees N f.result x × HasSourceForm f x) (body_of f)
  agreeing =
      everywhere_both (Agrees N f.result) (HasSourceForm f) (body_of f)
      (everywhere_both (ItemAgrees N) (λ x. KeepsConsts N x × ReturnFits f.result x) (body_of f) r.kinds
      (everywhere_both (KeepsConsts N) (ReturnFits f.result) (body_of f) r.consts r.returns)) r.form.items

  pub source_kinds : (k : Names) → KeepsNames N k → Everywhere (HasKinds k f.result) (body_of f)
  source_kinds k kept = everywhere_map (λ x. Agrees N f.result x × HasSourceForm f x) (HasKinds k f.result)
      (λ x g. kinds_map N k kept f.result x (to_kinds N f.result f x g)) (body_of f) agreeing

  -- without jumps
  pub unmoved_kinds : (h : Function) → IsUnmovedForm f h → (k : Names) → KeepsNames N k → Everywhere (HasKinds k f.result) (body_of h)
  unmoved_kinds h m k kept = facts_of_unmoved (Value k) (Operand k) (Known k) (Returned k f.result) AnyNote (value_operand k) f h m (source_kinds k kept)

  -- with jumps
  module _ (h : Function) (m : IsMovedForm f h) (k : Names) (slots : k.slots ≡ h.slots) (kept : KeepsNames N k) where
    abbrev params : f.params ≤ length f.slots
    params = r.form.parameters

    one : Value k (number Int (pos 1))
    one = number_known k Int (pos 1) (small_in 1 (omega arith))

    selects : (t : SelectorTree) (v : ℕ) → Value k (selector_source t) → IsVariable (setting f m.flat_form) v (switch_kind t) → v < length m.flat_form.slots
        → Operand k (assign_number (switch_kind t) v (selector_source t)) ×
        Tests (Value k) (Operand k) (Known k) (Returned k f.result) AnyNote constant (switch_kind t) v
    selects t v s w b =
        let kind = switch_kind t in
        let free = switch_free f h m params k slots v kind w b in (
          value_operand k _ (assign_known k v kind (selector_source t) free s),
          λ z. test_known k v kind z (promoted_twice (operand_kind (kind_of (selector_source t)))) free,
        )

    abbrev FromSource : Tree → Type 0
    FromSource x = Source (Value k) (Operand k) (Known k) (Returned k f.result) AnyNote (value_operand k) f h m one selects x

    local_has : (x : ℕ) (es : List ExpressionTree) → IsInitialised f.slots (Local x (Some es)) → f.params ≤ x → AllByRecursion (Value k) es →
        Everywhere (HasKinds k f.result) (initialised (plan_of f) x es)
    local_has x es i p v = at (slice_get f.slots x) refl i
      where
        at : (o : Option Slot) → slice_get f.slots x ≡ o → IsSomeAnd o (λ (s : Slot). AreInitialisers 1024 s.cells es) →
            Everywhere (HasKinds k f.result) (initialised (plan_of f) x es)
        at None e j = absurd j
        at (Some s) e j =
            let b = slice_get_within f.slots x s e in
            let there = entry_there f.slots x b in
            let own = entry_or no_slot f.slots x in
            assigned_have k f.result own.kind x own.cells es (λ c. block_number f h m params k slots x own there p b c)
            (λ c. block_array f h m params k slots x own there p b c)
            (initialisers s (sym e ∙ there) j) v
          where
            initialisers : (s : Slot) → Some s ≡ Some (entry_or no_slot f.slots x) → AreInitialisers 1024 s.cells es →
                AreInitialisers 1024 (entry_or no_slot f.slots x).cells es
            initialisers s q j = subst (λ c. AreInitialisers 1024 c es) (ap cells_in q) j

    abbrev Given : Tree → Type 0
    Given x = HasKinds k f.result x × (IsInitialised f.slots x × Declared (λ y. f.params ≤ y) x)

    from_source : (x : Tree) → Given x → FromSource x
    from_source (Local x None) g = (g.0, tt)
    from_source (Local x (Some es)) g = (g.0, local_has x es g.1.0 g.1.1.0 g.0)
    from_source x g = (g.0, tt)

    source : Everywhere FromSource (body_of f)
    source =
        everywhere_map Given FromSource from_source (body_of f)
        (everywhere_both (HasKinds k f.result) (λ x. IsInitialised f.slots x × Declared (λ y. f.params ≤ y) x) (body_of f) (source_kinds k kept)
        (everywhere_both (IsInitialised f.slots) (Declared (λ y. f.params ≤ y)) (body_of f) r.initialised (function_declared counts ts f r)))

    free : (l : ℕ) → Left f h m l → IsFreeNumber k (slot_of f h m l) Int
    free l i = guard_free f h m params k slots l i

    picks : (s : SelectorTree) → Value k (selector_source s) → SelectorLabels (Left f h m) s → ArePicks (switch_kind s) s →
        Value k (plain_selector (slot_of f h m) s)
    picks s v l p =
        let j = kind_there (kind_of (selector_source s)) v.1.kind in
        let start : IsPickable k (switch_kind s) (selector_source s) =
        record { value = v; own = j.0; same = j.1; promotes = sym (ap (λ o. promoted (operand_kind o)) j.1) } in
        (picked_known k (slot_of f h m) (Left f h m) (switch_kind s) (promoted_twice (operand_kind (kind_of (selector_source s)))) s free start l p).value

    guards : GuardFacts (Value k) (Operand k) (Known k) (Returned k f.result) AnyNote (slot_of f h m) (Left f h m)
    guards = record {
      on = λ l i. guard_known k (slot_of f h m l) (free l i);
      off = λ l i. off_known k (slot_of f h m l) (free l i);
      and = λ l e i v. and_known k (slot_of f h m l) (free l i) e v;
      or = λ l e i v. or_known k (slot_of f h m l) (free l i) e v;
      picks = picks;
      truths = λ e v. truth_known k e v;
      sets = λ l e i v. value_operand k _ (assign_known k (slot_of f h m l) Int e (free l i) v);
      one = one;
      zero = number_known k Int (pos 0) (small_in 0 (omega arith));
    }

    pub moved_kinds : Everywhere (HasKinds k f.result) (body_of h)
    moved_kinds = facts_of_plain (Value k) (Operand k) (Known k) (Returned k f.result) AnyNote (value_operand k) f h m one selects guards source
