-- Kinds agree in the expressions that the rewriting makes.
use Rattle.std.proofs.Common.{◌≡◌, ℕ, suc, ℤ, pos, negsuc, int_le, Bool, true, false, cond, Option, Some, None, IsSome, slice_get, refl, sym, ap, subst, ◌∙◌, arith}
use Rattle.std.specs.Prelude.{IsSomeAnd}
use Rattle.std.proofs.lemmas.Int.{ints}
use Rattle.c_types.specs.declared.kinds.IntKind.{IntKind}
use Rattle.c_types.specs.declared.kinds.IntKind.TheVariants.{Char, Int}
use Rattle.c_types.specs.Numbers.{promoted, usual_kind, converted, least, greatest, IsInRange}
use Rattle.c_types.proofs.Residues.{converted-in_range}
use Rattle.c_tree.specs.declared.tree.Slot.{Slot}
use Rattle.c_tree.specs.declared.tree.Home.TheVariants as Home
use Rattle.c_tree.specs.declared.tree.UnaryOp.TheVariants.{Minus}
use Rattle.c_tree.specs.declared.tree.BinaryOp.TheVariants.{Equal, Unequal, AndThen, OrElse}
use Rattle.c_tree.specs.Constants.{kind_of, HasKind}
use Rattle.c_tree.specs.ExpressionTrees.{ExpressionTree, Typed, Var, Read, Unary, Binary}
use Rattle.c_tree.specs.Numerals.{number, least_constant, constant}
use Rattle.c_tree.proofs.NumeralLaws.{constant_pos}
use Rattle.flat_laws.specs.Pieces.{assign_number, assign_cell, is_number}
use Rattle.plain_laws.specs.GuardSlots.{guard, guard_off, is_truth, unequal_zero, truth, picked}
use Rattle.c_tree.specs.TestTrees.{SelectorTree, Selects, Pick}
use Rattle.c_tree.specs.Cases.{selector_source, ArePicks}
use Rattle.c_tree.specs.Labels.{SelectorLabels}
use Rattle.c_resolved_defs.specs.Within.{Within}
use Rattle.c_resolved_defs.specs.Names.{Names}
use Rattle.c_resolved_defs.specs.Kinds.{IsOperand, HasValue, of_both, binary_kind, KindsAgree, WritesNoConst}
use Rattle.whole_laws.proofs.KindsFlat.{one_in_kind, greatest_in_kind, negated_in_kind, sub_kind}

abbrev pub Known : Names → ExpressionTree → Type 0
Known k e = KindsAgree k e × Within (WritesNoConst k) e

-- an expression whose value may be used
abbrev pub Value : Names → ExpressionTree → Type 0
Value k e = Known k e × HasValue e

-- one whose value may be dropped
abbrev pub Operand : Names → ExpressionTree → Type 0
Operand k e = Known k e × IsOperand e

pub value_operand : (k : Names) (e : ExpressionTree) → Value k e → Operand k e
value_operand k e h = (h.0, h.1.operand)

-- slot x is a number of the kind that isn't const; an array
abbrev pub IsFreeNumber : Names → ℕ → IntKind → Type 0
IsFreeNumber k x kind = IsSomeAnd (slice_get k.slots x) (λ (s : Slot). (s.kind ≡ kind) × (s.cells ≡ None) × (s.constant ≡ false))

abbrev pub IsFreeArray : Names → ℕ → IntKind → Type 0
IsFreeArray k x kind = IsSomeAnd (slice_get k.slots x) (λ (s : Slot). (s.kind ≡ kind) × IsSome s.cells × (s.constant ≡ false))

some_map : (o : Option Slot) (P Q : Slot → Type 0) → ((s : Slot) → P s → Q s) → IsSomeAnd o P → IsSomeAnd o Q
some_map None P Q f h = absurd h
some_map (Some s) P Q f h = f s h

pub kind_there : (o : Option IntKind) → HasKind o → (j : IntKind) × (o ≡ Some j)
kind_there None h = absurd h
kind_there (Some j) h = (j, refl)

module _ (k : Names) where
  -- ---- numbers

  pub number_known : (kind : IntKind) (z : ℤ) → IsInRange kind z → Value k (number kind z)
  number_known kind z r = (((r, tt), (tt, tt)), record { operand = tt; kind = tt })

  negated_known : (kind : IntKind) (z : ℤ) → promoted kind ≡ kind → IsInRange kind z → Value k (Typed (Some kind) (Unary Minus (number kind z)))
  negated_known kind z e r = let n = number_known kind z r in ((((n.1, sym (ap Some e)), n.0.0), (tt, n.0.1)), record { operand = tt; kind = tt })

  least_known : (kind : IntKind) → promoted kind ≡ kind → Value k (least_constant kind)
  least_known kind e =
      let a = negated_known kind (greatest kind) e (greatest_in_kind kind) in
      let b = number_known kind (pos 1) (one_in_kind kind) in
      ((((a.1, b.1, sym (ap Some (sub_kind kind e))), (a.0.0, b.0.0)), (tt, (a.0.1, b.0.1))), record { operand = tt; kind = tt })

  -- a number of a promoted kind, as it is written
  pub record IsConstantOf (kind : IntKind) (e : ExpressionTree) : Type 0 where
    pub value : Value k e
    pub same : kind_of e ≡ Some kind

  pub constant_known : (kind : IntKind) (z : ℤ) → promoted kind ≡ kind → IsInRange kind z → IsConstantOf kind (constant kind z)
  constant_known kind (pos n) e r = subst (IsConstantOf kind) (sym (constant_pos kind n)) (record { value = number_known kind (pos n) r; same = refl })
  constant_known kind (negsuc n) e r = at (int_le (negsuc n) (least kind)) refl
    where
      at : (b : Bool) → int_le (negsuc n) (least kind) ≡ b → IsConstantOf kind
          (cond b (least_constant kind) (Typed (Some kind) (Unary Minus (number kind (pos (suc n))))))
      at true h = record { value = least_known kind e; same = refl }
      at false h = record { value = negated_known kind (pos (suc n)) e (negated_in_kind kind n r h); same = refl }

  -- ---- variables

  pub read_known : (x : ℕ) (kind : IntKind) → IsFreeNumber k x kind → Value k (Typed (Some kind) (Read (Var (Home.Slot x))))
  read_known x kind h = (
    ((some_map (slice_get k.slots x) _ (λ s. (s.cells ≡ None) × (Some kind ≡ Some s.kind)) (λ s i. (i.1, sym (ap Some i.0))) h, tt), (tt, tt)),
    record { operand = tt; kind = tt },
  )

  pub assign_known : (x : ℕ) (kind : IntKind) (e : ExpressionTree) → IsFreeNumber k x kind → Value k e → Value k (assign_number kind x e)
  assign_known x kind e h v =
      let place = some_map (slice_get k.slots x) _ (λ s. (s.cells ≡ None) × (Some kind ≡ Some s.kind)) (λ s i. (i.1, sym (ap Some i.0))) h in
      let free = some_map (slice_get k.slots x) _ (λ s. s.constant ≡ false) (λ s i. i.2) h in
      ((((place, v.1), (tt, v.0.0)), (free, (tt, v.0.1))), record { operand = tt; kind = tt })

  pub cell_known : (x i : ℕ) (kind : IntKind) (e : ExpressionTree) → IsFreeArray k x kind → IsInRange Int (pos i) → Value k e → Value k (assign_cell kind x i e)
  cell_known x i kind e h r v =
      let n = number_known Int (pos i) r in
      let place = some_map (slice_get k.slots x) _ (λ s. IsSome s.cells × (Some kind ≡ Some s.kind)) (λ s j. (j.1, sym (ap Some j.0))) h in
      let free = some_map (slice_get k.slots x) _ (λ s. s.constant ≡ false) (λ s j. j.2) h in
      (((((place, n.1), v.1), (n.0.0, v.0.0)), (free, (n.0.1, v.0.1))), record { operand = tt; kind = tt })

  -- `v == c`
  pub test_known : (v : ℕ) (kind : IntKind) (z : ℤ) → promoted kind ≡ kind → IsFreeNumber k v kind →
      Value k (is_number kind v (constant kind (converted kind z)))
  test_known v kind z e h =
      let a = read_known v kind h in
      let c = constant_known kind (converted kind z) e (converted-in_range kind z) in (
        (((a.1, c.value.1, sym (ap (of_both (binary_kind Equal) (Some kind)) c.same)), (a.0.0, c.value.0.0)), (tt, (a.0.1, c.value.0.1))),
        record { operand = tt; kind = tt },
      )

  -- ---- guards

  module _ (x : ℕ) (h : IsFreeNumber k x Int) where
    pub guard_known : Value k (guard x)
    guard_known = read_known x Int h

    pub off_known : Value k (guard_off x)
    off_known = ((((guard_known.1, refl), guard_known.0.0), (tt, guard_known.0.1)), record { operand = tt; kind = tt })

    both_kinds : (e : ExpressionTree) → HasKind (kind_of e) → (f : IntKind → IntKind → IntKind) → ((i j : IntKind) → f i j ≡ Int) →
        Some Int ≡ of_both f (Some Int) (kind_of e)
    both_kinds e i f g = let j = kind_there (kind_of e) i in sym (ap (of_both f (Some Int)) j.1 ∙ ap Some (g Int j.0))

    pub and_known : (e : ExpressionTree) → Value k e → Value k (Typed (Some Int) (Binary AndThen (guard_off x) e))
    and_known e v = let a = off_known in
        ((((a.1, v.1, both_kinds e v.1.kind (binary_kind AndThen) (λ i j. refl)), (a.0.0, v.0.0)), (tt, (a.0.1, v.0.1))), record { operand = tt; kind = tt })

    pub or_known : (e : ExpressionTree) → Value k e → Value k (Typed (Some Int) (Binary OrElse (guard x) e))
    or_known e v = let a = guard_known in
        ((((a.1, v.1, both_kinds e v.1.kind (binary_kind OrElse) (λ i j. refl)), (a.0.0, v.0.0)), (tt, (a.0.1, v.0.1))), record { operand = tt; kind = tt })

  unequal_kind : (e : ExpressionTree) → HasKind (kind_of e) → Some Int ≡ of_both (binary_kind Unequal) (kind_of e) (Some Int)
  unequal_kind e i = let j = kind_there (kind_of e) i in sym (ap (λ o. of_both (binary_kind Unequal) o (Some Int)) j.1)

  pub truth_known : (e : ExpressionTree) → Value k e → Value k (truth e)
  truth_known e v = at (is_truth e)
    where
      zero : Value k (number Int (pos 0))
      zero = number_known Int (pos 0) (record { from_least = grind (arith, ints); to_greatest = grind (arith, ints) })

      at : (b : Bool) → Value k (cond b e (unequal_zero e))
      at true = v
      at false = ((((v.1, zero.1, unequal_kind e v.1.kind), (v.0.0, zero.0.0)), (tt, (v.0.1, zero.0.1))), record { operand = tt; kind = tt })

  -- ---- selectors

  usual_promoted : (j : IntKind) → usual_kind (promoted j) j ≡ promoted j
  usual_promoted Char = refl
  usual_promoted _ = refl

  -- an expression of a kind that is promoted to this one
  pub record IsPickable (kind : IntKind) (e : ExpressionTree) : Type 0 where
    pub value : Value k e
    pub own : IntKind
    pub same : kind_of e ≡ Some own
    pub promotes : promoted own ≡ kind

  pub picked_known : (slot : ℕ → ℕ) (Left : ℕ → Type 0) (kind : IntKind) → promoted kind ≡ kind → (s : SelectorTree) →
      ((l : ℕ) → Left l → IsFreeNumber k (slot l) Int) → IsPickable kind (selector_source s) → SelectorLabels Left s → ArePicks kind s
      → IsPickable kind (picked slot kind s)
  picked_known slot Left kind e (Selects x) f v q p = v
  picked_known slot Left kind e (Pick l n s) f v q p =
      let g = guard_known (slot l) (f l q.0) in
      let c = constant_known kind n e p.0 in
      let r = picked_known slot Left kind e s f v q.1 p.1 in
      record {
        value = (
          (
            (
              (g.1, c.value.1, r.value.1, sym (kinds r.own r.promotes (kind_of (constant kind n)) (kind_of (picked slot kind s)) c.same r.same)),
              (g.0.0, c.value.0.0, r.value.0.0),
            ),
            (tt, (g.0.1, c.value.0.1, r.value.0.1)),
          ),
          record { operand = tt; kind = tt },
        );
        own = kind;
        same = refl;
        promotes = e;
      }
    where
      kinds : (j : IntKind) → promoted j ≡ kind → (a b : Option IntKind) → a ≡ Some kind → b ≡ Some j → of_both usual_kind a b ≡ Some kind
      kinds j q a b g h = (λ i. of_both usual_kind (g i) (h i)) ∙ ap Some (subst (λ m. usual_kind m j ≡ m) q (usual_promoted j))
