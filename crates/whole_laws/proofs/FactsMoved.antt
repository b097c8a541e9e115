-- Facts of the expressions of a source body come to its plain form.
use Rattle.std.proofs.Common.{◌≡◌, ℕ, ◌<◌, ◌≤◌, ◌+◌, pos, true, List, length, Option, Some, None, option_map, IsSome, sym, ap, subst, ◌∙◌, arith}
use Rattle.std.specs.Prelude.{IfSome}
use Rattle.c_types.specs.declared.kinds.IntKind.{IntKind}
use Rattle.c_types.specs.declared.kinds.IntKind.TheVariants.{Int}
use Rattle.c_types.specs.Numbers.{promoted}
use Rattle.c_tree.specs.declared.tree.Function.{Function}
use Rattle.c_tree.specs.Cases.{selector_source, ArePicks}
use Rattle.c_tree.specs.Constants.{kind_of}
use Rattle.c_tree.specs.ExpressionTrees.{ExpressionTree}
use Rattle.c_tree.specs.Numerals.{number, constant}
use Rattle.c_tree.specs.TestTrees.{SelectorTree}
use Rattle.c_tree.specs.Trees.{Tree, Forest, Nil, Then, Switch, join, trees_of}
use Rattle.c_tree.specs.Everywhere.{total, Everywhere}
use Rattle.c_tree.specs.InRange.{body_of}
use Rattle.c_tree.specs.WellMade.{HasSelectorKind, HasPicks}
use Rattle.c_tree.proofs.WellMoved.{everywhere_map, everywhere_both}
use Rattle.jump_meaning.specs.Operations.{operand_kind}
use Rattle.jump_meaning.specs.Step.{switch_kind}
use Rattle.flat_laws.specs.Pieces.{Stays, assign_number}
use Rattle.flat_laws.specs.Loose.{NoArrival}
use Rattle.flat_laws.specs.Parts.{variables_of}
use Rattle.flat_laws.specs.FlatForm.{flat_body, first_here}
use Rattle.flat_laws.specs.Source.{IsVariable, HaveVariables}
use Rattle.flat_laws.specs.Unlabelled.{unlabelled}
use Rattle.plain_laws.specs.Plain.{labels_left, slot_among, declared}
use Rattle.plain_laws.specs.GuardSlots.{plain_list}
use Rattle.plain_laws.specs.Tidied.{tidy}
use Rattle.plain_laws.specs.Slotted.{ArmLabels, PicksFit, AreDeclarations, none, one_more, variable, guarding}
use Rattle.plain_laws.proofs.LeftLabels.{is_among}
use Rattle.plain_laws.proofs.PlainFunctions as P
use Rattle.plain_laws.proofs.PlainFunctions.{are_declared}
use Rattle.plain_laws.proofs.PlainPrograms.{among_labels}
use Rattle.plain_laws.proofs.PlainRange.{join_everywhere}
use Rattle.plain_laws.proofs.TidyTrees.{tidied_trees}
use Rattle.guard_vars.specs.Conversion.{converted}
use Rattle.move_laws.specs.Bodies.{with_body}
use Rattle.whole_laws.specs.Rewritten.{plan_of, setting}
use Rattle.whole_laws.proofs.Flattened.{body_is}
use Rattle.whole_laws.proofs.Facts.{ItemHas}
use Rattle.whole_laws.proofs.FactsFlat.{Tests, F, flat_has}
use Rattle.whole_laws.proofs.FactsKept.{facts_converted, facts_rewritten, facts_unlabelled}
use Rattle.whole_laws.proofs.FactsPlain.{GuardFacts, facts_plain, facts_tidy}
use Rattle.whole_laws.proofs.PlainTops.{IsMovedForm, IsUnmovedForm}

-- ---- what stands in the flat and in the plain form

pub flat_trees : (f h : Function) (m : IsMovedForm f h) → trees_of m.body ≡ flat_body constant f.slots (length f.labels) (body_of f)
flat_trees f h m =
    let w = m.is_flat in
    sym (body_is m.flat_form m.body m.body_is) ∙ body_is m.flat_form w.new w.new_body ∙ w.trees ∙
    ap (flat_body constant f.slots (length f.labels)) (sym (body_is f w.old w.old_body))

-- the labels whose guards are left, and their slots
abbrev pub labels_of : (f h : Function) → IsMovedForm f h → List ℕ
labels_of f h m = labels_left m.new 0 m.names

abbrev pub slot_of : (f h : Function) → IsMovedForm f h → ℕ → ℕ
slot_of f h m = slot_among (length m.flat_form.slots) (labels_of f h m)

abbrev pub Left : (f h : Function) → IsMovedForm f h → ℕ → Type 0
Left f h m l = is_among l (labels_of f h m) ≡ true

-- the function that is reached
abbrev pub reached_of : (f h : Function) → IsMovedForm f h → Function
reached_of f h m = with_body (converted m.flat_form) m.new

pub plain_trees : (f h : Function) (m : IsMovedForm f h) → body_of h ≡ tidy
    (join (trees_of (declared (reached_of f h m) (labels_of f h m))) (plain_list (slot_of f h m) (trees_of m.new)))
plain_trees f h m = ap body_of m.plain ∙ P.flat_body m.names (reached_of f h m) m.new

pub left_trees : (f h : Function) (m : IsUnmovedForm f h) → body_of h ≡ tidy (unlabelled (body_of f))
left_trees f h m =
    let w = m.is_left in
    ap body_of m.plain ∙ tidied_trees w.new ∙ ap tidy (w.trees ∙ ap unlabelled (sym (body_is f w.old w.old_body)))

-- ---- guards

picks_by : (s : SelectorTree) (o : Option IntKind) → IsSome o → IfSome (option_map promoted o) (λ k. ArePicks k s) → ArePicks (promoted (operand_kind o)) s
picks_by s None i h = cc
picks_by s (Some k) i h = h

picks_fit : (x : Tree) → HasSelectorKind x × HasPicks x → PicksFit x
picks_fit (Switch s c) h = picks_by s (kind_of (selector_source s)) h.0 h.1
picks_fit _ h = tt

pub guards_known : (f h : Function) (m : IsMovedForm f h) → Everywhere (λ x. ArmLabels (Left f h m) x × PicksFit x) (trees_of m.new)
guards_known f h m =
    everywhere_both (ArmLabels (Left f h m)) PicksFit (trees_of m.new)
    (among_labels m.names (length m.flat_form.labels) m.new m.named m.ranged.labels)
    (everywhere_map (λ x. HasSelectorKind x × HasPicks x) PicksFit picks_fit (trees_of m.new)
    (everywhere_both HasSelectorKind HasPicks (trees_of m.new) m.made.selectors m.made.picks))

-- ---- facts

module _ (V O C : ExpressionTree → Type 0) (R : Option ExpressionTree → Type 0) (N : List ℕ → Type 0) (of_value : (e : ExpressionTree) → V e → O e) where
  abbrev H : Tree → Type 0
  H x = ItemHas V O C R N x

  pub declarations_have : V (number Int (pos 0)) → (base end : ℕ) (a : Forest) → AreDeclarations base end a → Everywhere H a
  declarations_have z base end Nil none = tt
  declarations_have z base end (Then x a) (one_more (variable y) r) = (tt, declarations_have z base end a r)
  declarations_have z base end (Then x a) (one_more (guarding y i j) r) = ((z, tt), declarations_have z base end a r)

  module _ (f h : Function) (m : IsMovedForm f h) (one : V (number Int (pos 1)))
      (selects : (t : SelectorTree) (v : ℕ) → V (selector_source t) → IsVariable (setting f m.flat_form) v (switch_kind t) → v < length m.flat_form.slots
      → O (assign_number (switch_kind t) v (selector_source t)) × Tests V O C R N constant (switch_kind t) v) where
    abbrev pub Source : Tree → Type 0
    Source x = F V O C R N (setting f m.flat_form) (plan_of f) one selects x

    pub facts_moved : Everywhere Source (body_of f) → Everywhere H (trees_of m.new)
    facts_moved k =
        let w = m.is_flat in
        let there = body_is f w.old w.old_body in
        let more = w.more_slots in
        let variables = subst (HaveVariables (setting f m.flat_form) (first_here (length f.slots))) (sym there) w.variables in
        let bound : length f.slots + total variables_of (body_of f) ≤ length m.flat_form.slots =
        subst (λ a. length f.slots + total variables_of a ≤ length m.flat_form.slots) (sym there) (omega (arith, more)) in
        let flat = flat_has V O C R N (setting f m.flat_form) (plan_of f) one selects (first_here (length f.slots)) Stays Stays NoArrival (body_of f)
        k variables bound in
        facts_rewritten V O C R N of_value m.rewritten (facts_converted V O C R N of_value m.body (subst (Everywhere H) (sym (flat_trees f h m)) flat))

    pub facts_of_plain : GuardFacts V O C R N (slot_of f h m) (Left f h m) → Everywhere Source (body_of f) → Everywhere H (body_of h)
    facts_of_plain g k =
        let a = trees_of (declared (reached_of f h m) (labels_of f h m)) in
        let b = plain_list (slot_of f h m) (trees_of m.new) in
        let decls = declarations_have g.zero _ _ a (are_declared (reached_of f h m) (labels_of f h m)) in
        let items = facts_plain V O C R N (slot_of f h m) (Left f h m) g (trees_of m.new)
        (everywhere_both H (λ x. ArmLabels (Left f h m) x × PicksFit x) (trees_of m.new) (facts_moved k) (guards_known f h m)) in
        subst (Everywhere H) (sym (plain_trees f h m)) (facts_tidy V O C R N (join a b) (join_everywhere H a b decls items))

  pub facts_of_unmoved : (f h : Function) (m : IsUnmovedForm f h) → Everywhere H (body_of f) → Everywhere H (body_of h)
  facts_of_unmoved f h m k = subst (Everywhere H) (sym (left_trees f h m))
      (facts_tidy V O C R N (unlabelled (body_of f)) (facts_unlabelled V O C R N of_value (body_of f) k))
