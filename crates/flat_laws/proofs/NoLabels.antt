-- A function without jumps that lost its labels is in range and made well.
use Rattle.std.proofs.Common.{ℕ, ◌≤◌, ◌<◌, false, length, ◌≡◌, sym, ◌∙◌, subst, true≢false}
use Rattle.c_tree.specs.declared.tree.Function.{Function}
use Rattle.c_tree.specs.TestTrees.{Source, On, Off, AndOff, OrOn, Selects, Pick}
use Rattle.c_tree.specs.Everywhere.{Everywhere, EverywhereOf, EverywhereIn}
use Rattle.c_tree.specs.InRange.{body_of, IsUnguarded, IsInRange}
use Rattle.c_tree.specs.Labels.{ItemLabels}
use Rattle.c_tree.specs.Slots.{CaseSlots, ItemSlots}
use Rattle.c_tree.specs.Trees.{Tree, Forest, Nil, Then, Sections, NoSection, Section, If, While, Do, For, Switch, Block, Goto, Mark, Arm, Leap, Land}
use Rattle.c_tree.proofs.KeptLemmas.{everywhere_join}
use Rattle.c_tree.proofs.WellMoved.{everywhere_map}
use Rattle.jump_meaning.specs.Steady.{IsUnarmed, IsMadeWell}
use Rattle.flat_laws.specs.Unlabelled.{unlabelled, unlabelled_item, unlabelled_among}
use Rattle.flat_laws.specs.FlatMade.{IsUnjumped}

module _ (P M : ℕ → Type 0) where
  abbrev IsClean : Tree → Type 0
  IsClean x = IsUnguarded x × ItemSlots P x × ItemLabels M x

  cases_kept : (d : Sections) → CaseSlots P d → CaseSlots P (unlabelled_among d)
  cases_kept NoSection i = tt
  cases_kept (Section cases default a ends d) i = (i.0, cases_kept d i.1)

  mutual
    clean : (a : Forest) → Everywhere IsUnjumped a → Everywhere (ItemSlots P) a → Everywhere IsClean (unlabelled a)
    clean Nil h i = tt
    clean (Then x a) h i = everywhere_join IsClean (unlabelled_item x) (unlabelled a) (clean_item x h.0 i.0) (clean a h.1 i.1)

    clean_item : (x : Tree) → EverywhereOf IsUnjumped x → EverywhereOf (ItemSlots P) x → Everywhere IsClean (unlabelled_item x)
    clean_item (If (Source t) a b) h i = (((tt, i.0, tt), clean a h.1 i.1, clean b h.2 i.2), tt)
    clean_item (If (On l) a b) h i = absurd h.0
    clean_item (If (Off l) a b) h i = absurd h.0
    clean_item (If (AndOff l t) a b) h i = absurd h.0
    clean_item (If (OrOn l t) a b) h i = absurd h.0
    clean_item (While (Source t) a) h i = (((tt, i.0, tt), clean a h.1 i.1), tt)
    clean_item (While (On l) a) h i = absurd h.0
    clean_item (While (Off l) a) h i = absurd h.0
    clean_item (While (AndOff l t) a) h i = absurd h.0
    clean_item (While (OrOn l t) a) h i = absurd h.0
    clean_item (Do a (Source t)) h i = (((tt, i.0, tt), clean a h.1 i.1), tt)
    clean_item (Do a (On l)) h i = absurd h.0
    clean_item (Do a (Off l)) h i = absurd h.0
    clean_item (Do a (AndOff l t)) h i = absurd h.0
    clean_item (Do a (OrOn l t)) h i = absurd h.0
    clean_item (For first t u a) h i = (((tt, i.0, tt), clean first h.1 i.1, clean a h.2 i.2), tt)
    clean_item (Switch (Selects e) d) h i = (((tt, (i.0.0, cases_kept d i.0.1), tt), clean_among d h.1 i.1), tt)
    clean_item (Switch (Pick l n s) d) h i = absurd h.0
    clean_item (Block a) h i = (((tt, tt, tt), clean a h.1 i.1), tt)
    clean_item (Mark l) h i = tt
    clean_item (Goto l) h i = absurd h
    clean_item (Arm l e) h i = absurd h
    clean_item (Leap l) h i = absurd h
    clean_item (Land l) h i = absurd h
    clean_item x h i = ((tt, i, tt), tt)

    clean_among : (d : Sections) → EverywhereIn IsUnjumped d → EverywhereIn (ItemSlots P) d → EverywhereIn IsClean (unlabelled_among d)
    clean_among NoSection h i = tt
    clean_among (Section cases default a ends d) h i = (clean a h.0 i.0, clean_among d h.1 i.1)

  clean_unarmed : (x : Tree) → IsClean x → IsUnarmed x
  clean_unarmed (Arm l e) h = h.0
  clean_unarmed (Leap l) h = h.0
  clean_unarmed (Land l) h = h.0
  clean_unarmed x h = tt

pub without_labels : (f : Function) (body : Forest) → f.flat ≡ false → f.params ≤ length f.slots → body_of f ≡ unlabelled body →
    Everywhere IsUnjumped body → Everywhere (ItemSlots (λ x. x < length f.slots)) body → IsInRange f × IsMadeWell f
without_labels f body z g e h i =
    let P = λ (x : ℕ). x < length f.slots in
    let M = λ (l : ℕ). l < length f.labels in
    let c = subst (Everywhere (IsClean P M)) (sym e) (clean P M body h i) in (
      record {
        parameters = g;
        slots = everywhere_map (IsClean P M) (ItemSlots P) (λ x k. k.1) (body_of f) c;
        labels = everywhere_map (IsClean P M) (ItemLabels M) (λ x k. k.2) (body_of f) c;
        unguarded = λ y. everywhere_map (IsClean P M) IsUnguarded (λ x k. k.0) (body_of f) c;
      },
      record {
        converted = λ k. absurd (true≢false (sym k.flat ∙ z));
        other = λ k. everywhere_map (IsClean P M) IsUnarmed (clean_unarmed P M) (body_of f) c;
      },
    )
