-- Facts of each item that conversion keeps: which slots and which labels are named.
use Rattle.std.proofs.Common.{ℕ, Option, Some, None}
use Rattle.std.specs.Option.{option_map_or}
use Rattle.c_tree.specs.ExpressionTrees.{ExpressionTree}
use Rattle.c_tree.specs.TestTrees.{TestTree, Source, SelectorTree}
use Rattle.c_tree.specs.Trees.{Tree, Forest, Nil, Then, Sections, NoSection, Section, If, While, Do, For, Switch, Block, Goto, Mark, Arm, Leap, Land}
use Rattle.c_tree.specs.Everywhere.{Everywhere, EverywhereOf, EverywhereIn}
use Rattle.c_tree.specs.Slots.{CaseSlots, ItemSlots}
use Rattle.c_tree.specs.Labels.{ItemLabels}
use Rattle.c_tree.specs.Changed.{one}
use Rattle.c_tree.proofs.KeptLemmas.{everywhere_join}
use Rattle.c_tree.specs.Conversions.{jump_tree, source_tree, lone_goto, conditional_goto, convert, convert_item, convert_sections}

-- a fact that the items of a conversion have, where those of the list have it
pub record IsKeptByConversion (P : Tree → Type 0) : Type 0 where
  pub goto : (l : ℕ) → P (Goto l) → P (Arm l None) × P (Leap l)
  pub conditional : (l : ℕ) (e : ExpressionTree) → P (If (Source e) (one (Goto l)) Nil) → P (Goto l) → P (Arm l (Some e)) × P (Leap l)
  pub label : (l : ℕ) → P (Mark l) → P (Land l)
  pub ifs : (t : TestTree) (a b : Forest) → P (If t a b) → P (If t (convert a) (convert b))
  pub whiles : (t : TestTree) (a : Forest) → P (While t a) → P (While t (convert a))
  pub dos : (t : TestTree) (a : Forest) → P (Do a t) → P (Do (convert a) t)
  pub fors : (first : Forest) (t u : Option ExpressionTree) (a : Forest) → P (For first t u a) → P (For (convert first) t u (convert a))
  pub switches : (s : SelectorTree) (c : Sections) → P (Switch s c) → P (Switch s (convert_sections c))
  pub blocks : (a : Forest) → P (Block a) → P (Block (convert a))

module _ (P : Tree → Type 0) (k : IsKeptByConversion P) where
  jumps : (l : ℕ) (e : Option ExpressionTree) → P (Arm l e) × P (Leap l) → Everywhere P (jump_tree l e)
  jumps l e h = (h.0, (h.1, tt))

  lone_kept : (e : ExpressionTree) (a : Forest) → P (If (Source e) a Nil) → Everywhere P a → Everywhere P (convert a) →
      Everywhere P (option_map_or (λ l. jump_tree l (Some e)) (lone_goto a) (one (If (Source e) (convert a) Nil)))
  lone_kept e (Then (Goto l) Nil) h i j = jumps l (Some e) (k.conditional l e h i.0)
  lone_kept e a h i j = ((k.ifs (Source e) a Nil h, j, tt), tt)

  if_kept : (t : TestTree) (a b : Forest) → P (If t a b) → Everywhere P a → Everywhere P (convert a) → Everywhere P (convert b)
      → Everywhere P (option_map_or (λ l. jump_tree l (source_tree t)) (conditional_goto t a b) (one (If t (convert a) (convert b))))
  if_kept (Source e) a Nil h i j m = lone_kept e a h i j
  if_kept (Source e) a (Then y b) h i j m = ((k.ifs (Source e) a (Then y b) h, j, m), tt)
  if_kept t a b h i j m = ((k.ifs t a b h, j, m), tt)

  mutual
    pub convert_kept : (a : Forest) → Everywhere P a → Everywhere P (convert a)
    convert_kept Nil h = tt
    convert_kept (Then x a) h = everywhere_join P (convert_item x) (convert a) (convert_item_kept x h.0) (convert_kept a h.1)

    convert_item_kept : (x : Tree) → EverywhereOf P x → Everywhere P (convert_item x)
    convert_item_kept (If t a b) h = if_kept t a b h.0 h.1 (convert_kept a h.1) (convert_kept b h.2)
    convert_item_kept (While t a) h = ((k.whiles t a h.0, convert_kept a h.1), tt)
    convert_item_kept (Do a t) h = ((k.dos t a h.0, convert_kept a h.1), tt)
    convert_item_kept (For first t u a) h = ((k.fors first t u a h.0, convert_kept first h.1, convert_kept a h.2), tt)
    convert_item_kept (Switch s c) h = ((k.switches s c h.0, convert_sections_kept c h.1), tt)
    convert_item_kept (Block a) h = ((k.blocks a h.0, convert_kept a h.1), tt)
    convert_item_kept (Goto l) h = jumps l None (k.goto l h)
    convert_item_kept (Mark l) h = (k.label l h, tt)
    convert_item_kept x h = (h, tt)

    convert_sections_kept : (c : Sections) → EverywhereIn P c → EverywhereIn P (convert_sections c)
    convert_sections_kept NoSection h = tt
    convert_sections_kept (Section cases default a ends c) h = (convert_kept a h.0, convert_sections_kept c h.1)

-- ---- slots and labels

case_slots : (P : ℕ → Type 0) (c : Sections) → CaseSlots P c → CaseSlots P (convert_sections c)
case_slots P NoSection h = tt
case_slots P (Section cases default a ends c) h = (h.0, case_slots P c h.1)

pub slots_kept : (P : ℕ → Type 0) → IsKeptByConversion (ItemSlots P)
slots_kept P = record {
  goto = λ l h. (tt, tt);
  conditional = λ l e h i. (h, tt);
  label = λ l h. tt;
  ifs = λ t a b h. h;
  whiles = λ t a h. h;
  dos = λ t a h. h;
  fors = λ first t u a h. h;
  switches = λ s c h. (h.0, case_slots P c h.1);
  blocks = λ a h. tt;
}

pub labels_kept : (P : ℕ → Type 0) → IsKeptByConversion (ItemLabels P)
labels_kept P = record {
  goto = λ l h. (h, h);
  conditional = λ l e h i. (i, i);
  label = λ l h. h;
  ifs = λ t a b h. h;
  whiles = λ t a h. h;
  dos = λ t a h. h;
  fors = λ first t u a h. tt;
  switches = λ s c h. h;
  blocks = λ a h. tt;
}
