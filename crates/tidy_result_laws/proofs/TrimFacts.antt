-- Facts of the items of a body stay in what a change makes of it.
use Rattle.std.proofs.Common.{ℕ, Bool, true, false, Option}
use Rattle.c_types.specs.declared.kinds.IntKind.{IntKind}
use Rattle.c_tree.specs.declared.tree.BinaryOp.TheVariants.{AndThen}
use Rattle.c_tree.specs.ExpressionTrees.{ExpressionTree, Typed, Binary}
use Rattle.c_tree.specs.TestTrees.{TestTree, Source, SelectorTree}
use Rattle.c_tree.specs.Trees.{Tree, Forest, Nil, Sections, If, While, Do, For, Switch, Block}
use Rattle.c_tree.specs.Changed.{one}
use Rattle.c_tree.specs.Everywhere.{Everywhere, EverywhereOf, EverywhereIn}
use Rattle.c_tree.proofs.KeptLemmas.{everywhere_join}
use Rattle.tidy_laws.specs.Settles.{jump_by}
use Rattle.tidy_result_laws.proofs.Trims.{setting, NewTest, same_test, second_half, Trim, t_nil, t_then, t_given, t_left, t_left_if, t_reset, TrimItem, i_same, i_if, i_while, i_do, i_for, i_switch, i_block, i_checked, TrimSections, s_none, s_more}

-- P is a fact of items that a change of slot g keeps
pub record IsKept (g : ℕ) (P : Tree → Type 0) : Type 0 where
  pub jumps : (leave : Bool) → P (jump_by leave)
  -- an `if` with the jump, in place of a set
  pub sets : (k : Option IntKind) (e : ExpressionTree) (leave : Bool) → P (setting g k e) → P (If (Source e) (one (jump_by leave)) Nil)
  pub ifs : (t : TestTree) (a b c d : Forest) → P (If t a b) → P (If t c d)
  pub whiles : (t : TestTree) (a c : Forest) → P (While t a) → P (While t c)
  pub dos : (t : TestTree) (a c : Forest) → P (Do a t) → P (Do c t)
  -- loops whose test loses its first half
  pub half_whiles : (k : Option IntKind) (e t : ExpressionTree) (a : Forest) → P (While (Source (Typed k (Binary AndThen e t))) a) → P (While (Source t) a)
  pub half_dos : (k : Option IntKind) (e t : ExpressionTree) (a : Forest) → P (Do a (Source (Typed k (Binary AndThen e t)))) → P (Do a (Source t))
  pub fors : (f : Forest) (t u : Option ExpressionTree) (a c : Forest) → P (For f t u a) → P (For f t u c)
  pub switches : (n : ℕ) (s : SelectorTree) (c d : Sections) → TrimSections g n c d → P (Switch s c) → P (Switch s d)
  pub blocks : (a : Forest) → P (Block a)

module _ (g : ℕ) (P : Tree → Type 0) (k : IsKept g P) where
  new_while : {t s : TestTree} (a c : Forest) → NewTest g t s → P (While t a) → P (While s c)
  new_while a c (same_test t) h = k.whiles t a c h
  new_while a c (second_half j e t) h = k.whiles (Source t) a c (k.half_whiles j e t a h)

  new_do : {t s : TestTree} (a c : Forest) → NewTest g t s → P (Do a t) → P (Do c s)
  new_do a c (same_test t) h = k.dos t a c h
  new_do a c (second_half j e t) h = k.dos (Source t) a c (k.half_dos j e t a h)

  jump_everywhere : (leave : Bool) → EverywhereOf P (jump_by leave)
  jump_everywhere true = k.jumps true
  jump_everywhere false = k.jumps false

  mutual
    pub trim_everywhere : {b : Bool} {n : ℕ} {a c : Forest} → Trim g b n a c → Everywhere P a → Everywhere P c
    trim_everywhere t_nil h = tt
    trim_everywhere (t_then i r) h = (item_everywhere i h.0, trim_everywhere r h.1)
    trim_everywhere (t_given e {c = c} {ys = ys} i q r) h = everywhere_join P c ys (trim_everywhere i h.0.1) (trim_everywhere r h.1)
    trim_everywhere (t_left leave j e q r) h = (jump_everywhere leave, trim_everywhere r h.1)
    trim_everywhere (t_left_if leave j e q l r) h = ((k.sets j e leave h.0, (jump_everywhere leave, tt), tt), trim_everywhere r h.1)
    trim_everywhere (t_reset r) h = trim_everywhere r h.1

    item_everywhere : {b : Bool} {n : ℕ} {x y : Tree} → TrimItem g b n x y → EverywhereOf P x → EverywhereOf P y
    item_everywhere (i_same x) h = h
    item_everywhere (i_if t {a = a} {c = c} {d = d} {e = e} i r) h = (k.ifs t a d c e h.0, trim_everywhere i h.1, trim_everywhere r h.2)
    item_everywhere (i_while {a = a} {c = c} t i) h = (new_while a c t h.0, trim_everywhere i h.1)
    item_everywhere (i_do {a = a} {c = c} t i) h = (new_do a c t h.0, trim_everywhere i h.1)
    item_everywhere (i_for f t u {a = a} {c = c} i) h = (k.fors f t u a c h.0, h.1, trim_everywhere i h.2)
    item_everywhere (i_switch {n = n} s {c = c} {d = d} i) h = (k.switches _ s c d i h.0, sections_everywhere i h.1)
    item_everywhere (i_block {c = c} i) h = (k.blocks c, trim_everywhere i h.1)
    item_everywhere (i_checked e {c = c} i) h = (k.blocks c, trim_everywhere i h.1)

    sections_everywhere : {n : ℕ} {c d : Sections} → TrimSections g n c d → EverywhereIn P c → EverywhereIn P d
    sections_everywhere s_none h = tt
    sections_everywhere (s_more cases default ends i r) h = (trim_everywhere i h.0, sections_everywhere r h.1)
