-- What the items of a function have without its labels.
use Rattle.std.proofs.Common.{◌≡◌, true≢false, List, Option, sym, refl, ap}
use Rattle.c_tree.specs.ExpressionTrees.{ExpressionTree}
use Rattle.c_tree.specs.TestTrees.{TestTree, Source, SelectorTree, Selects, Pick}
use Rattle.c_tree.specs.Trees.{Tree, Forest, Nil, Then, Sections, NoSection, Section, Evaluate, Return, If, While, Do, For, Switch, Block, Local, Break, Continue, Goto, Mark, Arm, Leap, Land, Arrival, Note}
use Rattle.c_tree.specs.Everywhere.{Everywhere, EverywhereOf, EverywhereIn}
use Rattle.c_tree.specs.InRange.{IsUnguarded}
use Rattle.c_tree.proofs.KeptLemmas.{everywhere_join}
use Rattle.jump_meaning.specs.Code.{Code}
use Rattle.c_tree.specs.declared.tree.Slot.{Slot}
use Rattle.struct_meaning.specs.Structured.{IsStructured}
use Rattle.flat_laws.specs.Loose.{Setting}
use Rattle.flat_laws.specs.Unlabelled.{unlabelled, unlabelled_item, unlabelled_among, IsCalmItem}
use Rattle.plain_laws.specs.Kinded.{KindedItem}

-- an item without items in it, other than a label
abbrev pub IsLeaf : Tree → Type 0
IsLeaf (If t a b) = ⊥
IsLeaf (While t a) = ⊥
IsLeaf (Do a t) = ⊥
IsLeaf (For first t u a) = ⊥
IsLeaf (Switch s c) = ⊥
IsLeaf (Block a) = ⊥
IsLeaf (Mark l) = ⊥
IsLeaf _ = Unit {0}

-- Q holds of what is left of an item for which P holds
pub record IsLeft (P Q : Tree → Type 0) : Type 0 where
  pub ifs : (t : TestTree) (a b : Forest) → P (If t a b) → Q (If t (unlabelled a) (unlabelled b))
  pub whiles : (t : TestTree) (a : Forest) → P (While t a) → Q (While t (unlabelled a))
  pub dos : (t : TestTree) (a : Forest) → P (Do a t) → Q (Do (unlabelled a) t)
  pub fors : (first : Forest) (t u : Option ExpressionTree) (a : Forest) → P (For first t u a) → Q (For (unlabelled first) t u (unlabelled a))
  pub switches : (s : SelectorTree) (c : Sections) → P (Switch s c) → Q (Switch s (unlabelled_among c))
  pub blocks : (a : Forest) → P (Block a) → Q (Block (unlabelled a))
  pub leaves : (x : Tree) → IsLeaf x → P x → Q x

module _ (P Q : Tree → Type 0) (k : IsLeft P Q) where
  mutual
    pub left : (a : Forest) → Everywhere P a → Everywhere Q (unlabelled a)
    left Nil h = tt
    left (Then x a) h = everywhere_join Q (unlabelled_item x) (unlabelled a) (left_of x h.0) (left a h.1)

    left_of : (x : Tree) → EverywhereOf P x → Everywhere Q (unlabelled_item x)
    left_of (If t a b) h = ((k.ifs t a b h.0, left a h.1, left b h.2), tt)
    left_of (While t a) h = ((k.whiles t a h.0, left a h.1), tt)
    left_of (Do a t) h = ((k.dos t a h.0, left a h.1), tt)
    left_of (For first t u a) h = ((k.fors first t u a h.0, left first h.1, left a h.2), tt)
    left_of (Switch s c) h = ((k.switches s c h.0, left_in c h.1), tt)
    left_of (Block a) h = ((k.blocks a h.0, left a h.1), tt)
    left_of (Mark l) h = tt
    left_of (Evaluate e) h = (k.leaves (Evaluate e) tt h, tt)
    left_of (Return e) h = (k.leaves (Return e) tt h, tt)
    left_of (Local x e) h = (k.leaves (Local x e) tt h, tt)
    left_of Break h = (k.leaves Break tt h, tt)
    left_of Continue h = (k.leaves Continue tt h, tt)
    left_of (Goto l) h = (k.leaves (Goto l) tt h, tt)
    left_of (Arm l e) h = (k.leaves (Arm l e) tt h, tt)
    left_of (Leap l) h = (k.leaves (Leap l) tt h, tt)
    left_of (Land l) h = (k.leaves (Land l) tt h, tt)
    left_of (Arrival e) h = (k.leaves (Arrival e) tt h, tt)
    left_of (Note bs) h = (k.leaves (Note bs) tt h, tt)

    left_in : (c : Sections) → EverywhereIn P c → EverywhereIn Q (unlabelled_among c)
    left_in NoSection h = tt
    left_in (Section cases default a ends c) h = (left a h.0, left_in c h.1)

-- ---- kinds

pub kinds_left : (p : Code) (ss : List Slot) → IsLeft (KindedItem p ss) (KindedItem p ss)
kinds_left p ss = record {
  ifs = λ t a b h. h;
  whiles = λ t a h. h;
  dos = λ t a h. h;
  fors = λ first t u a h. h;
  switches = λ s c h. h;
  blocks = λ a h. tt;
  leaves = λ x i h. h;
}

-- ---- of a function without jumps

-- an item of a plain body
abbrev pub IsPlainItem : Tree → Type 0
IsPlainItem (Goto l) = ⊥
IsPlainItem (Mark l) = ⊥
IsPlainItem (Arrival e) = ⊥
IsPlainItem x = IsUnguarded x

module _ (s : Setting) where
  plain_if : (t : TestTree) (a b c d : Forest) → IsCalmItem s (If t a b) → IsPlainItem (If t c d)
  plain_if (Source e) a b c d h = tt
  plain_if _ a b c d h = absurd h

  plain_while : (t : TestTree) (a b : Forest) → IsCalmItem s (While t a) → IsPlainItem (While t b)
  plain_while (Source e) a b h = tt
  plain_while _ a b h = absurd h

  plain_do : (t : TestTree) (a b : Forest) → IsCalmItem s (Do a t) → IsPlainItem (Do b t)
  plain_do (Source e) a b h = tt
  plain_do _ a b h = absurd h

  plain_switch : (t : SelectorTree) (c d : Sections) → IsCalmItem s (Switch t c) → IsPlainItem (Switch t d)
  plain_switch (Selects e) c d h = tt
  plain_switch (Pick l n t) c d h = absurd h

  plain_leaf : (x : Tree) → IsLeaf x → IsCalmItem s x → IsPlainItem x
  plain_leaf (Goto l) i h = absurd (true≢false (sym h))
  plain_leaf (Arrival e) i h = absurd h
  plain_leaf (Arm l e) i h = absurd h
  plain_leaf (Leap l) i h = absurd h
  plain_leaf (Land l) i h = absurd h
  plain_leaf (Evaluate e) i h = tt
  plain_leaf (Return e) i h = tt
  plain_leaf (Local x e) i h = tt
  plain_leaf Break i h = tt
  plain_leaf Continue i h = tt
  plain_leaf (Note bs) i h = tt
  plain_leaf _ i h = absurd i

  pub plain_left : IsLeft (IsCalmItem s) IsPlainItem
  plain_left = record {
    ifs = λ t a b h. plain_if t a b (unlabelled a) (unlabelled b) h;
    whiles = λ t a h. plain_while t a (unlabelled a) h;
    dos = λ t a h. plain_do t a (unlabelled a) h;
    fors = λ first t u a h. tt;
    switches = λ t c h. plain_switch t c (unlabelled_among c) h;
    blocks = λ a h. tt;
    leaves = plain_leaf;
  }

-- ---- from plain items

-- ---- a list without labels

mutual
  pub unlabelled_same : (a : Forest) → Everywhere IsStructured a → unlabelled a ≡ a
  unlabelled_same Nil h = refl
  unlabelled_same (Then x a) h = unlabelled_first x a h.0 (unlabelled_same a h.1)

  unlabelled_first : (x : Tree) (a : Forest) → EverywhereOf IsStructured x → unlabelled a ≡ a → unlabelled (Then x a) ≡ Then x a
  unlabelled_first (If t b d) a h e = λ i. Then (If t (unlabelled_same b h.1 i) (unlabelled_same d h.2 i)) (e i)
  unlabelled_first (While t b) a h e = λ i. Then (While t (unlabelled_same b h.1 i)) (e i)
  unlabelled_first (Do b t) a h e = λ i. Then (Do (unlabelled_same b h.1 i) t) (e i)
  unlabelled_first (For first t u b) a h e = λ i. Then (For (unlabelled_same first h.1 i) t u (unlabelled_same b h.2 i)) (e i)
  unlabelled_first (Switch s c) a h e = λ i. Then (Switch s (unlabelled_same_in c h.1 i)) (e i)
  unlabelled_first (Block b) a h e = λ i. Then (Block (unlabelled_same b h.1 i)) (e i)
  unlabelled_first (Mark l) a h e = absurd h
  unlabelled_first x a h e = ap (Then x) e

  unlabelled_same_in : (c : Sections) → EverywhereIn IsStructured c → unlabelled_among c ≡ c
  unlabelled_same_in NoSection h = refl
  unlabelled_same_in (Section cases default a ends c) h = λ i. Section cases default (unlabelled_same a h.0 i) ends (unlabelled_same_in c h.1 i)
