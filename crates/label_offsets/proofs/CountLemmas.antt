-- What `count` is at each variant.
use Rattle.std.proofs.Common.{◌≡◌, ℕ, ◌+◌, ◌<◌, List, length, take, get_or, map, sum, [], ◌∷◌, zero-add, sym, ap, ◌∙◌}
use Rattle.c_tree.specs.declared.tree.Expression.{Expression}
use Rattle.std.specs.Prelude.{Option}
use Rattle.std.proofs.lemmas.List.{map_more}
use Rattle.std.proofs.lemmas.List.Sums.{sum_by-append}
use Rattle.c_tree.specs.declared.tree.Item.{Item, If, While, Do, For, Switch, fold-roll-Item}
use Rattle.c_tree.specs.declared.tree.Item.TheVariants.{rolls-If, rolls-While, rolls-Do, rolls-For, rolls-Switch}
use Rattle.c_tree.specs.declared.tree.Item.TheOpen as O
use Rattle.c_tree.specs.declared.tree.Section.{Section, out-Section, fold_out-Section}
use Rattle.c_tree.specs.declared.tree.Test.{Test}
use Rattle.c_tree.specs.declared.tree.Selector.{Selector}
use Rattle.label_offsets.specs.Offset.{count_step, section_count_step, count, counts, section_count, section_counts}

pub count-If : (t : Test) (a b : List Item) → count (If t a b) ≡ 1 + counts a + counts b
count-If t a b = ap count (sym (rolls-If t a b)) ∙ fold-roll-Item ℕ ℕ count_step section_count_step (O.If t a b)

pub count-While : (t : Test) (a : List Item) → count (While t a) ≡ 1 + counts a
count-While t a = ap count (sym (rolls-While t a)) ∙ fold-roll-Item ℕ ℕ count_step section_count_step (O.While t a)

pub count-Do : (a : List Item) (t : Test) → count (Do a t) ≡ 1 + counts a
count-Do a t = ap count (sym (rolls-Do a t)) ∙ fold-roll-Item ℕ ℕ count_step section_count_step (O.Do a t)

pub count-For : (f : List Item) (t u : Option Expression) (a : List Item) → count (For f t u a) ≡ 1 + counts f + counts a
count-For f t u a = ap count (sym (rolls-For f t u a)) ∙ fold-roll-Item ℕ ℕ count_step section_count_step (O.For f t u a)

pub count-Switch : (s : Selector) (cs : List Section) → count (Switch s cs) ≡ 1 + section_counts cs
count-Switch s cs = ap count (sym (rolls-Switch s cs)) ∙ fold-roll-Item ℕ ℕ count_step section_count_step (O.Switch s cs)

pub section_count-is : (c : Section) → section_count c ≡ counts (out-Section c).list
section_count-is c = fold_out-Section ℕ ℕ count_step section_count_step c

pub sections_more : (cs : List Section) (i : ℕ) (d : Section) → i < length cs →
    section_counts (take (i + 1) cs) ≡ section_counts (take i cs) + counts (out-Section (get_or cs i d)).list
sections_more cs i d h =
    ap sum (map_more section_count cs i d h) ∙ sum_by-append (λ n. n) (map section_count (take i cs)) (section_count (get_or cs i d) ∷ [])
    ∙ ap (λ n. section_counts (take i cs) + n) (zero-add (section_count (get_or cs i d)) ∙ section_count-is (get_or cs i d))
