-- In lists without labels a search for a label of a switch finds none.
use Rattle.std.proofs.Common.{false, cond, List, ◌∷◌, Option, Some, None, ◌≡◌, refl, ap, ◌∙◌}
use Rattle.c_tree.specs.Trees.{Tree, Forest, Nil, Then, If, While, Do, For, Switch, Block, Arrival}
use Rattle.c_tree.specs.Everywhere.{Everywhere, EverywhereOf}
use Rattle.jump_meaning.specs.Tasks.{Task, Runs, Loops, WhileLoop, DoLoop, ForLoop, items}
use Rattle.jump_meaning.specs.Search.{Goal, ToLabel, ToCase, ToDefault, is_goal, enters_switches, or_else, seek, seek_in, seek_sections}
use Rattle.struct_meaning.specs.Structured.{IsStructured}

not_sought : (l : Goal) → enters_switches l ≡ false → (x : Tree) → EverywhereOf IsStructured x → is_goal l x ≡ false
not_sought (ToLabel l) e x w = cc
not_sought (ToCase i n) e (Arrival (Some c)) w = absurd w
not_sought (ToCase i n) e x w = refl
not_sought ToDefault e (Arrival None) w = absurd w
not_sought ToDefault e x w = refl

neither : {o p : Option (List Task)} → o ≡ None → p ≡ None → or_else o p ≡ None
neither {o} {p} e h = ap (λ o. or_else o p) e ∙ h

module _ (l : Goal) (inner : enters_switches l ≡ false) where
  mutual
    pub unfound : (xs : Forest) → Everywhere IsStructured xs → (k : List Task) → seek l xs k ≡ None
    unfound Nil w k = refl
    unfound (Then x xs) w k = neither (ap (λ y. cond y (Some (Runs x ∷ items xs k)) (seek_in l x (items xs k))) (not_sought l inner x w.0) ∙
        unfound_in x w.0 (items xs k)) (unfound xs w.1 k)

    unfound_in : (x : Tree) → EverywhereOf IsStructured x → (k : List Task) → seek_in l x k ≡ None
    unfound_in (If t a b) w k = neither (unfound a w.1 k) (unfound b w.2 k)
    unfound_in (While t a) w k = unfound a w.1 (Loops (WhileLoop t a) ∷ k)
    unfound_in (Do a t) w k = unfound a w.1 (Loops (DoLoop a t) ∷ k)
    unfound_in (For first t u a) w k = unfound a w.2 (Loops (ForLoop t u a) ∷ k)
    unfound_in (Switch s c) w k = ap (λ y. cond y (seek_sections l c k) None) inner
    unfound_in (Block a) w k = unfound a w.1 k
    unfound_in _ w k = refl
