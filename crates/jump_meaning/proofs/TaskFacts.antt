-- How tasks of lists, the cuts of `break` and `continue`, and searches go together with the tasks behind them.
use Rattle.std.proofs.Common.{Bool, true, false, cond, List, [], ◌∷◌, ◌++◌, Option, Some, None, option_map, ◌≡◌, refl, ◌∙◌, ap}
use Rattle.c_tree.specs.Trees.{Tree, Forest, Nil, Then, Sections, NoSection, Section, If, While, Do, For, Switch, Block, join}
use Rattle.jump_meaning.specs.Tasks.{Task, Runs, Loops, WhileLoop, DoLoop, ForLoop, items, end_of, tail_tasks, cut, cut_to}
use Rattle.jump_meaning.specs.Search.{Goal, is_goal, is_section_goal, enters_switches, or_else, seek, seek_in, seek_sections}

-- one list after another
pub items_join : (a b : Forest) (k : List Task) → items (join a b) k ≡ items a (items b k)
items_join Nil b k = refl
items_join (Then x a) b k = ap (λ j. Runs x ∷ j) (items_join a b k)

-- ---- `break` passes over lists, and over the rest of a switch

pub cut_items : (a : Forest) (k : List Task) → cut (items a k) ≡ cut k
cut_items Nil k = refl
cut_items (Then x a) k = cut_items a k

pub cut_end : (ends : Bool) (k : List Task) → cut (end_of ends k) ≡ cut k
cut_end true k = refl
cut_end false k = refl

pub cut_tail : (c : Sections) (k : List Task) → cut (tail_tasks c k) ≡ k
cut_tail NoSection k = refl
cut_tail (Section cases default a ends c) k = cut_items a (end_of ends (tail_tasks c k)) ∙ cut_end ends (tail_tasks c k) ∙ cut_tail c k

-- ---- so does `continue`

pub cut_to_items : (a : Forest) (k : List Task) → cut_to (items a k) ≡ cut_to k
cut_to_items Nil k = refl
cut_to_items (Then x a) k = cut_to_items a k

pub cut_to_end : (ends : Bool) (k : List Task) → cut_to (end_of ends k) ≡ cut_to k
cut_to_end true k = refl
cut_to_end false k = refl

pub cut_to_tail : (c : Sections) (k : List Task) → cut_to (tail_tasks c k) ≡ cut_to k
cut_to_tail NoSection k = refl
cut_to_tail (Section cases default a ends c) k = cut_to_items a (end_of ends (tail_tasks c k)) ∙ cut_to_end ends (tail_tasks c k) ∙ cut_to_tail c k

-- ---- the tasks behind stay behind

pub items_append : (a : Forest) (k j : List Task) → items a (k ++ j) ≡ items a k ++ j
items_append Nil k j = refl
items_append (Then x a) k j = ap (λ i. Runs x ∷ i) (items_append a k j)

end_append : (ends : Bool) (k j : List Task) → end_of ends (k ++ j) ≡ end_of ends k ++ j
end_append true k j = refl
end_append false k j = refl

pub tail_append : (c : Sections) (k j : List Task) → tail_tasks c (k ++ j) ≡ tail_tasks c k ++ j
tail_append NoSection k j = refl
tail_append (Section cases default a ends c) k j =
    ap (λ i. items a (end_of ends i)) (tail_append c k j) ∙ ap (items a) (end_append ends (tail_tasks c k) j) ∙ items_append a (end_of ends (tail_tasks c k)) j

-- ---- a search with other tasks behind

-- what is found, with tasks behind it
abbrev pub behind : List Task → Option (List Task) → Option (List Task)
behind j o = option_map (λ i. i ++ j) o

else_behind : (j : List Task) (o p o' p' : Option (List Task)) → o' ≡ behind j o → p' ≡ behind j p → or_else o' p' ≡ behind j (or_else o p)
else_behind j (Some i) p o' p' h k = ap (λ z. or_else z p') h
else_behind j None p o' p' h k = ap (λ z. or_else z p') h ∙ k

cond_behind : (j : List Task) (b : Bool) (x y x' y' : Option (List Task)) → x' ≡ behind j x → y' ≡ behind j y → cond b x' y' ≡ behind j (cond b x y)
cond_behind j true x y x' y' h k = h
cond_behind j false x y x' y' h k = k

mutual
  pub seek_append : (l : Goal) (a : Forest) (k j : List Task) → seek l a (k ++ j) ≡ behind j (seek l a k)
  seek_append l Nil k j = refl
  seek_append l (Then x xs) k j =
      else_behind j (cond (is_goal l x) (Some (Runs x ∷ items xs k)) (seek_in l x (items xs k))) (seek l xs k)
      (cond (is_goal l x) (Some (Runs x ∷ items xs (k ++ j))) (seek_in l x (items xs (k ++ j)))) (seek l xs (k ++ j))
      (cond_behind j (is_goal l x) (Some (Runs x ∷ items xs k)) (seek_in l x (items xs k)) (Some (Runs x ∷ items xs (k ++ j))) (seek_in l x (items xs (k ++ j)))
      (ap (λ i. Some (Runs x ∷ i)) (items_append xs k j))
      (ap (seek_in l x) (items_append xs k j) ∙ seek_in_append l x (items xs k) j))
      (seek_append l xs k j)

  pub seek_in_append : (l : Goal) (x : Tree) (k j : List Task) → seek_in l x (k ++ j) ≡ behind j (seek_in l x k)
  seek_in_append l (If t a b) k j = else_behind j (seek l a k) (seek l b k) (seek l a (k ++ j)) (seek l b (k ++ j)) (seek_append l a k j) (seek_append l b k j)
  seek_in_append l (While t a) k j = seek_append l a (Loops (WhileLoop t a) ∷ k) j
  seek_in_append l (Do a t) k j = seek_append l a (Loops (DoLoop a t) ∷ k) j
  seek_in_append l (For first t u a) k j = seek_append l a (Loops (ForLoop t u a) ∷ k) j
  seek_in_append l (Switch s c) k j = cond_behind j (enters_switches l) (seek_sections l c k) None (seek_sections l c (k ++ j)) None
      (seek_sections_append l c k j) refl
  seek_in_append l (Block a) k j = seek_append l a k j
  seek_in_append l _ k j = refl

  pub seek_sections_append : (l : Goal) (c : Sections) (k j : List Task) → seek_sections l c (k ++ j) ≡ behind j (seek_sections l c k)
  seek_sections_append l NoSection k j = refl
  seek_sections_append l (Section cases default a ends c) k j =
      let after = end_of ends (tail_tasks c k) in
      let after' = end_of ends (tail_tasks c (k ++ j)) in
      let e : after' ≡ after ++ j = ap (end_of ends) (tail_append c k j) ∙ end_append ends (tail_tasks c k) j in
      else_behind j (cond (is_section_goal l cases default) (Some (items a after)) (seek l a after)) (seek_sections l c k)
      (cond (is_section_goal l cases default) (Some (items a after')) (seek l a after')) (seek_sections l c (k ++ j))
      (cond_behind j (is_section_goal l cases default) (Some (items a after)) (seek l a after) (Some (items a after')) (seek l a after')
      (ap (λ i. Some (items a i)) e ∙ ap Some (items_append a after j))
      (ap (seek l a) e ∙ seek_append l a after j))
      (seek_sections_append l c k j)
