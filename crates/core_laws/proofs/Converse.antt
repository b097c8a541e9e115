-- A run that lands silently is one whose way lands.
use Rattle.std.proofs.Common.{Option, Some, None, ℕ, pos, Bool, true, false, cond, List, [], ◌∷◌, ◌≡◌, ◌⊎◌, inl, inr, refl, ap, sym, ◌∙◌, true≢false}
use Rattle.c_tree.specs.Trees.{Tree, Forest, Nil, Then, Sections, NoSection, Section, If, While, Do, For, Switch, Block, Leap, Land}
use Rattle.jump_meaning.specs.Values.{Value, Integer, integer}
use Rattle.jump_meaning.specs.Operations.{holds}
use Rattle.jump_meaning.specs.Effects.{top, rest}
use Rattle.jump_meaning.specs.Tasks.{Loop, WhileLoop, DoLoop, ForLoop, Task, Runs, Works, Asks, Branches, Turns, Loops, Heads, Arms, AsksSelector, Enters, EndsSection, Out, items, end_of, tail_tasks, cut}
use Rattle.jump_meaning.specs.Search.{Goal, ToLabel, ToCase, ToDefault, is_goal, is_section_goal, enters_switches, or_else, seek, seek_in, seek_sections, first_of_three}
use Rattle.core_laws.specs.Ways.{only, peel, on_peeled, peel_selector, on_selector, Way, Lands, Past, Lost, ◌▷◌, end_way, walks, walk, tail_way, section_way}
use Rattle.core_laws.proofs.TaskWays.{loop_way, way_assoc}

-- a further turn of a loop
abbrev pub turn_way : ℕ → Loop → Way
turn_way l (WhileLoop t a) = walks l a ▷ walk l (While t a)
turn_way l (DoLoop a t) = walk l (Do a t)
turn_way l (ForLoop t u a) = walks l a ▷ Lost

-- the way through any tasks, by the values pending
abbrev mutual
  pub value_way : ℕ → List Task → List Value → Way
  value_way l [] v = Lost
  value_way l (Runs x ∷ k) v = walk l x ▷ value_way l k v
  value_way l (Works o ∷ k) v = Lost
  value_way l (Asks t ∷ k) v = on_peeled (peel (only l) t) Lost (value_way l k (Integer (pos 1) ∷ v)) (value_way l k (Integer (pos 0) ∷ v))
  value_way l (Branches a b ∷ k) v = cond (holds (top v)) (walks l a) (walks l b) ▷ value_way l k (rest v)
  value_way l (Turns x ∷ k) v = cond (holds (top v)) (turn_way l x) Past ▷ value_way l k (rest v)
  value_way l (Loops x ∷ k) v = loop_way l x ▷ value_way l k v
  value_way l (Heads t u a ∷ k) v = Lost
  value_way l (Arms m ∷ k) v = Lost
  value_way l (AsksSelector s ∷ k) v = on_selector (peel_selector (only l) s) Lost (λ n. value_way l k (Integer n ∷ v))
  value_way l (Enters kind c ∷ k) v = first_of_three (section_way l (ToCase kind (integer (top v))) c) (section_way l ToDefault c) Past ▷ value_way l k (rest v)
  value_way l (EndsSection ∷ k) v = past_way l k v
  value_way l (Out ∷ k) v = value_way l k v

  pub past_way : ℕ → List Task → List Value → Way
  past_way l [] v = Lost
  past_way l (Loops x ∷ k) v = value_way l k v
  past_way l (Out ∷ k) v = value_way l k v
  past_way l (_ ∷ k) v = past_way l k v

pub past_cut : (l : ℕ) (k : List Task) (v : List Value) → past_way l k v ≡ value_way l (cut k) v
past_cut l [] v = refl
past_cut l (Loops x ∷ k) v = refl
past_cut l (Out ∷ k) v = refl
past_cut l (_ ∷ k) v = past_cut l k v

pub items_value : (l : ℕ) (a : Forest) (k : List Task) (v : List Value) → value_way l (items a k) v ≡ walks l a ▷ value_way l k v
items_value l Nil k v = refl
items_value l (Then x a) k v = ap (λ r. walk l x ▷ r) (items_value l a k v) ∙ sym (way_assoc (walk l x) (walks l a) (value_way l k v))

past_items : (l : ℕ) (a : Forest) (k : List Task) (v : List Value) → past_way l (items a k) v ≡ past_way l k v
past_items l Nil k v = refl
past_items l (Then x a) k v = past_items l a k v

past_end : (l : ℕ) (ends : Bool) (k : List Task) (v : List Value) → past_way l (end_of ends k) v ≡ past_way l k v
past_end l true k v = refl
past_end l false k v = refl

past_tail : (l : ℕ) (c : Sections) (k : List Task) (v : List Value) → past_way l (tail_tasks c k) v ≡ value_way l k v
past_tail l NoSection k v = refl
past_tail l (Section cases default a ends c) k v = past_items l a (end_of ends (tail_tasks c k)) v ∙ past_end l ends (tail_tasks c k) v ∙ past_tail l c k v

value_end : (l : ℕ) (ends : Bool) (c : Sections) (k : List Task) (v : List Value) → value_way l (tail_tasks c k) v ≡ tail_way l c ▷ value_way l k v →
    value_way l (end_of ends (tail_tasks c k)) v ≡ end_way ends (tail_way l c) ▷ value_way l k v
value_end l true c k v h = past_tail l c k v
value_end l false c k v h = h

value_section : (l : ℕ) (a : Forest) (ends : Bool) (c : Sections) (k : List Task) (v : List Value) →
    value_way l (tail_tasks c k) v ≡ tail_way l c ▷ value_way l k v
    → value_way l (items a (end_of ends (tail_tasks c k))) v ≡ (walks l a ▷ end_way ends (tail_way l c)) ▷ value_way l k v
value_section l a ends c k v h =
    items_value l a (end_of ends (tail_tasks c k)) v ∙ ap (λ r. walks l a ▷ r) (value_end l ends c k v h) ∙
    sym (way_assoc (walks l a) (end_way ends (tail_way l c)) (value_way l k v))

value_tail : (l : ℕ) (c : Sections) (k : List Task) (v : List Value) → value_way l (tail_tasks c k) v ≡ tail_way l c ▷ value_way l k v
value_tail l NoSection k v = refl
value_tail l (Section cases default a ends c) k v = value_section l a ends c k v (value_tail l c k v)

-- ---- where a case label inside a list is entered, the way is lost

goal_lost : (l : ℕ) (goal : Goal) (x : Tree) → enters_switches goal ≡ false → is_goal goal x ≡ true → walk l x ≡ Lost
goal_lost l (ToLabel m) x e h = absurd (true≢false e)
goal_lost l (ToCase kind n) (If t a b) e h = absurd (true≢false (sym h))
goal_lost l (ToCase kind n) (While t a) e h = absurd (true≢false (sym h))
goal_lost l (ToCase kind n) (Do a t) e h = absurd (true≢false (sym h))
goal_lost l (ToCase kind n) (Switch s c) e h = absurd (true≢false (sym h))
goal_lost l (ToCase kind n) (Leap m) e h = absurd (true≢false (sym h))
goal_lost l (ToCase kind n) (Land m) e h = absurd (true≢false (sym h))
goal_lost l (ToCase kind n) _ e h = refl
goal_lost l ToDefault (If t a b) e h = absurd (true≢false (sym h))
goal_lost l ToDefault (While t a) e h = absurd (true≢false (sym h))
goal_lost l ToDefault (Do a t) e h = absurd (true≢false (sym h))
goal_lost l ToDefault (Switch s c) e h = absurd (true≢false (sym h))
goal_lost l ToDefault (Leap m) e h = absurd (true≢false (sym h))
goal_lost l ToDefault (Land m) e h = absurd (true≢false (sym h))
goal_lost l ToDefault _ e h = refl

abbrev IsLost : ℕ → List Value → Option (List Task) → Type 0
IsLost l v None = Unit {0}
IsLost l v (Some ts) = value_way l ts v ≡ Lost

lost_or : (l : ℕ) (v : List Value) (o p : Option (List Task)) → IsLost l v o → IsLost l v p → IsLost l v (or_else o p)
lost_or l v (Some ts) p h k = h
lost_or l v None p h k = k

lost_if : (l : ℕ) (v : List Value) (b : Bool) (ts : List Task) (o : Option (List Task)) → (b ≡ true → value_way l ts v ≡ Lost) → IsLost l v o →
    IsLost l v (cond b (Some ts) o)
lost_if l v true ts o h k = h refl
lost_if l v false ts o h k = k

lost_switch : (l : ℕ) (v : List Value) (b : Bool) (o : Option (List Task)) → b ≡ false → IsLost l v (cond b o None)
lost_switch l v true o e = absurd (true≢false e)
lost_switch l v false o e = tt

mutual
  inner_lost : (l : ℕ) (goal : Goal) → enters_switches goal ≡ false → (a : Forest) (k : List Task) (v : List Value) → IsLost l v (seek goal a k)
  inner_lost l goal e Nil k v = tt
  inner_lost l goal e (Then x a) k v =
      lost_or l v (cond (is_goal goal x) (Some (Runs x ∷ items a k)) (seek_in goal x (items a k))) (seek goal a k)
      (lost_if l v (is_goal goal x) (Runs x ∷ items a k) (seek_in goal x (items a k))
      (λ h. ap (λ y. y ▷ value_way l (items a k) v) (goal_lost l goal x e h)) (inner_lost_in l goal e x (items a k) v)) (inner_lost l goal e a k v)

  inner_lost_in : (l : ℕ) (goal : Goal) → enters_switches goal ≡ false → (x : Tree) (k : List Task) (v : List Value) → IsLost l v (seek_in goal x k)
  inner_lost_in l goal e (If t a b) k v = lost_or l v (seek goal a k) (seek goal b k) (inner_lost l goal e a k v) (inner_lost l goal e b k v)
  inner_lost_in l goal e (While t a) k v = inner_lost l goal e a (Loops (WhileLoop t a) ∷ k) v
  inner_lost_in l goal e (Do a t) k v = inner_lost l goal e a (Loops (DoLoop a t) ∷ k) v
  inner_lost_in l goal e (For first t u a) k v = inner_lost l goal e a (Loops (ForLoop t u a) ∷ k) v
  inner_lost_in l goal e (Switch s c) k v = lost_switch l v (enters_switches goal) (seek_sections goal c k) e
  inner_lost_in l goal e (Block a) k v = inner_lost l goal e a k v
  inner_lost_in l goal e _ k v = tt

-- ---- the way from a section on, and the tasks that a switch comes to

-- they are of one section, or the tasks are lost
abbrev Enter : ℕ → List Task → List Value → Option Way → Option (List Task) → Type 0
Enter l k v None None = Unit {0}
Enter l k v (Some y) (Some ts) = (value_way l ts v ≡ y ▷ value_way l k v) ⊎ (value_way l ts v ≡ Lost)
Enter l k v None (Some ts) = value_way l ts v ≡ Lost
Enter l k v (Some y) None = ⊥

enter_inner : (l : ℕ) (k : List Task) (v : List Value) (a : Option Way) (inner o : Option (List Task)) → IsLost l v inner → Enter l k v a o →
    Enter l k v a (or_else inner o)
enter_inner l k v a None o h q = q
enter_inner l k v (Some y) (Some ts) o h q = inr h
enter_inner l k v None (Some ts) o h q = h

enter_here : (l : ℕ) (k : List Task) (v : List Value) (b : Bool) (y : Way) (ts : List Task) (inner : Option (List Task)) (a : Option Way)
    (o : Option (List Task)) → value_way l ts v ≡ y ▷ value_way l k v → IsLost l v inner → Enter l k v a o →
    Enter l k v (cond b (Some y) a) (or_else (cond b (Some ts) inner) o)
enter_here l k v true y ts inner a o h i q = inl h
enter_here l k v false y ts inner a o h i q = enter_inner l k v a inner o i q

pub enter_section : (l : ℕ) (goal : Goal) → enters_switches goal ≡ false → (c : Sections) (k : List Task) (v : List Value) →
    Enter l k v (section_way l goal c) (seek_sections goal c k)
enter_section l goal e NoSection k v = tt
enter_section l goal e (Section cases default a ends c) k v =
    let behind = end_of ends (tail_tasks c k) in
    enter_here l k v (is_section_goal goal cases default) (walks l a ▷ end_way ends (tail_way l c)) (items a behind) (seek goal a behind)
    (section_way l goal c) (seek_sections goal c k)
    (value_section l a ends c k v (value_tail l c k v)) (inner_lost l goal e a behind v) (enter_section l goal e c k v)

lost_lands : {A : Type 0} (y : Way) → y ≡ Lost → y ≡ Lands → A
lost_lands y e h = cc

enter_some : (l : ℕ) (k : List Task) (v : List Value) (y : Way) (ts : List Task) → Enter l k v (Some y) (Some ts) → value_way l ts v ≡ Lands →
    y ▷ value_way l k v ≡ Lands
enter_some l k v y ts q h = elim q as (λ _. y ▷ value_way l k v ≡ Lands) [
  | inl e ↦ sym e ∙ h
  | inr e ↦ lost_lands (value_way l ts v) e h
]

pub enter_lands : (l : ℕ) (k : List Task) (v : List Value) (a b : Option Way) (o q : Option (List Task)) → Enter l k v a o → Enter l k v b q →
    value_way l (first_of_three o q k) v ≡ Lands → first_of_three a b Past ▷ value_way l k v ≡ Lands
enter_lands l k v (Some y) b (Some ts) q r s h = enter_some l k v y ts r h
enter_lands l k v (Some y) b None q r s h = absurd r
enter_lands l k v None b (Some ts) q r s h = lost_lands (value_way l ts v) r h
enter_lands l k v None (Some y) None (Some ts) r s h = enter_some l k v y ts s h
enter_lands l k v None (Some y) None None r s h = absurd s
enter_lands l k v None None None (Some ts) r s h = lost_lands (value_way l ts v) s h
enter_lands l k v None None None None r s h = h
