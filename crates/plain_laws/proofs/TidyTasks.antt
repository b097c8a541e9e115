-- Tasks of a program, and those of the program whose sections are in their plain form.
use Rattle.std.proofs.Common.{ℕ, ℤ, Bool, true, false, ◌||◌, cond, List, [], ◌∷◌, ◌++◌, Option, Some, None, ◌≡◌, refl, sym, ap, ◌∙◌, subst, true≢false}
use Rattle.std.specs.List.{list_any}
use Rattle.c_types.specs.declared.kinds.IntKind.{IntKind}
use Rattle.c_tree.specs.ExpressionTrees.{ExpressionTree}
use Rattle.c_tree.specs.TestTrees.{TestTree, SelectorTree}
use Rattle.c_tree.specs.Trees.{Tree, Forest, Nil, Then, Sections, NoSection, Section, If, While, Do, For, Switch, Block, Break, Arrival, Mark}
use Rattle.jump_meaning.specs.Effects.{Op, Drops}
use Rattle.jump_meaning.specs.Tasks.{Loop, WhileLoop, DoLoop, ForLoop, Task, Runs, Works, Asks, Branches, Turns, Loops, Heads, Arms, AsksSelector, Enters, EndsSection, Out, items, works, end_of, tail_tasks, turn, cut, cut_to}
use Rattle.jump_meaning.specs.Search.{Goal, ToLabel, ToCase, ToDefault, is_case, is_goal, is_section_goal, enters_switches, or_else, seek, seek_in, seek_sections, first_of_three, find, entry}
use Rattle.jump_meaning.specs.Step.{dropped, is_dropped}
use Rattle.plain_laws.specs.Tidied.{is_break, last_break, without_last, give, tidy, tidy_item, tidy_sections}

abbrev pub tidy_loop : Loop → Loop
tidy_loop (WhileLoop t a) = WhileLoop t (tidy a)
tidy_loop (DoLoop a t) = DoLoop (tidy a) t
tidy_loop (ForLoop t u a) = ForLoop t u (tidy a)

pub data Tidies : List Task → List Task → Type 0 where
  ti_none : Tidies [] []
  ti_runs : (x : Tree) {k k' : List Task} → Tidies k k' → Tidies (Runs x ∷ k) (Runs (tidy_item x) ∷ k')
  -- a last `break` of a section is its end
  ti_break : {k k' : List Task} → Tidies k k' → Tidies (Runs Break ∷ k) (EndsSection ∷ k')
  ti_works : (o : Op) {k k' : List Task} → Tidies k k' → Tidies (Works o ∷ k) (Works o ∷ k')
  ti_asks : (t : TestTree) {k k' : List Task} → Tidies k k' → Tidies (Asks t ∷ k) (Asks t ∷ k')
  ti_branches : (a b : Forest) {k k' : List Task} → Tidies k k' → Tidies (Branches a b ∷ k) (Branches (tidy a) (tidy b) ∷ k')
  ti_turns : (x : Loop) {k k' : List Task} → Tidies k k' → Tidies (Turns x ∷ k) (Turns (tidy_loop x) ∷ k')
  ti_loops : (x : Loop) {k k' : List Task} → Tidies k k' → Tidies (Loops x ∷ k) (Loops (tidy_loop x) ∷ k')
  ti_heads : (t u : Option ExpressionTree) (a : Forest) {k k' : List Task} → Tidies k k' → Tidies (Heads t u a ∷ k) (Heads t u (tidy a) ∷ k')
  ti_arms : (l : ℕ) {k k' : List Task} → Tidies k k' → Tidies (Arms l ∷ k) (Arms l ∷ k')
  ti_selector : (s : SelectorTree) {k k' : List Task} → Tidies k k' → Tidies (AsksSelector s ∷ k) (AsksSelector s ∷ k')
  ti_enters : (kind : IntKind) (c : Sections) {k k' : List Task} → Tidies k k' → Tidies (Enters kind c ∷ k) (Enters kind (tidy_sections c) ∷ k')
  ti_ends : {k k' : List Task} → Tidies k k' → Tidies (EndsSection ∷ k) (EndsSection ∷ k')
  ti_out : {k k' : List Task} → Tidies k k' → Tidies (Out ∷ k) (Out ∷ k')

pub items_tidy : (a : Forest) {k k' : List Task} → Tidies k k' → Tidies (items a k) (items (tidy a) k')
items_tidy Nil h = h
items_tidy (Then x a) h = ti_runs x (items_tidy a h)

pub works_tidy : (os : List Op) {k k' : List Task} → Tidies k k' → Tidies (works os k) (works os k')
works_tidy [] h = h
works_tidy (o ∷ os) h = ti_works o (works_tidy os h)

pub choice_tidy : (b : Bool) {k k' j j' : List Task} → Tidies k k' → Tidies j j' → Tidies (cond b k j) (cond b k' j')
choice_tidy true p q = p
choice_tidy false p q = q

-- ---- the end of a section

break_only : (x : Tree) → is_break (tidy_item x) ≡ true → {k k' : List Task} → Tidies k k' → Tidies (Runs x ∷ k) (EndsSection ∷ k')
break_only Break e h = ti_break h
break_only _ e h = absurd (true≢false (sym e))

items_ended : (a : Forest) {k k' : List Task} → last_break (tidy a) ≡ true → Tidies k k' → Tidies (items a k) (items (without_last (tidy a)) (EndsSection ∷ k'))
items_ended Nil e h = absurd (true≢false (sym e))
items_ended (Then x Nil) e h = break_only x e h
items_ended (Then x (Then y ys)) e h = ti_runs x (items_ended (Then y ys) e h)

tail_give : (cases : List ExpressionTree) (default : Bool) (a : Forest) (ends : Bool) (c : Sections) (k : List Task) →
    tail_tasks (give cases default a ends c) k ≡ items a (end_of ends (tail_tasks c k))
tail_give cases default Nil false NoSection k = refl
tail_give cases default Nil false (Section cases' default' b ends c) k = refl
tail_give cases default Nil true c k = refl
tail_give cases default (Then x a) ends c k = refl

-- the tasks from a section on, by whether it gets an end
put_tidy : (b : Bool) (cases : List ExpressionTree) (default : Bool) (a : Forest) (c : Sections) (j k' : List Task) → last_break (tidy a) ≡ b →
    Tidies j (tail_tasks (tidy_sections c) k')
    → Tidies (items a j) (tail_tasks (cond b (give cases default (without_last (tidy a)) true (tidy_sections c))
    (give cases default (tidy a) false (tidy_sections c))) k')
put_tidy true cases default a c j k' e h = subst (Tidies (items a j))
    (sym (tail_give cases default (without_last (tidy a)) true (tidy_sections c) k')) (items_ended a e h)
put_tidy false cases default a c j k' e h = subst (Tidies (items a j)) (sym (tail_give cases default (tidy a) false (tidy_sections c) k')) (items_tidy a h)

tail_tidy : (c : Sections) {k k' : List Task} → Tidies k k' → Tidies (tail_tasks c k) (tail_tasks (tidy_sections c) k')
tail_tidy NoSection h = ti_out h
tail_tidy (Section cases default a true c) {k = k} {k' = k'} h = subst (Tidies (items a (EndsSection ∷ tail_tasks c k)))
    (sym (tail_give cases default (tidy a) true (tidy_sections c) k')) (items_tidy a (ti_ends (tail_tidy c h)))
tail_tidy (Section cases default a false c) {k = k} {k' = k'} h = put_tidy (last_break (tidy a)) cases default a c (tail_tasks c k) k' refl (tail_tidy c h)

pub turn_tidy : (x : Loop) {k k' : List Task} → Tidies k k' → Tidies (turn x k) (turn (tidy_loop x) k')
turn_tidy (WhileLoop t a) h = items_tidy a (ti_loops (WhileLoop t a) h)
turn_tidy (DoLoop a t) h = ti_runs _ h
turn_tidy (ForLoop t u a) h = items_tidy a (ti_loops (ForLoop t u a) h)

pub dropped_tidy : (u : Option ExpressionTree) {k k' : List Task} → Tidies k k' → Tidies (dropped u k) (dropped u k')
dropped_tidy None h = h
dropped_tidy (Some e) h = ti_works _ (ti_works _ h)

pub cut_tidy : {k k' : List Task} → Tidies k k' → Tidies (cut k) (cut k')
cut_tidy ti_none = ti_none
cut_tidy (ti_runs x h) = cut_tidy h
cut_tidy (ti_break h) = cut_tidy h
cut_tidy (ti_works o h) = cut_tidy h
cut_tidy (ti_asks t h) = cut_tidy h
cut_tidy (ti_branches a b h) = cut_tidy h
cut_tidy (ti_turns x h) = cut_tidy h
cut_tidy (ti_loops x h) = h
cut_tidy (ti_heads t u a h) = cut_tidy h
cut_tidy (ti_arms l h) = cut_tidy h
cut_tidy (ti_selector s h) = cut_tidy h
cut_tidy (ti_enters kind c h) = cut_tidy h
cut_tidy (ti_ends h) = cut_tidy h
cut_tidy (ti_out h) = h

pub cut_to_tidy : {k k' : List Task} → Tidies k k' → Tidies (cut_to k) (cut_to k')
cut_to_tidy ti_none = ti_none
cut_to_tidy (ti_runs x h) = cut_to_tidy h
cut_to_tidy (ti_break h) = cut_to_tidy h
cut_to_tidy (ti_works o h) = cut_to_tidy h
cut_to_tidy (ti_asks t h) = cut_to_tidy h
cut_to_tidy (ti_branches a b h) = cut_to_tidy h
cut_to_tidy (ti_turns x h) = cut_to_tidy h
cut_to_tidy (ti_loops x h) = ti_loops x h
cut_to_tidy (ti_heads t u a h) = cut_to_tidy h
cut_to_tidy (ti_arms l h) = cut_to_tidy h
cut_to_tidy (ti_selector s h) = cut_to_tidy h
cut_to_tidy (ti_enters kind c h) = cut_to_tidy h
cut_to_tidy (ti_ends h) = cut_to_tidy h
cut_to_tidy (ti_out h) = cut_to_tidy h

pub drops_tidy : {k k' : List Task} → Tidies k k' → is_dropped k' ≡ is_dropped k
drops_tidy ti_none = refl
drops_tidy (ti_runs x h) = refl
drops_tidy (ti_break h) = refl
drops_tidy (ti_works Drops h) = refl
drops_tidy (ti_works o h) = refl
drops_tidy (ti_asks t h) = refl
drops_tidy (ti_branches a b h) = refl
drops_tidy (ti_turns x h) = refl
drops_tidy (ti_loops x h) = refl
drops_tidy (ti_heads t u a h) = refl
drops_tidy (ti_arms l h) = refl
drops_tidy (ti_selector s h) = refl
drops_tidy (ti_enters kind c h) = refl
drops_tidy (ti_ends h) = refl
drops_tidy (ti_out h) = refl

-- ---- searches

data TidyFound : Option (List Task) → Option (List Task) → Type 0 where
  tf_none : TidyFound None None
  tf_some : {k k' : List Task} → Tidies k k' → TidyFound (Some k) (Some k')

found_or : {a a' b b' : Option (List Task)} → TidyFound a a' → TidyFound b b' → TidyFound (or_else a b) (or_else a' b')
found_or tf_none q = q
found_or (tf_some h) q = tf_some h

found_cond : (c : Bool) {a a' b b' : Option (List Task)} → TidyFound a a' → TidyFound b b' → TidyFound (cond c a b) (cond c a' b')
found_cond true p q = p
found_cond false p q = q

found_first : {a a' b b' : Option (List Task)} {k k' : List Task} → TidyFound a a' → TidyFound b b' → Tidies k k' →
    Tidies (first_of_three a b k) (first_of_three a' b' k')
found_first (tf_some h) q i = h
found_first tf_none (tf_some h) i = h
found_first tf_none tf_none i = i

goal_tidy : (l : Goal) (x : Tree) → is_goal l (tidy_item x) ≡ is_goal l x
goal_tidy (ToLabel l) (Mark m) = refl
goal_tidy (ToLabel l) _ = refl
goal_tidy (ToCase kind n) (Arrival (Some e)) = refl
goal_tidy (ToCase kind n) _ = refl
goal_tidy ToDefault (Arrival None) = refl
goal_tidy ToDefault _ = refl

or_join : (b c d e : Bool) → c ≡ (d || e) → (b || c) ≡ ((b || d) || e)
or_join true c d e h = refl
or_join false c d e h = h

any_append : (f : ExpressionTree → Bool) (xs ys : List ExpressionTree) → list_any f (xs ++ ys) ≡ (list_any f xs || list_any f ys)
any_append f [] ys = refl
any_append f (x ∷ xs) ys = or_join (f x) (list_any f (xs ++ ys)) (list_any f xs) (list_any f ys) (any_append f xs ys)

goal_join : (l : Goal) (xs ys : List ExpressionTree) (a b : Bool) → is_section_goal l (xs ++ ys) (a || b) ≡ (is_section_goal l xs a || is_section_goal l ys b)
goal_join (ToLabel l) xs ys a b = refl
goal_join (ToCase kind n) xs ys a b = any_append (is_case kind n) xs ys
goal_join ToDefault xs ys a b = refl

joined_choice : (a b : Bool) (t : List Task) (o r : Option (List Task)) →
    or_else (cond (a || b) (Some t) o) r ≡ or_else (cond a (Some t) None) (or_else (cond b (Some t) o) r)
joined_choice true b t o r = refl
joined_choice false b t o r = refl

-- a section that is given to the next is found there
seek_give : (l : Goal) (cases : List ExpressionTree) (default : Bool) (a : Forest) (ends : Bool) (c : Sections) (k : List Task)
    → seek_sections l (give cases default a ends c) k ≡ or_else
    (cond (is_section_goal l cases default) (Some (items a (end_of ends (tail_tasks c k)))) (seek l a (end_of ends (tail_tasks c k)))) (seek_sections l c k)
seek_give l cases default Nil false NoSection k = refl
seek_give l cases default Nil false (Section cases' default' b ends c) k =
    ap (λ z. or_else (cond z (Some (items b (end_of ends (tail_tasks c k)))) (seek l b (end_of ends (tail_tasks c k)))) (seek_sections l c k))
    (goal_join l cases cases' default default')
    ∙ joined_choice (is_section_goal l cases default) (is_section_goal l cases' default') _ _ _
seek_give l cases default Nil true c k = refl
seek_give l cases default (Then x a) ends c k = refl

-- the search among sections, by whether the first gets an end
abbrev FirstFound : Goal → List ExpressionTree → Bool → Forest → Bool → List Task → Forest → Bool → List Task → Type 0
FirstFound l cases default a ends j b end k =
    TidyFound (cond (is_section_goal l cases default) (Some (items a (end_of ends j))) (seek l a (end_of ends j)))
    (cond (is_section_goal l cases default) (Some (items b (end_of end k))) (seek l b (end_of end k)))

give_found : (l : Goal) (cases : List ExpressionTree) (default : Bool) (a : Forest) (ends : Bool) (c : Sections) (b : Forest) (end : Bool) (k k' : List Task)
    → FirstFound l cases default a ends (tail_tasks c k) b end (tail_tasks (tidy_sections c) k') →
    TidyFound (seek_sections l c k) (seek_sections l (tidy_sections c) k')
    → TidyFound (seek_sections l (Section cases default a ends c) k) (seek_sections l (give cases default b end (tidy_sections c)) k')
give_found l cases default a ends c b end k k' p q =
    subst (TidyFound (seek_sections l (Section cases default a ends c) k)) (sym (seek_give l cases default b end (tidy_sections c) k')) (found_or p q)

put_found : (y : Bool) (l : Goal) (cases : List ExpressionTree) (default : Bool) (a : Forest) (c : Sections) (k k' : List Task) →
    last_break (tidy a) ≡ y → Tidies k k'
    → TidyFound (seek l a (tail_tasks c k)) (seek l (tidy a) (tail_tasks (tidy_sections c) k'))
    → (last_break (tidy a) ≡ true → TidyFound (seek l a (tail_tasks c k)) (seek l (without_last (tidy a)) (EndsSection ∷ tail_tasks (tidy_sections c) k')))
    → TidyFound (seek_sections l c k) (seek_sections l (tidy_sections c) k')
    → TidyFound (seek_sections l (Section cases default a false c) k)
    (seek_sections l (cond y (give cases default (without_last (tidy a)) true (tidy_sections c)) (give cases default (tidy a) false (tidy_sections c))) k')
put_found true l cases default a c k k' e h p q r =
    give_found l cases default a false c (without_last (tidy a)) true k k'
    (found_cond (is_section_goal l cases default) (tf_some (items_ended a e (tail_tidy c h))) (q e)) r
put_found false l cases default a c k k' e h p q r =
    give_found l cases default a false c (tidy a) false k k' (found_cond (is_section_goal l cases default) (tf_some (items_tidy a (tail_tidy c h))) p) r

break_found : (l : Goal) (x : Tree) (j k : List Task) → is_break (tidy_item x) ≡ true → TidyFound (seek l (Then x Nil) j) (seek l Nil k)
break_found (ToLabel l) Break j k e = tf_none
break_found (ToCase kind n) Break j k e = tf_none
break_found ToDefault Break j k e = tf_none
break_found l _ j k e = absurd (true≢false (sym e))

mutual
  seek_tidy : (l : Goal) (a : Forest) {k k' : List Task} → Tidies k k' → TidyFound (seek l a k) (seek l (tidy a) k')
  seek_tidy l Nil h = tf_none
  seek_tidy l (Then x xs) {k = k} {k' = k'} h =
      found_or
      (subst (λ b. TidyFound (cond (is_goal l x) (Some (Runs x ∷ items xs k)) (seek_in l x (items xs k)))
      (cond b (Some (Runs (tidy_item x) ∷ items (tidy xs) k')) (seek_in l (tidy_item x) (items (tidy xs) k')))) (sym (goal_tidy l x))
      (found_cond (is_goal l x) (tf_some (ti_runs x (items_tidy xs h))) (seek_in_tidy l x (items_tidy xs h))))
      (seek_tidy l xs h)

  seek_in_tidy : (l : Goal) (x : Tree) {k k' : List Task} → Tidies k k' → TidyFound (seek_in l x k) (seek_in l (tidy_item x) k')
  seek_in_tidy l (If t a b) h = found_or (seek_tidy l a h) (seek_tidy l b h)
  seek_in_tidy l (While t a) h = seek_tidy l a (ti_loops (WhileLoop t a) h)
  seek_in_tidy l (Do a t) h = seek_tidy l a (ti_loops (DoLoop a t) h)
  seek_in_tidy l (For first t u a) h = seek_tidy l a (ti_loops (ForLoop t u a) h)
  seek_in_tidy l (Switch s c) h = found_cond (enters_switches l) (seek_sections_tidy l c h) tf_none
  seek_in_tidy l (Block a) h = seek_tidy l a h
  seek_in_tidy l _ h = tf_none

  seek_sections_tidy : (l : Goal) (c : Sections) {k k' : List Task} → Tidies k k' → TidyFound (seek_sections l c k) (seek_sections l (tidy_sections c) k')
  seek_sections_tidy l NoSection h = tf_none
  seek_sections_tidy l (Section cases default a true c) {k = k} {k' = k'} h =
      give_found l cases default a true c (tidy a) true k k'
      (found_cond (is_section_goal l cases default) (tf_some (items_tidy a (ti_ends (tail_tidy c h)))) (seek_tidy l a (ti_ends (tail_tidy c h))))
      (seek_sections_tidy l c h)
  seek_sections_tidy l (Section cases default a false c) {k = k} {k' = k'} h =
      put_found (last_break (tidy a)) l cases default a c k k' refl h (seek_tidy l a (tail_tidy c h)) (λ e. seek_ended l a e (tail_tidy c h))
      (seek_sections_tidy l c h)

  -- a list that loses its last `break`
  seek_ended : (l : Goal) (a : Forest) → last_break (tidy a) ≡ true → {k k' : List Task} → Tidies k k' →
      TidyFound (seek l a k) (seek l (without_last (tidy a)) (EndsSection ∷ k'))
  seek_ended l Nil e h = absurd (true≢false (sym e))
  seek_ended l (Then x Nil) e {k = k} {k' = k'} h = break_found l x k (EndsSection ∷ k') e
  seek_ended l (Then x (Then y ys)) e {k = k} {k' = k'} h =
      let i = items_ended (Then y ys) e h in
      found_or
      (subst (λ b. TidyFound (cond (is_goal l x) (Some (Runs x ∷ items (Then y ys) k)) (seek_in l x (items (Then y ys) k)))
      (cond b (Some (Runs (tidy_item x) ∷ items (without_last (tidy (Then y ys))) (EndsSection ∷ k')))
      (seek_in l (tidy_item x) (items (without_last (tidy (Then y ys))) (EndsSection ∷ k'))))) (sym (goal_tidy l x))
      (found_cond (is_goal l x) (tf_some (ti_runs x i)) (seek_in_tidy l x i)))
      (seek_ended l (Then y ys) e h)

pub find_tidy : (l : ℕ) (a : Forest) → Tidies (find l a) (find l (tidy a))
find_tidy l a = found_first (seek_tidy (ToLabel l) a ti_none) tf_none ti_none

pub entry_tidy : (kind : IntKind) (n : ℤ) (c : Sections) {k k' : List Task} → Tidies k k' → Tidies (entry kind n c k) (entry kind n (tidy_sections c) k')
entry_tidy kind n c h = found_first (seek_sections_tidy (ToCase kind n) c h) (seek_sections_tidy ToDefault c h) h
