-- Tasks of statements stay alike through lists, `break` and `continue`, and searches.
use Rattle.std.proofs.Common.{ℕ, ℤ, Bool, true, false, cond, List, ◌∷◌, Option, Some, None, ◌≡◌, refl, sym, ◌∙◌, subst, true≢false}
use Rattle.c_types.specs.declared.kinds.IntKind.{IntKind}
use Rattle.c_tree.specs.Trees.{Tree, Forest, Nil, Then, Sections, NoSection, Section, If, While, Do, For, Switch, Block, Mark, Land, Arrival}
use Rattle.c_tree.specs.Everywhere.{Everywhere, EverywhereOf, EverywhereIn}
use Rattle.jump_meaning.specs.Code.{Code}
use Rattle.jump_meaning.specs.Tasks.{Loop, WhileLoop, DoLoop, ForLoop, Task, Runs, items, end_of, tail_tasks, turn, cut, cut_to}
use Rattle.jump_meaning.specs.Search.{Goal, ToLabel, ToCase, ToDefault, is_goal, is_section_goal, enters_switches, or_else, seek, seek_in, seek_sections, first_of_three, find, entry}
use Rattle.plain_laws.specs.GuardSlots.{plain_list, plain_item, plain_sections}
use Rattle.plain_laws.specs.Slotted.{Guarding, IsSlotted}
use Rattle.plain_laws.proofs.Relation.{slot, Fit, FitLoop, plain_loop, Rest, r_none, r_runs, r_loops, r_heads, r_ends, r_out}

module _ (p : Code) (gs : List ℕ → Guarding) (is : (m : List ℕ) → IsSlotted p (p.functions m) (gs m)) (f : List ℕ) where
  abbrev R : List Task → List Task → Type 0
  R = Rest p gs is f

  abbrev All : Forest → Type 0
  All = Everywhere (Fit p gs is f)

  abbrev AllOf : Tree → Type 0
  AllOf = EverywhereOf (Fit p gs is f)

  abbrev AllIn : Sections → Type 0
  AllIn = EverywhereIn (Fit p gs is f)

  abbrev list : Forest → Forest
  list = plain_list (slot p gs is f)

  abbrev item : Tree → Tree
  item = plain_item (slot p gs is f)

  abbrev sections : Sections → Sections
  sections = plain_sections (slot p gs is f)

  pub rest_items : (a : Forest) {k k' : List Task} → All a → R k k' → R (items a k) (items (list a) k')
  rest_items Nil i h = h
  rest_items (Then x xs) i h = r_runs x i.0 (rest_items xs i.1 h)

  rest_end : (ends : Bool) {k k' : List Task} → R k k' → R (end_of ends k) (end_of ends k')
  rest_end true h = r_ends h
  rest_end false h = h

  rest_tail : (c : Sections) {k k' : List Task} → AllIn c → R k k' → R (tail_tasks c k) (tail_tasks (sections c) k')
  rest_tail NoSection i h = r_out h
  rest_tail (Section cases default a ends c) i h = rest_items a i.0 (rest_end ends (rest_tail c i.1 h))

  pub rest_turn : (x : Loop) {k k' : List Task} → FitLoop p gs is f x → R k k' → R (turn x k) (turn (plain_loop (slot p gs is f) x) k')
  rest_turn (WhileLoop t a) i h = rest_items a i.1 (r_loops (WhileLoop t a) i h)
  rest_turn (DoLoop a t) i h = r_runs _ i h
  rest_turn (ForLoop t u a) i h = rest_items a i.2 (r_loops (ForLoop t u a) i h)

  pub rest_cut : {k k' : List Task} → R k k' → R (cut k) (cut k')
  rest_cut r_none = r_none
  rest_cut (r_runs x i h) = rest_cut h
  rest_cut (r_loops x i h) = h
  rest_cut (r_heads t u a i h) = rest_cut h
  rest_cut (r_ends h) = rest_cut h
  rest_cut (r_out h) = h

  pub rest_cut_to : {k k' : List Task} → R k k' → R (cut_to k) (cut_to k')
  rest_cut_to r_none = r_none
  rest_cut_to (r_runs x i h) = rest_cut_to h
  rest_cut_to (r_loops x i h) = r_loops x i h
  rest_cut_to (r_heads t u a i h) = rest_cut_to h
  rest_cut_to (r_ends h) = rest_cut_to h
  rest_cut_to (r_out h) = rest_cut_to h

  -- ---- searches

  data Found : Option (List Task) → Option (List Task) → Type 0 where
    found_none : Found None None
    found_some : {k k' : List Task} → R k k' → Found (Some k) (Some k')

  found_or : {a a' b b' : Option (List Task)} → Found a a' → Found b b' → Found (or_else a b) (or_else a' b')
  found_or found_none q = q
  found_or (found_some h) q = found_some h

  found_cond : (c : Bool) {a a' b b' : Option (List Task)} → Found a a' → Found b b' → Found (cond c a b) (cond c a' b')
  found_cond true p q = p
  found_cond false p q = q

  found_first : {a a' b b' : Option (List Task)} {k k' : List Task} → Found a a' → Found b b' → R k k' → R (first_of_three a b k) (first_of_three a' b' k')
  found_first (found_some h) q i = h
  found_first found_none (found_some h) i = h
  found_first found_none found_none i = i

  -- labels of jumps are sought only where no guard is
  abbrev IsSought : Goal → Type 0
  IsSought (ToLabel l) = (is f).jumping ≡ true
  IsSought _ = Unit {0}

  goal_same : (l : Goal) (x : Tree) → IsSought l → AllOf x → is_goal l (item x) ≡ is_goal l x
  goal_same (ToLabel l) (Land m) s i = absurd (true≢false (sym s ∙ i.form))
  goal_same (ToLabel l) (Mark m) s i = refl
  goal_same (ToLabel l) _ s i = refl
  goal_same (ToCase kind n) (Arrival (Some e)) s i = refl
  goal_same (ToCase kind n) _ s i = refl
  goal_same ToDefault (Arrival None) s i = refl
  goal_same ToDefault _ s i = refl

  mutual
    rest_seek : (l : Goal) → IsSought l → (a : Forest) {k k' : List Task} → All a → R k k' → Found (seek l a k) (seek l (list a) k')
    rest_seek l s Nil i h = found_none
    rest_seek l s (Then x xs) {k = k} {k' = k'} i h =
        found_or
        (subst (λ b. Found (cond (is_goal l x) (Some (Runs x ∷ items xs k)) (seek_in l x (items xs k)))
        (cond b (Some (Runs (item x) ∷ items (list xs) k')) (seek_in l (item x) (items (list xs) k')))) (sym (goal_same l x s i.0))
        (found_cond (is_goal l x) (found_some (r_runs x i.0 (rest_items xs i.1 h))) (rest_seek_in l s x i.0 (rest_items xs i.1 h))))
        (rest_seek l s xs i.1 h)

    rest_seek_in : (l : Goal) → IsSought l → (x : Tree) {k k' : List Task} → AllOf x → R k k' → Found (seek_in l x k) (seek_in l (item x) k')
    rest_seek_in l s (If t a b) i h = found_or (rest_seek l s a i.1 h) (rest_seek l s b i.2 h)
    rest_seek_in l s (While t a) i h = rest_seek l s a i.1 (r_loops (WhileLoop t a) i h)
    rest_seek_in l s (Do a t) i h = rest_seek l s a i.1 (r_loops (DoLoop a t) i h)
    rest_seek_in l s (For first t u a) i h = rest_seek l s a i.2
        (r_loops (ForLoop t u a) (record { kinded = i.0.kinded; labels = tt; form = tt; picks = tt }, tt, i.2) h)
    rest_seek_in l s (Switch t c) i h = found_cond (enters_switches l) (rest_seek_sections l s c i.1 h) found_none
    rest_seek_in l s (Block a) i h = rest_seek l s a i.1 h
    rest_seek_in l s _ i h = found_none

    rest_seek_sections : (l : Goal) → IsSought l → (c : Sections) {k k' : List Task} → AllIn c → R k k' →
        Found (seek_sections l c k) (seek_sections l (sections c) k')
    rest_seek_sections l s NoSection i h = found_none
    rest_seek_sections l s (Section cases default a ends c) i h =
        let after = rest_end ends (rest_tail c i.1 h) in
        found_or (found_cond (is_section_goal l cases default) (found_some (rest_items a i.0 after)) (rest_seek l s a i.0 after))
        (rest_seek_sections l s c i.1 h)

  pub rest_find : (l : ℕ) → (is f).jumping ≡ true → (a : Forest) → All a → R (find l a) (find l (list a))
  rest_find l s a i = found_first (rest_seek (ToLabel l) s a i r_none) found_none r_none

  pub rest_entry : (kind : IntKind) (n : ℤ) (c : Sections) {k k' : List Task} → AllIn c → R k k' → R (entry kind n c k) (entry kind n (sections c) k')
  rest_entry kind n c i h = found_first (rest_seek_sections (ToCase kind n) tt c i h) (rest_seek_sections ToDefault tt c i h) h
