-- Cuts and searches in a body and in its core come to the same.
use mathlib.Core.Path.{ap₂}
use Rattle.std.proofs.Common.{zero, suc, ◌+◌, ℕ, ℤ, Bool, true, false, cond, List, [], ◌∷◌, ◌≡◌, refl, ap, sym, ◌∙◌, Option, Some, None, option_map}
use Rattle.std.specs.Option.{option_map_or}
use Rattle.c_types.specs.declared.kinds.IntKind.{IntKind}
use Rattle.c_tree.specs.ExpressionTrees.{ExpressionTree}
use Rattle.c_tree.specs.TestTrees.{Source, Selects}
use Rattle.c_tree.specs.Trees.{Tree, Forest, Nil, Then, Sections, NoSection, Section, Evaluate, Return, If, While, Do, For, Switch, Block, Local, Break, Continue, Goto, Mark, Arm, Leap, Land, Arrival, Note, join}
use Rattle.c_tree.specs.Cases.{selector_source}
use Rattle.c_tree.specs.Changed.{one}
use Rattle.c_tree.specs.Exits.{breaks, continues}
use Rattle.jump_meaning.specs.Code.{FunctionTree, items_of}
use Rattle.jump_meaning.specs.Tasks.{Loop, WhileLoop, DoLoop, ForLoop, Task, Runs, Works, Asks, Branches, Turns, Loops, Heads, Arms, AsksSelector, Enters, EndsSection, Out, items, end_of, tail_tasks, cut, cut_to}
use Rattle.jump_meaning.specs.Search.{Goal, ToLabel, ToCase, ToDefault, is_goal, is_section_goal, enters_switches, or_else, seek, seek_in, seek_sections, first_of_three, find, entry}
use Rattle.jump_meaning.specs.Step.{no_guards}
use Rattle.jump_meaning.proofs.TaskFacts.{items_join, cut_items, cut_to_items}
use Rattle.core_laws.specs.Ways.{Peeled, Ask, Known, peel, Way, Lands, lost, before, after_do, after_section}
use Rattle.core_laws.specs.Core.{constant, source_of, jump_if, core_if, core_do, core, core_of, core_sections, body_core, core_function}
use Rattle.core_laws.proofs.TaskWays.{task_way, follow_items, follow_section}
use Rattle.core_laws.proofs.TaskCores.{core_do_loop, core_do_turn, task_core, core_items, core_end, core_section, core_tail}

-- ---- `break` and `continue`

-- the core has a `do` for one whose test is left so, and to which n exits are bound
abbrev pub Stays : Peeled → ℕ → Type 0
Stays (Ask e) n = Unit {0}
Stays (Known true) n = Unit {0}
Stays (Known false) zero = ⊥
Stays (Known false) (suc n) = Unit {0}

-- the core has a loop for it
abbrev pub IsKeptLoop : Loop → Type 0
IsKeptLoop (WhileLoop t a) = Unit {0}
IsKeptLoop (DoLoop a t) = Stays (peel no_guards t) (breaks a + continues a)
IsKeptLoop (ForLoop t u a) = Unit {0}

-- the core has the nearest loop or switch too
abbrev pub HasKeptExit : List Task → Type 0
HasKeptExit [] = Unit {0}
HasKeptExit (Loops x ∷ k) = IsKeptLoop x
HasKeptExit (Out ∷ k) = Unit {0}
HasKeptExit (_ ∷ k) = HasKeptExit k

-- the core has the nearest loop too
abbrev pub HasKeptLoop : List Task → Type 0
HasKeptLoop [] = Unit {0}
HasKeptLoop (Loops x ∷ k) = IsKeptLoop x
HasKeptLoop (_ ∷ k) = HasKeptLoop k

cut_do_loop : (p : Peeled) (n : ℕ) (a : Forest) (k : List Task) → Stays p n → cut (core_do_loop p n a k) ≡ k
cut_do_loop (Ask e) n a k h = refl
cut_do_loop (Known true) n a k h = refl
cut_do_loop (Known false) zero a k h = absurd h
cut_do_loop (Known false) (suc n) a k h = refl

cut_do_turn : (p : Peeled) (n : ℕ) (a : Forest) (k : List Task) → cut (core_do_turn p n a k) ≡ cut k
cut_do_turn (Ask e) n a k = refl
cut_do_turn (Known true) n a k = refl
cut_do_turn (Known false) zero a k = refl
cut_do_turn (Known false) (suc n) a k = refl

pub cut_core : (k : List Task) → HasKeptExit k → cut (task_core k) ≡ task_core (cut k)
cut_core [] h = refl
cut_core (Runs x ∷ k) h = cut_items (core_of x (task_way k)) (task_core k) ∙ cut_core k h
cut_core (Works o ∷ k) h = cut_core k h
cut_core (Asks t ∷ k) h = cut_core k h
cut_core (Branches a b ∷ k) h = cut_core k h
cut_core (Turns (WhileLoop t a) ∷ k) h = cut_core k h
cut_core (Turns (DoLoop a t) ∷ k) h = cut_do_turn (peel no_guards t) (breaks a + continues a) (core a (after_do a t (task_way k))) (task_core k) ∙ cut_core k h
cut_core (Turns (ForLoop t u a) ∷ k) h = cut_core k h
cut_core (Loops (WhileLoop t a) ∷ k) h = refl
cut_core (Loops (DoLoop a t) ∷ k) h = cut_do_loop (peel no_guards t) (breaks a + continues a) (core a (after_do a t (task_way k))) (task_core k) h
cut_core (Loops (ForLoop t u a) ∷ k) h = refl
cut_core (Heads t u a ∷ k) h = cut_core k h
cut_core (Arms l ∷ k) h = cut_core k h
cut_core (AsksSelector s ∷ k) h = cut_core k h
cut_core (Enters kind c ∷ k) h = cut_core k h
cut_core (EndsSection ∷ k) h = cut_core k h
cut_core (Out ∷ k) h = refl

cut_to_do_loop : (p : Peeled) (n : ℕ) (a : Forest) (k : List Task) → Stays p n → cut_to (core_do_loop p n a k) ≡ core_do_loop p n a k
cut_to_do_loop (Ask e) n a k h = refl
cut_to_do_loop (Known true) n a k h = refl
cut_to_do_loop (Known false) zero a k h = absurd h
cut_to_do_loop (Known false) (suc n) a k h = refl

cut_to_do_turn : (p : Peeled) (n : ℕ) (a : Forest) (k : List Task) → cut_to (core_do_turn p n a k) ≡ cut_to k
cut_to_do_turn (Ask e) n a k = refl
cut_to_do_turn (Known true) n a k = refl
cut_to_do_turn (Known false) zero a k = refl
cut_to_do_turn (Known false) (suc n) a k = refl

pub cut_to_core : (k : List Task) → HasKeptLoop k → cut_to (task_core k) ≡ task_core (cut_to k)
cut_to_core [] h = refl
cut_to_core (Runs x ∷ k) h = cut_to_items (core_of x (task_way k)) (task_core k) ∙ cut_to_core k h
cut_to_core (Works o ∷ k) h = cut_to_core k h
cut_to_core (Asks t ∷ k) h = cut_to_core k h
cut_to_core (Branches a b ∷ k) h = cut_to_core k h
cut_to_core (Turns (WhileLoop t a) ∷ k) h = cut_to_core k h
cut_to_core (Turns (DoLoop a t) ∷ k) h = cut_to_do_turn (peel no_guards t) (breaks a + continues a) (core a (after_do a t (task_way k)))
    (task_core k) ∙ cut_to_core k h
cut_to_core (Turns (ForLoop t u a) ∷ k) h = cut_to_core k h
cut_to_core (Loops (WhileLoop t a) ∷ k) h = refl
cut_to_core (Loops (DoLoop a t) ∷ k) h = cut_to_do_loop (peel no_guards t) (breaks a + continues a) (core a (after_do a t (task_way k))) (task_core k) h
cut_to_core (Loops (ForLoop t u a) ∷ k) h = refl
cut_to_core (Heads t u a ∷ k) h = cut_to_core k h
cut_to_core (Arms l ∷ k) h = cut_to_core k h
cut_to_core (AsksSelector s ∷ k) h = cut_to_core k h
cut_to_core (Enters kind c ∷ k) h = cut_to_core k h
cut_to_core (EndsSection ∷ k) h = cut_to_core k h
cut_to_core (Out ∷ k) h = cut_to_core k h

-- ---- searches

abbrev Found : Type 0
Found = Option (List Task)

or_assoc : (a b c : Found) → or_else (or_else a b) c ≡ or_else a (or_else b c)
or_assoc (Some k) b c = refl
or_assoc None b c = refl

pub or_none : (o : Found) → or_else o None ≡ o
or_none (Some k) = refl
or_none None = refl

-- what is found, with its tasks changed by h
module _ (h : List Task → List Task) where
  pub or_mapped : (a b a' b' : Found) → a' ≡ option_map h a → b' ≡ option_map h b → or_else a' b' ≡ option_map h (or_else a b)
  or_mapped (Some k) b a' b' e f = ap (λ z. or_else z b') e
  or_mapped None b a' b' e f = ap (λ z. or_else z b') e ∙ f

  pub cond_mapped : (c : Bool) (a b a' b' : Found) → a' ≡ option_map h a → b' ≡ option_map h b → cond c a' b' ≡ option_map h (cond c a b)
  cond_mapped true a b a' b' e f = e
  cond_mapped false a b a' b' e f = f

  pub first_mapped : (o p : Found) (k : List Task) → first_of_three (option_map h o) (option_map h p) (h k) ≡ h (first_of_three o p k)
  first_mapped (Some x) p k = refl
  first_mapped None (Some x) k = refl
  first_mapped None None k = refl

-- the core of what is found
abbrev through : Found → Found
through o = option_map task_core o

-- in a list of one item, where k is behind it
abbrev pub seek_of : Goal → Tree → List Task → Found
seek_of l x k = cond (is_goal l x) (Some (Runs x ∷ k)) (seek_in l x k)

pub seek_join : (l : Goal) (a b : Forest) (k : List Task) → seek l (join a b) k ≡ or_else (seek l a (items b k)) (seek l b k)
seek_join l Nil b k = refl
seek_join l (Then x a) b k =
    ap (λ r. or_else (seek_of l x r) (seek l (join a b) k)) (items_join a b k)
    ∙ ap (λ r. or_else (seek_of l x (items a (items b k))) r) (seek_join l a b k)
    ∙ sym (or_assoc (seek_of l x (items a (items b k))) (seek l a (items b k)) (seek l b k))

-- an item that is no label, whatever is sought
pub no_goal : (x : Tree) → ((m : ℕ) → is_goal (ToLabel m) x ≡ false) → ((kind : IntKind) (n : ℤ) → is_goal (ToCase kind n) x ≡ false) →
    is_goal ToDefault x ≡ false → (l : Goal) → is_goal l x ≡ false
no_goal x p q r (ToLabel m) = p m
no_goal x p q r (ToCase kind n) = q kind n
no_goal x p q r ToDefault = r

pub seek_of_inner : (l : Goal) (x : Tree) (k : List Task) → is_goal l x ≡ false → seek_of l x k ≡ seek_in l x k
seek_of_inner l x k e = ap (λ b. cond b (Some (Runs x ∷ k)) (seek_in l x k)) e

-- an item that holds others, and its core, one item too
inner_core : (l : Goal) (x y : Tree) (k kk : List Task) → is_goal l x ≡ false → is_goal l y ≡ false → seek_in l y kk ≡ through (seek_in l x k) →
    seek l (one y) kk ≡ through (seek_of l x k)
inner_core l x y k kk e f h = or_none (seek_of l y kk) ∙ seek_of_inner l y kk f ∙ h ∙ ap through (sym (seek_of_inner l x k e))

-- an item that is its own core, or a Land and its Mark
leaf_core : (b c : Bool) (x y : Tree) (k kk : List Task) → c ≡ b → task_core (Runs x ∷ k) ≡ Runs y ∷ kk →
    or_else (cond c (Some (Runs y ∷ kk)) None) None ≡ through (cond b (Some (Runs x ∷ k)) None)
leaf_core b c x y k kk e f = or_none (cond c (Some (Runs y ∷ kk)) None) ∙ ap (λ z. cond z (Some (Runs y ∷ kk)) None) e ∙
    cond_mapped task_core b (Some (Runs x ∷ k)) None (Some (Runs y ∷ kk)) None (ap Some (sym f)) refl

seek_if : (l : Goal) (p : Peeled) (a b : Forest) (k : List Task) (oa ob : Found) → seek l a k ≡ through oa → seek l b k ≡ through ob →
    seek l (core_if p a b) k ≡ through (or_else oa ob)
seek_if l (Ask e) a b k oa ob ea eb =
    or_none (seek_of l (If (Source e) a b) k) ∙ seek_of_inner l (If (Source e) a b) k
    (no_goal (If (Source e) a b) (λ m. refl) (λ kind n. refl) refl l) ∙ or_mapped task_core oa ob (seek l a k) (seek l b k) ea eb
seek_if l (Known true) a Nil k oa ob ea eb = sym (or_none (seek l a k)) ∙ or_mapped task_core oa ob (seek l a k) None ea eb
seek_if l (Known true) a (Then y b) k oa ob ea eb =
    or_none (seek_of l (If (Source (constant true)) a (Then y b)) k) ∙
    seek_of_inner l (If (Source (constant true)) a (Then y b)) k (no_goal (If (Source (constant true)) a (Then y b)) (λ m. refl) (λ kind n. refl) refl l)
    ∙ or_mapped task_core oa ob (seek l a k) (seek l (Then y b) k) ea eb
seek_if l (Known false) Nil b k oa ob ea eb = or_mapped task_core oa ob None (seek l b k) ea eb
seek_if l (Known false) (Then y a) b k oa ob ea eb =
    or_none (seek_of l (If (Source (constant false)) (Then y a) b) k) ∙
    seek_of_inner l (If (Source (constant false)) (Then y a) b) k (no_goal (If (Source (constant false)) (Then y a) b) (λ m. refl) (λ kind n. refl) refl l)
    ∙ or_mapped task_core oa ob (seek l (Then y a) k) (seek l b k) ea eb

seek_kept_do : (l : Goal) (a : Forest) (e : ExpressionTree) (k : List Task) → seek l (one (Do a (Source e))) k ≡ seek l a (Loops (DoLoop a (Source e)) ∷ k)
seek_kept_do l a e k = or_none (seek_of l (Do a (Source e)) k) ∙ seek_of_inner l (Do a (Source e)) k
    (no_goal (Do a (Source e)) (λ m. refl) (λ kind n. refl) refl l)

-- the list of a `do`, before what its end is in the core
seek_do : (l : Goal) (p : Peeled) (n : ℕ) (a : Forest) (k : List Task) → seek l (core_do p n a) k ≡ seek l a (core_do_loop p n a k)
seek_do l (Ask e) n a k = seek_kept_do l a e k
seek_do l (Known true) n a k = seek_kept_do l a (constant true) k
seek_do l (Known false) zero a k = refl
seek_do l (Known false) (suc n) a k = seek_kept_do l a (constant false) k

no_jump : (l : Goal) (m : ℕ) (y : Way) (k : List Task) → seek l (one (jump_if y m)) k ≡ None
no_jump l m Lands k = or_none (seek_of l (Goto m) k) ∙ seek_of_inner l (Goto m) k (no_goal (Goto m) (λ n. refl) (λ kind n. refl) refl l)
no_jump l m _ k = or_none (seek_of l (Arm m None) k) ∙ seek_of_inner l (Arm m None) k (no_goal (Arm m None) (λ n. refl) (λ kind n. refl) refl l)

no_arm : (l : Goal) (m : ℕ) (e : Option ExpressionTree) (k : List Task) → None ≡ through (seek_of l (Arm m e) k)
no_arm l m e k = ap through (sym (seek_of_inner l (Arm m e) k (no_goal (Arm m e) (λ n. refl) (λ kind n. refl) refl l)))

mark_goal : (l : Goal) (m : ℕ) → is_goal l (Mark m) ≡ is_goal l (Land m)
mark_goal (ToLabel n) m = refl
mark_goal (ToCase kind n) m = refl
mark_goal ToDefault m = refl

mutual
  pub seek_core : (l : Goal) (a : Forest) (k : List Task) → seek l (core a (task_way k)) (task_core k) ≡ through (seek l a k)
  seek_core l Nil k = refl
  seek_core l (Then x a) k =
      let w = task_way k in
      seek_join l (core_of x (before a w)) (core a w) (task_core k)
      ∙ ap (λ r. or_else (seek l (core_of x (before a w)) r) (seek l (core a w) (task_core k))) (sym (core_items a k))
      ∙ ap (λ u. or_else (seek l (core_of x u) (task_core (items a k))) (seek l (core a w) (task_core k))) (sym (follow_items a k))
      ∙ or_mapped task_core (seek_of l x (items a k)) (seek l a k) (seek l (core_of x (task_way (items a k))) (task_core (items a k)))
      (seek l (core a w) (task_core k)) (seek_of_core l x (items a k)) (seek_core l a k)

  pub seek_of_core : (l : Goal) (x : Tree) (k : List Task) → seek l (core_of x (task_way k)) (task_core k) ≡ through (seek_of l x k)
  seek_of_core l (Evaluate e) k = leaf_core (is_goal l (Evaluate e)) (is_goal l (Evaluate e)) (Evaluate e) (Evaluate e) k (task_core k) refl refl
  seek_of_core l (Return e) k = leaf_core (is_goal l (Return e)) (is_goal l (Return e)) (Return e) (Return e) k (task_core k) refl refl
  seek_of_core l (If t a b) k =
      seek_if l (peel no_guards t) (core a (task_way k)) (core b (task_way k)) (task_core k) (seek l a k) (seek l b k) (seek_core l a k) (seek_core l b k)
      ∙ ap through (sym (seek_of_inner l (If t a b) k (no_goal (If t a b) (λ m. refl) (λ kind n. refl) refl l)))
  seek_of_core l (While t a) k =
      let y = While (Source (source_of (peel no_guards t))) (core a (task_way (Loops (WhileLoop t a) ∷ k))) in
      inner_core l (While t a) y k (task_core k) (no_goal (While t a) (λ m. refl) (λ kind n. refl) refl l)
      (no_goal y (λ m. refl) (λ kind n. refl) refl l) (seek_core l a (Loops (WhileLoop t a) ∷ k))
  seek_of_core l (Do a t) k =
      seek_do l (peel no_guards t) (breaks a + continues a) (core a (task_way (Loops (DoLoop a t) ∷ k))) (task_core k)
      ∙ seek_core l a (Loops (DoLoop a t) ∷ k)
      ∙ ap through (sym (seek_of_inner l (Do a t) k (no_goal (Do a t) (λ m. refl) (λ kind n. refl) refl l)))
  seek_of_core l (For first t u a) k =
      let y = For (core first lost) t u (core a lost) in
      inner_core l (For first t u a) y k (task_core k) (no_goal (For first t u a) (λ m. refl) (λ kind n. refl) refl l)
      (no_goal y (λ m. refl) (λ kind n. refl) refl l) (seek_core l a (Loops (ForLoop t u a) ∷ k))
  seek_of_core l (Switch s c) k =
      let y = Switch (Selects (selector_source s)) (core_sections c (task_way k)) in
      inner_core l (Switch s c) y k (task_core k) (no_goal (Switch s c) (λ m. refl) (λ kind n. refl) refl l) (no_goal y (λ m. refl) (λ kind n. refl) refl l)
      (cond_mapped task_core (enters_switches l) (seek_sections l c k) None (seek_sections l (core_sections c (task_way k)) (task_core k)) None
      (seek_sections_core l c k) refl)
  seek_of_core l (Block a) k =
      let y = Block (core a (task_way k)) in
      inner_core l (Block a) y k (task_core k) (no_goal (Block a) (λ m. refl) (λ kind n. refl) refl l) (no_goal y (λ m. refl) (λ kind n. refl) refl l)
      (seek_core l a k)
  seek_of_core l (Local x es) k = leaf_core (is_goal l (Local x es)) (is_goal l (Local x es)) (Local x es) (Local x es) k (task_core k) refl refl
  seek_of_core l Break k = leaf_core (is_goal l Break) (is_goal l Break) Break Break k (task_core k) refl refl
  seek_of_core l Continue k = leaf_core (is_goal l Continue) (is_goal l Continue) Continue Continue k (task_core k) refl refl
  seek_of_core l (Goto m) k = leaf_core (is_goal l (Goto m)) (is_goal l (Goto m)) (Goto m) (Goto m) k (task_core k) refl refl
  seek_of_core l (Mark m) k = leaf_core (is_goal l (Mark m)) (is_goal l (Mark m)) (Mark m) (Mark m) k (task_core k) refl refl
  seek_of_core l (Arm m None) k = no_jump l m (task_way k m) (task_core k) ∙ no_arm l m None k
  seek_of_core l (Arm m (Some e)) k =
      let y = If (Source e) (one (jump_if (task_way k m) m)) Nil in
      or_none (seek_of l y (task_core k)) ∙ seek_of_inner l y (task_core k) (no_goal y (λ n. refl) (λ kind n. refl) refl l)
      ∙ or_none (seek l (one (jump_if (task_way k m) m)) (task_core k)) ∙ no_jump l m (task_way k m) (task_core k) ∙ no_arm l m (Some e) k
  seek_of_core l (Leap m) k = ap through (sym (seek_of_inner l (Leap m) k (no_goal (Leap m) (λ n. refl) (λ kind n. refl) refl l)))
  seek_of_core l (Land m) k = leaf_core (is_goal l (Land m)) (is_goal l (Mark m)) (Land m) (Mark m) k (task_core k) (mark_goal l m) refl
  seek_of_core l (Arrival e) k = leaf_core (is_goal l (Arrival e)) (is_goal l (Arrival e)) (Arrival e) (Arrival e) k (task_core k) refl refl
  seek_of_core l (Note bs) k = leaf_core (is_goal l (Note bs)) (is_goal l (Note bs)) (Note bs) (Note bs) k (task_core k) refl refl

  pub seek_sections_core : (l : Goal) (c : Sections) (k : List Task) →
      seek_sections l (core_sections c (task_way k)) (task_core k) ≡ through (seek_sections l c k)
  seek_sections_core l NoSection k = refl
  seek_sections_core l (Section cases default a ends c) k =
      let behind = end_of ends (tail_tasks c k) in
      let behind' = end_of ends (tail_tasks (core_sections c (task_way k)) (task_core k)) in
      let e : behind' ≡ task_core behind = ap (end_of ends) (sym (core_tail c k)) ∙ sym (core_end ends (tail_tasks c k)) in
      let ca = core a (after_section ends c (task_way k)) in
      or_mapped task_core (cond (is_section_goal l cases default) (Some (items a behind)) (seek l a behind)) (seek_sections l c k)
      (cond (is_section_goal l cases default) (Some (items ca behind')) (seek l ca behind')) (seek_sections l (core_sections c (task_way k)) (task_core k))
      (cond_mapped task_core (is_section_goal l cases default) (Some (items a behind)) (seek l a behind) (Some (items ca behind')) (seek l ca behind')
      (ap Some (sym (core_section a ends c k (core_tail c k))))
      (ap (seek l ca) e ∙ ap (λ w. seek l (core a w) (task_core behind)) (sym (follow_section ends c k)) ∙ seek_core l a behind))
      (seek_sections_core l c k)

pub find_core : (l : ℕ) (a : Forest) → find l (body_core a) ≡ task_core (find l a)
find_core l a = ap (λ o. first_of_three o None []) (seek_core (ToLabel l) a []) ∙ first_mapped task_core (seek (ToLabel l) a []) None []

-- in the body of a function
pub find_in_core : (l : ℕ) (h : FunctionTree) → find l (items_of (core_function h)) ≡ task_core (find l (items_of h))
find_in_core l h = at_body h.body
  where
    at_body : (b : Option Forest) → find l (option_map_or (λ a. a) (option_map body_core b) Nil) ≡ task_core (find l (option_map_or (λ a. a) b Nil))
    at_body (Some a) = find_core l a
    at_body None = find_core l Nil

pub entry_core : (kind : IntKind) (n : ℤ) (c : Sections) (k : List Task) →
    entry kind n (core_sections c (task_way k)) (task_core k) ≡ task_core (entry kind n c k)
entry_core kind n c k =
    ap₂ (λ o p. first_of_three o p (task_core k)) (seek_sections_core (ToCase kind n) c k) (seek_sections_core ToDefault c k)
    ∙ first_mapped task_core (seek_sections (ToCase kind n) c k) (seek_sections ToDefault c k) k
