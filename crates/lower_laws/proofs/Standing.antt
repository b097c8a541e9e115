-- The labels that the gotos of a body on its way to a flat list name stand in it.
use Rattle.std.proofs.Common.{ℕ, zero, suc, ◌++◌, ◌⊎◌, inl, inr, ℤ, Bool, true, false, not, cond, ◌||◌, List, [], ◌∷◌, Option, Some, None, ◌≡◌, refl, sym, subst}
use Rattle.std.specs.Option.{option_map_or}
use Rattle.c_types.specs.declared.kinds.IntKind.{IntKind}
use Rattle.c_tree.specs.ExpressionTrees.{ExpressionTree}
use Rattle.c_tree.specs.TestTrees.{TestTree, Source}
use Rattle.c_tree.specs.Cases.{case_number}
use Rattle.c_tree.specs.Everywhere.{Everywhere, EverywhereOf, EverywhereIn}
use Rattle.c_tree.specs.Exits.{breaks_in}
use Rattle.c_tree.specs.Changed.{one}
use Rattle.c_tree.specs.Trees.{Tree, Forest, Nil, Then, Sections, NoSection, Section, Evaluate, Return, If, While, Do, For, Switch, Block, Local, Break, Continue, Goto, Mark, Arm, Leap, Land, Arrival, Note, join}
use Rattle.jump_meaning.specs.Code.{entry_or}
use Rattle.jump_meaning.specs.World.{no_slot}
use Rattle.jump_meaning.specs.Step.{switch_kind}
use Rattle.flat_laws.specs.Pieces.{Aim, Stays, Becomes, Absent, mark_of, third_items, Names, is_number, test_for, tests_for, tests, tests_in, tests_among, case_marks, assigned_cells}
use Rattle.flat_laws.specs.Placed.{Has}
use Rattle.flat_laws.specs.Loose.{Setting, Arrivals, NoArrival, Arrives}
use Rattle.flat_laws.specs.Parts.{is_some_number, arrivals, arrivals_in, section_labels, switch_labels, has_default, ends_some, leaves, Here}
use Rattle.flat_laws.specs.FlatForm.{names_of, scatter_aim, otherwise_label, end_goto, exit, assigned, mark_if, arrival}
use Rattle.flat_laws.specs.Source.{IsSourceItem}
use Rattle.lower_laws.specs.Lowered.{Layout, past, past_item, inside, is_bare, only_goto, jump_of, break_aim, for_aim, continue_aim}
use Rattle.lower_laws.specs.Opened.{opened_if, opened_for, opened, opened_item, opened_among, Naming}
use Rattle.flat_laws.proofs.LooserItems.{false_true}

pub has_left : (l : ℕ) (xs ys : Forest) → Has l xs → Has l (join xs ys)
has_left l Nil ys n = absurd n
has_left l (Then x xs) ys (inl n) = inl n
has_left l (Then x xs) ys (inr n) = inr (has_left l xs ys n)

pub has_right : (l : ℕ) (xs ys : Forest) → Has l ys → Has l (join xs ys)
has_right l Nil ys n = n
has_right l (Then x xs) ys n = inr (has_right l xs ys n)

naming_split : (l : ℕ) (xs ys : Forest) → Naming l (join xs ys) → Naming l xs ⊎ Naming l ys
naming_split l Nil ys n = inr n
naming_split l (Then x xs) ys (inl n) = inl (inl n)
naming_split l (Then x xs) ys (inr n) = rest (naming_split l xs ys n)
  where
    rest : Naming l xs ⊎ Naming l ys → Naming l (Then x xs) ⊎ Naming l ys
    rest (inl m) = inl (inr m)
    rest (inr m) = inr m

-- a fact of the labels of both parts
split : (l : ℕ) {X : Type 0} (xs ys : Forest) → (Naming l xs → X) → (Naming l ys → X) → Naming l (join xs ys) → X
split l {X} xs ys f g n = at (naming_split l xs ys n)
  where
    at : Naming l xs ⊎ Naming l ys → X
    at (inl m) = f m
    at (inr m) = g m

none : {X : Type 0} → ⊥ ⊎ ⊥ → X
none (inl n) = absurd n
none (inr n) = absurd n

no_mark : {X : Type 0} (l : ℕ) (b : Aim) → Naming l (mark_of b) → X
no_mark l Stays n = absurd n
no_mark l (Becomes m) n = none n
no_mark l Absent n = absurd n

no_third : {X : Type 0} (l : ℕ) (u : Option ExpressionTree) → Naming l (third_items u) → X
no_third l None n = absurd n
no_third l (Some e) n = none n

no_case : {X : Type 0} (l : ℕ) (names : Names) (cases : List ExpressionTree) (default : Bool) → Naming l (case_marks names cases default) → X
no_case l names [] true n = none n
no_case l names [] false n = absurd n
no_case l names (e ∷ es) default (inl n) = absurd n
no_case l names (e ∷ es) default (inr n) = no_case l names es default n

no_cell : {X : Type 0} (l : ℕ) (k : IntKind) (x i : ℕ) (es : List ExpressionTree) (m : ℕ) → Naming l (assigned_cells k x i es m) → X
no_cell l k x i (e ∷ es) m (inl n) = absurd n
no_cell l k x i (e ∷ es) m (inr n) = no_cell l k x (suc i) es m n
no_cell l k x i [] zero n = absurd n
no_cell l k x i [] (suc m) (inl n) = absurd n
no_cell l k x i [] (suc m) (inr n) = no_cell l k x (suc i) [] m n

no_assigned : {X : Type 0} (l : ℕ) (k : IntKind) (x : ℕ) (o : Option ℕ) (es : List ExpressionTree) → Naming l (assigned k x o es) → X
no_assigned l k x None (e ∷ es) n = none n
no_assigned l k x None [] n = absurd n
no_assigned l k x (Some m) es n = no_cell l k x 0 es _ n

-- ---- lists of one goto

data OnlyGoto (live : ℕ → Bool) (m : ℕ) : Forest → Type 0 where
  og_mark : (l : ℕ) {xs : Forest} → OnlyGoto live m xs → OnlyGoto live m (Then (Mark l) xs)
  og_goto : {xs : Forest} → is_bare live xs ≡ true → OnlyGoto live m (Then (Goto m) xs)

module _ (live : ℕ → Bool) (m : ℕ) where
  mark_some : (y : Bool) (o : Option ℕ) → cond y None o ≡ Some m → o ≡ Some m
  mark_some true o e = cc
  mark_some false o e = e

  goto_some : (y : Bool) (l : ℕ) → cond y (Some l) None ≡ Some m → (y ≡ true) × (l ≡ m)
  goto_some true l e = (refl, cc)
  goto_some false l e = cc

  only : (xs : Forest) → only_goto live xs ≡ Some m → OnlyGoto live m xs
  only Nil e = cc
  only (Then (Mark l) xs) e = og_mark l (only xs (mark_some (live l) (only_goto live xs) e))
  only (Then (Goto l) xs) e = let q = goto_some (is_bare live xs) l e in subst (λ z. OnlyGoto live m (Then (Goto z) xs)) (sym q.1) (og_goto q.0)
  only (Then x xs) e = cc

  mark_bare : (y z : Bool) → cond y false z ≡ true → z ≡ true
  mark_bare true z e = false_true e
  mark_bare false z e = e

-- such a list has no case label
module _ (live : ℕ → Bool) (number : IntKind → ℤ → ExpressionTree) (k : IntKind) (v : ℕ) (names : Names) (l : ℕ) {X : Type 0} where
  no_bare : (xs : Forest) → is_bare live xs ≡ true → Naming l (tests number k v names xs) → X
  no_bare Nil e n = absurd n
  no_bare (Then (Mark m) xs) e n = no_bare xs (mark_bare live 0 (live m) (is_bare live xs) e) n
  no_bare (Then x xs) e n = false_true e

  no_only : {m : ℕ} {xs : Forest} → OnlyGoto live m xs → Naming l (tests number k v names xs) → X
  no_only (og_mark m o) n = no_only o n
  no_only (og_goto {xs = xs} e) n = no_bare xs e n

pub both_of : (y : Bool) (o : Option ℕ) (m : ℕ) → cond y o None ≡ Some m → (y ≡ true) × (o ≡ Some m)
both_of true o m e = (refl, e)
both_of false o m e = cc

module _ (p : Layout) where
  -- ---- the labels of the cases of a switch

  module _ (number : IntKind → ℤ → ExpressionTree) (k : IntKind) (v : ℕ) (names : Names) (l : ℕ) where
    case_named : (e : ExpressionTree) (o : Option ℤ) → Naming l
        (option_map_or (λ z. one (If (Source (is_number k v (number k z))) (one (Goto (names (Some e)))) Nil)) o Nil) → l ≡ names (Some e)
    case_named e None n = absurd n
    case_named e (Some z) (inl (inl (inl n))) = n
    case_named e (Some z) (inl (inl (inr n))) = absurd n
    case_named e (Some z) (inl (inr n)) = absurd n
    case_named e (Some z) (inr n) = absurd n

    cases_stand : (es : List ExpressionTree) (default : Bool) → Naming l (tests_for number k v names es) → Has l (case_marks names es default)
    cases_stand [] default n = absurd n
    cases_stand (e ∷ es) default n = split l (test_for number k v names e) (tests_for number k v names es)
        (λ m. inl (case_named e (case_number k e) m)) (λ m. inr (cases_stand es default m)) n

    if_stands : (t : TestTree) (x y x' y' : Forest) (o : Option ℕ) → jump_of p.plan.live x y ≡ o → (Naming l (tests number k v names x) → Has l x') →
        (Naming l (tests number k v names y) → Has l y') → Naming l (join (tests number k v names x) (tests number k v names y)) →
        Has l (one (opened_if p t o x' y'))
    if_stands t x y x' y' None e f g n = split l (tests number k v names x) (tests number k v names y) (λ m. inl (inl (f m))) (λ m. inl (inr (g m))) n
    if_stands t x y x' y' (Some j) e f g n =
        let q = both_of (is_bare p.plan.live y) (only_goto p.plan.live x) j e in
        split l (tests number k v names x) (tests number k v names y) (λ m. no_only p.plan.live number k v names l (only p.plan.live j x q.1) m)
        (λ m. no_bare p.plan.live number k v names l y q.0 m) n

    mutual
      tests_stand : (a : Forest) (h : Here) (b c : Aim) → Naming l (tests number k v names a) → Has l (opened p h b c (Arrives names) a)
      tests_stand Nil h b c n = absurd n
      tests_stand (Then x a) h b c n =
          let y = opened_item p h b c (Arrives names) x in let z = opened p (past_item x h) b c (Arrives names) a in
          split l (tests_in number k v names x) (tests number k v names a) (λ m. has_left l y z (test_stands x h b c m))
          (λ m. has_right l y z (tests_stand a (past_item x h) b c m)) n

      test_stands : (x : Tree) (h : Here) (b c : Aim) → Naming l (tests_in number k v names x) → Has l (opened_item p h b c (Arrives names) x)
      test_stands (If t x y) h b c n =
          if_stands t x y (opened p (inside (If t x y) h) b c (Arrives names) x) (opened p (past x (inside (If t x y) h)) b c (Arrives names) y)
          (jump_of p.plan.live x y) refl (λ m. tests_stand x (inside (If t x y) h) b c m) (λ m. tests_stand y (past x (inside (If t x y) h)) b c m) n
      test_stands (While t a) h b c n =
          inl (has_left l (opened p (inside (While t a) h) (Becomes (p.plan.break_label h.construct)) (Becomes (p.head_label h.construct))
          (Arrives names) a) (one (Mark (p.head_label h.construct)))
          (tests_stand a (inside (While t a) h) (Becomes (p.plan.break_label h.construct)) (Becomes (p.head_label h.construct)) n))
      test_stands (Do a t) h b c n =
          inl (has_left l (opened p (inside (Do a t) h) (break_aim p h a) (continue_aim p h a) (Arrives names) a) (mark_of (continue_aim p h a))
          (tests_stand a (inside (Do a t) h) (break_aim p h a) (continue_aim p h a) n))
      test_stands (For f t u a) h b c n =
          let h' = inside (For f t u a) h in
          let list = opened p (past f h') (for_aim p h t a) (continue_aim p h a) (Arrives names) a in
          has_right l (opened p h' b c NoArrival f) (opened_for t u list (for_aim p h t a) (continue_aim p h a))
          (inl (has_left l list (join (mark_of (continue_aim p h a)) (third_items u)) (tests_stand a (past f h') (for_aim p h t a) (continue_aim p h a) n)))
      test_stands (Block a) h b c n = tests_stand a h b c n
      test_stands (Arrival (Some e)) h b c n = inl (case_named e (case_number k e) n)
      test_stands (Arrival None) h b c n = absurd n
      test_stands (Evaluate e) h b c n = absurd n
      test_stands (Return e) h b c n = absurd n
      test_stands (Switch t d) h b c n = absurd n
      test_stands (Local x es) h b c n = absurd n
      test_stands Break h b c n = absurd n
      test_stands Continue h b c n = absurd n
      test_stands (Goto m) h b c n = absurd n
      test_stands (Mark m) h b c n = absurd n
      test_stands (Arm m e) h b c n = absurd n
      test_stands (Leap m) h b c n = absurd n
      test_stands (Land m) h b c n = absurd n
      test_stands (Note bs) h b c n = absurd n

    among_stand : (d : Sections) (h : Here) (b c : Aim) → Naming l (tests_among number k v names d) → Has l (opened_among p h b c names d)
    among_stand NoSection h b c n = absurd n
    among_stand (Section cases default a ends d) h b c n =
        let cs = case_marks names cases default in
        let xs = opened p h b c (Arrives names) a in
        let es = end_goto ends b in
        let ds = opened_among p (past a h) b c names d in
        split l (tests_for number k v names cases) (join (tests number k v names a) (tests_among number k v names d))
        (λ m. has_left l cs (join xs (join es ds)) (cases_stand cases default m))
        (λ m. has_right l cs (join xs (join es ds)) (split l (tests number k v names a) (tests_among number k v names d)
        (λ m. has_left l xs (join es ds) (tests_stand a h b c m))
        (λ m. has_right l xs (join es ds) (has_right l es ds (among_stand d (past a h) b c m))) m)) n

  -- ---- the label of the default

  has_or : (xs ys : List (Option ExpressionTree)) → has_default (xs ++ ys) ≡ true → (has_default xs ≡ true) ⊎ (has_default ys ≡ true)
  has_or [] ys e = inr e
  has_or (Some x ∷ xs) ys e = has_or xs ys e
  has_or (None ∷ xs) ys e = inl refl

  either : {X : Type 0} (xs ys : List (Option ExpressionTree)) → (has_default xs ≡ true → X) → (has_default ys ≡ true → X) → has_default (xs ++ ys) ≡ true → X
  either {X} xs ys f g e = at (has_or xs ys e)
    where
      at : (has_default xs ≡ true) ⊎ (has_default ys ≡ true) → X
      at (inl h) = f h
      at (inr h) = g h

  bare_default : {X : Type 0} (xs : Forest) → is_bare p.plan.live xs ≡ true → has_default (arrivals xs) ≡ true → X
  bare_default Nil e n = false_true n
  bare_default (Then (Mark m) xs) e n = bare_default xs (mark_bare p.plan.live 0 (p.plan.live m) (is_bare p.plan.live xs) e) n
  bare_default (Then x xs) e n = false_true e

  only_default : {X : Type 0} {m : ℕ} {xs : Forest} → OnlyGoto p.plan.live m xs → has_default (arrivals xs) ≡ true → X
  only_default (og_mark m o) n = only_default o n
  only_default (og_goto {xs = xs} e) n = bare_default xs e n

  module _ (names : Names) where
    abbrev d0 : ℕ
    d0 = names None

    if_default : (t : TestTree) (x y x' y' : Forest) (o : Option ℕ) → jump_of p.plan.live x y ≡ o → (has_default (arrivals x) ≡ true → Has d0 x') →
        (has_default (arrivals y) ≡ true → Has d0 y') → has_default (arrivals x ++ arrivals y) ≡ true → Has d0 (one (opened_if p t o x' y'))
    if_default t x y x' y' None e f g n = either (arrivals x) (arrivals y) (λ m. inl (inl (f m))) (λ m. inl (inr (g m))) n
    if_default t x y x' y' (Some j) e f g n =
        let q = both_of (is_bare p.plan.live y) (only_goto p.plan.live x) j e in
        either (arrivals x) (arrivals y) (λ m. only_default (only p.plan.live j x q.1) m) (λ m. bare_default y q.0 m) n

    mutual
      default_stands : (a : Forest) (h : Here) (b c : Aim) → has_default (arrivals a) ≡ true → Has d0 (opened p h b c (Arrives names) a)
      default_stands Nil h b c n = false_true n
      default_stands (Then x a) h b c n =
          let y = opened_item p h b c (Arrives names) x in let z = opened p (past_item x h) b c (Arrives names) a in
          either (arrivals_in x) (arrivals a) (λ m. has_left d0 y z (default_stands_in x h b c m))
          (λ m. has_right d0 y z (default_stands a (past_item x h) b c m)) n

      default_stands_in : (x : Tree) (h : Here) (b c : Aim) → has_default (arrivals_in x) ≡ true → Has d0 (opened_item p h b c (Arrives names) x)
      default_stands_in (If t x y) h b c n =
          if_default t x y (opened p (inside (If t x y) h) b c (Arrives names) x) (opened p (past x (inside (If t x y) h)) b c (Arrives names) y)
          (jump_of p.plan.live x y) refl
          (λ m. default_stands x (inside (If t x y) h) b c m) (λ m. default_stands y (past x (inside (If t x y) h)) b c m) n
      default_stands_in (While t a) h b c n =
          let e = Becomes (p.plan.break_label h.construct) in let g = p.head_label h.construct in
          inl (has_left d0 (opened p (inside (While t a) h) e (Becomes g) (Arrives names) a) (one (Mark g))
          (default_stands a (inside (While t a) h) e (Becomes g) n))
      default_stands_in (Do a t) h b c n =
          inl (has_left d0 (opened p (inside (Do a t) h) (break_aim p h a) (continue_aim p h a) (Arrives names) a) (mark_of (continue_aim p h a))
          (default_stands a (inside (Do a t) h) (break_aim p h a) (continue_aim p h a) n))
      default_stands_in (For f t u a) h b c n =
          let h' = inside (For f t u a) h in
          let list = opened p (past f h') (for_aim p h t a) (continue_aim p h a) (Arrives names) a in
          has_right d0 (opened p h' b c NoArrival f) (opened_for t u list (for_aim p h t a) (continue_aim p h a))
          (inl (has_left d0 list (join (mark_of (continue_aim p h a)) (third_items u)) (default_stands a (past f h') (for_aim p h t a) (continue_aim p h a) n)))
      default_stands_in (Block a) h b c n = default_stands a h b c n
      default_stands_in (Arrival (Some e)) h b c n = false_true n
      default_stands_in (Arrival None) h b c n = inl refl
      default_stands_in _ h b c n = false_true n

    default_case : (cases : List ExpressionTree) (default : Bool) → has_default (section_labels cases default) ≡ true → Has d0 (case_marks names cases default)
    default_case [] true e = inl refl
    default_case [] false e = false_true e
    default_case (x ∷ xs) default e = inr (default_case xs default e)

    default_among : (d : Sections) (h : Here) (b c : Aim) → has_default (switch_labels d) ≡ true → Has d0 (opened_among p h b c names d)
    default_among NoSection h b c n = false_true n
    default_among (Section cases default a ends d) h b c n =
        let cs = case_marks names cases default in
        let xs = opened p h b c (Arrives names) a in
        let es = end_goto ends b in
        let ds = opened_among p (past a h) b c names d in
        either (section_labels cases default) (arrivals a ++ switch_labels d) (λ m. has_left d0 cs (join xs (join es ds)) (default_case cases default m))
        (λ m. has_right d0 cs (join xs (join es ds)) (either (arrivals a) (switch_labels d) (λ m. has_left d0 xs (join es ds) (default_stands a h b c m))
        (λ m. has_right d0 xs (join es ds) (has_right d0 es ds (default_among d (past a h) b c m))) m)) n

  -- the label behind a switch, where it has one
  behind_stands : (m : ℕ) (d : Sections) (h : Here) (c : Aim) (names : Names) → Has m (opened_among p h (Becomes m) c names d)
  behind_stands m NoSection h c names = inl refl
  behind_stands m (Section cases default a ends d) h c names =
      let cs = case_marks names cases default in
      let xs = opened p h (Becomes m) c (Arrives names) a in
      let es = end_goto ends (Becomes m) in
      let ds = opened_among p (past a h) (Becomes m) c names d in
      has_right m cs (join xs (join es ds)) (has_right m xs (join es ds) (has_right m es ds (behind_stands m d (past a h) c names)))

  -- ---- all labels

  module _ (st : Setting) (A : Forest) (sources : (m : ℕ) → p.plan.live m ≡ true → Has (p.plan.source m) A) (l : ℕ) where
    abbrev Fine : Tree → Type 0
    Fine x = IsSourceItem st p.plan.live x

    -- the labels of a list stand in the body
    abbrev Into : Forest → Type 0
    Into xs = (m : ℕ) → Has m xs → Has m A

    -- the label that an exit becomes stands there
    abbrev There : Aim → Type 0
    There (Becomes m) = Has m A
    There b = Unit {0}

    abbrev Goal : Type 0
    Goal = Has l A

    into_left : (xs ys : Forest) → Into (join xs ys) → Into xs
    into_left xs ys f = λ m n. f m (has_left m xs ys n)

    into_right : (xs ys : Forest) → Into (join xs ys) → Into ys
    into_right xs ys f = λ m n. f m (has_right m xs ys n)

    there : (b : Aim) → Into (mark_of b) → There b
    there Stays f = tt
    there (Becomes m) f = f m (inl refl)
    there Absent f = tt

    equals : (m : ℕ) → l ≡ m → Has m A → Goal
    equals m e h = subst (λ z. Has z A) (sym e) h

    exit_named : (b : Aim) (x : Tree) → (Naming l (one x) → Goal) → There b → Naming l (exit b x) → Goal
    exit_named (Becomes m) x f t (inl e) = equals m e t
    exit_named (Becomes m) x f t (inr n) = absurd n
    exit_named _ x f t n = f n

    end_named : (ends : Bool) (b : Aim) → There b → Naming l (end_goto ends b) → Goal
    end_named true (Becomes m) t (inl e) = equals m e t
    end_named true (Becomes m) t (inr n) = absurd n
    end_named true _ t n = absurd n
    end_named false Stays t n = absurd n
    end_named false (Becomes m) t n = absurd n
    end_named false Absent t n = absurd n

    mark_named : (y : Bool) (m : ℕ) → Naming l (mark_if y m) → Goal
    mark_named true m n = none n
    mark_named false m n = absurd n

    arrival_named : (r : Arrivals) (e : Option ExpressionTree) → Naming l (arrival r e) → Goal
    arrival_named NoArrival e n = none n
    arrival_named (Arrives names) e n = none n

    live_of : {m : ℕ} {xs : Forest} → Everywhere Fine xs → OnlyGoto p.plan.live m xs → p.plan.live m ≡ true
    live_of i (og_mark k o) = live_of i.1 o
    live_of i (og_goto e) = i.0

    if_named : (t : TestTree) (x y x' y' : Forest) (o : Option ℕ) → jump_of p.plan.live x y ≡ o → Everywhere Fine x →
        (Naming l x' → (Into x' → Goal)) → (Naming l y' → (Into y' → Goal)) → Into (one (opened_if p t o x' y')) → Naming l (one (opened_if p t o x' y')) → Goal
    if_named t x y x' y' None e i f g into (inl (inl n)) = f n (λ m h. into m (inl (inl h)))
    if_named t x y x' y' None e i f g into (inl (inr n)) = g n (λ m h. into m (inl (inr h)))
    if_named t x y x' y' None e i f g into (inr n) = absurd n
    if_named t x y x' y' (Some m) e i f g into (inl (inl (inl n))) = equals (p.plan.source m) n
        (sources m (live_of i (only p.plan.live m x (both_of (is_bare p.plan.live y) (only_goto p.plan.live x) m e).1)))
    if_named t x y x' y' (Some m) e i f g into (inl (inl (inr n))) = absurd n
    if_named t x y x' y' (Some m) e i f g into (inl (inr n)) = absurd n
    if_named t x y x' y' (Some m) e i f g into (inr n) = absurd n

    -- where a switch goes of which no case is selected
    otherwise_named : (y u z : Bool) (h : Here) (c : Aim) (names : Names) (d : Sections) (m : ℕ) →
        (y ≡ true → Has (names None) (opened_among p h (cond (not y || u || z) (Becomes m) Absent) c names d))
        → Into (opened_among p h (cond (not y || u || z) (Becomes m) Absent) c names d) → l ≡ cond y (names None) m → Goal
    otherwise_named true u z h c names d m f into e = equals (names None) e (into (names None) (f refl))
    otherwise_named false u z h c names d m f into e = equals m e (into m (behind_stands m d h c names))

    scatter_there : (y : Bool) (h : Here) (c : Aim) (names : Names) (d : Sections) (m : ℕ) →
        Into (opened_among p h (cond y (Becomes m) Absent) c names d) → There (cond y (Becomes m) Absent)
    scatter_there true h c names d m into = into m (behind_stands m d h c names)
    scatter_there false h c names d m into = tt

    marked_named : {X : Type 0} (b : Aim) → (X → Goal) → X ⊎ Naming l (mark_of b) → Goal
    marked_named b f (inl n) = f n
    marked_named b f (inr n) = no_mark l b n

    switch_named : (ts ys : Forest) (o : ℕ) → (Naming l ts → Goal) → (l ≡ o → Goal) → (Naming l ys → Goal) → ⊥ ⊎ Naming l (join ts (Then (Goto o) ys)) → Goal
    switch_named ts ys o f g h (inl n) = absurd n
    switch_named ts ys o f g h (inr n) = split l ts (Then (Goto o) ys) f (λ m. behind m) n
      where
        behind : (l ≡ o) ⊎ Naming l ys → Goal
        behind (inl e) = g e
        behind (inr m) = h m

    mutual
      pub named : (xs : Forest) (h : Here) (b c : Aim) (r : Arrivals) → There b → There c → Everywhere Fine xs → Into (opened p h b c r xs) →
          Naming l (opened p h b c r xs) → Goal
      named Nil h b c r tb tc i into n = absurd n
      named (Then x xs) h b c r tb tc i into n =
          let y = opened_item p h b c r x in let z = opened p (past_item x h) b c r xs in
          split l y z (λ m. named_item x h b c r tb tc i.0 (into_left y z into) m) (λ m. named xs (past_item x h) b c r tb tc i.1 (into_right y z into) m) n

      named_item : (x : Tree) (h : Here) (b c : Aim) (r : Arrivals) → There b → There c → EverywhereOf Fine x → Into (opened_item p h b c r x) →
          Naming l (opened_item p h b c r x) → Goal
      named_item (If t x y) h b c r tb tc i into n =
          let h' = inside (If t x y) h in
          if_named t x y (opened p h' b c r x) (opened p (past x h') b c r y) (jump_of p.plan.live x y) refl i.1
          (λ m f. named x h' b c r tb tc i.1 f m) (λ m f. named y (past x h') b c r tb tc i.2 f m) into n
      named_item (While t a) h b c r tb tc i into n =
          let e = p.plan.break_label h.construct in let g = p.head_label h.construct in
          let h' = inside (While t a) h in
          let list = opened p h' (Becomes e) (Becomes g) r a in
          let inner : Into (join list (one (Mark g))) = λ m k. into m (inl k) in
          let run : Naming l (join list (one (Mark g))) → Goal = λ n. split l list (one (Mark g))
          (λ m. named a h' (Becomes e) (Becomes g) r (into e (inr (inl refl))) (inner g (has_right g list (one (Mark g)) (inl refl))) i.1
          (into_left list (one (Mark g)) inner) m) (λ m. none m) n in
          marked_named (Becomes e) run n
      named_item (Do a t) h b c r tb tc i into n =
          let b1 = break_aim p h a in let c1 = continue_aim p h a in
          let h' = inside (Do a t) h in
          let list = opened p h' b1 c1 r a in
          let inner : Into (join list (mark_of c1)) = λ m k. into m (inl k) in
          let run : Naming l (join list (mark_of c1)) → Goal = λ n. split l list (mark_of c1)
          (λ m. named a h' b1 c1 r (there b1 (λ m k. into m (inr k))) (there c1 (into_right list (mark_of c1) inner)) i.1
          (into_left list (mark_of c1) inner) m) (λ m. no_mark l c1 m) n in
          marked_named b1 run n
      named_item (For f t u a) h b c r tb tc i into n =
          let b1 = for_aim p h t a in let c1 = continue_aim p h a in
          let h' = inside (For f t u a) h in
          let first = opened p h' b c NoArrival f in
          let list = opened p (past f h') b1 c1 r a in
          let more = join (mark_of c1) (third_items u) in
          let loop = opened_for t u list b1 c1 in
          let inner : Into (join list more) = λ m k. into_right first loop into m (inl k) in
          let run : Naming l (join list more) → Goal = λ n. split l list more
          (λ m. named a (past f h') b1 c1 r (there b1 (λ m k. into_right first loop into m (inr k)))
          (there c1 (into_left (mark_of c1) (third_items u) (into_right list more inner))) i.2 (into_left list more inner) m)
          (λ m. split l (mark_of c1) (third_items u) (λ k. no_mark l c1 k) (λ k. no_third l u k) m) n in
          split l first loop (λ m. named f h' b c NoArrival tb tc i.1 (into_left first loop into) m) (λ m. marked_named b1 run m) n
      named_item (Block a) h b c r tb tc i into n = named a h b c r tb tc i.1 into n
      named_item (Switch t d) h b c r tb tc i into n =
          let k = switch_kind t in
          let names = names_of p.plan h k d in
          let h' = inside (Switch t d) h in
          let b1 = scatter_aim p.plan h d in
          let ts = tests_among p.plan.number k h.variable names d in
          let ys = opened_among p h' b1 c names d in
          let o = otherwise_label p.plan h d in
          let inner : Into ys = λ m j. into m (inr (has_right m ts (Then (Goto o) ys) (inr j))) in
          switch_named ts ys o (λ m. inner l (among_stand p.plan.number k h.variable names l d h' b1 c m))
          (λ m. otherwise_named (has_default (switch_labels d)) (ends_some d) (is_some_number (breaks_in d)) h' c names d
          (p.plan.break_label h.construct) (λ y. default_among names d h' b1 c y) inner m)
          (λ m. named_among d h' b1 c names (scatter_there (leaves d) h' c names d (p.plan.break_label h.construct) inner) tc i.1 inner m) n
      named_item (Local x None) h b c r tb tc i into n = absurd n
      named_item (Local x (Some es)) h b c r tb tc i into n = no_assigned l (entry_or no_slot p.plan.slots x).kind x
          (entry_or no_slot p.plan.slots x).cells es n
      named_item Break h b c r tb tc i into n = exit_named b Break (λ m. none m) tb n
      named_item Continue h b c r tb tc i into n = exit_named c Continue (λ m. none m) tc n
      named_item (Goto m) h b c r tb tc i into (inl e) = equals (p.plan.source m) e (sources m i)
      named_item (Goto m) h b c r tb tc i into (inr n) = absurd n
      named_item (Mark m) h b c r tb tc i into n = mark_named (p.plan.live m) (p.plan.source m) n
      named_item (Arrival e) h b c r tb tc i into n = arrival_named r e n
      named_item _ h b c r tb tc i into n = none n

      named_among : (d : Sections) (h : Here) (b c : Aim) (names : Names) → There b → There c → EverywhereIn Fine d →
          Into (opened_among p h b c names d) → Naming l (opened_among p h b c names d) → Goal
      named_among NoSection h b c names tb tc i into n = no_mark l b n
      named_among (Section cases default a ends d) h b c names tb tc i into n =
          let cs = case_marks names cases default in
          let xs = opened p h b c (Arrives names) a in
          let es = end_goto ends b in
          let ds = opened_among p (past a h) b c names d in
          let f1 = into_right cs (join xs (join es ds)) into in
          let f2 = into_right xs (join es ds) f1 in
          split l cs (join xs (join es ds)) (λ m. no_case l names cases default m)
          (λ m. split l xs (join es ds) (λ k. named a h b c (Arrives names) tb tc i.0 (into_left xs (join es ds) f1) k)
          (λ k. split l es ds (λ j. end_named ends b tb j) (λ j. named_among d (past a h) b c names tb tc i.1 (into_right es ds f2) j) k) m) n
