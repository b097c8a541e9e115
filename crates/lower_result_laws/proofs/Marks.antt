-- The labels of a flat list: they are numbered in the order in which they stand in it.
use Rattle.std.proofs.Common.{◌≡◌, ℕ, zero, suc, ℤ, Bool, true, false, cond, List, [], ◌∷◌, ◌++◌, Option, Some, None, refl, sym, ap, subst, ◌∙◌, append_assoc}
use Rattle.std.specs.Option.{option_map_or}
use Rattle.c_types.specs.declared.kinds.IntKind.{IntKind}
use Rattle.c_tree.specs.Cases.{case_number}
use Rattle.c_tree.specs.Exits.{breaks, continues}
use Rattle.c_tree.specs.ExpressionTrees.{ExpressionTree}
use Rattle.c_tree.specs.TestTrees.{TestTree, Source}
use Rattle.c_tree.specs.Labels.{ItemLabels}
use Rattle.c_tree.specs.Trees.{Tree, Forest, Nil, Then, Sections, NoSection, Section, Evaluate, If, While, Do, For, Switch, Block, Local, Break, Continue, Goto, Mark, Arrival, join}
use Rattle.c_tree.specs.Changed.{one}
use Rattle.c_tree.specs.Everywhere.{Everywhere, EverywhereOf, EverywhereIn}
use Rattle.jump_meaning.specs.Code.{entry_or}
use Rattle.jump_meaning.specs.World.{no_slot}
use Rattle.jump_meaning.specs.Step.{switch_kind}
use Rattle.flat_laws.specs.Pieces.{Aim, Stays, Becomes, Absent, mark_of, third_items, with_third, assigned_cells, Names, is_number, test_for, tests_for, tests, tests_in, tests_among, case_marks}
use Rattle.flat_laws.specs.Loose.{Arrivals, NoArrival, Arrives}
use Rattle.flat_laws.specs.Parts.{leaves, Here}
use Rattle.flat_laws.specs.FlatForm.{names_of, scatter_aim, otherwise_label, end_goto, aim, exit, assigned, mark_if, arrival, marks, marks_in, place_in}
use Rattle.lower_laws.specs.Straight.{jump_if, while_items, do_items, ever_items}
use Rattle.lower_laws.specs.Lowered.{Layout, placed, past, past_item, inside, jump_of, lowered_if, lowered_do, lowered_for, break_aim, for_aim, continue_aim, lowered, lowered_item, lowered_among, declarations}

pub marks_join : (a b : Forest) → marks (join a b) ≡ marks a ++ marks b
marks_join Nil b = refl
marks_join (Then x a) b = ap (λ l. marks_in x ++ l) (marks_join a b) ∙ sym (append_assoc (marks_in x) (marks a) (marks b))

none_joined : (a b : Forest) → marks a ≡ [] → marks b ≡ [] → marks (join a b) ≡ []
none_joined a b e i = marks_join a b ∙ (λ k. e k ++ i k)

-- ---- lists without labels

none_exit : (b : Aim) (x : Tree) → marks_in x ≡ [] → marks (exit b x) ≡ []
none_exit Stays x e = ap (λ l. l ++ []) e
none_exit (Becomes l) x e = refl
none_exit Absent x e = ap (λ l. l ++ []) e

none_end : (e : Bool) (b : Aim) → marks (end_goto e b) ≡ []
none_end true Stays = refl
none_end true (Becomes l) = refl
none_end true Absent = refl
none_end false b = refl

none_third : (u : Option ExpressionTree) → marks (third_items u) ≡ []
none_third None = refl
none_third (Some e) = refl

none_cells : (k : IntKind) (x i : ℕ) (es : List ExpressionTree) (m : ℕ) → marks (assigned_cells k x i es m) ≡ []
none_cells k x i (e ∷ es) m = none_cells k x (suc i) es m
none_cells k x i [] zero = refl
none_cells k x i [] (suc m) = none_cells k x (suc i) [] m

none_assigned : (k : IntKind) (x : ℕ) (o : Option ℕ) (es : List ExpressionTree) → marks (assigned k x o es) ≡ []
none_assigned k x None (e ∷ es) = refl
none_assigned k x None [] = refl
none_assigned k x (Some n) es = none_cells k x 0 es _

module _ (number : IntKind → ℤ → ExpressionTree) (k : IntKind) (v : ℕ) (names : Names) where
  none_test_for : (x : ExpressionTree) → marks (test_for number k v names x) ≡ []
  none_test_for x = at (case_number k x)
    where
      at : (o : Option ℤ) → marks (option_map_or (λ n. one (If (Source (is_number k v (number k n))) (one (Goto (names (Some x)))) Nil)) o Nil) ≡ []
      at None = refl
      at (Some z) = refl

  none_tests_for : (es : List ExpressionTree) → marks (tests_for number k v names es) ≡ []
  none_tests_for [] = refl
  none_tests_for (x ∷ es) = none_joined (test_for number k v names x) (tests_for number k v names es) (none_test_for x) (none_tests_for es)

  mutual
    none_tests : (a : Forest) → marks (tests number k v names a) ≡ []
    none_tests Nil = refl
    none_tests (Then x a) = none_joined (tests_in number k v names x) (tests number k v names a) (none_tests_in x) (none_tests a)

    none_tests_in : (x : Tree) → marks (tests_in number k v names x) ≡ []
    none_tests_in (If t a b) = none_joined (tests number k v names a) (tests number k v names b) (none_tests a) (none_tests b)
    none_tests_in (While t a) = none_tests a
    none_tests_in (Do a t) = none_tests a
    none_tests_in (For f t u a) = none_tests a
    none_tests_in (Block a) = none_tests a
    none_tests_in (Arrival None) = refl
    none_tests_in (Arrival (Some x)) = none_test_for x
    none_tests_in _ = refl

  none_tests_among : (d : Sections) → marks (tests_among number k v names d) ≡ []
  none_tests_among NoSection = refl
  none_tests_among (Section cases default a ends d) =
      none_joined (tests_for number k v names cases) (join (tests number k v names a) (tests_among number k v names d)) (none_tests_for cases)
      (none_joined (tests number k v names a) (tests_among number k v names d) (none_tests a) (none_tests_among d))

pub none_declared : (x n : ℕ) → marks (declarations x n) ≡ []
none_declared x zero = refl
none_declared x (suc n) = none_declared (suc x) n

-- ---- labels and their new numbers

-- a fact of each label that a layout makes, and of those of the source that are known
pub record Makes (p : Layout) (Known Q : ℕ → Type 0) : Type 0 where
  pub source : (l : ℕ) → Known l → Q (p.plan.source l)
  pub breaks : (k : ℕ) → Q (p.plan.break_label k)
  pub continues : (k : ℕ) → Q (p.plan.continue_label k)
  pub defaults : (k : ℕ) → Q (p.plan.default_label k)
  pub cases : (j : ℕ) → Q (p.plan.case_label j)
  pub heads : (k : ℕ) → Q (p.head_label k)
  pub lists : (k : ℕ) → Q (p.list_label k)

module _ (ls : List ℕ) (p : Layout) (Known Q : ℕ → Type 0) (makes : Makes p Known Q) where
  abbrev g : ℕ → ℕ
  g l = place_in ls l

  abbrev p' : Layout
  p' = placed ls p

  -- labels with the fact, and their places
  abbrev pub Placed : List ℕ → List ℕ → Type 0
  Placed [] [] = Unit {0}
  Placed (x ∷ xs) (y ∷ ys) = Q x × (y ≡ g x) × Placed xs ys
  Placed _ _ = ⊥

  abbrev pub Both : Forest → Forest → Type 0
  Both a b = Placed (marks a) (marks b)

  placed_append : (xs ys zs ws : List ℕ) → Placed xs ys → Placed zs ws → Placed (xs ++ zs) (ys ++ ws)
  placed_append [] [] zs ws h i = i
  placed_append (x ∷ xs) (y ∷ ys) zs ws h i = (h.0, h.1, placed_append xs ys zs ws h.2 i)
  placed_append [] (y ∷ ys) zs ws h i = absurd h
  placed_append (x ∷ xs) [] zs ws h i = absurd h

  both_join : (a b c d : Forest) → Both a b → Both c d → Both (join a c) (join b d)
  both_join a b c d h i = subst (λ l. Placed l (marks (join b d))) (sym (marks_join a c))
      (subst (Placed (marks a ++ marks c)) (sym (marks_join b d)) (placed_append (marks a) (marks b) (marks c) (marks d) h i))

  both_none : (a b : Forest) → marks a ≡ [] → marks b ≡ [] → Both a b
  both_none a b e i = subst (λ l. Placed l (marks b)) (sym e) (subst (Placed []) (sym i) tt)

  -- ---- pieces

  aim_both : (n l : ℕ) → Q l → Both (mark_of (aim true n l)) (mark_of (aim true n (g l)))
  aim_both zero l q = tt
  aim_both (suc n) l q = (q, refl, tt)

  scatter_both : (b : Bool) (l : ℕ) → Q l → Both (mark_of (cond b (Becomes l) Absent)) (mark_of (cond b (Becomes (g l)) Absent))
  scatter_both true l q = (q, refl, tt)
  scatter_both false l q = tt

  -- names of cases: the second are the places of the first
  abbrev AreNames : Names → Names → Type 0
  AreNames n m = (e : Option ExpressionTree) → Q (n e) × (m e ≡ g (n e))

  case_marks_both : (n m : Names) → AreNames n m → (es : List ExpressionTree) (default : Bool) → Both (case_marks n es default) (case_marks m es default)
  case_marks_both n m i [] true = ((i None).0, (i None).1, tt)
  case_marks_both n m i [] false = tt
  case_marks_both n m i (e ∷ es) default = ((i (Some e)).0, (i (Some e)).1, case_marks_both n m i es default)

  data SameArrivals : Arrivals → Arrivals → Type 0 where
    sa_none : SameArrivals NoArrival NoArrival
    sa_names : {n m : Names} → AreNames n m → SameArrivals (Arrives n) (Arrives m)

  arrival_both : {r r' : Arrivals} → SameArrivals r r' → (e : Option ExpressionTree) → Both (arrival r e) (arrival r' e)
  arrival_both sa_none e = tt
  arrival_both (sa_names i) e = ((i e).0, (i e).1, tt)

  flag_both : (b : Bool) (l : ℕ) → Known l → Both (mark_if b (p.plan.source l)) (mark_if b (p'.plan.source l))
  flag_both true l i = (makes.source l i, refl, tt)
  flag_both false l i = tt

  names_both : (h : Here) (k : IntKind) (d : Sections) → AreNames (names_of p.plan h k d) (names_of p'.plan h k d)
  names_both h k d None = (makes.defaults h.construct, refl)
  names_both h k d (Some e) = (makes.cases _, refl)

  -- ---- the items of `if`s and loops

  third_both : (a b : Forest) (c c' : Aim) (u : Option ExpressionTree) → Both a b → Both (mark_of c) (mark_of c') → Both (with_third a c u) (with_third b c' u)
  third_both a b c c' u h i =
      both_join a b (join (mark_of c) (third_items u)) (join (mark_of c') (third_items u)) h
      (both_join (mark_of c) (mark_of c') (third_items u) (third_items u) i (both_none (third_items u) (third_items u) (none_third u) (none_third u)))

  while_both : (t : TestTree) (l b e : ℕ) (x y : Forest) → Q l → Q b → Q e → Both x y → Both (while_items t l b e x) (while_items t (g l) (g b) (g e) y)
  while_both t l b e x y ql qb qe h = (
    ql,
    refl,
    (
      qb,
      refl,
      both_join x y (Then (Goto l) (one (Mark e))) (Then (Goto (g l)) (one (Mark (g e)))) h
          (qe, refl, tt),
    ),
  )

  if_both : (h : Here) (t : TestTree) (o : Option ℕ) (a a' b b' : Forest) → Both a a' → Both b b' → Both (lowered_if p h t o a b) (lowered_if p' h t o a' b')
  if_both h t (Some l) a a' b b' i j = tt
  if_both h t None a a' b b' i j =
      let l = p.list_label h.construct in
      let e = p.plan.break_label h.construct in
      both_join b b' (Then (Goto e) (Then (Mark l) (join a (one (Mark e))))) (Then (Goto (g e)) (Then (Mark (g l)) (join a' (one (Mark (g e)))))) j
      (makes.lists h.construct, refl, both_join a a' (one (Mark e)) (one (Mark (g e))) i (makes.breaks h.construct, refl, tt))

  do_both : (h : Here) (t : TestTree) (a a' : Forest) (b b' c c' : Aim) → Both a a' → Both (mark_of b) (mark_of b') → Both (mark_of c) (mark_of c') →
      Both (lowered_do p h t a b c) (lowered_do p' h t a' b' c')
  do_both h t a a' b b' c c' i j k =
      let l = p.list_label h.construct in
      both_join (do_items t l (join a (mark_of c))) (do_items t (g l) (join a' (mark_of c'))) (mark_of b) (mark_of b') (
        makes.lists h.construct,
        refl,
        both_join (join a (mark_of c)) (join a' (mark_of c')) (one (jump_if t l)) (one (jump_if t (g l)))
            (both_join a a' (mark_of c) (mark_of c') i k) tt,
      ) j

  for_both : (h : Here) (t u : Option ExpressionTree) (a a' : Forest) (b b' c c' : Aim) → Both a a' → Both (mark_of b) (mark_of b') →
      Both (mark_of c) (mark_of c') → Both (lowered_for p h t u a b c) (lowered_for p' h t u a' b' c')
  for_both h (Some t) u a a' b b' c c' i j k =
      while_both (Source t) (p.head_label h.construct) (p.list_label h.construct) (p.plan.break_label h.construct) (with_third a c u)
      (with_third a' c' u) (makes.heads h.construct) (makes.lists h.construct) (makes.breaks h.construct)
      (third_both a a' c c' u i k)
  for_both h None u a a' b b' c c' i j k =
      let l = p.head_label h.construct in
      both_join (ever_items l (with_third a c u)) (ever_items (g l) (with_third a' c' u)) (mark_of b) (mark_of b')
      (makes.heads h.construct, refl, both_join (with_third a c u) (with_third a' c' u) (one (Goto l)) (one (Goto (g l))) (third_both a a' c c' u i k) tt) j

  break_both : (h : Here) (a : Forest) → Both (mark_of (break_aim p h a)) (mark_of (break_aim p' h a))
  break_both h a = aim_both (breaks a) (p.plan.break_label h.construct) (makes.breaks h.construct)

  continue_both : (h : Here) (a : Forest) → Both (mark_of (continue_aim p h a)) (mark_of (continue_aim p' h a))
  continue_both h a = aim_both (continues a) (p.plan.continue_label h.construct) (makes.continues h.construct)

  for_aim_both : (h : Here) (t : Option ExpressionTree) (a : Forest) → Both (mark_of (for_aim p h t a)) (mark_of (for_aim p' h t a))
  for_aim_both h (Some t) a = (makes.breaks h.construct, refl, tt)
  for_aim_both h None a = break_both h a

  -- ---- along the body

  abbrev IsKnown : Tree → Type 0
  IsKnown x = ItemLabels Known x

  mutual
    list_both : (h : Here) (b b' c c' : Aim) {r r' : Arrivals} → SameArrivals r r' → (xs : Forest) → Everywhere IsKnown xs →
        Both (lowered p h b c r xs) (lowered p' h b' c' r' xs)
    list_both h b b' c c' s Nil k = tt
    list_both h b b' c c' {r} {r'} s (Then x xs) k =
        both_join (lowered_item p h b c r x) (lowered_item p' h b' c' r' x) (lowered p (past_item x h) b c r xs) (lowered p' (past_item x h) b' c' r' xs)
        (item_both h b b' c c' s x k.0) (list_both (past_item x h) b b' c c' s xs k.1)

    item_both : (h : Here) (b b' c c' : Aim) {r r' : Arrivals} → SameArrivals r r' → (x : Tree) → EverywhereOf IsKnown x →
        Both (lowered_item p h b c r x) (lowered_item p' h b' c' r' x)
    item_both h b b' c c' {r} {r'} s (If t x y) k =
        let i = inside (If t x y) h in
        if_both h t (jump_of p.plan.live x y) (lowered p i b c r x) (lowered p' i b' c' r' x) (lowered p (past x i) b c r y) (lowered p' (past x i) b' c' r' y)
        (list_both i b b' c c' s x k.1) (list_both (past x i) b b' c c' s y k.2)
    item_both h b b' c c' {r} {r'} s (While t a) k =
        let i = inside (While t a) h in
        let B = Becomes (p.plan.break_label h.construct) in
        let B' = Becomes (p'.plan.break_label h.construct) in
        let C = Becomes (p.head_label h.construct) in
        let C' = Becomes (p'.head_label h.construct) in
        while_both t (p.head_label h.construct) (p.list_label h.construct) (p.plan.break_label h.construct) (lowered p i B C r a)
        (lowered p' i B' C' r' a) (makes.heads h.construct) (makes.lists h.construct) (makes.breaks h.construct)
        (list_both i B B' C C' s a k.1)
    item_both h b b' c c' {r} {r'} s (Do a t) k =
        let i = inside (Do a t) h in
        let B = break_aim p h a in
        let B' = break_aim p' h a in
        let C = continue_aim p h a in
        let C' = continue_aim p' h a in
        do_both h t (lowered p i B C r a) (lowered p' i B' C' r' a) B B' C C' (list_both i B B' C C' s a k.1) (break_both h a) (continue_both h a)
    item_both h b b' c c' {r} {r'} s (For first t u a) k =
        let i = inside (For first t u a) h in
        let j = past first i in
        let B = for_aim p h t a in
        let B' = for_aim p' h t a in
        let C = continue_aim p h a in
        let C' = continue_aim p' h a in
        let x = lowered p j B C r a in
        let y = lowered p' j B' C' r' a in
        both_join (lowered p i b c NoArrival first) (lowered p' i b' c' NoArrival first) (lowered_for p h t u x B C) (lowered_for p' h t u y B' C')
        (list_both i b b' c c' sa_none first k.1)
        (for_both h t u x y B B' C C' (list_both j B B' C C' s a k.2) (for_aim_both h t a) (continue_both h a))
    item_both h b b' c c' s (Block a) k = list_both h b b' c c' s a k.1
    item_both h b b' c c' s (Local x None) k = tt
    item_both h b b' c c' s (Local x (Some es)) k =
        let q = entry_or no_slot p.plan.slots x in
        let e = none_assigned q.kind x q.cells es in
        both_none (assigned q.kind x q.cells es) (assigned q.kind x q.cells es) e e
    item_both h b b' c c' s Break k = both_none (exit b Break) (exit b' Break) (none_exit b Break refl) (none_exit b' Break refl)
    item_both h b b' c c' s Continue k = both_none (exit c Continue) (exit c' Continue) (none_exit c Continue refl) (none_exit c' Continue refl)
    item_both h b b' c c' s (Goto l) k = tt
    item_both h b b' c c' s (Mark l) k = flag_both (p.plan.live l) l k
    item_both h b b' c c' s (Arrival e) k = arrival_both s e
    item_both h b b' c c' s (Switch t d) k =
        let i = inside (Switch t d) h in
        let j = switch_kind t in
        let n = names_of p.plan h j d in
        let m = names_of p'.plan h j d in
        let v = h.variable in
        let B = scatter_aim p.plan h d in
        let B' = scatter_aim p'.plan h d in
        let x = lowered_among p i B c n d in
        let y = lowered_among p' i B' c' m d in
        both_join (tests_among p.plan.number j v n d) (tests_among p'.plan.number j v m d) (Then (Goto (otherwise_label p.plan h d)) x)
        (Then (Goto (otherwise_label p'.plan h d)) y)
        (both_none (tests_among p.plan.number j v n d) (tests_among p'.plan.number j v m d) (none_tests_among p.plan.number j v n d)
        (none_tests_among p'.plan.number j v m d))
        (among_both i B B' (scatter_both (leaves d) (p.plan.break_label h.construct) (makes.breaks h.construct)) c c' n m (names_both h j d) d k.1)
    item_both h b b' c c' s (Evaluate e) k = tt
    item_both h b b' c c' s _ k = tt

    among_both : (h : Here) (b b' : Aim) → Both (mark_of b) (mark_of b') → (c c' : Aim) (n m : Names) → AreNames n m → (d : Sections) →
        EverywhereIn IsKnown d → Both (lowered_among p h b c n d) (lowered_among p' h b' c' m d)
    among_both h b b' w c c' n m i NoSection k = w
    among_both h b b' w c c' n m i (Section cases default a ends d) k =
        let x = lowered p h b c (Arrives n) a in
        let y = lowered p' h b' c' (Arrives m) a in
        let z = lowered_among p (past a h) b c n d in
        let z' = lowered_among p' (past a h) b' c' m d in
        both_join (case_marks n cases default) (case_marks m cases default) (join x (join (end_goto ends b) z)) (join y (join (end_goto ends b') z'))
        (case_marks_both n m i cases default)
        (both_join x y (join (end_goto ends b) z) (join (end_goto ends b') z') (list_both h b b' c c' (sa_names i) a k.0)
        (both_join (end_goto ends b) (end_goto ends b') z z' (both_none (end_goto ends b) (end_goto ends b') (none_end ends b) (none_end ends b'))
        (among_both (past a h) b b' w c c' n m i d k.1)))

  -- of a whole list
  pub marks_both : (h : Here) (xs : Forest) → Everywhere IsKnown xs → Both (lowered p h Stays Stays NoArrival xs) (lowered p' h Stays Stays NoArrival xs)
  marks_both h xs k = list_both h Stays Stays Stays Stays sa_none xs k
