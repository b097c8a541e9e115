-- Where a switch goes that stays in the looser body: from the same label on.
use Rattle.std.proofs.Common.{ℕ, zero, suc, ℤ, Bool, true, false, cond, List, [], ◌∷◌, Option, Some, None, ◌≡◌, refl, sym, ◌∙◌, ap, subst}
use Rattle.c_types.specs.declared.kinds.IntKind.{IntKind}
use Rattle.c_tree.specs.ExpressionTrees.{ExpressionTree}
use Rattle.c_tree.specs.TestTrees.{Source}
use Rattle.c_tree.specs.Trees.{Tree, Forest, Nil, Then, Sections, NoSection, Section, Evaluate, Return, If, While, Do, For, Switch, Block, Local, Break, Continue, Goto, Mark, Arm, Leap, Land, Arrival, Note, join}
use Rattle.c_tree.specs.Changed.{one}
use Rattle.c_tree.specs.Cases.{case_number}
use Rattle.std.specs.Option.{option_map_or}
use Rattle.jump_meaning.specs.Tasks.{Task, Runs, Loops, WhileLoop, DoLoop, ForLoop, EndsSection, Out, items, end_of, tail_tasks}
use Rattle.jump_meaning.specs.Search.{Goal, ToLabel, ToCase, ToDefault, is_goal, is_section_goal, enters_switches, or_else, seek, seek_in, seek_sections, first_of_three, entry}
use Rattle.core_laws.proofs.Lookup.{no_goal}
use Rattle.flat_laws.specs.Pieces.{Aim, Stays, Becomes, Absent, mark_of, test_or_one, third_items, with_third, assigned_cells, Names, case_marks, tests_among, is_number, test_for, tests_for, tests, tests_in}
use Rattle.flat_laws.specs.Placed.{ArePlacedAmong}
use Rattle.flat_laws.specs.Loose.{Setting, AreGone, IsGone, Mode, Open, Arrivals, NoArrival, LooserItem, lo_evaluate, lo_return, lo_return_none, lo_note, lo_if, lo_while, lo_do, lo_for, lo_for_while, lo_block, lo_keep_block, lo_keep_for, lo_keep_declares, lo_keep_local, lo_declares, lo_number, lo_array, lo_break, lo_break_to, lo_break_end, lo_continue, lo_continue_to, lo_goto, lo_mark, lo_drop, lo_arrival, lo_switch, lo_scatter, Looser, la_nil, la_then, la_last, LooserSections, lc_none, lc_section, lc_ended, Spread, ls_none, ls_last, ls_falls, ls_ends}
use Rattle.flat_laws.proofs.Controls.{Control, Still, st_control}
use Rattle.flat_laws.proofs.ControlFacts.{tail_lo}

-- no Arrival of a list is bound to a switch around it
abbrev mutual
  pub Caseless : Forest → Type 0
  Caseless Nil = Unit {0}
  Caseless (Then x xs) = IsCaseless x × Caseless xs

  pub IsCaseless : Tree → Type 0
  IsCaseless (If t a b) = Caseless a × Caseless b
  IsCaseless (While t a) = Caseless a
  IsCaseless (Do a t) = Caseless a
  IsCaseless (For first t u a) = Caseless a
  IsCaseless (Block a) = Caseless a
  IsCaseless (Arrival e) = ⊥
  IsCaseless _ = Unit {0}

none_or : (o p : Option (List Task)) → o ≡ None → p ≡ None → or_else o p ≡ None
none_or o p e f = ap (λ z. or_else z p) e ∙ f

none_cond : (y : Bool) (j : List Task) (o : Option (List Task)) → y ≡ false → o ≡ None → cond y (Some j) o ≡ None
none_cond y j o e f = ap (λ z. cond z (Some j) o) e ∙ f

-- an item that is no Arrival
abbrev pub IsNoArrival : Tree → Type 0
IsNoArrival (Arrival e) = ⊥
IsNoArrival _ = Unit {0}

pub caseless_item : (x : Tree) → IsCaseless x → IsNoArrival x
caseless_item (Arrival e) h = h
caseless_item _ h = tt

pub no_arrival : (x : Tree) → IsNoArrival x → (g : Goal) → enters_switches g ≡ false → is_goal g x ≡ false
no_arrival (Evaluate e) h g q = no_goal (Evaluate e) (λ m. refl) (λ k n. refl) refl g
no_arrival (Return e) h g q = no_goal (Return e) (λ m. refl) (λ k n. refl) refl g
no_arrival (If t a b) h g q = no_goal (If t a b) (λ m. refl) (λ k n. refl) refl g
no_arrival (While t a) h g q = no_goal (While t a) (λ m. refl) (λ k n. refl) refl g
no_arrival (Do a t) h g q = no_goal (Do a t) (λ m. refl) (λ k n. refl) refl g
no_arrival (For f t u a) h g q = no_goal (For f t u a) (λ m. refl) (λ k n. refl) refl g
no_arrival (Switch t c) h g q = no_goal (Switch t c) (λ m. refl) (λ k n. refl) refl g
no_arrival (Block a) h g q = no_goal (Block a) (λ m. refl) (λ k n. refl) refl g
no_arrival (Local x es) h g q = no_goal (Local x es) (λ m. refl) (λ k n. refl) refl g
no_arrival Break h g q = no_goal Break (λ m. refl) (λ k n. refl) refl g
no_arrival Continue h g q = no_goal Continue (λ m. refl) (λ k n. refl) refl g
no_arrival (Goto l) h g q = no_goal (Goto l) (λ m. refl) (λ k n. refl) refl g
no_arrival (Arm l e) h g q = no_goal (Arm l e) (λ m. refl) (λ k n. refl) refl g
no_arrival (Leap l) h g q = no_goal (Leap l) (λ m. refl) (λ k n. refl) refl g
no_arrival (Note bs) h g q = no_goal (Note bs) (λ m. refl) (λ k n. refl) refl g
no_arrival (Arrival e) h g q = absurd h
no_arrival (Mark l) h (ToLabel m) q = cc
no_arrival (Mark l) h _ q = refl
no_arrival (Land l) h (ToLabel m) q = cc
no_arrival (Land l) h _ q = refl

module _ (g : Goal) (out : enters_switches g ≡ false) where
  mutual
    pub caseless_seek : (a : Forest) (k : List Task) → Caseless a → seek g a k ≡ None
    caseless_seek Nil k h = refl
    caseless_seek (Then x xs) k h = none_or _ _ (none_cond (is_goal g x) (Runs x ∷ items xs k) (seek_in g x (items xs k))
        (no_arrival x (caseless_item x h.0) g out) (caseless_seek_in x (items xs k) h.0)) (caseless_seek xs k h.1)

    pub caseless_seek_in : (x : Tree) (k : List Task) → IsCaseless x → seek_in g x k ≡ None
    caseless_seek_in (If t a b) k h = none_or _ _ (caseless_seek a k h.0) (caseless_seek b k h.1)
    caseless_seek_in (While t a) k h = caseless_seek a (Loops (WhileLoop t a) ∷ k) h
    caseless_seek_in (Do a t) k h = caseless_seek a (Loops (DoLoop a t) ∷ k) h
    caseless_seek_in (For f t u a) k h = caseless_seek a (Loops (ForLoop t u a) ∷ k) h
    caseless_seek_in (Block a) k h = caseless_seek a k h
    caseless_seek_in (Switch t c) k h = ap (λ z. cond z (seek_sections g c k) None) out
    caseless_seek_in _ k h = refl

-- ---- neither side has one where none is allowed

pub caseless_join : (a b : Forest) → Caseless a → Caseless b → Caseless (join a b)
caseless_join Nil b h k = k
caseless_join (Then x a) b h k = (h.0, caseless_join a b h.1 k)

caseless_mark : (b : Aim) → Caseless (mark_of b)
caseless_mark Stays = tt
caseless_mark (Becomes l) = (tt, tt)
caseless_mark Absent = tt

caseless_third : (u : Option ExpressionTree) → Caseless (third_items u)
caseless_third None = tt
caseless_third (Some e) = (tt, tt)

caseless_cells : (k : IntKind) (x i : ℕ) (es : List ExpressionTree) (m : ℕ) → Caseless (assigned_cells k x i es m)
caseless_cells k x i (e ∷ es) m = (tt, caseless_cells k x (suc i) es m)
caseless_cells k x i [] zero = tt
caseless_cells k x i [] (suc m) = (tt, caseless_cells k x (suc i) [] m)

caseless_marks : (names : Names) (cases : List ExpressionTree) (default : Bool) → Caseless (case_marks names cases default)
caseless_marks names [] true = (tt, tt)
caseless_marks names [] false = tt
caseless_marks names (e ∷ es) default = (tt, caseless_marks names es default)

module _ (s : Setting) where
  mutual
    pub gone_caseless : (xs : Forest) → AreGone s xs → Caseless xs
    gone_caseless Nil h = tt
    gone_caseless (Then x xs) h = (gone_caseless_in x h.0, gone_caseless xs h.1)

    gone_caseless_in : (x : Tree) → IsGone s x → IsCaseless x
    gone_caseless_in (Local x None) h = tt
    gone_caseless_in (Mark l) h = tt
    gone_caseless_in (Block a) h = gone_caseless a h
    gone_caseless_in _ h = absurd h

  mutual
    pub old_caseless : {m : Mode} {b c : Aim} {xs xs' : Forest} → Looser s m b c NoArrival xs xs' → Caseless xs
    old_caseless la_nil = tt
    old_caseless (la_then fi fa) = (old_caseless_in fi, old_caseless fa)
    old_caseless (la_last {xs = xs} last fi gone) = (old_caseless_in fi, gone_caseless xs gone)

    old_caseless_in : {m : Mode} {b c : Aim} {x : Tree} {ys : Forest} → LooserItem s m b c NoArrival x ys → IsCaseless x
    old_caseless_in (lo_if t i fx fy) = (old_caseless fx, old_caseless fy)
    old_caseless_in (lo_while t b' c' i fa) = old_caseless fa
    old_caseless_in (lo_do t b' c' i fa) = old_caseless fa
    old_caseless_in (lo_for t u b' c' i j fi fa) = old_caseless fa
    old_caseless_in (lo_for_while t u b' c' n i j fi fa) = old_caseless fa
    old_caseless_in (lo_block fa) = old_caseless fa
    old_caseless_in (lo_keep_block fa) = old_caseless fa
    old_caseless_in (lo_keep_for t u b' c' z i j fi fa) = old_caseless fa
    old_caseless_in _ = tt

  test_caseless : (kind : IntKind) (v : ℕ) (names : Names) (e : ExpressionTree) → Caseless (test_for s.number kind v names e)
  test_caseless kind v names e = at (case_number kind e)
    where
      at : (o : Option ℤ) → Caseless (option_map_or (λ n. one (If (Source (is_number kind v (s.number kind n))) (one (Goto (names (Some e)))) Nil)) o Nil)
      at None = tt
      at (Some n) = (((tt, tt), tt), tt)

  mutual
    tests_caseless : (kind : IntKind) (v : ℕ) (names : Names) (a : Forest) → Caseless (tests s.number kind v names a)
    tests_caseless kind v names Nil = tt
    tests_caseless kind v names (Then x a) = caseless_join (tests_in s.number kind v names x) (tests s.number kind v names a)
        (tests_caseless_in kind v names x) (tests_caseless kind v names a)

    tests_caseless_in : (kind : IntKind) (v : ℕ) (names : Names) (x : Tree) → Caseless (tests_in s.number kind v names x)
    tests_caseless_in kind v names (If t a b) = caseless_join (tests s.number kind v names a) (tests s.number kind v names b)
        (tests_caseless kind v names a) (tests_caseless kind v names b)
    tests_caseless_in kind v names (While t a) = tests_caseless kind v names a
    tests_caseless_in kind v names (Do a t) = tests_caseless kind v names a
    tests_caseless_in kind v names (For f t u a) = tests_caseless kind v names a
    tests_caseless_in kind v names (Block a) = tests_caseless kind v names a
    tests_caseless_in kind v names (Arrival None) = tt
    tests_caseless_in kind v names (Arrival (Some e)) = test_caseless kind v names e
    tests_caseless_in kind v names _ = tt

  tests_caseless_for : (kind : IntKind) (v : ℕ) (names : Names) (es : List ExpressionTree) → Caseless (tests_for s.number kind v names es)
  tests_caseless_for kind v names [] = tt
  tests_caseless_for kind v names (e ∷ es) = caseless_join (test_for s.number kind v names e) (tests_for s.number kind v names es)
      (test_caseless kind v names e) (tests_caseless_for kind v names es)

  tests_caseless_among : (kind : IntKind) (v : ℕ) (names : Names) (d : Sections) → Caseless (tests_among s.number kind v names d)
  tests_caseless_among kind v names NoSection = tt
  tests_caseless_among kind v names (Section cases default a ends d) =
      caseless_join (tests_for s.number kind v names cases) (join (tests s.number kind v names a) (tests_among s.number kind v names d))
      (tests_caseless_for kind v names cases)
      (caseless_join (tests s.number kind v names a) (tests_among s.number kind v names d) (tests_caseless kind v names a)
      (tests_caseless_among kind v names d))

  mutual
    pub new_caseless : {m : Mode} {b c : Aim} {r : Arrivals} {xs xs' : Forest} → Looser s m b c r xs xs' → Caseless xs'
    new_caseless la_nil = tt
    new_caseless (la_then {ys = ys} {xs' = xs'} fi fa) = caseless_join ys xs' (new_caseless_in fi) (new_caseless fa)
    new_caseless (la_last last fi gone) = new_caseless_in fi

    new_caseless_in : {m : Mode} {b c : Aim} {r : Arrivals} {x : Tree} {ys : Forest} → LooserItem s m b c r x ys → Caseless ys
    new_caseless_in (lo_if t i fx fy) = ((new_caseless fx, new_caseless fy), tt)
    new_caseless_in (lo_while t b' c' {a' = a'} i fa) = (caseless_join a' (mark_of c') (new_caseless fa) (caseless_mark c'), caseless_mark b')
    new_caseless_in (lo_do t b' c' {a' = a'} i fa) = (caseless_join a' (mark_of c') (new_caseless fa) (caseless_mark c'), caseless_mark b')
    new_caseless_in (lo_for t u b' c' {i' = i'} {a' = a'} i j fi fa) =
        caseless_join i' (Then (For Nil t u (join a' (mark_of c'))) (mark_of b')) (new_caseless fi)
        (caseless_join a' (mark_of c') (new_caseless fa) (caseless_mark c'), caseless_mark b')
    new_caseless_in (lo_for_while t u b' c' {i' = i'} {a' = a'} n i j fi fa) =
        caseless_join i' (Then (While (Source (test_or_one t)) (with_third a' c' u)) (mark_of b')) (new_caseless fi) (
          caseless_join a' (join (mark_of c') (third_items u)) (new_caseless fa)
              (caseless_join (mark_of c') (third_items u) (caseless_mark c') (caseless_third u)),
          caseless_mark b',
        )
    new_caseless_in (lo_block fa) = new_caseless fa
    new_caseless_in (lo_keep_block fa) = (new_caseless fa, tt)
    new_caseless_in (lo_keep_for t u b' c' {a' = a'} z i j fi fa) = (caseless_join a' (mark_of c') (new_caseless fa) (caseless_mark c'), caseless_mark b')
    new_caseless_in (lo_keep_declares x) = (tt, tt)
    new_caseless_in (lo_keep_local x es b i) = (tt, tt)
    new_caseless_in (lo_array k x es m i c t) = caseless_cells k x 0 es m
    new_caseless_in (lo_switch e b' i fs) = (tt, caseless_mark b')
    new_caseless_in (lo_scatter e b' names v m {d = d} {ys = ys} i n z w c t o fs) =
        (tt, caseless_join (tests_among s.number _ v names d) (Then (Goto m) ys) (tests_caseless_among _ v names d) (tt, spread_caseless fs))
    new_caseless_in (lo_evaluate e i) = (tt, tt)
    new_caseless_in (lo_return e i) = (tt, tt)
    new_caseless_in lo_return_none = (tt, tt)
    new_caseless_in (lo_note bs) = (tt, tt)
    new_caseless_in (lo_declares x) = tt
    new_caseless_in (lo_number k x e i c t) = (tt, tt)
    new_caseless_in lo_break = (tt, tt)
    new_caseless_in (lo_break_to l) = (tt, tt)
    new_caseless_in lo_break_end = tt
    new_caseless_in lo_continue = (tt, tt)
    new_caseless_in (lo_continue_to l) = (tt, tt)
    new_caseless_in (lo_goto l n e) = (tt, tt)
    new_caseless_in (lo_mark l n e) = (tt, tt)
    new_caseless_in (lo_drop l e) = tt
    new_caseless_in (lo_arrival names e) = (tt, tt)

    spread_caseless : {m : Mode} {b c : Aim} {names : Names} {d : Sections} {ys : Forest} → Spread s m b c names d ys → Caseless ys
    spread_caseless {b = b} ls_none = caseless_mark b
    spread_caseless {names = names} (ls_last cases default {xs' = xs'} fa) =
        caseless_join (case_marks names cases default) xs' (caseless_marks names cases default) (new_caseless fa)
    spread_caseless {names = names} (ls_falls cases default {xs' = xs'} {ys = ys} fa fs) =
        caseless_join (case_marks names cases default) (join xs' ys) (caseless_marks names cases default)
        (caseless_join xs' ys (new_caseless fa) (spread_caseless fs))
    spread_caseless {names = names} (ls_ends l cases default {xs' = xs'} {ys = ys} fa fs) =
        caseless_join (case_marks names cases default) (join xs' (Then (Goto l) ys)) (caseless_marks names cases default)
        (caseless_join xs' (Then (Goto l) ys) (new_caseless fa) (tt, spread_caseless fs))

-- ---- entries

module _ (s : Setting) (B : Forest) where
  abbrev Both : Option (List Task) → Option (List Task) → Type 0
  Both None None = Unit {0}
  Both (Some j) (Some j') = Still s B j j'
  Both None (Some j') = ⊥
  Both (Some j) None = ⊥

  both_here : (y : Bool) (j j' : List Task) (o o' p p' : Option (List Task)) → Still s B j j' → o ≡ None → o' ≡ None → Both p p' →
      Both (or_else (cond y (Some j) o) p) (or_else (cond y (Some j') o') p')
  both_here true j j' o o' p p' h e f k = h
  both_here false j j' o o' p p' h e f k = subst (λ z. Both (or_else z p) (or_else o' p')) (sym e) (subst (λ z. Both p (or_else z p')) (sym f) k)

  module _ {b c b' c' : Aim} {k k' : List Task} (o : Control s B Open b' c' k k') (h : Control s B Open b c (Out ∷ k) (Out ∷ k')) where
    seek_lo : {d d' : Sections} (g : Goal) → enters_switches g ≡ false → LooserSections s b c d d' → ArePlacedAmong B d' k' →
        Both (seek_sections g d k) (seek_sections g d' k')
    seek_lo g q lc_none al = tt
    seek_lo g q (lc_section cases default e {xs = xs} {xs' = xs'} {d = d} {d' = d'} fa fs) al =
        both_here (is_section_goal g cases default) _ _ _ _ _ _ (st_control (tail_lo s B (lc_section cases default e fa fs) al o h))
        (caseless_seek g q xs (end_of e (tail_tasks d k)) (old_caseless s fa))
        (caseless_seek g q xs' (end_of e (tail_tasks d' k')) (new_caseless s fa)) (seek_lo g q fs al.1)
    seek_lo g q (lc_ended cases default e {xs = xs} {xs' = xs'} {d = d} {d' = d'} fa fs) al =
        both_here (is_section_goal g cases default) _ _ _ _ _ _ (st_control (tail_lo s B (lc_ended cases default e fa fs) al o h))
        (caseless_seek g q xs (end_of e (tail_tasks d k)) (old_caseless s fa))
        (caseless_seek g q xs' (EndsSection ∷ tail_tasks d' k') (new_caseless s fa)) (seek_lo g q fs al.1)

    first_lo : (p q p' q' : Option (List Task)) → Both p p' → Both q q' → Still s B (first_of_three p q k) (first_of_three p' q' k')
    first_lo (Some j) q (Some j') q' x y = x
    first_lo None (Some j) None (Some j') x y = y
    first_lo None None None None x y = st_control o
    first_lo (Some j) q None q' x y = absurd x
    first_lo None q (Some j') q' x y = absurd x
    first_lo None (Some j) None None x y = absurd y
    first_lo None None None (Some j') x y = absurd y

    pub entry_lo : {d d' : Sections} (kind : IntKind) (n : ℤ) → LooserSections s b c d d' → ArePlacedAmong B d' k' →
        Still s B (entry kind n d k) (entry kind n d' k')
    entry_lo {d} {d'} kind n fs al =
        first_lo (seek_sections (ToCase kind n) d k) (seek_sections ToDefault d k) (seek_sections (ToCase kind n) d' k')
        (seek_sections ToDefault d' k') (seek_lo (ToCase kind n) refl fs al) (seek_lo ToDefault refl fs al)
