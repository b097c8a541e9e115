-- Neither a body nor a looser one has to do with guards, and the core of such a body is the body itself.
use mathlib.Core.Path.{ap₂}
use Rattle.std.proofs.Common.{ℕ, zero, suc, ℤ, Bool, true, false, List, [], ◌∷◌, Option, Some, None, option_map, ◌≡◌, refl, ap}
use Rattle.std.specs.Option.{option_map_or}
use Rattle.c_types.specs.declared.kinds.IntKind.{IntKind}
use Rattle.c_tree.specs.ExpressionTrees.{ExpressionTree}
use Rattle.c_tree.specs.Cases.{case_number}
use Rattle.c_tree.specs.TestTrees.{Source, On, Off, AndOff, OrOn, Selects, Pick}
use Rattle.c_tree.specs.Trees.{Tree, Forest, Nil, Then, Sections, NoSection, Section, If, While, Do, For, Switch, Block, Local, Goto, Mark, Arm, Leap, Land, Arrival, join}
use Rattle.c_tree.specs.Changed.{one}
use Rattle.c_tree.specs.Everywhere.{Everywhere, EverywhereOf, EverywhereIn}
use Rattle.c_tree.specs.InRange.{IsUnguarded}
use Rattle.jump_meaning.specs.Code.{FunctionTree, items_of}
use Rattle.core_laws.specs.Ways.{Follow, lost, before, after_while, after_do, after_section}
use Rattle.core_laws.specs.Core.{core, core_of, core_sections, body_core, core_function}
use Rattle.flat_laws.specs.Pieces.{Aim, Stays, Becomes, Absent, mark_of, test_or_one, third_items, with_third, assigned_cells, Names, case_marks, is_number, test_for, tests_for, tests, tests_in, tests_among}
use Rattle.flat_laws.specs.Loose.{Setting, AreGone, IsGone, Mode, Arrivals, LooserItem, lo_evaluate, lo_return, lo_return_none, lo_note, lo_if, lo_while, lo_do, lo_for, lo_for_while, lo_block, lo_keep_block, lo_keep_for, lo_keep_declares, lo_keep_local, lo_declares, lo_number, lo_array, lo_break, lo_break_to, lo_break_end, lo_continue, lo_continue_to, lo_goto, lo_mark, lo_drop, lo_arrival, lo_switch, lo_scatter, Looser, la_nil, la_then, la_last, LooserSections, lc_none, lc_section, lc_ended, Spread, ls_none, ls_last, ls_falls, ls_ends, IsLooser}

-- ---- the core

mutual
  unguarded_core : (a : Forest) (w : Follow) → Everywhere IsUnguarded a → core a w ≡ a
  unguarded_core Nil w h = refl
  unguarded_core (Then x xs) w h = ap₂ join (unguarded_core_of x (before xs w) h.0) (unguarded_core xs w h.1)

  unguarded_core_of : (x : Tree) (w : Follow) → EverywhereOf IsUnguarded x → core_of x w ≡ one x
  unguarded_core_of (If (Source e) a b) w h = ap₂ (λ a b. one (If (Source e) a b)) (unguarded_core a w h.1) (unguarded_core b w h.2)
  unguarded_core_of (If (On l) a b) w h = absurd h.0
  unguarded_core_of (If (Off l) a b) w h = absurd h.0
  unguarded_core_of (If (AndOff l t) a b) w h = absurd h.0
  unguarded_core_of (If (OrOn l t) a b) w h = absurd h.0
  unguarded_core_of (While (Source e) a) w h = ap (λ a. one (While (Source e) a)) (unguarded_core a (after_while (Source e) a w) h.1)
  unguarded_core_of (While (On l) a) w h = absurd h.0
  unguarded_core_of (While (Off l) a) w h = absurd h.0
  unguarded_core_of (While (AndOff l t) a) w h = absurd h.0
  unguarded_core_of (While (OrOn l t) a) w h = absurd h.0
  unguarded_core_of (Do a (Source e)) w h = ap (λ a. one (Do a (Source e))) (unguarded_core a (after_do a (Source e) w) h.1)
  unguarded_core_of (Do a (On l)) w h = absurd h.0
  unguarded_core_of (Do a (Off l)) w h = absurd h.0
  unguarded_core_of (Do a (AndOff l t)) w h = absurd h.0
  unguarded_core_of (Do a (OrOn l t)) w h = absurd h.0
  unguarded_core_of (For first t u a) w h = ap₂ (λ first a. one (For first t u a)) (unguarded_core first lost h.1) (unguarded_core a lost h.2)
  unguarded_core_of (Switch (Selects e) c) w h = ap (λ c. one (Switch (Selects e) c)) (unguarded_core_in c w h.1)
  unguarded_core_of (Switch (Pick l n s) c) w h = absurd h.0
  unguarded_core_of (Block a) w h = ap (λ a. one (Block a)) (unguarded_core a w h.1)
  unguarded_core_of (Arm l e) w h = absurd h
  unguarded_core_of (Leap l) w h = absurd h
  unguarded_core_of (Land l) w h = absurd h
  unguarded_core_of _ w h = refl

  unguarded_core_in : (c : Sections) (w : Follow) → EverywhereIn IsUnguarded c → core_sections c w ≡ c
  unguarded_core_in NoSection w h = refl
  unguarded_core_in (Section cases default a ends c) w h = ap₂ (λ a c. Section cases default a ends c) (unguarded_core a (after_section ends c w) h.0)
      (unguarded_core_in c w h.1)

-- ---- lists

pub join_unguarded : (a b : Forest) → Everywhere IsUnguarded a → Everywhere IsUnguarded b → Everywhere IsUnguarded (join a b)
join_unguarded Nil b h k = k
join_unguarded (Then x a) b h k = (h.0, join_unguarded a b h.1 k)

mark_unguarded : (b : Aim) → Everywhere IsUnguarded (mark_of b)
mark_unguarded Stays = tt
mark_unguarded (Becomes l) = (tt, tt)
mark_unguarded Absent = tt

third_unguarded : (u : Option ExpressionTree) → Everywhere IsUnguarded (third_items u)
third_unguarded None = tt
third_unguarded (Some e) = (tt, tt)

cells_unguarded : (k : IntKind) (x i : ℕ) (es : List ExpressionTree) (m : ℕ) → Everywhere IsUnguarded (assigned_cells k x i es m)
cells_unguarded k x i (e ∷ es) m = (tt, cells_unguarded k x (suc i) es m)
cells_unguarded k x i [] zero = tt
cells_unguarded k x i [] (suc m) = (tt, cells_unguarded k x (suc i) [] m)

marks_unguarded : (names : Names) (cases : List ExpressionTree) (default : Bool) → Everywhere IsUnguarded (case_marks names cases default)
marks_unguarded names [] true = (tt, tt)
marks_unguarded names [] false = tt
marks_unguarded names (e ∷ es) default = (tt, marks_unguarded names es default)

module _ (s : Setting) where
  module _ (kind : IntKind) (v : ℕ) (names : Names) where
    test_unguarded : (e : ExpressionTree) → Everywhere IsUnguarded (test_for s.number kind v names e)
    test_unguarded e = at (case_number kind e)
      where
        at : (o : Option ℤ) → Everywhere IsUnguarded
            (option_map_or (λ n. one (If (Source (is_number kind v (s.number kind n))) (one (Goto (names (Some e)))) Nil)) o Nil)
        at None = tt
        at (Some n) = ((tt, (tt, tt), tt), tt)

    tests_for_unguarded : (es : List ExpressionTree) → Everywhere IsUnguarded (tests_for s.number kind v names es)
    tests_for_unguarded [] = tt
    tests_for_unguarded (e ∷ es) = join_unguarded (test_for s.number kind v names e) (tests_for s.number kind v names es) (test_unguarded e)
        (tests_for_unguarded es)

    mutual
      tests_unguarded : (a : Forest) → Everywhere IsUnguarded (tests s.number kind v names a)
      tests_unguarded Nil = tt
      tests_unguarded (Then x a) = join_unguarded (tests_in s.number kind v names x) (tests s.number kind v names a) (tests_unguarded_in x) (tests_unguarded a)

      tests_unguarded_in : (x : Tree) → Everywhere IsUnguarded (tests_in s.number kind v names x)
      tests_unguarded_in (If t a b) = join_unguarded (tests s.number kind v names a) (tests s.number kind v names b) (tests_unguarded a) (tests_unguarded b)
      tests_unguarded_in (While t a) = tests_unguarded a
      tests_unguarded_in (Do a t) = tests_unguarded a
      tests_unguarded_in (For f t u a) = tests_unguarded a
      tests_unguarded_in (Block a) = tests_unguarded a
      tests_unguarded_in (Arrival None) = tt
      tests_unguarded_in (Arrival (Some e)) = test_unguarded e
      tests_unguarded_in _ = tt

    tests_among_unguarded : (d : Sections) → Everywhere IsUnguarded (tests_among s.number kind v names d)
    tests_among_unguarded NoSection = tt
    tests_among_unguarded (Section cases default a ends d) =
        join_unguarded (tests_for s.number kind v names cases) (join (tests s.number kind v names a) (tests_among s.number kind v names d))
        (tests_for_unguarded cases)
        (join_unguarded (tests s.number kind v names a) (tests_among s.number kind v names d) (tests_unguarded a) (tests_among_unguarded d))

  -- ---- the first

  mutual
    gone_unguarded : (xs : Forest) → AreGone s xs → Everywhere IsUnguarded xs
    gone_unguarded Nil h = tt
    gone_unguarded (Then x xs) h = (gone_unguarded_in x h.0, gone_unguarded xs h.1)

    gone_unguarded_in : (x : Tree) → IsGone s x → EverywhereOf IsUnguarded x
    gone_unguarded_in (Local x None) h = tt
    gone_unguarded_in (Mark l) h = tt
    gone_unguarded_in (Block a) h = (tt, gone_unguarded a h)
    gone_unguarded_in _ h = absurd h

  mutual
    old_unguarded : {m : Mode} {b c : Aim} {r : Arrivals} {xs xs' : Forest} → Looser s m b c r xs xs' → Everywhere IsUnguarded xs
    old_unguarded la_nil = tt
    old_unguarded (la_then fi fa) = (old_unguarded_in fi, old_unguarded fa)
    old_unguarded (la_last {xs = xs} last fi gone) = (old_unguarded_in fi, gone_unguarded xs gone)

    old_unguarded_in : {m : Mode} {b c : Aim} {r : Arrivals} {x : Tree} {ys : Forest} → LooserItem s m b c r x ys → EverywhereOf IsUnguarded x
    old_unguarded_in (lo_if t i fx fy) = (tt, old_unguarded fx, old_unguarded fy)
    old_unguarded_in (lo_while t b' c' i fa) = (tt, old_unguarded fa)
    old_unguarded_in (lo_do t b' c' i fa) = (tt, old_unguarded fa)
    old_unguarded_in (lo_for t u b' c' i j fi fa) = (tt, old_unguarded fi, old_unguarded fa)
    old_unguarded_in (lo_for_while t u b' c' n i j fi fa) = (tt, old_unguarded fi, old_unguarded fa)
    old_unguarded_in (lo_block fa) = (tt, old_unguarded fa)
    old_unguarded_in (lo_keep_block fa) = (tt, old_unguarded fa)
    old_unguarded_in (lo_keep_for t u b' c' z i j fi fa) = (tt, old_unguarded fi, old_unguarded fa)
    old_unguarded_in (lo_keep_declares x) = tt
    old_unguarded_in (lo_keep_local x es b i) = tt
    old_unguarded_in (lo_switch e b' i fs) = (tt, old_unguarded_among fs)
    old_unguarded_in (lo_scatter e b' names v l i n z w c t o fs) = (tt, old_unguarded_spread fs)
    old_unguarded_in (lo_evaluate e i) = tt
    old_unguarded_in (lo_return e i) = tt
    old_unguarded_in lo_return_none = tt
    old_unguarded_in (lo_note bs) = tt
    old_unguarded_in (lo_declares x) = tt
    old_unguarded_in (lo_number k x e i c t) = tt
    old_unguarded_in (lo_array k x es m i c t) = tt
    old_unguarded_in lo_break = tt
    old_unguarded_in (lo_break_to l) = tt
    old_unguarded_in lo_break_end = tt
    old_unguarded_in lo_continue = tt
    old_unguarded_in (lo_continue_to l) = tt
    old_unguarded_in (lo_goto l n e) = tt
    old_unguarded_in (lo_mark l n e) = tt
    old_unguarded_in (lo_drop l e) = tt
    old_unguarded_in (lo_arrival names e) = tt

    old_unguarded_among : {b c : Aim} {d d' : Sections} → LooserSections s b c d d' → EverywhereIn IsUnguarded d
    old_unguarded_among lc_none = tt
    old_unguarded_among (lc_section cases default e fa fs) = (old_unguarded fa, old_unguarded_among fs)
    old_unguarded_among (lc_ended cases default e fa fs) = (old_unguarded fa, old_unguarded_among fs)

    old_unguarded_spread : {m : Mode} {b c : Aim} {names : Names} {d : Sections} {ys : Forest} → Spread s m b c names d ys → EverywhereIn IsUnguarded d
    old_unguarded_spread ls_none = tt
    old_unguarded_spread (ls_last cases default fa) = (old_unguarded fa, tt)
    old_unguarded_spread (ls_falls cases default fa fs) = (old_unguarded fa, old_unguarded_spread fs)
    old_unguarded_spread (ls_ends l cases default fa fs) = (old_unguarded fa, old_unguarded_spread fs)

  -- ---- the second

  mutual
    pub new_unguarded : {m : Mode} {b c : Aim} {r : Arrivals} {xs xs' : Forest} → Looser s m b c r xs xs' → Everywhere IsUnguarded xs'
    new_unguarded la_nil = tt
    new_unguarded (la_then {ys = ys} {xs' = xs'} fi fa) = join_unguarded ys xs' (new_unguarded_in fi) (new_unguarded fa)
    new_unguarded (la_last last fi gone) = new_unguarded_in fi

    new_unguarded_in : {m : Mode} {b c : Aim} {r : Arrivals} {x : Tree} {ys : Forest} → LooserItem s m b c r x ys → Everywhere IsUnguarded ys
    new_unguarded_in (lo_if t i fx fy) = ((tt, new_unguarded fx, new_unguarded fy), tt)
    new_unguarded_in (lo_while t b' c' {a' = a'} i fa) = ((tt, join_unguarded a' (mark_of c') (new_unguarded fa) (mark_unguarded c')), mark_unguarded b')
    new_unguarded_in (lo_do t b' c' {a' = a'} i fa) = ((tt, join_unguarded a' (mark_of c') (new_unguarded fa) (mark_unguarded c')), mark_unguarded b')
    new_unguarded_in (lo_for t u b' c' {i' = i'} {a' = a'} i j fi fa) =
        join_unguarded i' (Then (For Nil t u (join a' (mark_of c'))) (mark_of b')) (new_unguarded fi)
        ((tt, tt, join_unguarded a' (mark_of c') (new_unguarded fa) (mark_unguarded c')), mark_unguarded b')
    new_unguarded_in (lo_for_while t u b' c' {i' = i'} {a' = a'} n i j fi fa) =
        join_unguarded i' (Then (While (Source (test_or_one t)) (with_third a' c' u)) (mark_of b')) (new_unguarded fi) (
          (
            tt,
            join_unguarded a' (join (mark_of c') (third_items u)) (new_unguarded fa)
                (join_unguarded (mark_of c') (third_items u) (mark_unguarded c') (third_unguarded u)),
          ),
          mark_unguarded b',
        )
    new_unguarded_in (lo_block fa) = new_unguarded fa
    new_unguarded_in (lo_keep_block fa) = ((tt, new_unguarded fa), tt)
    new_unguarded_in (lo_keep_for t u b' c' {a' = a'} z i j fi fa) =
        ((tt, new_unguarded fi, join_unguarded a' (mark_of c') (new_unguarded fa) (mark_unguarded c')), mark_unguarded b')
    new_unguarded_in (lo_keep_declares x) = (tt, tt)
    new_unguarded_in (lo_keep_local x es b i) = (tt, tt)
    new_unguarded_in (lo_array k x es m i c t) = cells_unguarded k x 0 es m
    new_unguarded_in (lo_switch e b' i fs) = ((tt, new_unguarded_among fs), mark_unguarded b')
    new_unguarded_in (lo_scatter e b' names v m {d = d} {ys = ys} i n z w c t o fs) =
        (tt, join_unguarded (tests_among s.number _ v names d) (Then (Goto m) ys) (tests_among_unguarded _ v names d) (tt, new_unguarded_spread fs))
    new_unguarded_in (lo_evaluate e i) = (tt, tt)
    new_unguarded_in (lo_return e i) = (tt, tt)
    new_unguarded_in lo_return_none = (tt, tt)
    new_unguarded_in (lo_note bs) = (tt, tt)
    new_unguarded_in (lo_declares x) = tt
    new_unguarded_in (lo_number k x e i c t) = (tt, tt)
    new_unguarded_in lo_break = (tt, tt)
    new_unguarded_in (lo_break_to l) = (tt, tt)
    new_unguarded_in lo_break_end = tt
    new_unguarded_in lo_continue = (tt, tt)
    new_unguarded_in (lo_continue_to l) = (tt, tt)
    new_unguarded_in (lo_goto l n e) = (tt, tt)
    new_unguarded_in (lo_mark l n e) = (tt, tt)
    new_unguarded_in (lo_drop l e) = tt
    new_unguarded_in (lo_arrival names e) = (tt, tt)

    new_unguarded_among : {b c : Aim} {d d' : Sections} → LooserSections s b c d d' → EverywhereIn IsUnguarded d'
    new_unguarded_among lc_none = tt
    new_unguarded_among (lc_section cases default e fa fs) = (new_unguarded fa, new_unguarded_among fs)
    new_unguarded_among (lc_ended cases default e fa fs) = (new_unguarded fa, new_unguarded_among fs)

    new_unguarded_spread : {m : Mode} {b c : Aim} {names : Names} {d : Sections} {ys : Forest} → Spread s m b c names d ys → Everywhere IsUnguarded ys
    new_unguarded_spread {b = b} ls_none = mark_unguarded b
    new_unguarded_spread {names = names} (ls_last cases default {xs' = xs'} fa) =
        join_unguarded (case_marks names cases default) xs' (marks_unguarded names cases default) (new_unguarded fa)
    new_unguarded_spread {names = names} (ls_falls cases default {xs' = xs'} {ys = ys} fa fs) =
        join_unguarded (case_marks names cases default) (join xs' ys) (marks_unguarded names cases default)
        (join_unguarded xs' ys (new_unguarded fa) (new_unguarded_spread fs))
    new_unguarded_spread {names = names} (ls_ends l cases default {xs' = xs'} {ys = ys} fa fs) =
        join_unguarded (case_marks names cases default) (join xs' (Then (Goto l) ys)) (marks_unguarded names cases default)
        (join_unguarded xs' (Then (Goto l) ys) (new_unguarded fa) (tt, new_unguarded_spread fs))

-- ---- functions

-- the core of a function without guards is the function
core_same : (f : FunctionTree) → Everywhere IsUnguarded (items_of f) → core_function f ≡ f
core_same f h = ap (λ b. record { result = f.result; params = f.params; slots = f.slots; body = b }) (at f.body h)
  where
    at : (b : Option Forest) → Everywhere IsUnguarded (option_map_or (λ a. a) b Nil) → option_map body_core b ≡ b
    at None h = refl
    at (Some a) h = ap Some (unguarded_core a lost h)

pub core_before : {f h : FunctionTree} → IsLooser f h → core_function f ≡ f
core_before {f} {h} l = core_same f (old_unguarded l.setting l.related)

pub core_after : {f h : FunctionTree} → IsLooser f h → core_function h ≡ h
core_after {f} {h} l = core_same h (new_unguarded l.setting l.related)
