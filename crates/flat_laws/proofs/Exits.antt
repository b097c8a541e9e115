-- Where `break` becomes a goto, a looser list has none that is bound to a construct around it; so for `continue`.
use Rattle.std.proofs.Common.{ℕ, zero, suc, ◌+◌, ℤ, Bool, true, false, List, [], ◌∷◌, Option, Some, None, ◌≡◌, refl, arith}
use Rattle.std.specs.Option.{option_map_or}
use Rattle.c_types.specs.declared.kinds.IntKind.{IntKind}
use Rattle.c_tree.specs.ExpressionTrees.{ExpressionTree}
use Rattle.c_tree.specs.Cases.{case_number}
use Rattle.c_tree.specs.TestTrees.{Source, Selects}
use Rattle.jump_meaning.specs.Step.{switch_kind}
use Rattle.c_tree.specs.Trees.{Tree, Forest, Nil, Then, Sections, NoSection, Section, If, While, Do, For, Block, Goto, Arrival, join}
use Rattle.c_tree.specs.Changed.{one}
use Rattle.c_tree.specs.Exits.{breaks, continues, continues_in}
use Rattle.flat_laws.specs.Pieces.{Aim, Stays, Becomes, Absent, mark_of, IsMoved, test_or_one, third_items, with_third, assigned_cells, Names, is_number, test_for, tests_for, tests, tests_in, tests_among, case_marks}
use Rattle.flat_laws.specs.Loose.{Setting, Mode, Arrivals, LooserItem, lo_evaluate, lo_return, lo_return_none, lo_note, lo_if, lo_while, lo_do, lo_for, lo_for_while, lo_block, lo_keep_block, lo_keep_for, lo_keep_declares, lo_keep_local, lo_declares, lo_number, lo_array, lo_break, lo_break_to, lo_break_end, lo_continue, lo_continue_to, lo_goto, lo_mark, lo_drop, lo_arrival, lo_switch, lo_scatter, Looser, la_nil, la_then, la_last, LooserSections, lc_none, lc_section, lc_ended, Spread, ls_none, ls_last, ls_falls, ls_ends}

-- exits bound outward: both counts
abbrev pub Free : Forest → Type 0
Free a = (breaks a ≡ 0) × (continues a ≡ 0)

pub free_join : (a b : Forest) → breaks (join a b) ≡ breaks a + breaks b
free_join Nil b = omega arith
free_join (Then x a) b = let h = free_join a b in omega (arith, h)

pub stay_join : (a b : Forest) → continues (join a b) ≡ continues a + continues b
stay_join Nil b = omega arith
stay_join (Then x a) b = let h = stay_join a b in omega (arith, h)

pub joined : (a b : Forest) → Free a → Free b → Free (join a b)
joined a b h k = (
  let e = free_join a b in let i = h.0 in let j = k.0 in omega (arith, e, i, j),
  let e = stay_join a b in let i = h.1 in
      let j = k.1 in omega (arith, e, i, j),
)

pub mark_free : (b : Aim) → Free (mark_of b)
mark_free Stays = (refl, refl)
mark_free (Becomes l) = (refl, refl)
mark_free Absent = (refl, refl)

pub third_free : (u : Option ExpressionTree) → Free (third_items u)
third_free None = (refl, refl)
third_free (Some e) = (refl, refl)

pub cells_free : (k : IntKind) (x i : ℕ) (es : List ExpressionTree) (m : ℕ) → Free (assigned_cells k x i es m)
cells_free k x i (e ∷ es) m = let h = cells_free k x (suc i) es m in (let y = h.0 in omega (arith, y), let y = h.1 in omega (arith, y))
cells_free k x i [] zero = (refl, refl)
cells_free k x i [] (suc m) = let h = cells_free k x (suc i) [] m in (let y = h.0 in omega (arith, y), let y = h.1 in omega (arith, y))

pub marks_free : (names : Names) (cases : List ExpressionTree) (default : Bool) → Free (case_marks names cases default)
marks_free names [] true = (refl, refl)
marks_free names [] false = (refl, refl)
marks_free names (e ∷ es) default = let h = marks_free names es default in (let y = h.0 in omega (arith, y), let y = h.1 in omega (arith, y))

module _ (number : IntKind → ℤ → ExpressionTree) (k : IntKind) (v : ℕ) (names : Names) where
  pub test_free : (e : ExpressionTree) → Free (test_for number k v names e)
  test_free e = at (case_number k e)
    where
      at : (o : Option ℤ) → Free (option_map_or (λ n. one (If (Source (is_number k v (number k n))) (one (Goto (names (Some e)))) Nil)) o Nil)
      at None = (refl, refl)
      at (Some n) = (refl, refl)

  pub tests_for_free : (es : List ExpressionTree) → Free (tests_for number k v names es)
  tests_for_free [] = (refl, refl)
  tests_for_free (e ∷ es) = joined (test_for number k v names e) (tests_for number k v names es) (test_free e) (tests_for_free es)

  mutual
    tests_free : (a : Forest) → Free (tests number k v names a)
    tests_free Nil = (refl, refl)
    tests_free (Then x a) = joined (tests_in number k v names x) (tests number k v names a) (tests_free_in x) (tests_free a)

    tests_free_in : (x : Tree) → Free (tests_in number k v names x)
    tests_free_in (If t a b) = joined (tests number k v names a) (tests number k v names b) (tests_free a) (tests_free b)
    tests_free_in (While t a) = tests_free a
    tests_free_in (Do a t) = tests_free a
    tests_free_in (For f t u a) = tests_free a
    tests_free_in (Block a) = tests_free a
    tests_free_in (Arrival None) = (refl, refl)
    tests_free_in (Arrival (Some e)) = test_free e
    tests_free_in _ = (refl, refl)

  pub tests_among_free : (d : Sections) → Free (tests_among number k v names d)
  tests_among_free NoSection = (refl, refl)
  tests_among_free (Section cases default a ends d) =
      joined (tests_for number k v names cases) (join (tests number k v names a) (tests_among number k v names d)) (tests_for_free cases)
      (joined (tests number k v names a) (tests_among number k v names d) (tests_free a) (tests_among_free d))

module _ (s : Setting) where
  mutual
    pub no_breaks : {m : Mode} {b c : Aim} {r : Arrivals} {xs ys : Forest} → Looser s m b c r xs ys → IsMoved b → breaks ys ≡ 0
    no_breaks la_nil n = refl
    no_breaks (la_then {ys = ys} {xs' = xs'} fi fa) n = let e = free_join ys xs' in let h = no_breaks_in fi n in let k = no_breaks fa n in
        omega (arith, e, h, k)
    no_breaks (la_last last fi gone) n = no_breaks_in fi n

    no_breaks_in : {m : Mode} {b c : Aim} {r : Arrivals} {x : Tree} {ys : Forest} → LooserItem s m b c r x ys → IsMoved b → breaks ys ≡ 0
    no_breaks_in (lo_if t i fx fy) n = let h = no_breaks fx n in let k = no_breaks fy n in omega (arith, h, k)
    no_breaks_in (lo_while t b' c' i fa) n = let h = (mark_free b').0 in omega (arith, h)
    no_breaks_in (lo_do t b' c' i fa) n = let h = (mark_free b').0 in omega (arith, h)
    no_breaks_in (lo_for t u b' c' {i' = i'} {a' = a'} i j fi fa) n =
        let e = free_join i' (Then (For Nil t u (join a' (mark_of c'))) (mark_of b')) in
        let h = no_breaks fi n in
        let k = (mark_free b').0 in omega (arith, e, h, k)
    no_breaks_in (lo_for_while t u b' c' {i' = i'} {a' = a'} z i j fi fa) n =
        let e = free_join i' (Then (While (Source (test_or_one t)) (with_third a' c' u)) (mark_of b')) in
        let h = no_breaks fi n in
        let k = (mark_free b').0 in omega (arith, e, h, k)
    no_breaks_in (lo_block fa) n = no_breaks fa n
    no_breaks_in (lo_keep_block fa) n = let h = no_breaks fa n in omega (arith, h)
    no_breaks_in (lo_keep_for t u b' c' z i j fi fa) n = let h = no_breaks fi n in let k = (mark_free b').0 in omega (arith, h, k)
    no_breaks_in (lo_array k x es m i c t) n = (cells_free k x 0 es m).0
    no_breaks_in (lo_switch e b' i fs) n = let h = (mark_free b').0 in omega (arith, h)
    no_breaks_in (lo_scatter e b' names v l {d = d} {ys = ys} i z q w c t o fs) n =
        let y = free_join (tests_among s.number (switch_kind (Selects e)) v names d) (Then (Goto l) ys) in
        let h = (tests_among_free s.number (switch_kind (Selects e)) v names d).0 in
        let k = no_breaks_spread fs z in omega (arith, y, h, k)
    no_breaks_in lo_break n = absurd n
    no_breaks_in (lo_break_to l) n = refl
    no_breaks_in lo_break_end n = refl
    no_breaks_in (lo_evaluate e i) n = refl
    no_breaks_in (lo_return e i) n = refl
    no_breaks_in lo_return_none n = refl
    no_breaks_in (lo_note bs) n = refl
    no_breaks_in (lo_keep_declares x) n = refl
    no_breaks_in (lo_keep_local x es b i) n = refl
    no_breaks_in (lo_declares x) n = refl
    no_breaks_in (lo_number k x e i c t) n = refl
    no_breaks_in lo_continue n = refl
    no_breaks_in (lo_continue_to l) n = refl
    no_breaks_in (lo_goto l m e) n = refl
    no_breaks_in (lo_mark l m e) n = refl
    no_breaks_in (lo_drop l e) n = refl
    no_breaks_in (lo_arrival names e) n = refl

    no_breaks_spread : {m : Mode} {b c : Aim} {names : Names} {d : Sections} {ys : Forest} → Spread s m b c names d ys → IsMoved b → breaks ys ≡ 0
    no_breaks_spread {b = b} ls_none n = (mark_free b).0
    no_breaks_spread {names = names} (ls_last cases default {xs' = xs'} fa) n = let e = free_join (case_marks names cases default) xs' in let h =
        (marks_free
        names cases default).0 in let k = no_breaks fa tt in omega (arith, e, h, k)
    no_breaks_spread {names = names} (ls_falls cases default {xs' = xs'} {ys = ys} fa fs) n =
        let e = free_join (case_marks names cases default) (join xs' ys) in
        let f = free_join xs' ys in
        let h = (marks_free names cases default).0 in
        let j = no_breaks fa n in
        let k = no_breaks_spread fs n in omega (arith, e, f, h, j, k)
    no_breaks_spread {names = names} (ls_ends l cases default {xs' = xs'} {ys = ys} fa fs) n =
        let e = free_join (case_marks names cases default) (join xs' (Then (Goto l) ys)) in
        let f = free_join xs' (Then (Goto l) ys) in
        let h = (marks_free names cases default).0 in
        let j = no_breaks fa n in
        let k = no_breaks_spread fs n in omega (arith, e, f, h, j, k)

  mutual
    pub no_continues : {m : Mode} {b c : Aim} {r : Arrivals} {xs ys : Forest} → Looser s m b c r xs ys → IsMoved c → continues ys ≡ 0
    no_continues la_nil n = refl
    no_continues (la_then {ys = ys} {xs' = xs'} fi fa) n = let e = stay_join ys xs' in let h = no_continues_in fi n in let k = no_continues fa n in
        omega (arith, e, h, k)
    no_continues (la_last last fi gone) n = no_continues_in fi n

    no_continues_in : {m : Mode} {b c : Aim} {r : Arrivals} {x : Tree} {ys : Forest} → LooserItem s m b c r x ys → IsMoved c → continues ys ≡ 0
    no_continues_in (lo_if t i fx fy) n = let h = no_continues fx n in let k = no_continues fy n in omega (arith, h, k)
    no_continues_in (lo_while t b' c' i fa) n = let h = (mark_free b').1 in omega (arith, h)
    no_continues_in (lo_do t b' c' i fa) n = let h = (mark_free b').1 in omega (arith, h)
    no_continues_in (lo_for t u b' c' {i' = i'} {a' = a'} i j fi fa) n =
        let e = stay_join i' (Then (For Nil t u (join a' (mark_of c'))) (mark_of b')) in
        let h = no_continues fi n in
        let k = (mark_free b').1 in omega (arith, e, h, k)
    no_continues_in (lo_for_while t u b' c' {i' = i'} {a' = a'} z i j fi fa) n =
        let e = stay_join i' (Then (While (Source (test_or_one t)) (with_third a' c' u)) (mark_of b')) in
        let h = no_continues fi n in
        let k = (mark_free b').1 in omega (arith, e, h, k)
    no_continues_in (lo_block fa) n = no_continues fa n
    no_continues_in (lo_keep_block fa) n = let h = no_continues fa n in omega (arith, h)
    no_continues_in (lo_keep_for t u b' c' z i j fi fa) n = let h = no_continues fi n in let k = (mark_free b').1 in omega (arith, h, k)
    no_continues_in (lo_array k x es m i c t) n = (cells_free k x 0 es m).1
    no_continues_in (lo_switch e b' i fs) n = let h = (mark_free b').1 in let k = no_continues_among fs n in omega (arith, h, k)
    no_continues_in (lo_scatter e b' names v l {d = d} {ys = ys} i z q w c t o fs) n =
        let y = stay_join (tests_among s.number (switch_kind (Selects e)) v names d) (Then (Goto l) ys) in
        let h = (tests_among_free s.number (switch_kind (Selects e)) v names d).1 in
        let k = no_continues_spread fs n in omega (arith, y, h, k)
    no_continues_in lo_break n = refl
    no_continues_in (lo_break_to l) n = refl
    no_continues_in lo_break_end n = refl
    no_continues_in (lo_evaluate e i) n = refl
    no_continues_in (lo_return e i) n = refl
    no_continues_in lo_return_none n = refl
    no_continues_in (lo_note bs) n = refl
    no_continues_in (lo_keep_declares x) n = refl
    no_continues_in (lo_keep_local x es b i) n = refl
    no_continues_in (lo_declares x) n = refl
    no_continues_in (lo_number k x e i c t) n = refl
    no_continues_in lo_continue n = absurd n
    no_continues_in (lo_continue_to l) n = refl
    no_continues_in (lo_goto l m e) n = refl
    no_continues_in (lo_mark l m e) n = refl
    no_continues_in (lo_drop l e) n = refl
    no_continues_in (lo_arrival names e) n = refl

    no_continues_among : {b c : Aim} {d d' : Sections} → LooserSections s b c d d' → IsMoved c → continues_in d' ≡ 0
    no_continues_among lc_none n = refl
    no_continues_among (lc_section cases default e fa fs) n = let h = no_continues fa n in let k = no_continues_among fs n in omega (arith, h, k)
    no_continues_among (lc_ended cases default e fa fs) n = let h = no_continues fa n in let k = no_continues_among fs n in omega (arith, h, k)

    no_continues_spread : {m : Mode} {b c : Aim} {names : Names} {d : Sections} {ys : Forest} → Spread s m b c names d ys → IsMoved c → continues ys ≡ 0
    no_continues_spread {b = b} ls_none n = (mark_free b).1
    no_continues_spread {names = names} (ls_last cases default {xs' = xs'} fa) n = let e = stay_join (case_marks names cases default) xs' in let h =
        (marks_free
        names cases default).1 in let k = no_continues fa n in omega (arith, e, h, k)
    no_continues_spread {names = names} (ls_falls cases default {xs' = xs'} {ys = ys} fa fs) n =
        let e = stay_join (case_marks names cases default) (join xs' ys) in
        let f = stay_join xs' ys in
        let h = (marks_free names cases default).1 in
        let j = no_continues fa n in
        let k = no_continues_spread fs n in omega (arith, e, f, h, j, k)
    no_continues_spread {names = names} (ls_ends l cases default {xs' = xs'} {ys = ys} fa fs) n =
        let e = stay_join (case_marks names cases default) (join xs' (Then (Goto l) ys)) in
        let f = stay_join xs' (Then (Goto l) ys) in
        let h = (marks_free names cases default).1 in
        let j = no_continues fa n in
        let k = no_continues_spread fs n in omega (arith, e, f, h, j, k)
