-- The numbers of what comes next, and the walk over lists, step by step.
use Rattle.std.proofs.Common.{◌≡◌, ℕ, ◌+◌, Bool, true, false, cond, List, [], ◌∷◌, Option, Some, None, arith, refl, sym, ap, ◌∙◌}
use Rattle.std.proofs.lemmas.Bool.{false≢true}
use Rattle.c_tree.specs.Everywhere.{total}
use Rattle.c_tree.specs.declared.tree.Item.{Item}
use Rattle.c_tree.specs.declared.tree.Section as Real
use Rattle.c_tree.specs.ExpressionTrees.{ExpressionTree}
use Rattle.c_tree.specs.Paths.{list_of}
use Rattle.c_tree.specs.TestTrees.{TestTree, SelectorTree}
use Rattle.c_tree.specs.Trees.{Tree, Forest, Nil, Then, Sections, If, While, Do, For, Switch, Block, Goto, Mark, trees_of, sections_of, expression_trees, join}
use Rattle.c_tree.proofs.TreeLaws.{join-nil, trees-none, sections-none}
use Rattle.flat_laws.specs.Pieces.{Aim, Names, mark_of, case_marks}
use Rattle.flat_laws.specs.Loose.{Arrivals, Arrives}
use Rattle.flat_laws.specs.Parts.{Here}
use Rattle.flat_laws.specs.FlatForm.{end_goto}
use Rattle.lower_laws.specs.Lowered.{Layout, constructs_of, cases_of, variables_of, past, past_item, inside, is_bare, only_goto, jump_of, lowered, lowered_item, lowered_among}
use Rattle.c_tree.specs.Views.{tree_at, before}
use Rattle.c_tree.proofs.Views.{trees-first, section-first}
use Rattle.flat_items.proofs.Joining.{joined}
use Rattle.lower_items.specs.Plans.{entered_at}
use Rattle.lower_items.specs.Forms.{past_among, part_form}

-- three equal numbers
pub same_here : {k k' i i' v v' : ℕ} → k ≡ k' → i ≡ i' → v ≡ v' →
    (let a : Here = record { construct = k; case = i; variable = v } in a) ≡ record { construct = k'; case = i'; variable = v' }
same_here e f g = cc

pub still : (h : Here) → (let a : Here = record { construct = h.construct + 0; case = h.case + 0; variable = h.variable + 0 } in a) ≡ h
still h = same_here (omega arith) (omega arith) (omega arith)

pub past_more : (x : Tree) (xs : Forest) (h : Here) → past (Then x xs) h ≡ past xs (past_item x h)
past_more x xs h = same_here (omega arith) (omega arith) (omega arith)

pub past_If : (t : TestTree) (a b : Forest) (h : Here) → past b (past a (entered_at h 0 0)) ≡ past_item (If t a b) h
past_If t a b h = same_here (omega arith) (omega arith) (omega arith)

pub past_While : (t : TestTree) (a : Forest) (h : Here) → past a (entered_at h 0 0) ≡ past_item (While t a) h
past_While t a h = same_here (omega arith) (omega arith) (omega arith)

pub past_Do : (t : TestTree) (a : Forest) (h : Here) → past a (entered_at h 0 0) ≡ past_item (Do a t) h
past_Do t a h = same_here (omega arith) (omega arith) (omega arith)

pub past_For : (f : Forest) (t u : Option ExpressionTree) (a : Forest) (h : Here) → past a (past f (entered_at h 0 0)) ≡ past_item (For f t u a) h
past_For f t u a h = same_here (omega arith) (omega arith) (omega arith)

pub past_Block : (a : Forest) (h : Here) → past a h ≡ past_item (Block a) h
past_Block a h = same_here (omega arith) (omega arith) (omega arith)

pub past_Switch : (s : SelectorTree) (d : Sections) (h : Here) → past_among d (inside (Switch s d) h) ≡ past_item (Switch s d) h
past_Switch s d h = same_here (omega arith) (omega arith) (omega arith)

past_section : (c : Real.Section) (d : Sections) (h : Here) → past_among (before c d) h ≡ past_among d (past (trees_of (list_of c)) h)
past_section c d h = same_here (omega arith) (omega arith) (omega arith)

-- ---- a list

pub place_step : (x : Item) (xs : List Item) (h h' all : Here) → h' ≡ past_item (tree_at x) h → past (trees_of (x ∷ xs)) h ≡ all → past (trees_of xs) h' ≡ all
place_step x xs h h' all q inv = ap (past (trees_of xs)) q ∙ sym (past_more (tree_at x) (trees_of xs) h) ∙ sym (ap (λ a. past a h) (trees-first x xs)) ∙ inv

pub place_end : (h all : Here) → past (trees_of []) h ≡ all → h ≡ all
place_end h all inv = sym (still h) ∙ sym (ap (λ a. past a h) trees-none) ∙ inv

pub walk_step : (p : Layout) (b c : Aim) (r : Arrivals) (x : Item) (xs : List Item) (h h' : Here) (out new all : Forest) →
    h' ≡ past_item (tree_at x) h → new ≡ join out (lowered_item p h b c r (tree_at x))
    → join out (lowered p h b c r (trees_of (x ∷ xs))) ≡ all → join new (lowered p h' b c r (trees_of xs)) ≡ all
walk_step p b c r x xs h h' out new all q n inv =
    let rest = trees_of xs in
    let y = lowered_item p h b c r (tree_at x) in
    ap (λ z. join z (lowered p h' b c r rest)) n ∙ joined out y (lowered p h' b c r rest)
    ∙ ap (λ g. join out (join y (lowered p g b c r rest))) q
    ∙ sym (ap (λ a. join out (lowered p h b c r a)) (trees-first x xs)) ∙ inv

pub walk_end : (p : Layout) (b c : Aim) (r : Arrivals) (h : Here) (out all : Forest) → join out (lowered p h b c r (trees_of [])) ≡ all → out ≡ all
walk_end p b c r h out all inv = sym (join-nil out) ∙ sym (ap (λ a. join out (lowered p h b c r a)) trees-none) ∙ inv

-- ---- sections

pub place_step_in : (x : Real.Section) (xs : List Real.Section) (h h' all : Here) → h' ≡ past (trees_of (list_of x)) h →
    past_among (sections_of (x ∷ xs)) h ≡ all → past_among (sections_of xs) h' ≡ all
place_step_in x xs h h' all q inv = ap (past_among (sections_of xs)) q ∙ sym (past_section x (sections_of xs) h) ∙
    sym (ap (λ d. past_among d h) (section-first x xs)) ∙ inv

pub place_end_in : (h all : Here) → past_among (sections_of []) h ≡ all → h ≡ all
place_end_in h all inv = sym (still h) ∙ sym (ap (λ d. past_among d h) sections-none) ∙ inv

pub parts_step : (p : Layout) (b c : Aim) (names : Names) (x : Real.Section) (xs : List Real.Section) (h h' : Here) (out new all : Forest) →
    h' ≡ past (trees_of (list_of x)) h → new ≡ join out (part_form p h b c names x)
    → join out (lowered_among p h b c names (sections_of (x ∷ xs))) ≡ all → join new (lowered_among p h' b c names (sections_of xs)) ≡ all
parts_step p b c names x xs h h' out new all q n inv =
    let o = Real.out-Section x in
    let rest = sections_of xs in
    let m = case_marks names (expression_trees o.cases) o.default in
    let l = lowered p h b c (Arrives names) (trees_of o.list) in
    let e = end_goto o.ends b in
    ap (λ z. join z (lowered_among p h' b c names rest)) n ∙ joined out (join m (join l e)) (lowered_among p h' b c names rest)
    ∙ ap (join out) (joined m (join l e) (lowered_among p h' b c names rest) ∙ ap (join m) (joined l e (lowered_among p h' b c names rest)))
    ∙ ap (λ g. join out (join m (join l (join e (lowered_among p g b c names rest))))) q
    ∙ sym (ap (λ d. join out (lowered_among p h b c names d)) (section-first x xs)) ∙ inv

pub parts_end : (p : Layout) (b c : Aim) (names : Names) (h : Here) (out all : Forest) →
    join out (lowered_among p h b c names (sections_of [])) ≡ all → join out (mark_of b) ≡ all
parts_end p b c names h out all inv = sym (ap (λ d. join out (lowered_among p h b c names d)) sections-none) ∙ inv

-- ---- an `if` that stays has nothing in it that is numbered

abbrev none_of : (Tree → ℕ) → Type 0
none_of f = ((l : ℕ) → f (Mark l) ≡ 0) × ((l : ℕ) → f (Goto l) ≡ 0)

module _ (live : ℕ → Bool) (f : Tree → ℕ) (none : none_of f) where
  bare_empty : (xs : Forest) → is_bare live xs ≡ true → total f xs ≡ 0
  bare_empty Nil h = refl
  bare_empty (Then (Mark l) xs) h = step (live l) (λ q. bare_empty xs q) h where
    step : (y : Bool) → (is_bare live xs ≡ true → total f xs ≡ 0) → cond y false (is_bare live xs) ≡ true → total f (Then (Mark l) xs) ≡ 0
    step true e q = absurd (false≢true q)
    step false e q = let a = none.0 l in let b = e q in omega arith
  bare_empty (Then _ xs) h = absurd (false≢true h)

  goto_empty : (xs : Forest) (l : ℕ) → only_goto live xs ≡ Some l → total f xs ≡ 0
  goto_empty Nil l h = cc
  goto_empty (Then (Mark m) xs) l h = step (live m) (λ q. goto_empty xs l q) h where
    step : (y : Bool) → (only_goto live xs ≡ Some l → total f xs ≡ 0) → cond y None (only_goto live xs) ≡ Some l → total f (Then (Mark m) xs) ≡ 0
    step true e q = cc
    step false e q = let a = none.0 m in let b = e q in omega arith
  goto_empty (Then (Goto m) xs) l h = step (is_bare live xs) refl h where
    step : (y : Bool) → is_bare live xs ≡ y → cond y (Some m) None ≡ Some l → total f (Then (Goto m) xs) ≡ 0
    step true e q = let a = none.1 m in let b = bare_empty xs e in omega arith
    step false e q = cc
  goto_empty (Then _ xs) l h = cc

  both_empty : (a b : Forest) (l : ℕ) → jump_of live a b ≡ Some l → (total f a ≡ 0) × (total f b ≡ 0)
  both_empty a b l h = step (is_bare live b) refl h where
    step : (y : Bool) → is_bare live b ≡ y → cond y (only_goto live a) None ≡ Some l → (total f a ≡ 0) × (total f b ≡ 0)
    step true e q = (goto_empty a l q, bare_empty b e)
    step false e q = cc

pub past_jump : (live : ℕ → Bool) (t : TestTree) (a b : Forest) (l : ℕ) (h : Here) → jump_of live a b ≡ Some l → entered_at h 0 0 ≡ past_item (If t a b) h
past_jump live t a b l h e =
    let u = both_empty live constructs_of (λ l. refl, λ l. refl) a b l e in
    let v = both_empty live cases_of (λ l. refl, λ l. refl) a b l e in
    let w = both_empty live variables_of (λ l. refl, λ l. refl) a b l e in
    let u0 = u.0 in let u1 = u.1 in let v0 = v.0 in let v1 = v.1 in let w0 = w.0 in let w1 = w.1 in
    same_here (omega arith) (omega arith) (omega arith)
