-- The numbers of what comes next, and the walk over a list, step by step.
use Rattle.std.proofs.Common.{◌≡◌, ℕ, ◌+◌, ◌<◌, ◌≤◌, Bool, List, length, drop, get_or, Option, arith, sym, ap, ◌∙◌}
use Rattle.c_tree.specs.declared.tree.Item.{Item}
use Rattle.c_tree.specs.declared.tree.Section as Real
use Rattle.c_tree.specs.ExpressionTrees.{ExpressionTree}
use Rattle.c_tree.specs.Paths.{list_of}
use Rattle.c_tree.specs.TestTrees.{TestTree, SelectorTree}
use Rattle.c_tree.specs.Trees.{Tree, Forest, Then, Sections, NoSection, If, While, Do, For, Switch, Block, trees_of, sections_of, expression_trees, join}
use Rattle.c_tree.proofs.TreeLaws.{join-nil}
use Rattle.flat_laws.specs.Pieces.{Aim, Names, mark_of, case_marks}
use Rattle.flat_laws.specs.Loose.{Arrivals, Arrives}
use Rattle.flat_laws.specs.Parts.{Here, past, past_item, inside}
use Rattle.flat_laws.specs.FlatForm.{Plan, flat, flat_item, flat_sections, end_goto, spread}
use Rattle.c_tree.specs.Views.{tree_at, before}
use Rattle.c_tree.proofs.Views.{trees-at, trees-end, sections-at, sections-end}
use Rattle.flat_items.specs.Forms.{entered_of, past_among, section_before, part_form}
use Rattle.flat_items.specs.Pieces.{behind}
use Rattle.flat_items.proofs.Joining.{joined, behind_behind, behind_none}

-- three equal numbers
pub same_here : {k k' i i' v v' : ℕ} → k ≡ k' → i ≡ i' → v ≡ v' →
    (let a : Here = record { construct = k; case = i; variable = v } in a) ≡ record { construct = k'; case = i'; variable = v' }
same_here e f g = cc

pub still : (h : Here) → (let a : Here = record { construct = h.construct + 0; case = h.case + 0; variable = h.variable + 0 } in a) ≡ h
still h = same_here (omega arith) (omega arith) (omega arith)

pub past_more : (x : Tree) (xs : Forest) (h : Here) → past (Then x xs) h ≡ past xs (past_item x h)
past_more x xs h = same_here (omega arith) (omega arith) (omega arith)

pub past_If : (t : TestTree) (a b : Forest) (h : Here) → past b (past a h) ≡ past_item (If t a b) h
past_If t a b h = same_here (omega arith) (omega arith) (omega arith)

pub past_While : (t : TestTree) (a : Forest) (h : Here) → past a (entered_of h) ≡ past_item (While t a) h
past_While t a h = same_here (omega arith) (omega arith) (omega arith)

pub past_Do : (t : TestTree) (a : Forest) (h : Here) → past a (entered_of h) ≡ past_item (Do a t) h
past_Do t a h = same_here (omega arith) (omega arith) (omega arith)

pub past_For : (f : Forest) (t u : Option ExpressionTree) (a : Forest) (h : Here) → past a (past f (entered_of h)) ≡ past_item (For f t u a) h
past_For f t u a h = same_here (omega arith) (omega arith) (omega arith)

pub past_Block : (a : Forest) (h : Here) → past a h ≡ past_item (Block a) h
past_Block a h = same_here (omega arith) (omega arith) (omega arith)

pub past_Switch : (s : SelectorTree) (d : Sections) (h : Here) → past_among d (inside (Switch s d) h) ≡ past_item (Switch s d) h
past_Switch s d h = same_here (omega arith) (omega arith) (omega arith)

pub past_section : (c : Real.Section) (d : Sections) (h : Here) → past_among (before c d) h ≡ past_among d (past (trees_of (list_of c)) h)
past_section c d h = same_here (omega arith) (omega arith) (omega arith)

-- ---- a list

pub place_step : (xs : List Item) (i : ℕ) (x : Item) → i < length xs → x ≡ get_or xs i x → (h h' all : Here) → h' ≡ past_item (tree_at x) h →
    past (trees_of (drop i xs)) h ≡ all → past (trees_of (drop (i + 1) xs)) h' ≡ all
place_step xs i x l e h h' all q inv =
    let rest = trees_of (drop (i + 1) xs) in
    ap (past rest) q ∙ sym (past_more (tree_at x) rest h) ∙ sym (ap (λ a. past a h) (trees-at xs i x l e)) ∙ inv

pub place_end : (xs : List Item) (i : ℕ) → length xs ≤ i → (h all : Here) → past (trees_of (drop i xs)) h ≡ all → h ≡ all
place_end xs i l h all inv = sym (still h) ∙ sym (ap (λ a. past a h) (trees-end xs i l)) ∙ inv

pub walk_step : (p : Plan) (b c : Aim) (r : Arrivals) (xs : List Item) (i : ℕ) (x : Item) → i < length xs → x ≡ get_or xs i x →
    (h h' : Here) (out new all : Forest) → h' ≡ past_item (tree_at x) h → new ≡ join out (flat_item p h b c r (tree_at x))
    → join out (flat p h b c r (trees_of (drop i xs))) ≡ all → join new (flat p h' b c r (trees_of (drop (i + 1) xs))) ≡ all
walk_step p b c r xs i x l e h h' out new all q n inv =
    let rest = trees_of (drop (i + 1) xs) in
    let y = flat_item p h b c r (tree_at x) in
    ap (λ z. join z (flat p h' b c r rest)) n ∙ joined out y (flat p h' b c r rest)
    ∙ ap (λ g. join out (join y (flat p g b c r rest))) q
    ∙ sym (ap (λ a. join out (flat p h b c r a)) (trees-at xs i x l e)) ∙ inv

pub walk_end : (p : Plan) (b c : Aim) (r : Arrivals) (xs : List Item) (i : ℕ) → length xs ≤ i → (h : Here) (out all : Forest) →
    join out (flat p h b c r (trees_of (drop i xs))) ≡ all → out ≡ all
walk_end p b c r xs i l h out all inv = sym (join-nil out) ∙ sym (ap (λ a. join out (flat p h b c r a)) (trees-end xs i l)) ∙ inv

-- ---- sections

pub place_step_in : (cs : List Real.Section) (i : ℕ) (x : Real.Section) → i < length cs → x ≡ get_or cs i x → (h h' all : Here) →
    h' ≡ past (trees_of (list_of x)) h → past_among (sections_of (drop i cs)) h ≡ all → past_among (sections_of (drop (i + 1) cs)) h' ≡ all
place_step_in cs i x l e h h' all q inv =
    let rest = sections_of (drop (i + 1) cs) in
    ap (past_among rest) q ∙ sym (past_section x rest h) ∙ sym (ap (λ a. past_among a h) (sections-at cs i x l e)) ∙ inv

pub place_end_in : (cs : List Real.Section) (i : ℕ) → length cs ≤ i → (h all : Here) → past_among (sections_of (drop i cs)) h ≡ all → h ≡ all
place_end_in cs i l h all inv = sym (still h) ∙ sym (ap (λ a. past_among a h) (sections-end cs i l)) ∙ inv

pub sections_step : (p : Plan) (jumpy : Bool) (b c : Aim) (cs : List Real.Section) (i : ℕ) (x : Real.Section) → i < length cs → x ≡ get_or cs i x →
    (h h' : Here) (out new all : Sections) → h' ≡ past (trees_of (list_of x)) h
    → new ≡ behind out (section_before p h jumpy b c x NoSection) → behind out (flat_sections p h jumpy b c (sections_of (drop i cs))) ≡ all →
    behind new (flat_sections p h' jumpy b c (sections_of (drop (i + 1) cs))) ≡ all
sections_step p jumpy b c cs i x l e h h' out new all q n inv =
    let rest = sections_of (drop (i + 1) cs) in
    ap (λ z. behind z (flat_sections p h' jumpy b c rest)) n ∙ behind_behind out (section_before p h jumpy b c x NoSection) (flat_sections p h' jumpy b c rest)
    ∙ ap (λ g. behind out (section_before p h jumpy b c x (flat_sections p g jumpy b c rest))) q
    ∙ sym (ap (λ a. behind out (flat_sections p h jumpy b c a)) (sections-at cs i x l e)) ∙ inv

pub sections_end : (p : Plan) (jumpy : Bool) (b c : Aim) (cs : List Real.Section) (i : ℕ) → length cs ≤ i → (h : Here) (out all : Sections) →
    behind out (flat_sections p h jumpy b c (sections_of (drop i cs))) ≡ all → out ≡ all
sections_end p jumpy b c cs i l h out all inv = sym (behind_none out) ∙ sym (ap (λ a. behind out (flat_sections p h jumpy b c a)) (sections-end cs i l)) ∙ inv

-- a section of a scattered switch before what comes behind it
abbrev part_before : Plan → Here → Aim → Aim → Names → Real.Section → Forest → Forest
part_before p h b c names x s =
    let o = Real.out-Section x in
    join (case_marks names (expression_trees o.cases) o.default) (join (flat p h b c (Arrives names) (trees_of o.list)) (join (end_goto o.ends b) s))

regrouped : (p : Plan) (h : Here) (b c : Aim) (names : Names) (x : Real.Section) (s : Forest) →
    join (part_form p h b c names x) s ≡ part_before p h b c names x s
regrouped p h b c names x s =
    let o = Real.out-Section x in
    let m = case_marks names (expression_trees o.cases) o.default in
    let y = flat p h b c (Arrives names) (trees_of o.list) in
    joined m (join y (end_goto o.ends b)) s ∙ ap (join m) (joined y (end_goto o.ends b) s)

pub spread_step : (p : Plan) (b c : Aim) (names : Names) (cs : List Real.Section) (i : ℕ) (x : Real.Section) → i < length cs → x ≡ get_or cs i x →
    (h h' : Here) (out new all : Forest) → h' ≡ past (trees_of (list_of x)) h
    → new ≡ join out (part_form p h b c names x) → join out (spread p h b c names (sections_of (drop i cs))) ≡ all →
    join new (spread p h' b c names (sections_of (drop (i + 1) cs))) ≡ all
spread_step p b c names cs i x l e h h' out new all q n inv =
    let rest = sections_of (drop (i + 1) cs) in
    let s = spread p h' b c names rest in
    ap (λ z. join z s) n ∙ joined out (part_form p h b c names x) s
    ∙ ap (join out) (regrouped p h b c names x s)
    ∙ ap (λ g. join out (part_before p h b c names x (spread p g b c names rest))) q
    ∙ sym (ap (λ a. join out (spread p h b c names a)) (sections-at cs i x l e)) ∙ inv

pub spread_end : (p : Plan) (b c : Aim) (names : Names) (cs : List Real.Section) (i : ℕ) → length cs ≤ i → (h : Here) (out all : Forest) →
    join out (spread p h b c names (sections_of (drop i cs))) ≡ all → join out (mark_of b) ≡ all
spread_end p b c names cs i l h out all inv = sym (ap (λ a. join out (spread p h b c names a)) (sections-end cs i l)) ∙ inv
