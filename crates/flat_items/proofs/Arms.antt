-- Items by their kinds: what stands in their place, and the numbers of what comes behind them.
use Rattle.std.proofs.Common.{◌≡◌, ℕ, ℤ, suc, ◌+◌, Bool, true, false, cond, List, length, map, Option, Some, None, refl, sym, ap, ◌∙◌}
use Rattle.std.proofs.lemmas.List.{length-map}
use Rattle.std.proofs.Math.Path.{fun_ext}
use Rattle.c_types.specs.declared.kinds.IntKind.{IntKind}
use Rattle.c_tree.specs.Cases.{case_number, selector_source}
use Rattle.c_tree.specs.Changed.{one}
use Rattle.c_tree.specs.Numerals.{constant}
use Rattle.c_tree.specs.declared.tree.Item.{Item, Item-F, Block, out-Item, roll-Item, roll-out-Item}
use Rattle.c_tree.specs.declared.tree.Item.TheVariants.{rolls-If, rolls-While, rolls-Do, rolls-For, rolls-Switch, rolls-Block, rolls-Local, rolls-Break, rolls-Continue, rolls-Goto, rolls-Mark, rolls-Arrival}
use Rattle.c_tree.specs.declared.tree.Item.TheOpen as O
use Rattle.c_tree.specs.declared.tree.Item as I
use Rattle.c_tree.specs.declared.tree.Selector.{Selector}
use Rattle.c_tree.specs.declared.tree.Test.{Test}
use Rattle.c_tree.specs.declared.tree.Section as Real
use Rattle.c_tree.specs.ExpressionTrees.{ExpressionTree}
use Rattle.c_tree.specs.TestTrees.{SelectorTree}
use Rattle.c_tree.specs.Trees as P
use Rattle.c_tree.specs.Trees.{Tree, Forest, Nil, Then, Sections, Switch, Evaluate, Goto, trees_of, sections_of, expression_trees, join}
use Rattle.jump_meaning.specs.Step.{switch_kind}
use Rattle.flat_laws.specs.Pieces.{Aim, mark_of, assign_number, tests_among}
use Rattle.flat_laws.specs.Loose.{Arrivals}
use Rattle.flat_laws.specs.Parts.{Here, past_item, inside, is_scattered, switch_labels, cases_among}
use Rattle.flat_laws.specs.FlatForm.{Plan, is_jumpy_switch, flat_sections, flat_item, names_of, scatter_aim, otherwise_label, spread}
use Rattle.c_tree.specs.declared.tree.Expression.{Expression}
use Rattle.c_tree.specs.Views.{layer_at, tree_at, before}
use Rattle.flat_items.specs.declared.plans.Plan as L
use Rattle.flat_items.specs.declared.plans.Cases as C
use Rattle.flat_items.specs.Forms.{switch_breaks, entered_of, past_among, kept_form, scattered_form, local_form}
use Rattle.flat_items.specs.Pieces.{number_tests}
use Rattle.flat_items.specs.Plans.{plan_of, case_names, number_label}
use Rattle.flat_items.proofs.Joining.{joined}
use Rattle.flat_items.proofs.Steps.{same_here, still, past_Switch}
use Rattle.flat_items.proofs.Tests.{tests_are}

-- ---- a switch

entered_is : (s : SelectorTree) (d : Sections) (h : Here) → is_scattered d ≡ false → entered_of h ≡ inside (Switch s d) h
entered_is s d h e =
    same_here refl (ap (λ y. h.case + cond y (length (cases_among (switch_labels d))) 0) (sym e)) (ap (λ y. h.variable + cond {A = ℕ} y 1 0) (sym e))

pub past_kept : (s : SelectorTree) (d : Sections) (h : Here) → is_scattered d ≡ false → past_among d (entered_of h) ≡ past_item (Switch s d) h
past_kept s d h e = ap (past_among d) (entered_is s d h e) ∙ past_Switch s d h

either : (y z : Bool) (x a b : Forest) → z ≡ y → (y ≡ false → a ≡ b) → cond z x a ≡ cond z x b
either true z x a b e f = ap (λ w. cond w x a) e ∙ sym (ap (λ w. cond w x b) e)
either false z x a b e f = ap (cond z x) (f refl)

-- a switch that stays, with these numbers inside it
abbrev kept_with : Plan → Here → Aim → SelectorTree → Sections → Here → Forest
kept_with p h c s d g = Then (Switch s (flat_sections p g (is_jumpy_switch p c d) (switch_breaks p h.construct c d) c d))
    (mark_of (switch_breaks p h.construct c d))

pub switch_item : (p : Plan) (h : Here) (b c : Aim) (r : Arrivals) (s : SelectorTree) (d : Sections) →
    cond (is_scattered d) (scattered_form p h c s d) (kept_form p h c s d) ≡ flat_item p h b c r (Switch s d)
switch_item p h b c r s d =
    either (is_scattered d) (is_scattered d) (scattered_form p h c s d) (kept_form p h c s d) (kept_with p h c s d (inside (Switch s d) h)) refl
    (λ e. ap (kept_with p h c s d) (entered_is s d h e))

-- ---- items that hold no list

-- an item that stays as it is, with no number of its own
pub record IsSame (p : Plan) (h : Here) (b c : Aim) (r : Arrivals) (x : Tree) : Type 0 where
  pub stays : flat_item p h b c r x ≡ one x
  pub still : past_item x h ≡ h

pub same_item : (p : Plan) (h : Here) (b c : Aim) (r : Arrivals) (x : Item) → ((t : Test) (a d : List Item) → x ≡ I.If t a d → ⊥) →
    ((t : Test) (a : List Item) → x ≡ I.While t a → ⊥)
    → ((a : List Item) (t : Test) → x ≡ I.Do a t → ⊥) → ((f : List Item) (t u : Option Expression) (a : List Item) → x ≡ I.For f t u a → ⊥)
    → ((s : Selector) (d : List Real.Section) → x ≡ I.Switch s d → ⊥) → ((a : List Item) → x ≡ Block a → ⊥) →
    ((l : ℕ) (es : Option (List Expression)) → x ≡ I.Local l es → ⊥)
    → (x ≡ I.Break → ⊥) → (x ≡ I.Continue → ⊥) → ((l : ℕ) → x ≡ I.Goto l → ⊥) → ((l : ℕ) → x ≡ I.Mark l → ⊥) →
    ((e : Option Expression) → x ≡ I.Arrival e → ⊥) → IsSame p h b c r (tree_at x)
same_item p h b c r x i w d f s k v br co g m ar = put (out-Item x) (sym (roll-out-Item x)) where
  put : (y : Item-F Item Real.Section) → x ≡ roll-Item y → IsSame p h b c r (layer_at y)
  put (O.If t a z) e = absurd (i t a z (e ∙ rolls-If t a z))
  put (O.While t a) e = absurd (w t a (e ∙ rolls-While t a))
  put (O.Do a t) e = absurd (d a t (e ∙ rolls-Do a t))
  put (O.For z t u a) e = absurd (f z t u a (e ∙ rolls-For z t u a))
  put (O.Switch t z) e = absurd (s t z (e ∙ rolls-Switch t z))
  put (O.Block a) e = absurd (k a (e ∙ rolls-Block a))
  put (O.Local l z) e = absurd (v l z (e ∙ rolls-Local l z))
  put O.Break e = absurd (br (e ∙ rolls-Break))
  put O.Continue e = absurd (co (e ∙ rolls-Continue))
  put (O.Goto l) e = absurd (g l (e ∙ rolls-Goto l))
  put (O.Mark l) e = absurd (m l (e ∙ rolls-Mark l))
  put (O.Arrival z) e = absurd (ar z (e ∙ rolls-Arrival z))
  put y e = record { stays = refl; still = still h }

-- ---- a scattered switch

-- its cases
abbrev pub cases_record : SelectorTree → Sections → Here → C.Cases
cases_record s d h = record {
  bound = true;
  kind = switch_kind s;
  first = h.case;
  construct = h.construct;
  numbers = map (case_number (switch_kind s)) (cases_among (switch_labels d));
}

cases_equal : {b b' : Bool} {k k' : IntKind} {f f' n n' : ℕ} {ns ns' : List (Option ℤ)} → b ≡ b' → k ≡ k' → f ≡ f' → n ≡ n' → ns ≡ ns'
    → (let a : C.Cases = record { bound = b; kind = k; first = f; construct = n; numbers = ns } in
    a) ≡ record { bound = b'; kind = k'; first = f'; construct = n'; numbers = ns' }
cases_equal a b c d e = cc

pub cases_are : (cs : C.Cases) (s : SelectorTree) (d : Sections) (h : Here) → cs.bound ≡ true → cs.kind ≡ switch_kind s → cs.first ≡ h.case →
    cs.construct ≡ h.construct → cs.numbers ≡ map (case_number (switch_kind s)) (cases_among (switch_labels d)) → cs ≡ cases_record s d h
cases_are cs s d h a b c e f = cases_equal a b c e f

pub inside_scattered : (s : SelectorTree) (d : Sections) (h : Here) (n : ℕ) (g : Here) → is_scattered d ≡ true →
    n ≡ length (map (case_number (switch_kind s)) (cases_among (switch_labels d)))
    → g.construct ≡ suc h.construct → g.case ≡ h.case + n → g.variable ≡ h.variable + 1 → g ≡ inside (Switch s d) h
inside_scattered s d h n g y e a b c =
    same_here a (b ∙ ap (λ m. h.case + m) (e ∙ length-map (cases_among (switch_labels d)) (case_number (switch_kind s))) ∙
    ap (λ z. h.case + cond z (length (cases_among (switch_labels d))) 0) (sym y))
    (c ∙ ap (λ z. h.variable + cond {A = ℕ} z 1 0) (sym y))

names_are : (p : L.Plan) (s : SelectorTree) (d : Sections) (h : Here) → case_names p (cases_record s d h) ≡ names_of (plan_of p) h (switch_kind s) d
names_are p s d h = fun_ext (λ e. at e) where
  at : (e : Option ExpressionTree) → case_names p (cases_record s d h) e ≡ names_of (plan_of p) h (switch_kind s) d e
  at None = refl
  at (Some e) = refl

regrouped : (out t : Forest) (x y : Tree) (s : Forest) → join (join out (Then x (join t (one y)))) s ≡ join out (Then x (join t (Then y s)))
regrouped out t x y s = joined out (Then x (join t (one y))) s ∙ ap (λ z. join out (Then x z)) (joined t (one y) s)

pub scattered_is : (p : L.Plan) (cs : C.Cases) (s : SelectorTree) (d : Sections) (h g : Here) (b c : Aim) (out one_out last : Forest) → cs ≡ cases_record s d h
    → one_out ≡ join out (Then (Evaluate (assign_number cs.kind h.variable (selector_source s)))
    (join (number_tests cs.kind h.variable (number_label p cs) cs.numbers) (one (Goto (otherwise_label (plan_of p) h d)))))
    → last ≡ join one_out (spread (plan_of p) g b c (case_names p cs) d) → g ≡ inside (Switch s d) h → b ≡ scatter_aim (plan_of p) h d →
    last ≡ join out (scattered_form (plan_of p) h c s d)
scattered_is p cs s d h g b c out one_out last same first second gs bs =
    let q = plan_of p in
    let k = switch_kind s in
    let x = Evaluate (assign_number k h.variable (selector_source s)) in
    let y = Goto (otherwise_label q h d) in
    let t = number_tests k h.variable (number_label p (cases_record s d h)) (map (case_number k) (cases_among (switch_labels d))) in
    let ns = names_of q h k d in
    second ∙ ap (λ z. join z (spread q g b c (case_names p cs) d)) first
    ∙ ap (λ (w : C.Cases). join (join out (Then (Evaluate (assign_number w.kind h.variable (selector_source s)))
    (join (number_tests w.kind h.variable (number_label p w) w.numbers) (one y)))) (spread q g b c (case_names p w) d)) same
    ∙ ap (λ n. join (join out (Then x (join t (one y)))) (spread q g b c n d)) (names_are p s d h)
    ∙ ap (λ z. join (join out (Then x (join t (one y)))) (spread q z b c ns d)) gs
    ∙ ap (λ z. join (join out (Then x (join t (one y)))) (spread q (inside (Switch s d) h) z c ns d)) bs
    ∙ ap (λ z. join (join out (Then x (join z (one y)))) (spread q (inside (Switch s d) h) (scatter_aim q h d) c ns d))
    (sym (tests_are k h.variable ns (number_label p (cases_record s d h)) (λ e. refl) d))
    ∙ regrouped out (tests_among constant k h.variable ns d) x y (spread q (inside (Switch s d) h) (scatter_aim q h d) c ns d)

-- ---- declarations

pub local_is : (p : Plan) (h : Here) (b c : Aim) (r : Arrivals) (x : ℕ) (es : Option (List ExpressionTree)) →
    local_form p x es ≡ flat_item p h b c r (P.Local x es)
local_is p h b c r x None = refl
local_is p h b c r x (Some es) = refl

-- ---- a section that is made

pub section_made : (es : List Expression) (default : Bool) (a : List Item) (ends : Bool) (d : Sections) →
    before (Real.roll-Section (record { cases = es; default = default; list = a; ends = ends })) d ≡ P.Section (expression_trees es) default (trees_of a) ends d
section_made es default a ends d = ap (λ (o : Real.Section-F Item Real.Section). P.Section (expression_trees o.cases) o.default (trees_of o.list)
    o.ends d) (Real.out-roll-Section (record { cases = es; default = default; list = a; ends = ends }))
