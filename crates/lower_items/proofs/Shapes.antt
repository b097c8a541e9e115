-- What is written for each kind of item is what the definition has for it.
use Rattle.std.proofs.Common.{◌≡◌, ℕ, ◌+◌, ◌*◌, Bool, true, Option, Some, None, refl, sym, ap, ◌∙◌}
use Rattle.std.proofs.Math.Path.{fun_ext}
use Rattle.c_types.specs.declared.kinds.IntKind.{IntKind}
use Rattle.c_tree.specs.Cases.{case_number, selector_source}
use Rattle.c_tree.specs.Changed.{one}
use Rattle.c_tree.specs.Numerals.{constant}
use Rattle.c_tree.specs.ExpressionTrees.{ExpressionTree}
use Rattle.c_tree.specs.TestTrees.{TestTree, Source, SelectorTree}
use Rattle.c_tree.specs.Trees.{Tree, Forest, Nil, Then, Sections, Evaluate, If, While, Do, For, Switch, Goto, Mark, join}
use Rattle.jump_meaning.specs.Step.{switch_kind}
use Rattle.flat_laws.specs.Pieces.{Aim, Names, mark_of, third_items, assign_number, tests_among}
use Rattle.flat_laws.specs.Loose.{Arrivals, NoArrival, Arrives}
use Rattle.flat_laws.specs.Parts.{Here}
use Rattle.flat_laws.specs.FlatForm.{names_of}
use Rattle.lower_laws.specs.Straight.{jump_if}
use Rattle.lower_laws.specs.Lowered.{Layout, past, inside, jump_of, lowered, lowered_if, lowered_for, for_aim, continue_aim, break_aim, lowered_item, lowered_among}
use Rattle.flat_items.proofs.Joining.{joined}
use Rattle.flat_items.proofs.Tests.{tests_are}
use Rattle.flat_items.specs.Plans.{arrivals_if}
use Rattle.lower_items.specs.declared.plans.Plan as L
use Rattle.lower_items.specs.declared.plans.Cases as C
use Rattle.lower_items.specs.declared.plans.Labels.{Labels}
use Rattle.lower_items.specs.Plans.{layout_of, labels_at, entered_at, number_label, case_names}
use Rattle.lower_items.specs.Loops.{Frame, framed, while_frame, do_frame, for_frame}
use Rattle.lower_items.specs.Choices.{AreCases, label_of, breaks_of, otherwise_of, choice_form}
use Rattle.lower_items.specs.Forms.{then_part}

-- ---- parts, one after another

pub closed_is : (n c b out one_out two_out last : Forest) → one_out ≡ join out n → two_out ≡ join one_out c → last ≡ join two_out b
    → last ≡ join out (join n (join c b))
closed_is n c b out one_out two_out last e1 e2 e3 =
    e3 ∙ ap (λ z. join z b) (e2 ∙ ap (λ z. join z c) e1) ∙ joined (join out n) c b ∙ joined out n (join c b)

pub then_joined : (out a : Forest) (g m e : Tree) (one_out two_out last : Forest) → one_out ≡ join out (Then g (one m)) → two_out ≡ join one_out a →
    last ≡ join two_out (one e)
    → last ≡ join out (Then g (Then m (join a (one e))))
then_joined out a g m e one_out two_out last e1 e2 e3 =
    e3 ∙ ap (λ z. join z (one e)) (e2 ∙ ap (λ z. join z a) e1)
    ∙ joined (join out (Then g (one m))) a (one e) ∙ joined out (Then g (one m)) (join a (one e))

pub frame_equal : {o o' c c' : Forest} {n n' b b' d d' : Aim} → o ≡ o' → n ≡ n' → c ≡ c' → b ≡ b' → d ≡ d' →
    (let f : Frame = record { opening = o; next = n; closing = c; breaks = b; continues = d } in
    f) ≡ record { opening = o'; next = n'; closing = c'; breaks = b'; continues = d' }
frame_equal a b c d e = cc

pub parts_joined : (out m l e one_out two_out last : Forest) → one_out ≡ join out m → two_out ≡ join one_out l → last ≡ join two_out e →
    last ≡ join out (join m (join l e))
parts_joined out m l e one_out two_out last e1 e2 e3 =
    e3 ∙ ap (λ z. join z e) (e2 ∙ ap (λ z. join z l) e1) ∙ joined (join out m) l e ∙ joined out m (join l e)

-- a list whose Arrivals are bound to a switch
pub bound_is : (p : Layout) (h : Here) (b c : Aim) (names : Names) (a out last : Forest) (bound : Bool) → bound ≡ true →
    last ≡ join out (lowered p h b c (arrivals_if bound names) a)
    → last ≡ join out (lowered p h b c (Arrives names) a)
bound_is p h b c names a out last bound e f = f ∙ ap (λ z. join out (lowered p h b c (arrivals_if z names) a)) e

-- ---- loops

pub while_is : (q : L.Plan) (h : Here) (b c : Aim) (r : Arrivals) (t : TestTree) (a : Forest)
    → framed (while_frame h.construct t) (lowered (layout_of q) (entered_at h 0 0) (while_frame h.construct t).breaks
    (while_frame h.construct t).continues r a) ≡ lowered_item (layout_of q) h b c r (While t a)
while_is q h b c r t a = refl

do_joined : (a mc j mb : Forest) → join a (join mc (join j mb)) ≡ join (join (join a mc) j) mb
do_joined a mc j mb = sym (joined (join a mc) j mb ∙ joined a mc (join j mb))

pub do_is : (q : L.Plan) (h : Here) (b c : Aim) (r : Arrivals) (t : TestTree) (a : Forest)
    → framed (do_frame h.construct a t) (lowered (layout_of q) (entered_at h 0 0) (do_frame h.construct a t).breaks
    (do_frame h.construct a t).continues r a) ≡ lowered_item (layout_of q) h b c r (Do a t)
do_is q h b c r t a =
    let f = do_frame h.construct a t in
    ap (Then (Mark (7 * h.construct + 6))) (do_joined (lowered (layout_of q) (entered_at h 0 0) f.breaks f.continues r a) (mark_of f.next)
    (one (jump_if t (7 * h.construct + 6))) (mark_of f.breaks))

for_joined : (a mc u j mb : Forest) → join a (join mc (join (join u j) mb)) ≡ join (join a (join mc u)) (join j mb)
for_joined a mc u j mb = ap (λ z. join a (join mc z)) (joined u j mb) ∙ sym (joined a (join mc u) (join j mb) ∙ ap (join a) (joined mc u (join j mb)))

pub for_is : (q : L.Plan) (h : Here) (t u : Option ExpressionTree) (a x : Forest)
    → framed (for_frame h.construct t u a) x ≡ lowered_for (layout_of q) h t u x (for_aim (layout_of q) h t a) (continue_aim (layout_of q) h a)
for_is q h (Some t) u a x =
    let k = h.construct in
    ap (λ z. Then (Mark (7 * k + 5)) (Then (jump_if (Source t) (7 * k + 6)) (Then (Goto (7 * k + 1)) (Then (Mark (7 * k + 6)) z))))
    (for_joined x (mark_of (continue_aim (layout_of q) h a)) (third_items u) (one (Goto (7 * k + 5))) (one (Mark (7 * k + 1))))
for_is q h None u a x =
    let k = h.construct in
    let w = join x (join (mark_of (continue_aim (layout_of q) h a)) (third_items u)) in
    ap (Then (Mark (7 * k + 5)))
    (for_joined x (mark_of (continue_aim (layout_of q) h a)) (third_items u) (one (Goto (7 * k + 5))) (mark_of (break_aim (layout_of q) h a)) ∙
    sym (joined w (one (Goto (7 * k + 5))) (mark_of (break_aim (layout_of q) h a))))

pub for_breaks_are : (q : L.Plan) (h : Here) (t u : Option ExpressionTree) (a : Forest) → (for_frame h.construct t u a).breaks ≡ for_aim (layout_of q) h t a
for_breaks_are q h (Some t) u a = refl
for_breaks_are q h None u a = refl

-- a `for`, whose first part is there: w is what stands around its list
pub for_item : (q : L.Plan) (h : Here) (b c : Aim) (r : Arrivals) (first : Forest) (t u : Option ExpressionTree) (a out one_out last : Forest)
    (s k : Here) (w : Frame)
    → s ≡ entered_at h 0 0 → k ≡ past first s → w ≡ for_frame h.construct t u a
    → one_out ≡ join out (lowered (layout_of q) s b c NoArrival first) → last ≡ join one_out (framed w (lowered (layout_of q) k w.breaks w.continues r a))
    → last ≡ join out (lowered_item (layout_of q) h b c r (For first t u a))
for_item q h b c r first t u a out one_out last s k w start place frame e1 e2 =
    let p = layout_of q in
    let i = past first (entered_at h 0 0) in
    let v = for_frame h.construct t u a in
    let x = lowered p (entered_at h 0 0) b c NoArrival first in
    let y = framed w (lowered p k w.breaks w.continues r a) in
    e2 ∙ ap (λ z. join z y) (e1 ∙ ap (λ g. join out (lowered p g b c NoArrival first)) start) ∙ joined out x y
    ∙ ap (λ g. join out (join x (framed w (lowered p g w.breaks w.continues r a)))) (place ∙ ap (past first) start)
    ∙ ap (λ (z : Frame). join out (join x (framed z (lowered p i z.breaks z.continues r a)))) frame
    ∙ ap (λ z. join out (join x z)) (for_is q h t u a (lowered p i v.breaks v.continues r a))
    ∙ ap (λ z. join out (join x (lowered_for p h t u (lowered p i z (continue_aim p h a) r a) (for_aim p h t a) (continue_aim p h a))))
    (for_breaks_are q h t u a)

-- ---- an `if`

-- both lists of an `if` with these labels, behind its test
abbrev pub both_lists : Layout → Labels → Here → Aim → Aim → Arrivals → Forest → Forest → Forest
both_lists p n h b c r x y = join (lowered p (past x h) b c r y) (then_part n (lowered p h b c r x))

pub if_is : (q : L.Plan) (h : Here) (b c : Aim) (r : Arrivals) (t : TestTree) (x y out one_out last : Forest) (s : Here) (n : Labels)
    → jump_of (layout_of q).plan.live x y ≡ None
    → one_out ≡ join out (one (jump_if t (7 * h.construct + 6))) → s ≡ entered_at h 0 0 → n ≡ labels_at h.construct
    → last ≡ join one_out (both_lists (layout_of q) n s b c r x y)
    → last ≡ join out (lowered_item (layout_of q) h b c r (If t x y))
if_is q h b c r t x y out one_out last s n none first start labels second =
    let p = layout_of q in
    let i = jump_if t (7 * h.construct + 6) in
    let k = both_lists p (labels_at h.construct) (entered_at h 0 0) b c r x y in
    second ∙ ap (λ g. join one_out (both_lists p n g b c r x y)) start ∙ ap (λ m. join one_out (both_lists p m (entered_at h 0 0) b c r x y)) labels
    ∙ ap (λ z. join z k) first ∙ joined out (one i) k
    ∙ sym (ap (λ z. join out (lowered_if p h t z (lowered p (entered_at h 0 0) b c r x) (lowered p (past x (entered_at h 0 0)) b c r y))) none)

pub both_joined : (p : Layout) (n : Labels) (s k : Here) (b c : Aim) (r : Arrivals) (x y none made out two last : Forest)
    → k ≡ past x s → none ≡ Nil → made ≡ join none (lowered p s b c r x) → two ≡ join out (lowered p k b c r y) → last ≡ join two (then_part n made)
    → last ≡ join out (both_lists p n s b c r x y)
both_joined p n s k b c r x y none made out two last e1 e2 e3 e4 e5 =
    let lx = lowered p s b c r x in
    e5 ∙ ap (λ z. join two (then_part n z)) (e3 ∙ ap (λ z. join z lx) e2) ∙ ap (λ z. join z (then_part n lx)) (e4 ∙ ap (λ g. join out (lowered p g b c r y)) e1)
    ∙ joined out (lowered p (past x s) b c r y) (then_part n lx)

pub jump_is : (q : L.Plan) (h : Here) (b c : Aim) (r : Arrivals) (t : TestTree) (x y : Forest) (l : ℕ) →
    jump_of (layout_of q).plan.live x y ≡ Some l → one (jump_if t (7 * l)) ≡ lowered_item (layout_of q) h b c r (If t x y)
jump_is q h b c r t x y l some =
    let p = layout_of q in
    sym (ap (λ z. lowered_if p h t z (lowered p (entered_at h 0 0) b c r x) (lowered p (past x (entered_at h 0 0)) b c r y)) some)

-- ---- a switch

names_are : (q : L.Plan) (cs : C.Cases) (k : IntKind) (d : Sections) (h : Here) → AreCases cs k d h → case_names cs ≡ names_of (layout_of q).plan h k d
names_are q cs k d h a = fun_ext (λ e. at e) where
  at : (e : Option ExpressionTree) → case_names cs e ≡ names_of (layout_of q).plan h k d e
  at None = a.default
  at (Some e) = ap (λ j. number_label cs (case_number j e)) a.kind ∙ a.labels (case_number k e)

regrouped : (out t : Forest) (x y : Tree) (s : Forest) → join (join out (Then x (join t (one y)))) s ≡ join out (Then x (join t (Then y s)))
regrouped out t x y s = joined out (Then x (join t (one y))) s ∙ ap (λ z. join out (Then x z)) (joined t (one y) s)

pub switch_is : (q : L.Plan) (h : Here) (b c : Aim) (r : Arrivals) (s : SelectorTree) (d : Sections) (cs : C.Cases) (out one_out last : Forest)
    → AreCases cs (switch_kind s) d h
    → one_out ≡ join out (choice_form s d h)
    → last ≡ join one_out (lowered_among (layout_of q) (inside (Switch s d) h) (breaks_of d h.construct) c (case_names cs) d)
    → last ≡ join out (lowered_item (layout_of q) h b c r (Switch s d))
switch_is q h b c r s d cs out one_out last a first second =
    let p = layout_of q in
    let k = switch_kind s in
    let x = Evaluate (assign_number k h.variable (selector_source s)) in
    let y = Goto (otherwise_of d h.construct) in
    let ns = names_of p.plan h k d in
    second ∙ ap (λ z. join z (lowered_among p (inside (Switch s d) h) (breaks_of d h.construct) c (case_names cs) d)) first
    ∙ ap (λ n. join (join out (choice_form s d h)) (lowered_among p (inside (Switch s d) h) (breaks_of d h.construct) c n d)) (names_are q cs k d h a)
    ∙ ap (λ z. join (join out (Then x (join z (one y)))) (lowered_among p (inside (Switch s d) h) (breaks_of d h.construct) c ns d))
    (sym (tests_are k h.variable ns (label_of k d h) (λ e. refl) d))
    ∙ regrouped out (tests_among constant k h.variable ns d) x y (lowered_among p (inside (Switch s d) h) (breaks_of d h.construct) c ns d)
