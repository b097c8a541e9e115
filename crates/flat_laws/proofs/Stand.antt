-- Each label of the source that is named stands in the flat form.
use Rattle.std.proofs.Common.{ℕ, ◌≤◌, Bool, true, false, cond, eqb, not, ◌&&◌, ◌≡◌, refl, sym, ◌∙◌, ap, arith, eqb-true, eq-eqb, true≢false}
use Rattle.c_tree.specs.Everywhere.{total, total_of, total_in, Everywhere, EverywhereOf, EverywhereIn}
use Rattle.c_tree.specs.Exits.{breaks, continues}
use Rattle.c_tree.specs.Trees.{Tree, Forest, Nil, Then, Sections, NoSection, Section, Evaluate, If, While, Do, For, Switch, Block, Local, Goto, Mark, join}
use Rattle.jump_meaning.specs.Step.{switch_kind}
use Rattle.flat_laws.specs.Pieces.{Aim, mark_of, Names, tests_among, case_marks}
use Rattle.flat_laws.specs.Placed.{places, places_among}
use Rattle.flat_laws.specs.Loose.{Arrivals, NoArrival, Arrives}
use Rattle.flat_laws.specs.Parts.{is_scattered, leaves, holds_jump, Here, past, past_item, inside, Ending, Gone, Breaks, Jumps, Otherwise, later, gone_or, if_jumps, ending, ending_of, last_ending, is_gone, kept_breaks}
use Rattle.flat_laws.specs.FlatForm.{Plan, names_of, scatter_aim, otherwise_label, aim, end_goto, is_jumpy_switch, mark_if, dissolved, if_breaks, flat_for, flat, flat_item, flat_last, flat_last_item, flat_sections, spread}
use Rattle.flat_laws.specs.Source.{mark_bit}
use Rattle.flat_laws.proofs.Counts.{one_if, places_join, for_places}
use Rattle.flat_laws.specs.FlatMade.{AreFirst}
use Rattle.flat_laws.proofs.LiveGotos.{IsGoodItem}

first_bits : (l : ℕ) (xs : Forest) → AreFirst xs → total (mark_bit l) xs ≡ 0
first_bits l Nil f = refl
first_bits l (Then (Evaluate e) xs) f = let i = first_bits l xs f.1 in omega (arith, i)
first_bits l (Then (Local x es) xs) f = let i = first_bits l xs f.1 in omega (arith, i)
first_bits l (Then x xs) f = absurd f.0

pub switch_stays : (b : Bool) (e : Ending) → cond b (if_jumps e) Otherwise ≡ Gone → ⊥
switch_stays false e h = cc
switch_stays true Gone h = cc
switch_stays true Breaks h = cc
switch_stays true Jumps h = cc
switch_stays true Otherwise h = cc

pub switch_no_break : (b : Bool) (e : Ending) → cond b (if_jumps e) Otherwise ≡ Breaks → ⊥
switch_no_break false e h = cc
switch_no_break true Gone h = cc
switch_no_break true Breaks h = cc
switch_no_break true Jumps h = cc
switch_no_break true Otherwise h = cc

pub later_gone : (e f : Ending) → later e f ≡ Gone → (e ≡ Gone) × (f ≡ Gone)
later_gone Gone f h = (refl, h)
later_gone _ f h = cc

pub later_last : (e f g : Ending) → later e f ≡ g → is_gone e ≡ true → (e ≡ Gone) × (f ≡ g)
later_last Gone f g h q = (refl, h)
later_last _ f g h q = absurd (true≢false (sym q))

pub later_else : (e f g : Ending) → later e f ≡ g → is_gone e ≡ false → e ≡ g
later_else Gone f g h q = absurd (true≢false q)
later_else _ f g h q = h

pub gone_else : (b : Bool) → gone_or b ≡ Gone → b ≡ false
gone_else false e = refl
gone_else true e = cc

pub gone_or_no_break : (b : Bool) → gone_or b ≡ Breaks → ⊥
gone_or_no_break false e = cc
gone_or_no_break true e = cc

either_places : (L m : ℕ) (y : Bool) (a b : Forest) → (y ≡ true → m ≤ places L a) → (y ≡ false → m ≤ places L b) → m ≤ places L (cond y a b)
either_places L m true a b f g = f refl
either_places L m false a b f g = g refl

breaks_places : (L m : ℕ) (e : Ending) (a b : Forest) → (e ≡ Breaks → m ≤ places L a) → m ≤ places L b → m ≤ places L (if_breaks e a b)
breaks_places L m Breaks a b f g = f refl
breaks_places L m _ a b f g = g

module _ (l : ℕ) (p : Plan) (live : p.live l ≡ true) where
  abbrev L : ℕ
  L = p.source l

  mark_places : (m : ℕ) → one_if (eqb l m) ≤ places L (mark_if (p.live m) (p.source m))
  mark_places m = at (eqb l m) refl
    where
      at : (y : Bool) → eqb l m ≡ y → one_if y ≤ places L (mark_if (p.live m) (p.source m))
      at false e = omega arith
      at true e =
          let q = eqb-true l m e in
          let i = ap (λ z. places L (mark_if z (p.source m))) (ap p.live (sym q) ∙ live) in
          let j = ap one_if (eq-eqb L (p.source m) (ap p.source q)) in omega (arith, i, j)

  mark_gone : (m : ℕ) → p.live m ≡ false → one_if (eqb l m) ≡ 0
  mark_gone m g = at (eqb l m) refl
    where
      at : (y : Bool) → eqb l m ≡ y → one_if y ≡ 0
      at false e = refl
      at true e = absurd (true≢false (sym live ∙ ap p.live (eqb-true l m e) ∙ g))

  mutual
    gone_bits : (xs : Forest) → ending p.live xs ≡ Gone → total (mark_bit l) xs ≡ 0
    gone_bits Nil e = refl
    gone_bits (Then x xs) e =
        let g = later_gone (ending p.live xs) (ending_of p.live x) e in
        let i = gone_bits_in x g.1 in
        let j = gone_bits xs g.0 in omega (arith, i, j)

    gone_bits_in : (x : Tree) → ending_of p.live x ≡ Gone → total_of (mark_bit l) x ≡ 0
    gone_bits_in (Local x es) e = refl
    gone_bits_in (Mark m) e = mark_gone m (gone_else (p.live m) e)
    gone_bits_in (Block a) e = let i = gone_bits a e in omega (arith, i)
    gone_bits_in (Switch t d) e = absurd (switch_stays (is_scattered d && not (leaves d)) (last_ending p.live d) e)
    gone_bits_in (If t a b) e = cc
    gone_bits_in (While t a) e = cc
    gone_bits_in (Do a t) e = cc
    gone_bits_in (For f t u a) e = cc
    gone_bits_in x e = refl

  mutual
    pub stands : (xs : Forest) (h : Here) (b c : Aim) (r : Arrivals) → Everywhere (IsGoodItem p.live) xs → total (mark_bit l) xs ≤ places L (flat p h b c r xs)
    stands Nil h b c r g = omega arith
    stands (Then x xs) h b c r g =
        let i = stands_in x h b c r g.0 in
        let j = stands xs (past_item x h) b c r g.1 in
        let k = places_join L (flat_item p h b c r x) (flat p (past_item x h) b c r xs) in omega (arith, i, j, k)

    stands_in : (x : Tree) (h : Here) (b c : Aim) (r : Arrivals) → EverywhereOf (IsGoodItem p.live) x →
        total_of (mark_bit l) x ≤ places L (flat_item p h b c r x)
    stands_in (If t x y) h b c r g = let i = stands x h b c r g.1 in let j = stands y (past x h) b c r g.2 in omega (arith, i, j)
    stands_in (While t a) h b c r g =
        let m = aim (holds_jump p.live a) (breaks a) (p.break_label h.construct) in
        let n = aim (holds_jump p.live a) (continues a) (p.continue_label h.construct) in
        let i = stands a (inside (While t a) h) m n r g.1 in
        let k = places_join L (flat p (inside (While t a) h) m n r a) (mark_of n) in omega (arith, i, k)
    stands_in (Do a t) h b c r g =
        let m = aim (holds_jump p.live a) (breaks a) (p.break_label h.construct) in
        let n = aim (holds_jump p.live a) (continues a) (p.continue_label h.construct) in
        let i = stands a (inside (Do a t) h) m n r g.1 in
        let k = places_join L (flat p (inside (Do a t) h) m n r a) (mark_of n) in omega (arith, i, k)
    stands_in (For first t u a) h b c r g =
        let m = aim (holds_jump p.live a) (breaks a) (p.break_label h.construct) in
        let n = aim (holds_jump p.live a) (continues a) (p.continue_label h.construct) in
        let h' = inside (For first t u a) h in
        let fa = flat p (past first h') m n r a in
        let i = stands a (past first h') m n r g.2 in
        let f = first_bits l first g.0 in
        let j = for_places L (holds_jump p.live a) t u fa m n in
        let k = places_join L (flat p h' b c NoArrival first) (flat_for (holds_jump p.live a) t u fa m n) in omega (arith, i, f, j, k)
    stands_in (Block a) h b c r g = let i = stands a h b c r g.1 in omega (arith, i)
    stands_in (Mark m) h b c r g = mark_places m
    stands_in (Switch s d) h b c r g =
        let h' = inside (Switch s d) h in
        let names = names_of p h (switch_kind s) d in
        let z = scatter_aim p h d in
        let sp = spread p h' z c names d in
        let ts = tests_among p.number (switch_kind s) h.variable names d in
        let y = is_jumpy_switch p c d in
        let b' = aim y (kept_breaks p.live d) (p.break_label h.construct) in
        let i = stands_spread d h' z c names g.1 in
        let j = stands_among d h' y b' c g.1 in
        let k = places_join L ts (Then (Goto (otherwise_label p h d)) sp) in
        either_places L (total_of (mark_bit l) (Switch s d)) (is_scattered d) (dissolved p h s d sp)
        (Then (Switch s (flat_sections p h' y b' c d)) (mark_of b')) (λ e. omega (arith, i, k)) (λ e. omega (arith, j))
    stands_in x h b c r g = omega arith

    stands_among : (d : Sections) (h : Here) (y : Bool) (b c : Aim) → EverywhereIn (IsGoodItem p.live) d →
        total_in (mark_bit l) d ≤ places_among L (flat_sections p h y b c d)
    stands_among NoSection h y b c g = omega arith
    stands_among (Section cases default a ends d) h y b c g =
        let i = breaks_places L (total (mark_bit l) a) (ending p.live a) (flat_last p h b c NoArrival a) (flat p h b c NoArrival a)
        (λ e. stands_last a h b c NoArrival g.0 e) (stands a h b c NoArrival g.0) in
        let j = stands_among d (past a h) y b c g.1 in omega (arith, i, j)

    stands_spread : (d : Sections) (h : Here) (b c : Aim) (names : Names) → EverywhereIn (IsGoodItem p.live) d →
        total_in (mark_bit l) d ≤ places L (spread p h b c names d)
    stands_spread NoSection h b c names g = omega arith
    stands_spread (Section cases default a ends d) h b c names g =
        let fa = flat p h b c (Arrives names) a in
        let sp = spread p (past a h) b c names d in
        let i = stands a h b c (Arrives names) g.0 in
        let j = stands_spread d (past a h) b c names g.1 in
        let k = places_join L (case_marks names cases default) (join fa (join (end_goto ends b) sp)) in
        let m = places_join L fa (join (end_goto ends b) sp) in
        let n = places_join L (end_goto ends b) sp in omega (arith, i, j, k, m, n)

    stands_last : (xs : Forest) (h : Here) (b c : Aim) (r : Arrivals) → Everywhere (IsGoodItem p.live) xs → ending p.live xs ≡ Breaks →
        total (mark_bit l) xs ≤ places L (flat_last p h b c r xs)
    stands_last Nil h b c r g e = omega arith
    stands_last (Then x xs) h b c r g e =
        let A = flat_item p h b c r x in
        let B = flat_last p (past_item x h) b c r xs in
        let i = stands_in x h b c r g.0 in
        let k = places_join L A B in
        either_places L (total (mark_bit l) (Then x xs)) (is_gone (ending p.live xs)) (flat_last_item p h b c r x) (join A B)
        (λ q. let s = later_last (ending p.live xs) (ending_of p.live x) Breaks e q in let m = stands_last_in x h b c r g.0 s.1 in
        let n = gone_bits xs s.0 in omega (arith, m, n))
        (λ q. let n = stands_last xs (past_item x h) b c r g.1 (later_else (ending p.live xs) (ending_of p.live x) Breaks e q) in omega (arith, i, k, n))

    stands_last_in : (x : Tree) (h : Here) (b c : Aim) (r : Arrivals) → EverywhereOf (IsGoodItem p.live) x → ending_of p.live x ≡ Breaks →
        total_of (mark_bit l) x ≤ places L (flat_last_item p h b c r x)
    stands_last_in (Block a) h b c r g e = let i = stands_last a h b c r g.1 e in omega (arith, i)
    stands_last_in (Mark m) h b c r g e = absurd (gone_or_no_break (p.live m) e)
    stands_last_in (Switch t d) h b c r g e = absurd (switch_no_break (is_scattered d && not (leaves d)) (last_ending p.live d) e)
    stands_last_in (If t x y) h b c r g e = cc
    stands_last_in (While t a) h b c r g e = cc
    stands_last_in (Do a t) h b c r g e = cc
    stands_last_in (For f t u a) h b c r g e = cc
    stands_last_in x h b c r g e = omega arith
