-- What holds no jump and no named label holds none in its flat form, where no exit becomes a goto.
use Rattle.std.proofs.Common.{ℕ, zero, suc, ◌+◌, ◌-◌, Bool, true, false, cond, ◌&&◌, ◌||◌, List, [], ◌∷◌, length, Option, Some, None, ◌≡◌, refl, ap, arith, true≢false}
use Rattle.std.proofs.lemmas.Bool.{or_parts}
use Rattle.c_types.specs.declared.kinds.IntKind.{IntKind}
use Rattle.c_tree.specs.ExpressionTrees.{ExpressionTree}
use Rattle.c_tree.specs.Everywhere.{total_in, Everywhere, EverywhereOf, EverywhereIn}
use Rattle.c_tree.specs.Exits.{breaks, breaks_of, breaks_in, continues, continues_of, continues_in}
use Rattle.c_tree.specs.Trees.{Tree, Forest, Nil, Then, Sections, NoSection, Section, Evaluate, Return, If, While, Do, For, Switch, Block, Local, Break, Continue, Goto, Mark, Arm, Leap, Land, Arrival, Note, join}
use Rattle.c_tree.proofs.KeptLemmas.{total-join}
use Rattle.jump_meaning.specs.Code.{entry_or}
use Rattle.jump_meaning.specs.World.{no_slot}
use Rattle.jump_meaning.specs.Step.{switch_kind}
use Rattle.flat_laws.specs.Pieces.{Aim, Stays, Becomes, Absent, mark_of, third_items, assigned_cells}
use Rattle.flat_laws.specs.Loose.{Arrivals, NoArrival}
use Rattle.flat_laws.specs.Parts.{is_some_number, is_scattered, holds_jump, holds_jump_in, holds_jump_among, Here, past, past_item, inside, Ending, Breaks, ending, is_gone, kept_breaks}
use Rattle.flat_laws.specs.FlatForm.{Plan, names_of, scatter_aim, aim, exit, is_moved, is_jumpy_switch, assigned, mark_if, dissolved, if_breaks, flat_for, flat, flat_item, flat_last, flat_last_item, flat_sections, spread}
use Rattle.flat_laws.specs.FlatMade.{hop_of, hops, AreFirst}
use Rattle.flat_laws.proofs.LiveGotos.{IsGoodItem}

-- exits that stay, or none
abbrev pub IsSilent : Aim → ℕ → Type 0
IsSilent Stays n = Unit {0}
IsSilent _ n = n ≡ 0

silent_left : (b : Aim) (m n : ℕ) → IsSilent b (m + n) → IsSilent b m
silent_left Stays m n h = tt
silent_left _ m n h = omega (arith, h)

silent_right : (b : Aim) (m n : ℕ) → IsSilent b (m + n) → IsSilent b n
silent_right Stays m n h = tt
silent_right _ m n h = omega (arith, h)

pub silent_aim : (y : Bool) (n l m : ℕ) → y ≡ false → IsSilent (aim y n l) m
silent_aim true n l m e = absurd (true≢false e)
silent_aim false n l m e = tt

pub aim_hops : (y : Bool) (n l : ℕ) → y ≡ false → hops (mark_of (aim y n l)) ≡ 0
aim_hops true n l e = absurd (true≢false e)
aim_hops false n l e = refl

-- a switch is jumpy by what it holds, or by its continues
calm : (x : Bool) (c : Aim) (n : ℕ) → x ≡ false → IsSilent c n → (x || (is_moved c && is_some_number n)) ≡ false
calm true c n e h = e
calm false Stays n e h = refl
calm false _ n e h = ap is_some_number h

pub some_number : (n : ℕ) → is_some_number n ≡ false → n ≡ 0
some_number zero e = refl
some_number (suc n) e = absurd (true≢false e)

pub calm_back : (x : Bool) (c : Aim) (n : ℕ) → (x || (is_moved c && is_some_number n)) ≡ false → (x ≡ false) × IsSilent c n
calm_back true c n e = absurd (true≢false e)
calm_back false Stays n e = (refl, tt)
calm_back false _ n e = (refl, some_number n e)

third_hops : (u : Option ExpressionTree) → hops (third_items u) ≡ 0
third_hops None = refl
third_hops (Some e) = refl

cells_hops : (k : IntKind) (x i : ℕ) (es : List ExpressionTree) (m : ℕ) → hops (assigned_cells k x i es m) ≡ 0
cells_hops k x i (e ∷ es) m = let h = cells_hops k x (suc i) es m in omega (arith, h)
cells_hops k x i [] zero = refl
cells_hops k x i [] (suc m) = let h = cells_hops k x (suc i) [] m in omega (arith, h)

assigned_hops : (k : IntKind) (x : ℕ) (o : Option ℕ) (es : List ExpressionTree) → hops (assigned k x o es) ≡ 0
assigned_hops k x None [] = refl
assigned_hops k x None (e ∷ es) = refl
assigned_hops k x (Some n) es = cells_hops k x 0 es (n - length es)

for_hops : (y : Bool) (t u : Option ExpressionTree) (a : Forest) (b c : Aim) → hops (flat_for y t u a b c) ≡ hops a + hops (mark_of c) + hops (mark_of b)
for_hops true t u a b c =
    let h = total-join hop_of a (join (mark_of c) (third_items u)) in
    let i = total-join hop_of (mark_of c) (third_items u) in
    let j = third_hops u in omega (arith, h, i, j)
for_hops false t u a b c = let h = total-join hop_of a (mark_of c) in omega (arith, h)

if_hops : (y : Bool) (a b : Forest) → y ≡ false → hops b ≡ 0 → hops (cond y a b) ≡ 0
if_hops true a b e h = absurd (true≢false e)
if_hops false a b e h = h

either_hops : (y : Bool) (a b : Forest) → hops a ≡ 0 → hops b ≡ 0 → hops (cond y a b) ≡ 0
either_hops true a b h k = h
either_hops false a b h k = k

breaks_hops : (e : Ending) (a b : Forest) → hops a ≡ 0 → hops b ≡ 0 → hops (if_breaks e a b) ≡ 0
breaks_hops Breaks a b h k = h
breaks_hops _ a b h k = k

exit_break : (b : Aim) → IsSilent b 1 → hops (exit b Break) ≡ 0
exit_break Stays h = refl
exit_break (Becomes l) h = absurd (omega (arith, h))
exit_break Absent h = refl

exit_continue : (b : Aim) → IsSilent b 1 → hops (exit b Continue) ≡ 0
exit_continue Stays h = refl
exit_continue (Becomes l) h = absurd (omega (arith, h))
exit_continue Absent h = refl

mark_hops : (y : Bool) (l : ℕ) → y ≡ false → hops (mark_if y l) ≡ 0
mark_hops true l e = absurd (true≢false e)
mark_hops false l e = refl

module _ (p : Plan) where
  first_hops : (xs : Forest) (h : Here) (b c : Aim) (r : Arrivals) → AreFirst xs → hops (flat p h b c r xs) ≡ 0
  first_hops Nil h b c r f = refl
  first_hops (Then (Evaluate e) xs) h b c r f = let i = first_hops xs (past_item (Evaluate e) h) b c r f.1 in omega (arith, i)
  first_hops (Then (Local x None) xs) h b c r f = first_hops xs (past_item (Local x None) h) b c r f.1
  first_hops (Then (Local x (Some es)) xs) h b c r f =
      let k = (entry_or no_slot p.slots x).kind in
      let o = (entry_or no_slot p.slots x).cells in
      let i = first_hops xs (past_item (Local x (Some es)) h) b c r f.1 in
      let j = assigned_hops k x o es in
      let l = total-join hop_of (assigned k x o es) (flat p (past_item (Local x (Some es)) h) b c r xs) in omega (arith, i, j, l)
  first_hops (Then x xs) h b c r f = absurd f.0

  loop_hops : (y : Bool) (a : Forest) (m n k l : ℕ) → y ≡ false → hops a ≡ 0 → hops (join a (mark_of (aim y n l))) + hops (mark_of (aim y m k)) ≡ 0
  loop_hops y a m n k l e h =
      let i = total-join hop_of a (mark_of (aim y n l)) in
      let j = aim_hops y n l e in
      let o = aim_hops y m k e in omega (arith, h, i, j, o)

  mutual
    pub no_hops : (xs : Forest) (h : Here) (b c : Aim) (r : Arrivals) → Everywhere (IsGoodItem p.live) xs → holds_jump p.live xs ≡ false →
        IsSilent b (breaks xs) → IsSilent c (continues xs) → hops (flat p h b c r xs) ≡ 0
    no_hops Nil h b c r g e m n = refl
    no_hops (Then x xs) h b c r g e m n =
        let q = or_parts (holds_jump_in p.live x) (holds_jump p.live xs) e in
        let i = no_hops_in x h b c r g.0 q.0 (silent_left b (breaks_of x) (breaks xs) m) (silent_left c (continues_of x) (continues xs) n) in
        let j = no_hops xs (past_item x h) b c r g.1 q.1 (silent_right b (breaks_of x) (breaks xs) m) (silent_right c (continues_of x) (continues xs) n) in
        let k = total-join hop_of (flat_item p h b c r x) (flat p (past_item x h) b c r xs) in omega (arith, i, j, k)

    no_hops_in : (x : Tree) (h : Here) (b c : Aim) (r : Arrivals) → EverywhereOf (IsGoodItem p.live) x → holds_jump_in p.live x ≡ false →
        IsSilent b (breaks_of x) → IsSilent c (continues_of x) → hops (flat_item p h b c r x) ≡ 0
    no_hops_in (If t x y) h b c r g e m n =
        let q = or_parts (holds_jump p.live x) (holds_jump p.live y) e in
        let i = no_hops x h b c r g.1 q.0 (silent_left b (breaks x) (breaks y) m) (silent_left c (continues x) (continues y) n) in
        let j = no_hops y (past x h) b c r g.2 q.1 (silent_right b (breaks x) (breaks y) m) (silent_right c (continues x) (continues y) n) in
        omega (arith, i, j)
    no_hops_in (While t a) h b c r g e m n =
        let y = holds_jump p.live a in
        let k = p.break_label h.construct in
        let l = p.continue_label h.construct in
        let b' = aim y (breaks a) k in
        let c' = aim y (continues a) l in
        let i = no_hops a (inside (While t a) h) b' c' r g.1 e (silent_aim y (breaks a) k (breaks a) e) (silent_aim y (continues a) l (continues a) e) in
        let j = loop_hops y (flat p (inside (While t a) h) b' c' r a) (breaks a) (continues a) k l e i in omega (arith, j)
    no_hops_in (Do a t) h b c r g e m n =
        let y = holds_jump p.live a in
        let k = p.break_label h.construct in
        let l = p.continue_label h.construct in
        let b' = aim y (breaks a) k in
        let c' = aim y (continues a) l in
        let i = no_hops a (inside (Do a t) h) b' c' r g.1 e (silent_aim y (breaks a) k (breaks a) e) (silent_aim y (continues a) l (continues a) e) in
        let j = loop_hops y (flat p (inside (Do a t) h) b' c' r a) (breaks a) (continues a) k l e i in omega (arith, j)
    no_hops_in (For first t u a) h b c r g e m n =
        let y = holds_jump p.live a in
        let k = p.break_label h.construct in
        let l = p.continue_label h.construct in
        let b' = aim y (breaks a) k in
        let c' = aim y (continues a) l in
        let h' = inside (For first t u a) h in
        let fa = flat p (past first h') b' c' r a in
        let i = no_hops a (past first h') b' c' r g.2 e (silent_aim y (breaks a) k (breaks a) e) (silent_aim y (continues a) l (continues a) e) in
        let j = first_hops first h' b c NoArrival g.0 in
        let o = total-join hop_of (flat p h' b c NoArrival first) (flat_for y t u fa b' c') in
        let q = for_hops y t u fa b' c' in
        let v = aim_hops y (breaks a) k e in
        let w = aim_hops y (continues a) l e in omega (arith, i, j, o, q, v, w)
    no_hops_in (Block a) h b c r g e m n = no_hops a h b c r g.1 e m n
    no_hops_in (Local x None) h b c r g e m n = refl
    no_hops_in (Local x (Some es)) h b c r g e m n = assigned_hops (entry_or no_slot p.slots x).kind x (entry_or no_slot p.slots x).cells es
    no_hops_in Break h b c r g e m n = exit_break b m
    no_hops_in Continue h b c r g e m n = exit_continue c n
    no_hops_in (Goto l) h b c r g e m n = absurd (true≢false e)
    no_hops_in (Mark l) h b c r g e m n = mark_hops (p.live l) (p.source l) e
    no_hops_in (Arrival x) h b c r g e m n = absurd (true≢false e)
    no_hops_in (Switch s d) h b c r g e m n =
        let q = or_parts (is_scattered d) (holds_jump_among p.live d) e in
        let h' = inside (Switch s d) h in
        let y = is_jumpy_switch p c d in
        let z = calm (holds_jump_among p.live d) c (continues_in d) q.1 n in
        let k = p.break_label h.construct in
        let b' = aim y (kept_breaks p.live d) k in
        let i = no_hops_among d h' y b' c g.1 q.1 (silent_aim y (kept_breaks p.live d) k (breaks_in d) z) n in
        let j = aim_hops y (kept_breaks p.live d) k z in
        if_hops (is_scattered d) (dissolved p h s d (spread p h' (scatter_aim p h d) c (names_of p h (switch_kind s) d) d))
        (Then (Switch s (flat_sections p h' y b' c d)) (mark_of b')) q.0 (omega (arith, i, j))
    no_hops_in (Evaluate x) h b c r g e m n = refl
    no_hops_in (Return x) h b c r g e m n = refl
    no_hops_in (Arm l x) h b c r g e m n = refl
    no_hops_in (Leap l) h b c r g e m n = absurd g
    no_hops_in (Land l) h b c r g e m n = absurd g
    no_hops_in (Note bs) h b c r g e m n = refl

    pub no_hops_among : (d : Sections) (h : Here) (y : Bool) (b c : Aim) → EverywhereIn (IsGoodItem p.live) d → holds_jump_among p.live d ≡ false →
        IsSilent b (breaks_in d) → IsSilent c (continues_in d) → total_in hop_of (flat_sections p h y b c d) ≡ 0
    no_hops_among NoSection h y b c g e m n = refl
    no_hops_among (Section cases default a ends d) h y b c g e m n =
        let q = or_parts (holds_jump p.live a) (holds_jump_among p.live d) e in
        let m' = silent_left b (breaks a) (breaks_in d) m in
        let n' = silent_left c (continues a) (continues_in d) n in
        let i = no_hops_last a h b c NoArrival g.0 q.0 m' n' in
        let j = no_hops a h b c NoArrival g.0 q.0 m' n' in
        let k = breaks_hops (ending p.live a) (flat_last p h b c NoArrival a) (flat p h b c NoArrival a) i j in
        let l = no_hops_among d (past a h) y b c g.1 q.1 (silent_right b (breaks a) (breaks_in d) m)
        (silent_right c (continues a) (continues_in d) n) in omega (arith, k, l)

    no_hops_last : (xs : Forest) (h : Here) (b c : Aim) (r : Arrivals) → Everywhere (IsGoodItem p.live) xs → holds_jump p.live xs ≡ false →
        IsSilent b (breaks xs) → IsSilent c (continues xs) → hops (flat_last p h b c r xs) ≡ 0
    no_hops_last Nil h b c r g e m n = refl
    no_hops_last (Then x xs) h b c r g e m n =
        let q = or_parts (holds_jump_in p.live x) (holds_jump p.live xs) e in
        let m' = silent_left b (breaks_of x) (breaks xs) m in
        let n' = silent_left c (continues_of x) (continues xs) n in
        let i = no_hops_in x h b c r g.0 q.0 m' n' in
        let j = no_hops_last xs (past_item x h) b c r g.1 q.1 (silent_right b (breaks_of x) (breaks xs) m) (silent_right c (continues_of x) (continues xs) n) in
        let k = total-join hop_of (flat_item p h b c r x) (flat_last p (past_item x h) b c r xs) in
        either_hops (is_gone (ending p.live xs)) (flat_last_item p h b c r x) (join (flat_item p h b c r x) (flat_last p (past_item x h) b c r xs))
        (no_hops_last_item x h b c r g.0 q.0 m' n') (omega (arith, i, j, k))

    no_hops_last_item : (x : Tree) (h : Here) (b c : Aim) (r : Arrivals) → EverywhereOf (IsGoodItem p.live) x → holds_jump_in p.live x ≡ false →
        IsSilent b (breaks_of x) → IsSilent c (continues_of x) → hops (flat_last_item p h b c r x) ≡ 0
    no_hops_last_item (Block a) h b c r g e m n = no_hops_last a h b c r g.1 e m n
    no_hops_last_item x h b c r g e m n = refl
