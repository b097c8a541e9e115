-- The calls of a program and of a looser one: what each slot of each call has in common, how calls begin and end.
use mathlib.Core.Path.{ap₂}
use Rattle.std.proofs.Common.{ℕ, zero, suc, pred, ◌≤◌, ◌<◌, ◌+◌, ◌-◌, ℤ, pos, Bool, true, false, cond, eqb, nat_lt, List, [], ◌∷◌, length, Result, Ok, Err, ◌≡◌, refl, sym, ◌∙◌, ap, subst, arith, eqb-true, eq-eqb, ltb-true, le-ltb}
use Rattle.std.specs.Option.{option_map_or}
use Rattle.c_types.specs.declared.trap.Trap.{Trap}
use Rattle.c_tree.specs.declared.tree.Slot.{Slot}
use Rattle.jump_meaning.specs.Values.{Owner, OfFile, OfCall, Variable, Holds, Lent, Value, Integer, Designates, Lends, Missing}
use Rattle.jump_meaning.specs.Code.{FunctionTree, Code, entry_or, cell_count, cells_of}
use Rattle.jump_meaning.specs.World.{World, with_number, with_zeros, no_slot, zeros, parameter, slot_at_start, put_call, enter_call, push, pop, most_calls, most_cells}
use Rattle.jump_meaning.proofs.Memory.{chosen}
use Rattle.flat_laws.specs.Loose.{slot_of, ExtendSlots, LooserFunction, lf_same, lf_looser, LooserCode}
use Rattle.flat_laws.proofs.Worlds.{over, call_of, Seen, RefersTo, Refers, RefersAll, Alike, seen_more}

-- a variable of its own, with the kind and the cells of the slot
abbrev pub HasShape : Slot → Variable → Type 0
HasShape t (Holds k n cells) = (k ≡ t.kind) × (n ≡ t.cells)
HasShape t (Lent o) = ⊥

-- a slot of both
abbrev pub opens_of : {f h : FunctionTree} → LooserFunction f h → ℕ → Bool
opens_of (lf_same e) x = true
opens_of (lf_looser l) x = nat_lt x (length l.setting.old)

abbrev pub IsShapedFor : {f h : FunctionTree} → LooserFunction f h → ℕ → Variable → Type 0
IsShapedFor (lf_same e) x v = Unit {0}
IsShapedFor (lf_looser l) x v = l.setting.params ≤ x → HasShape (slot_of l.setting x) v

number_shape : (t : Slot) (i : ℕ) (z : ℤ) (v : Variable) → HasShape t v → HasShape t (with_number i z v)
number_shape t i z (Holds k n cells) h = h
number_shape t i z (Lent o) h = h

zeros_shape : (t : Slot) (i : ℕ) (v : Variable) → HasShape t v → HasShape t (with_zeros i v)
zeros_shape t i (Holds k n cells) h = h
zeros_shape t i (Lent o) h = h

-- ---- faces

cells_extend : (ss ts : List Slot) → ExtendSlots ss ts → cells_of ss ≡ cells_of ts
cells_extend [] [] h = refl
cells_extend [] (t ∷ ts) h = let i = cells_extend [] ts h.1 in let e : cell_count t ≡ 0 = ap (λ c. option_map_or (λ n. n) c 0) h.0 in omega (arith, i, e)
cells_extend (s ∷ ss) [] h = absurd h
cells_extend (s ∷ ss) (t ∷ ts) h = ap₂ (λ c n. option_map_or (λ n. n) c 0 + n) h.1 (cells_extend ss ts h.2)

pub same_cells : {f h : FunctionTree} → LooserFunction f h → cells_of f.slots ≡ cells_of h.slots
same_cells (lf_same e) = ap (λ f. cells_of f.slots) e
same_cells {f} {h} (lf_looser l) = cells_extend f.slots h.slots l.slots

pub same_result : {f h : FunctionTree} → LooserFunction f h → f.result ≡ h.result
same_result (lf_same e) = ap (λ f. f.result) e
same_result (lf_looser l) = l.result

-- a slot of both has the same kind and cells
entry_extend : (ss ts : List Slot) (x : ℕ) → ExtendSlots ss ts → x < length ss →
    ((entry_or no_slot ss x).kind ≡ (entry_or no_slot ts x).kind) × ((entry_or no_slot ss x).cells ≡ (entry_or no_slot ts x).cells)
entry_extend [] ts x h b = absurd (omega (arith, b))
entry_extend (s ∷ ss) [] x h b = absurd h
entry_extend (s ∷ ss) (t ∷ ts) zero h b = (h.0, h.1)
entry_extend (s ∷ ss) (t ∷ ts) (suc x) h b = entry_extend ss ts x h.2 (omega (arith, b))

parameter_as : (s t : Slot) (v : Value) → s.kind ≡ t.kind → s.cells ≡ t.cells → parameter s v ≡ parameter t v
parameter_as s t v e c = ap₂ (λ k n. parameter (record { name = []; kind = k; cells = n; constant = false }) v) e c

zeros_as : (s t : Slot) → s.kind ≡ t.kind → s.cells ≡ t.cells → zeros s ≡ zeros t
zeros_as s t e c = ap₂ (λ k n. Holds k n (λ i. pos 0)) e c

start_alike : {f h : FunctionTree} (l : LooserFunction f h) (vs : List Value) (x : ℕ) → opens_of l x ≡ true → slot_at_start f vs x ≡ slot_at_start h vs x
start_alike (lf_same e) vs x o = ap (λ f. slot_at_start f vs x) e
start_alike {f} {h} (lf_looser l) vs x o =
    let b : x < length f.slots = subst (λ ss. x < length ss) l.same_old (ltb-true x (length l.setting.old) o) in
    let p = entry_extend f.slots h.slots x l.slots b in
    let s = entry_or no_slot f.slots x in
    let t = entry_or no_slot h.slots x in
    ap (λ n. cond (nat_lt x n) (parameter s (entry_or Missing vs x)) (zeros s)) l.params
    ∙ ap₂ (λ a b. cond (nat_lt x h.params) a b) (parameter_as s t (entry_or Missing vs x) p.0 p.1) (zeros_as s t p.0 p.1)

start_shaped : {f h : FunctionTree} (l : LooserFunction f h) (vs : List Value) (x : ℕ) → IsShapedFor l x (slot_at_start h vs x)
start_shaped (lf_same e) vs x = tt
start_shaped {f} {h} (lf_looser l) vs x = λ b.
    let n : nat_lt x h.params ≡ false = le-ltb x h.params (subst (λ z. z ≤ x) (l.same_params ∙ l.params) b) in
    subst (λ y. HasShape (slot_of l.setting x) (cond y (parameter (entry_or no_slot h.slots x) (entry_or Missing vs x))
    (zeros (entry_or no_slot h.slots x)))) (sym n)
    (subst (λ ss. HasShape (entry_or no_slot ss x) (zeros (entry_or no_slot h.slots x))) (sym l.same_new) (refl, refl))

-- ---- names of calls

module _ (p q : Code) (lo : LooserCode p q) where
  -- of each call that is present, the function
  abbrev pub opens : (ℕ → List ℕ) → ℕ → ℕ → Bool
  opens names c x = opens_of (lo.functions (names c)) x

  abbrev pub Shapes : (ℕ → List ℕ) → ℕ → ℕ → Variable → Type 0
  Shapes names c x v = IsShapedFor (lo.functions (names c)) x v

  abbrev pub AlikeIn : (ℕ → List ℕ) → World → (Owner → Variable) → Type 0
  AlikeIn names w s = Alike (opens names) (Shapes names) w s

  abbrev pub SeenIn : (ℕ → List ℕ) → ℕ → Owner → Type 0
  SeenIn names d o = Seen (opens names) (Shapes names) d o

  abbrev pub RefersIn : (ℕ → List ℕ) → ℕ → Value → Type 0
  RefersIn names d x = Refers (opens names) (Shapes names) d x

  abbrev pub RefersAllIn : (ℕ → List ℕ) → ℕ → List Value → Type 0
  RefersAllIn names d v = RefersAll (opens names) (Shapes names) d v

  pub number_shaped : (names : ℕ → List ℕ) (c x i : ℕ) (z : ℤ) (v : Variable) → Shapes names c x v → Shapes names c x (with_number i z v)
  number_shaped names c x i z v = at (lo.functions (names c))
    where
      at : {f h : FunctionTree} (l : LooserFunction f h) → IsShapedFor l x v → IsShapedFor l x (with_number i z v)
      at (lf_same e) h = tt
      at (lf_looser l) h = λ b. number_shape (slot_of l.setting x) i z v (h b)

  pub zeros_shaped : (names : ℕ → List ℕ) (c x i : ℕ) (v : Variable) → Shapes names c x v → Shapes names c x (with_zeros i v)
  zeros_shaped names c x i v = at (lo.functions (names c))
    where
      at : {f h : FunctionTree} (l : LooserFunction f h) → IsShapedFor l x v → IsShapedFor l x (with_zeros i v)
      at (lf_same e) h = tt
      at (lf_looser l) h = λ b. zeros_shape (slot_of l.setting x) i v (h b)

  -- ---- a call begins

  -- call d is one of m
  abbrev pub calling : ℕ → List ℕ → (ℕ → List ℕ) → ℕ → List ℕ
  calling d m names c = cond (eqb d c) m (names c)

  earlier : (c d : ℕ) → c ≤ d → eqb (suc d) c ≡ false
  earlier c d h = at (eqb (suc d) c) refl
    where
      at : (b : Bool) → eqb (suc d) c ≡ b → b ≡ false
      at true e = let i : suc d ≡ c = eqb-true (suc d) c e in absurd (omega (arith, h, i))
      at false e = refl

  pub calling_here : (d : ℕ) (m : List ℕ) (names : ℕ → List ℕ) → calling d m names d ≡ m
  calling_here d m names = ap (λ b. cond b m (names d)) (eq-eqb d d refl)

  pub calling_earlier : (c d : ℕ) (m : List ℕ) (names : ℕ → List ℕ) → c ≤ d → calling (suc d) m names c ≡ names c
  calling_earlier c d m names h = ap (λ b. cond b m (names c)) (earlier c d h)

  module _ (m : List ℕ) (names : ℕ → List ℕ) (d : ℕ) where
    abbrev names' : ℕ → List ℕ
    names' = calling (suc d) m names

    pub seen_kept : (c : ℕ) (o : Owner) → c ≤ d → SeenIn names c o → SeenIn names' c o
    seen_kept c (OfFile n) h i = tt
    seen_kept c (OfCall b x) h i = (
      i.0,
      let j = i.0 in subst (λ n. opens_of (lo.functions n) x ≡ true)
          (sym (calling_earlier b d m names (omega (arith, h, j)))) i.1,
    )

    pub refers_kept : (c : ℕ) (v : Value) → c ≤ d → RefersIn names c v → RefersIn names' c v
    refers_kept c (Integer n) h i = tt
    refers_kept c (Designates o j) h i = seen_kept c o h i
    refers_kept c (Lends o) h i = seen_kept c o h i
    refers_kept c _ h i = tt

    pub refers_all_kept : (c : ℕ) (v : List Value) → c ≤ d → RefersAllIn names c v → RefersAllIn names' c v
    refers_all_kept c [] h i = tt
    refers_all_kept c (x ∷ v) h i = (refers_kept c x h i.0, refers_all_kept c v h i.1)

    variable_kept : (c : ℕ) (v : Variable) → c ≤ d → RefersTo (opens names) (Shapes names) c v → RefersTo (opens names') (Shapes names') c v
    variable_kept c (Holds k n cells) h i = tt
    variable_kept c (Lent o) h i = seen_kept c o h i

    entry_refers : (vs : List Value) (x : ℕ) → RefersAllIn names d vs → RefersIn names d (entry_or Missing vs x)
    entry_refers [] x h = tt
    entry_refers (v ∷ vs) zero h = h.0
    entry_refers (v ∷ vs) (suc x) h = entry_refers vs x h.1

    parameter_refers : (t : Slot) (v : Value) → RefersIn names d v → RefersTo (opens names') (Shapes names') (suc d) (parameter t v)
    parameter_refers t (Lends o) h = seen_more (opens names') (Shapes names') d (suc d) o (omega arith) (seen_kept d o (omega arith) h)
    parameter_refers t _ h = tt

    module _ (vs : List Value) (rs : RefersAllIn names d vs) (w : World) (s : Owner → Variable) (e : w.calls ≡ d) (a : AlikeIn names w s) where
      abbrev f : FunctionTree
      f = p.functions m

      abbrev h : FunctionTree
      h = q.functions m

      abbrev memory : Owner → Variable
      memory = put_call (suc d) (slot_at_start h vs) s

      start_refers : (x : ℕ) → RefersTo (opens names') (Shapes names') (suc d) (slot_at_start f vs x)
      start_refers x =
          chosen (RefersTo (opens names') (Shapes names') (suc d)) (nat_lt x f.params)
          (parameter (entry_or no_slot f.slots x) (entry_or Missing vs x)) (zeros (entry_or no_slot f.slots x))
          (λ i. parameter_refers (entry_or no_slot f.slots x) (entry_or Missing vs x) (entry_refers vs x rs)) (λ i. tt)

      seen_old : (c : ℕ) (x : ℕ) → c ≤ d → opens_of (lo.functions (names c)) x ≡ true → SeenIn names w.calls (OfCall c x)
      seen_old c x i j = (subst (λ z. c ≤ z) (sym e) i, j)

      agree_at : (c x : ℕ) (b : Bool) → eqb (suc d) c ≡ b → c ≤ suc d → opens_of (lo.functions (cond b m (names c))) x ≡ true
          → cond b (slot_at_start f vs x) (w.variables (OfCall c x)) ≡ cond b (slot_at_start h vs x) (s (OfCall c x))
      agree_at c x true i b o = start_alike (lo.functions m) vs x o
      agree_at c x false i b o = a.agree (OfCall c x) (seen_old c x (not_last c i b) o)
        where
          not_last : (c : ℕ) → eqb (suc d) c ≡ false → c ≤ suc d → c ≤ d
          not_last c i b = grind (arith, i, b)

      closed_at : (c x : ℕ) (b : Bool) → eqb (suc d) c ≡ b → c ≤ suc d → opens_of (lo.functions (cond b m (names c))) x ≡ true
          → RefersTo (opens names') (Shapes names') c (cond b (slot_at_start f vs x) (w.variables (OfCall c x)))
      closed_at c x true i b o = let j : suc d ≡ c = eqb-true (suc d) c i in
          subst (λ z. RefersTo (opens names') (Shapes names') z (slot_at_start f vs x)) j (start_refers x)
      closed_at c x false i b o = let l = not_last c i b in variable_kept c (w.variables (OfCall c x)) l (a.closed (OfCall c x) (seen_old c x l o))
        where
          not_last : (c : ℕ) → eqb (suc d) c ≡ false → c ≤ suc d → c ≤ d
          not_last c i b = grind (arith, i, b)

      shaped_at : (c x : ℕ) (b : Bool) → eqb (suc d) c ≡ b → 1 ≤ c → c ≤ suc d →
          IsShapedFor (lo.functions (cond b m (names c))) x (cond b (slot_at_start h vs x) (s (OfCall c x)))
      shaped_at c x true i l b = start_shaped (lo.functions m) vs x
      shaped_at c x false i l b = a.shaped c x l (subst (λ z. c ≤ z) (sym e) (not_last c i b))
        where
          not_last : (c : ℕ) → eqb (suc d) c ≡ false → c ≤ suc d → c ≤ d
          not_last c i b = grind (arith, i, b)

      abbrev entered : World
      entered = record w { variables = put_call (suc d) (slot_at_start f vs) w.variables; calls = suc d; cells = w.cells + cells_of f.slots }

      entered_alike : AlikeIn names' entered memory
      entered_alike = record { agree = agree; closed = closed; shaped = λ c x l b. shaped_at c x (eqb (suc d) c) refl l b }
        where
          agree : (o : Owner) → SeenIn names' (suc d) o → put_call (suc d) (slot_at_start f vs) w.variables o ≡ memory o
          agree (OfFile n) i = a.agree (OfFile n) tt
          agree (OfCall c x) i = agree_at c x (eqb (suc d) c) refl i.0 i.1

          closed : (o : Owner) → SeenIn names' (suc d) o → RefersTo (opens names') (Shapes names') (call_of o)
              (put_call (suc d) (slot_at_start f vs) w.variables o)
          closed (OfFile n) i = variable_kept 0 (w.variables (OfFile n)) (omega arith) (a.closed (OfFile n) tt)
          closed (OfCall c x) i = closed_at c x (eqb (suc d) c) refl i.0 i.1

    -- a call that begins in both, or meets the same trap
    pub data Pushed : Result World Trap → Result World Trap → Type 0 where
      ps_ok : (w : World) (s : Owner → Variable) → w.calls ≡ suc d → AlikeIn names' w s → Pushed (Ok w) (Ok (over s w))
      ps_err : (t : Trap) → Pushed (Err t) (Err t)

    pub push_alike : (vs : List Value) (w : World) (s : Owner → Variable) → RefersAllIn names d vs → w.calls ≡ d → AlikeIn names w s →
        Pushed (push (p.functions m) vs w) (push (q.functions m) vs (over s w))
    push_alike vs w s rs e a =
        let f = p.functions m in
        let h = q.functions m in
        subst (λ n. Pushed (push f vs w) (cond (nat_lt most_calls (suc w.calls)) (Err Trap.Calls) (cond (nat_lt most_cells (w.cells + n)) (Err Trap.Cells)
        (Ok (record w { variables = put_call (suc w.calls) (slot_at_start h vs) s; calls = suc w.calls; cells = w.cells + n }))))) (same_cells (lo.functions m))
        (at (nat_lt most_calls (suc w.calls)) (nat_lt most_cells (w.cells + cells_of f.slots)))
      where
        ok : Pushed (Ok (enter_call (p.functions m) vs w))
            (Ok (over (put_call (suc w.calls) (slot_at_start (q.functions m) vs) s) (enter_call (p.functions m) vs w)))
        ok = subst (λ z. Pushed (Ok (record w {
          variables = put_call (suc z) (slot_at_start (p.functions m) vs) w.variables;
          calls = suc z;
          cells = w.cells + cells_of (p.functions m).slots;
        }))
            (Ok (record w {
              variables = put_call (suc z) (slot_at_start (q.functions m) vs) s;
              calls = suc z;
              cells = w.cells + cells_of (p.functions m).slots;
            }))) (sym e)
            (ps_ok (entered vs rs w s e a) (memory vs rs w s e a) refl (entered_alike vs rs w s e a))

        at : (x y : Bool) → Pushed (cond x (Err Trap.Calls) (cond y (Err Trap.Cells) (Ok (enter_call (p.functions m) vs w))))
            (cond x (Err Trap.Calls) (cond y (Err Trap.Cells)
            (Ok (over (put_call (suc w.calls) (slot_at_start (q.functions m) vs) s) (enter_call (p.functions m) vs w)))))
        at true y = ps_err Trap.Calls
        at false true = ps_err Trap.Cells
        at false false = ok

  -- ---- a call ends

  pub pop_alike : (names : ℕ → List ℕ) (m : List ℕ) (w : World) (s : Owner → Variable) → AlikeIn names w s → AlikeIn names (pop (p.functions m) w) s
  pop_alike names m w s a = record {
    agree = λ o h. a.agree o (seen_more (opens names) (Shapes names) (pred w.calls) w.calls o (less w.calls) h);
    closed = λ o h. a.closed o (seen_more (opens names) (Shapes names) (pred w.calls) w.calls o (less w.calls) h);
    shaped = λ c x l h. a.shaped c x l (let b = less w.calls in omega (arith, h, b));
  }
    where
      less : (n : ℕ) → pred n ≤ n
      less zero = omega arith
      less (suc n) = omega arith

  pub pop_over : (m : List ℕ) (w : World) (s : Owner → Variable) → over s (pop (p.functions m) w) ≡ pop (q.functions m) (over s w)
  pop_over m w s = ap (λ n. record w { variables = s; calls = pred w.calls; cells = w.cells - n }) (same_cells (lo.functions m))
