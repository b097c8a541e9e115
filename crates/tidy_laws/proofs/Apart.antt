-- Two Worlds that are the same but for a slot of each call, which the second doesn't have, and in which each variable
-- holds numbers of its kind.
use Rattle.std.proofs.Common.{ℕ, ◌≤◌, ◌<◌, ℤ, pos, Bool, true, false, cond, not, eqb, nat_lt, List, length, None, ◌≡◌, refl, sym, ap, ◌∙◌, subst, true≢false, eqb-true, arith}
use Rattle.c_types.specs.declared.kinds.IntKind.{IntKind}
use Rattle.c_types.specs.declared.kinds.IntKind.TheVariants.{Int}
use Rattle.c_types.specs.Numbers.{converted, IsInRange}
use Rattle.c_types.proofs.Residues.{converted-in_range}
use Rattle.c_tree.specs.declared.tree.Home.{Home}
use Rattle.c_tree.specs.declared.tree.Home.TheVariants as H
use Rattle.jump_meaning.specs.Values.{Owner, OfFile, OfCall, Variable, Holds, Lent, Value, Designates, Lends}
use Rattle.jump_meaning.specs.Code.{Code, entry_or}
use Rattle.jump_meaning.specs.World.{World, put, holder, owner, kind_held, with_number, with_zeros, cells_held, no_slot, same_owner}
use Rattle.jump_meaning.proofs.Memory.{same_owner_decides, chosen}
use Rattle.plain_laws.specs.Kinded.{home_kind, IsHome}
use Rattle.plain_laws.proofs.Memories.{Shapes, IsOwn, zero_in_range, owner_kind, Target, Good}
use Rattle.plain_laws.proofs.Carried.{put_here, put_beside, call_of, slot_of, is_of_call}
use Rattle.tidy_laws.specs.Mentions.{home_lacks}
use Rattle.tidy_laws.specs.Renumbered.{new_number, renumbered_home}
use Rattle.tidy_laws.proofs.TidyChangesNumbers.{numbers_apart}

-- an int, which is 0 unless the slot may be on
abbrev pub IsFlag : Bool → Variable → Type 0
IsFlag on (Holds Int None cells) = on ≡ false → cells 0 ≡ pos 0
IsFlag on _ = ⊥

-- a variable with its new number
abbrev pub new_owner : (ℕ → ℕ) → Owner → Owner
new_owner holes (OfFile m) = OfFile m
new_owner holes (OfCall d x) = OfCall d (new_number (holes d) x)

abbrev pub new_variable : (ℕ → ℕ) → Variable → Variable
new_variable holes (Holds k n cells) = Holds k n cells
new_variable holes (Lent o) = Lent (new_owner holes o)

abbrev pub new_value : (ℕ → ℕ) → Value → Value
new_value holes (Designates o i) = Designates (new_owner holes o) i
new_value holes v = v

abbrev pub new_lending : (ℕ → ℕ) → Value → Value
new_lending holes (Lends o) = Lends (new_owner holes o)
new_lending holes v = v

chosen_in_kind : (k : IntKind) (b : Bool) (x y : ℤ) → IsInRange k x → IsInRange k y → IsInRange k (cond b x y)
chosen_in_kind k true x y h g = h
chosen_in_kind k false x y h g = g

module _ (p : Code) (sh : Shapes) (holes : ℕ → ℕ) where
  -- in call c; the slot that the second doesn't have is 0, but in this call it may be on
  pub record Apart (on : Bool) (c : ℕ) (w u : World) : Type 0 where
    pub calls : w.calls ≡ c
    pub same_calls : u.calls ≡ c
    pub cells : u.cells ≡ w.cells
    pub input : u.input ≡ w.input
    pub answers : u.answers ≡ w.answers
    pub events : u.events ≡ w.events
    -- no name leads to the slot
    pub sealed : (d : ℕ) → d ≤ c → (sh d).own (holes d) ≡ false
    pub file_same : (m : List ℕ) → u.variables (OfFile m) ≡ w.variables (OfFile m)
    pub file_good : (m : List ℕ) → Good p sh 0 (kind_held (p.globals m)) true (w.variables (OfFile m))
    pub call_same : (d x : ℕ) → d ≤ c → x < length (sh d).slots → eqb x (holes d) ≡ false →
        u.variables (OfCall d (new_number (holes d) x)) ≡ new_variable holes (w.variables (OfCall d x))
    pub call_good : (d x : ℕ) → d ≤ c → x < length (sh d).slots → eqb x (holes d) ≡ false →
        Good p sh d (entry_or no_slot (sh d).slots x).kind ((sh d).own x) (w.variables (OfCall d x))
    pub older : (d : ℕ) → d < c → IsFlag false (w.variables (OfCall d (holes d)))
    pub newest : IsFlag on (w.variables (OfCall c (holes c)))

  flag_loose : (on : Bool) (v : Variable) → IsFlag false v → IsFlag on v
  flag_loose on (Holds Int None cells) h = λ e. h refl
  flag_loose on v h = absurd h

  -- where the slot is 0, it may be on
  pub loosen : (on : Bool) (c : ℕ) (w u : World) → Apart false c w u → Apart on c w u
  loosen on c w u a = record {
    calls = a.calls;
    same_calls = a.same_calls;
    cells = a.cells;
    input = a.input;
    answers = a.answers;
    events = a.events;
    sealed = a.sealed;
    file_same = a.file_same;
    file_good = a.file_good;
    call_same = a.call_same;
    call_good = a.call_good;
    older = a.older;
    newest = flag_loose on (w.variables (OfCall c (holes c))) a.newest;
  }

  own_new : (k : IntKind) (v : Variable) → IsOwn k v → new_variable holes v ≡ v
  own_new k (Holds j n cells) h = refl
  own_new k (Lent o) h = absurd h

  good_own : (c : ℕ) (k : IntKind) (b : Bool) (v : Variable) → b ≡ true → Good p sh c k b v → IsOwn k v
  good_own c k b (Holds j n cells) e g = (g.0, g.1)
  good_own c k b (Lent o) e g = absurd (true≢false (sym e ∙ g.2))

  -- it stays good
  abbrev pub Keeps : (Variable → Variable) → Type 0
  Keeps f = (c : ℕ) (k : IntKind) (b : Bool) (v : Variable) → Good p sh c k b v → Good p sh c k b (f v)

  pub number_keeps : (i : ℕ) (z : ℤ) → Keeps (with_number i z)
  number_keeps i z c k b (Holds j r cells) g = (
    g.0,
    (λ x. chosen_in_kind k (eqb i x) (converted j z) (cells x) (subst (λ y. IsInRange k (converted y z)) (sym g.0) (converted-in_range k z))
        (g.1 x)),
    g.2,
  )
  number_keeps i z c k b (Lent o) g = g

  pub zeros_keep : (i : ℕ) → Keeps (with_zeros i)
  zeros_keep i c k b (Holds j r cells) g = (
    g.0,
    (λ x. chosen_in_kind k (nat_lt x i) (cells x) (cond (nat_lt x (cells_held (Holds j r cells))) (pos 0) (cells x)) (g.1 x)
        (chosen_in_kind k (nat_lt x (cells_held (Holds j r cells))) (pos 0) (cells x) (zero_in_range k) (g.1 x))),
    g.2,
  )
  zeros_keep i c k b (Lent o) g = g

  module _ (on : Bool) (c : ℕ) (w u : World) (a : Apart on c w u) where
    -- what names lead to isn't the slot
    pub target_kept : (d x : ℕ) → Target p sh c (OfCall d x) → eqb x (holes d) ≡ false
    target_kept d x t = at (eqb x (holes d)) refl
      where
        at : (b : Bool) → eqb x (holes d) ≡ b → b ≡ false
        at true e = absurd (true≢false (sym (ap (sh d).own (sym (eqb-true x (holes d) e)) ∙ t.2) ∙ a.sealed d t.0))
        at false e = refl

    pub target_own : (o : Owner) → Target p sh c o → IsOwn (owner_kind p sh o) (w.variables o)
    target_own (OfFile m) t = good_own 0 (kind_held (p.globals m)) true (w.variables (OfFile m)) refl (a.file_good m)
    target_own (OfCall d x) t = good_own d (entry_or no_slot (sh d).slots x).kind ((sh d).own x) (w.variables (OfCall d x)) t.2
        (a.call_good d x t.0 t.1 (target_kept d x t))

    pub target_same : (o : Owner) → Target p sh c o → u.variables (new_owner holes o) ≡ w.variables o
    target_same (OfFile m) t = a.file_same m
    target_same (OfCall d x) t = a.call_same d x t.0 t.1 (target_kept d x t) ∙
        own_new (owner_kind p sh (OfCall d x)) (w.variables (OfCall d x)) (target_own (OfCall d x) t)

    -- ---- names

    file_reached : (m : List ℕ) (v : Variable) → Good p sh 0 (kind_held (p.globals m)) true v →
        Target p sh c (holder (OfFile m) v) × (owner_kind p sh (holder (OfFile m) v) ≡ kind_held (p.globals m))
    file_reached m (Holds j i cells) g = (tt, refl)
    file_reached m (Lent o) g = absurd (true≢false g.2)

    slot_reached : (x : ℕ) (v : Variable) → x < length (sh c).slots → Good p sh c (entry_or no_slot (sh c).slots x).kind ((sh c).own x) v
        → Target p sh c (holder (OfCall c x) v) × (owner_kind p sh (holder (OfCall c x) v) ≡ (entry_or no_slot (sh c).slots x).kind)
    slot_reached x (Holds j i cells) h g = ((omega arith, h, g.2), refl)
    slot_reached x (Lent o) h g = (g.0, g.1)

    unnamed : (x : ℕ) → home_lacks (holes c) (H.Slot x) ≡ true → eqb x (holes c) ≡ false
    unnamed x h = at (eqb x (holes c)) h
      where
        at : (b : Bool) → not b ≡ true → b ≡ false
        at true i = cc
        at false i = refl

    -- what a name leads to
    pub home_reached : (h : Home) → IsHome (sh c).slots h → home_lacks (holes c) h ≡ true →
        Target p sh c (owner h w) × (owner_kind p sh (owner h w) ≡ home_kind p (sh c).slots h)
    home_reached (H.Global m) i l = file_reached m (w.variables (OfFile m)) (a.file_good m)
    home_reached (H.Slot x) i l =
        subst (λ d. Target p sh c (holder (OfCall d x) (w.variables (OfCall d x))) ×
        (owner_kind p sh (holder (OfCall d x) (w.variables (OfCall d x))) ≡ (entry_or no_slot (sh c).slots x).kind)) (sym a.calls)
        (slot_reached x (w.variables (OfCall c x)) i (a.call_good c x (omega arith) i (unnamed x l)))

    file_holder : (m : List ℕ) (v : Variable) → Good p sh 0 (kind_held (p.globals m)) true v → holder (OfFile m) v ≡ new_owner holes (holder (OfFile m) v)
    file_holder m (Holds j i cells) g = refl
    file_holder m (Lent o) g = absurd (true≢false g.2)

    slot_holder : (x : ℕ) (v : Variable) → holder (OfCall c (new_number (holes c) x)) (new_variable holes v) ≡ new_owner holes (holder (OfCall c x) v)
    slot_holder x (Holds j i cells) = refl
    slot_holder x (Lent o) = refl

    pub home_same : (h : Home) → IsHome (sh c).slots h → home_lacks (holes c) h ≡ true → owner (renumbered_home (holes c) h) u ≡ new_owner holes (owner h w)
    home_same (H.Global m) i l = ap (holder (OfFile m)) (a.file_same m) ∙ file_holder m (w.variables (OfFile m)) (a.file_good m)
    home_same (H.Slot x) i l =
        let y = new_number (holes c) x in
        ap (λ d. holder (OfCall d y) (u.variables (OfCall d y))) a.same_calls
        ∙ ap (holder (OfCall c y)) (a.call_same c x (omega arith) i (unnamed x l))
        ∙ slot_holder x (w.variables (OfCall c x))
        ∙ ap (λ d. new_owner holes (holder (OfCall d x) (w.variables (OfCall d x)))) (sym a.calls)

    -- ---- a variable that a name leads to changes

    own_good : (k : IntKind) (v : Variable) → IsOwn k v → Good p sh 0 k true v
    own_good k (Holds j n cells) h = (h.0, h.1, refl)
    own_good k (Lent o) h = absurd h

    new_apart : (o : Owner) (d x : ℕ) → Target p sh c o → eqb x (holes d) ≡ false → new_owner holes o ≡ OfCall d (new_number (holes d) x) → o ≡ OfCall d x
    new_apart (OfFile m) d x t h e = absurd (true≢false (sym (ap is_of_call e)))
    new_apart (OfCall i y) d x t h e = at (ap call_of e) (ap slot_of e)
      where
        at : i ≡ d → new_number (holes i) y ≡ new_number (holes d) x → OfCall i y ≡ OfCall d x
        at q r =
            let k : eqb y (holes d) ≡ false = subst (λ i. eqb y (holes i) ≡ false) q (target_kept i y t) in
            let n : y ≡ x = numbers_apart (holes d) y x k h (subst (λ i. new_number (holes i) y ≡ new_number (holes d) x) q r) in
            ap (λ i. OfCall i y) q ∙ ap (OfCall d) n

    never_slot : (o : Owner) (d : ℕ) → d ≤ c → Target p sh c o → o ≡ OfCall d (holes d) → ⊥
    never_slot o d h t e = let i = subst (Target p sh c) e t in true≢false (sym i.2 ∙ a.sealed d h)

    pub put_apart : (f : Variable → Variable) → Keeps f → (o : Owner) → Target p sh c o
        → Apart on c (record w { variables = put o (f (w.variables o)) w.variables })
        (record u { variables = put (new_owner holes o) (f (u.variables (new_owner holes o))) u.variables })
    put_apart f keeps o t = record {
      calls = a.calls;
      same_calls = a.same_calls;
      cells = a.cells;
      input = a.input;
      answers = a.answers;
      events = a.events;
      sealed = a.sealed;
      file_same = λ m. file_at m (same_owner o (OfFile m)) refl;
      file_good = λ m. good_at (OfFile m) 0 (kind_held (p.globals m)) true (a.file_good m);
      call_same = λ d x h i k. call_at d x h i k (same_owner o (OfCall d x)) refl;
      call_good = λ d x h i k. good_at (OfCall d x) d (entry_or no_slot (sh d).slots x).kind ((sh d).own x) (a.call_good d x h i k);
      older = λ d h. subst (IsFlag false) (sym (put_beside o (OfCall d (holes d)) old w.variables (never_slot o d (omega (arith, h)) t))) (a.older d h);
      newest = subst (IsFlag on) (sym (put_beside o (OfCall c (holes c)) old w.variables (never_slot o c (omega arith) t))) a.newest;
    }
      where
        old : Variable
        old = f (w.variables o)

        new : Variable
        new = f (u.variables (new_owner holes o))

        new_is : new ≡ old
        new_is = ap f (target_same o t)

        old_own : IsOwn (owner_kind p sh o) old
        old_own = good_own 0 (owner_kind p sh o) true old refl
            (keeps 0 (owner_kind p sh o) true (w.variables o) (own_good (owner_kind p sh o) (w.variables o) (target_own o t)))

        good_at : (q : Owner) (d : ℕ) (k : IntKind) (b : Bool) → Good p sh d k b (w.variables q) → Good p sh d k b (put o old w.variables q)
        good_at q d k b g =
            chosen (Good p sh d k b) (same_owner o q) old (w.variables q)
            (λ e. subst (λ r. Good p sh d k b (f (w.variables r))) (sym ((same_owner_decides o q).0 e)) (keeps d k b (w.variables q) g)) (λ e. g)

        file_at : (m : List ℕ) (b : Bool) → same_owner o (OfFile m) ≡ b → put (new_owner holes o) new u.variables (OfFile m) ≡ put o old w.variables (OfFile m)
        file_at m true e =
            let i = (same_owner_decides o (OfFile m)).0 e in
            subst (λ q. put (new_owner holes q) new u.variables (OfFile m) ≡ put q old w.variables (OfFile m)) (sym i)
            (put_here (OfFile m) new u.variables ∙ new_is ∙ sym (put_here (OfFile m) old w.variables))
        file_at m false e =
            put_beside (new_owner holes o) (OfFile m) new u.variables (λ i. true≢false (sym ((same_owner_decides o (OfFile m)).1 (back o i)) ∙ e))
            ∙ a.file_same m
            ∙ sym (put_beside o (OfFile m) old w.variables (λ i. true≢false (sym ((same_owner_decides o (OfFile m)).1 i) ∙ e)))
          where
            back : (o : Owner) → new_owner holes o ≡ OfFile m → o ≡ OfFile m
            back (OfFile n) i = i
            back (OfCall d x) i = absurd (true≢false (ap is_of_call i))

        call_at : (d x : ℕ) → d ≤ c → x < length (sh d).slots → eqb x (holes d) ≡ false → (b : Bool) → same_owner o (OfCall d x) ≡ b
            → put (new_owner holes o) new u.variables (OfCall d (new_number (holes d) x)) ≡ new_variable holes (put o old w.variables (OfCall d x))
        call_at d x h i k true e =
            let q = (same_owner_decides o (OfCall d x)).0 e in
            let left = subst (λ q. put (new_owner holes o) new u.variables (new_owner holes q) ≡ old) q
            (put_here (new_owner holes o) new u.variables ∙ new_is) in
            let right = subst (λ q. new_variable holes (put o old w.variables q) ≡ old) q
            (ap (new_variable holes) (put_here o old w.variables) ∙ own_new (owner_kind p sh o) old old_own) in
            left ∙ sym right
        call_at d x h i k false e =
            put_beside (new_owner holes o) (OfCall d (new_number (holes d) x)) new u.variables
            (λ q. true≢false (sym ((same_owner_decides o (OfCall d x)).1 (new_apart o d x t k q)) ∙ e))
            ∙ a.call_same d x h i k
            ∙ ap (new_variable holes) (sym (put_beside o (OfCall d x) old w.variables (λ q. true≢false (sym ((same_owner_decides o (OfCall d x)).1 q) ∙ e))))
