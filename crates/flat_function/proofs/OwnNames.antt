-- Each variable that a flat form names has a name of its own.
use Rattle.std.proofs.Common.{◌≡◌, ◌⊎◌, inl, inr, ℕ, zero, suc, ◌+◌, ◌-◌, ◌≤◌, ◌<◌, ◌^◌, Bool, true, false, true≢false, cond, codes, List, [], ◌∷◌, ◌++◌, length, map, take, drop, refl, sym, ap, subst, ◌∙◌, arith}
use Rattle.std.specs.Prelude.{◌≢◌, nat_lt}
use Rattle.std.proofs.lemmas.Bool.{lt-ltb, le-ltb}
use Rattle.c_copies.specs.Names.{has_name, with_name}
use Rattle.c_tree.specs.declared.tree.Slot.{Slot}
use Rattle.c_fresh_names.specs.Fresh.{numbered, fresh}
use Rattle.c_types.specs.declared.kinds.IntKind.{IntKind}
use Rattle.flat_names.specs.declared.constructs.Construct.{Construct}
use Rattle.flat_names.specs.declared.constructs.Construct.TheVariants as c
use Rattle.flat_names.specs.FlatNames.{Given, Named, number_slot, name_variable, name_case, name_cases, name_default, name_break, name_construct, name_constructs, variable_name, slot_named, slot_taken, slot_used, named_slots}
use Rattle.c_resolved_defs.specs.Within.{Each, AllDiffer}
use Rattle.c_resolved_defs.specs.PrintableExpressions.{IsName}
use Rattle.whole_laws.proofs.GuardsOwn.{differ_append}
use Rattle.whole_laws.proofs.PlainLists.{each_map, each_both, each_append}
use Rattle.flat_function.proofs.Forms.{break_same, default_same, cases_same}
use Rattle.flat_function.proofs.FreshNames.{numbered_name, fresh_name, fresh_unused, Grows, grows_self, grows_then, grows_with, own_with}

-- the names ns are those of the program; Clear holds of a name that is none of the file and no known function
module _ (ns : List (List ℕ)) (Clear : List ℕ → Type 0) where
  abbrev In : List (List ℕ) → List ℕ → Type 0
  In us m = has_name us m ≡ true

  abbrev Out : List (List ℕ) → List ℕ → Type 0
  Out us m = has_name us m ≡ false

  in_out : (us : List (List ℕ)) (m n : List ℕ) → In us m → Out us n → m ≢ n
  in_out us m n h k e = true≢false (sym h ∙ ap (has_name us) e ∙ k)

  -- a name that was given before: it is empty, or used, and taken or none of the program
  abbrev pub IsBefore : List (List ℕ) → List (List ℕ) → List ℕ → Type 0
  IsBefore taken used m = (m ≡ []) ⊎ (In used m × (In taken m ⊎ Out ns m))

  -- what is known where names are given
  pub record Giving (taken used : List (List ℕ)) : Type 0 where
    pub named : (m : List ℕ) → In ns m → In used m
    pub clear_taken : (m : List ℕ) → Out taken m → Clear m
    pub clear_used : (m : List ℕ) → Out used m → Clear m

  out_by : (us vs : List (List ℕ)) (m : List ℕ) → (In us m → In vs m) → Out vs m → Out us m
  out_by us vs m g e = at (has_name us m) refl
    where
      at : (b : Bool) → has_name us m ≡ b → Out us m
      at true i = absurd (true≢false (sym (g i) ∙ e))
      at false i = i

  out_of : (us vs : List (List ℕ)) → Grows us vs → (m : List ℕ) → Out vs m → Out us m
  out_of us vs g m e = out_by us vs m (g.0 m) e

  pub giving_more : (taken used taken' used' : List (List ℕ)) → Grows taken taken' → Grows used used' → Giving taken used → Giving taken' used'
  giving_more taken used taken' used' t u g = record {
    named = λ m h. u.0 m (g.named m h);
    clear_taken = λ m h. g.clear_taken m (out_of taken taken' t m h);
    clear_used = λ m h. g.clear_used m (out_of used used' u m h);
  }

  before_more : (taken used taken' used' : List (List ℕ)) → Grows taken taken' → Grows used used' → (m : List ℕ) → IsBefore taken used m →
      IsBefore taken' used' m
  before_more taken used taken' used' t u m (inl e) = inl e
  before_more taken used taken' used' t u m (inr (h, inl i)) = inr (u.0 m h, inl (t.0 m i))
  before_more taken used taken' used' t u m (inr (h, inr i)) = inr (u.0 m h, inr i)

  -- what is shown of the names that are given
  pub record AreOwn (before : List (List ℕ)) (given : List (List ℕ)) : Type 0 where
    pub words : Each IsName given
    pub clear : Each Clear given
    pub apart : AllDiffer given
    pub beside : Each (λ m. Each (λ b. b ≢ m) before) given

  -- ---- one name

  pub record IsOwn (before taken used : List (List ℕ)) (m : List ℕ) : Type 0 where
    pub word : IsName m
    pub clear : Clear m
    pub beside : Each (λ b. b ≢ m) before

  some_name : (m : List ℕ) → IsName m → [] ≢ m
  some_name [] n e = true≢false (sym n.0)
  some_name (c ∷ m) n e = cc

  fresh_other : (taken used : List (List ℕ)) (m b : List ℕ) → IsName m → Out used m → IsBefore taken used b → b ≢ m
  fresh_other taken used m b n o (inl e) i = some_name m n (sym e ∙ i)
  fresh_other taken used m b n o (inr (h, k)) i = in_out used b m h o i

  kept_other : (taken used : List (List ℕ)) (m b : List ℕ) → IsName m → In ns m → Out taken m → IsBefore taken used b → b ≢ m
  kept_other taken used m b n h o (inl e) i = some_name m n (sym e ∙ i)
  kept_other taken used m b n h o (inr (u, inl k)) i = in_out taken b m k o i
  kept_other taken used m b n h o (inr (u, inr k)) i = in_out ns m b h k (sym i)

  -- ---- block variables, in text order

  abbrev pub names_of : List Slot → List (List ℕ)
  names_of ss = map (λ (s : Slot). s.name) ss

  pub slots_grow : (n : ℕ) (taken used : List (List ℕ)) (ss : List Slot) → Grows used (named_slots n taken used ss).used
  slots_grow n taken used [] = grows_self used
  slots_grow n taken used (s ∷ ss) =
      let b = nat_lt 0 n in
      grows_then used (slot_used b taken used s) _ (one b) (slots_grow (n - 1) (slot_taken b taken used s) (slot_used b taken used s) ss)
    where
      fresh_one : (z : Bool) → Grows used (cond z (with_name used (fresh s.name used)) used)
      fresh_one true = grows_with used (fresh s.name used)
      fresh_one false = grows_self used

      one : (b : Bool) → Grows used (slot_used b taken used s)
      one true = grows_self used
      one false = fresh_one (has_name taken s.name)

  -- a variable of the source: its name is one of the program
  abbrev pub IsSource : Slot → Type 0
  IsSource s = IsName s.name × In ns s.name

  -- after one block variable
  pub record After (before taken used : List (List ℕ)) (s : Slot) (z : Bool) : Type 0 where
    pub own : IsOwn before taken used (cond z (fresh s.name used) s.name)
    pub there : In (cond z (with_name used (fresh s.name used)) used) (cond z (fresh s.name used) s.name)
    pub grows : Grows used (cond z (with_name used (fresh s.name used)) used)

  after : (before taken used : List (List ℕ)) (s : Slot) (z : Bool) → has_name taken s.name ≡ z → Giving taken used →
      Each (IsBefore taken used) before → IsSource s → 2 + length used < 2 ^ 64 → After before taken used s z
  after before taken used s true e g b h f =
      let w = fresh s.name used in
      let n = fresh_name used s.name h.0 in
      let o = fresh_unused used s.name f in
      record {
        own = record {
          word = n;
          clear = g.clear_used w o;
          beside = each_map (IsBefore taken used) (λ x. x ≢ w)
              (λ x i. fresh_other taken used w x n o i) before b;
        };
        there = own_with used w;
        grows = grows_with used w;
      }
  after before taken used s false e g b h f =
      record {
        own = record {
          word = h.0;
          clear = g.clear_taken s.name e;
          beside = each_map (IsBefore taken used) (λ x. x ≢ s.name)
              (λ x i. kept_other taken used s.name x h.0 h.1 e i) before b;
        };
        there = g.named s.name h.1;
        grows = grows_self used;
      }

  block_own : (n : ℕ) (before taken used : List (List ℕ)) (ss : List Slot) → n ≡ 0 → Giving taken used → Each (IsBefore taken used) before →
      Each IsSource ss → 2 + length (named_slots n taken used ss).used < 2 ^ 64
      → AreOwn before (names_of (named_slots n taken used ss).slots)
  block_own n before taken used [] none g b h f = record { words = tt; clear = tt; apart = tt; beside = tt }
  block_own n before taken used (s ∷ ss) none g b h f =
      let p = nat_lt 0 n in
      let not : p ≡ false = le-ltb 0 n (omega (arith, none)) in
      let v = variable_name taken used s.name in
      let taken' = with_name (with_name taken s.name) v in
      let used' = slot_used false taken used s in
      let rest = named_slots (n - 1) taken' used' ss in
      let whole : named_slots n taken used (s ∷ ss) ≡ record { slots = slot_named false taken used s ∷ rest.slots; used = rest.used } =
      ap (λ z. (let m = named_slots (n - 1) (slot_taken z taken used s) (slot_used z taken used s) ss in
      record { slots = slot_named z taken used s ∷ m.slots; used = m.used })) not in
      let big : 2 + length rest.used < 2 ^ 64 = subst (λ (m : Named). 2 + length m.used < 2 ^ 64) whole f in
      let more = (slots_grow (n - 1) taken' used' ss).1 in
      let step = after before taken used s (has_name taken s.name) refl g b h.0
      (small used used' rest.used (grow_one taken used s) (slots_grow (n - 1) taken' used' ss) big) in
      let t : Grows taken taken' = grows_then taken (with_name taken s.name) taken' (grows_with taken s.name) (grows_with (with_name taken s.name) v) in
      let now : Each (IsBefore taken' used') (v ∷ before) = (
        inr (step.there, inl (own_with (with_name taken s.name) v)),
        each_map
            (IsBefore taken used) (IsBefore taken' used') (λ x i. before_more taken used taken' used' t step.grows x i) before b,
      ) in
      let later = block_own (n - 1) (v ∷ before) taken' used' ss (omega (arith, none)) (giving_more taken used taken' used' t step.grows g) now h.1 big in
      subst (λ (m : Named). AreOwn before (names_of m.slots)) (sym whole)
      (record {
        words = (step.own.word, later.words);
        clear = (step.own.clear, later.clear);
        apart = (each_map (λ m. Each (λ x. x ≢ m) (v ∷ before)) (λ m. m ≢ v) (λ m i e. i.0 (sym e)) (names_of rest.slots) later.beside, later.apart);
        beside = (
          step.own.beside,
          each_map (λ m. Each (λ x. x ≢ m) (v ∷ before)) (λ m. Each (λ x. x ≢ m) before) (λ m i. i.1) (names_of rest.slots)
              later.beside,
        );
      })
    where
      small : (us vs ws : List (List ℕ)) → Grows us vs → Grows vs ws → 2 + length ws < 2 ^ 64 → 2 + length us < 2 ^ 64
      small us vs ws i j k = let x = i.1 in let y = j.1 in omega (arith, x, y, k)

      cond_grows : (z : Bool) (used : List (List ℕ)) (w : List ℕ) → Grows used (cond z (with_name used w) used)
      cond_grows true used w = grows_with used w
      cond_grows false used w = grows_self used

      grow_one : (taken used : List (List ℕ)) (s : Slot) → Grows used (slot_used false taken used s)
      grow_one taken used s = cond_grows (has_name taken s.name) used (fresh s.name used)

  -- ---- parameters stand before them

  -- a parameter: its name is empty, or one of the program
  abbrev pub IsParameter : Slot → Type 0
  IsParameter s = (s.name ≡ []) ⊎ In ns s.name

  -- and they have other names than the parameters
  pub record AreOwnSlots (before : List (List ℕ)) (n : ℕ) (ss new : List Slot) : Type 0 where
    pub own : AreOwn before (names_of (drop n new))
    pub parameters : Each (λ m. Each (λ (t : Slot). t.name ≢ m) (take n ss)) (names_of (drop n new))

  parameter_before : (taken used : List (List ℕ)) (s : Slot) → Giving taken used → IsParameter s → IsBefore (with_name taken s.name) used s.name
  parameter_before taken used s g (inl e) = inl e
  parameter_before taken used s g (inr h) = inr (g.named s.name h, inl (own_with taken s.name))

  nothing : (ms : List (List ℕ)) → Each (λ m. Each (λ (t : Slot). t.name ≢ m) []) ms
  nothing [] = tt
  nothing (m ∷ ms) = (tt, nothing ms)

  pub slots_own : (n : ℕ) (before taken used : List (List ℕ)) (ss : List Slot) → n ≤ length ss → Giving taken used →
      Each (IsBefore taken used) before → Each IsParameter (take n ss) → Each IsSource (drop n ss)
      → 2 + length (named_slots n taken used ss).used < 2 ^ 64 → AreOwnSlots before n ss (named_slots n taken used ss).slots
  slots_own zero before taken used ss l g b q h f = record {
    own = block_own 0 before taken used ss refl g b h f;
    parameters = nothing
        (names_of (named_slots 0 taken used ss).slots);
  }
  slots_own (suc n) before taken used [] l g b q h f = absurd (omega (arith, l))
  slots_own (suc n) before taken used (s ∷ ss) l g b q h f =
      let p = nat_lt 0 (suc n) in
      let yes : p ≡ true = lt-ltb 0 (suc n) (omega arith) in
      let e : suc n - 1 ≡ n = omega arith in
      let taken' = with_name taken s.name in
      let rest = named_slots n taken' used ss in
      let whole : named_slots (suc n) taken used (s ∷ ss) ≡ record { slots = s ∷ rest.slots; used = rest.used } =
      ap (λ z. (let m = named_slots (suc n - 1) (slot_taken z taken used s) (slot_used z taken used s) ss in
      record { slots = slot_named z taken used s ∷ m.slots; used = m.used })) yes
      ∙ ap (λ k. (let m = named_slots k taken' used ss in record { slots = s ∷ m.slots; used = m.used })) e in
      let t = grows_with taken s.name in
      let u = grows_self used in
      let big = subst (λ (m : Named). 2 + length m.used < 2 ^ 64) whole f in
      let now : Each (IsBefore taken' used) (s.name ∷ before) = (
        parameter_before taken used s g q.0,
        each_map (IsBefore taken used) (IsBefore taken' used)
            (λ x i. before_more taken used taken' used t u x i) before b,
      ) in
      let later = slots_own n (s.name ∷ before) taken' used ss (omega (arith, l)) (giving_more taken used taken' used t u g) now q.1 h big in
      let ms = names_of (drop n rest.slots) in
      subst (λ (m : Named). AreOwnSlots before (suc n) (s ∷ ss) m.slots) (sym whole)
      (record {
        own = record {
          words = later.own.words;
          clear = later.own.clear;
          apart = later.own.apart;
          beside = each_map (λ m. Each (λ x. x ≢ m) (s.name ∷ before)) (λ m. Each (λ x. x ≢ m) before) (λ m i. i.1) ms later.own.beside;
        };
        parameters = each_map (λ m. Each (λ x. x ≢ m) (s.name ∷ before) × Each (λ (r : Slot). r.name ≢ m) (take n ss))
            (λ m. Each (λ (r : Slot). r.name ≢ m) (s ∷ take n ss)) (λ m i. (i.0.0, i.1)) ms
            (each_both (λ m. Each (λ x. x ≢ m) (s.name ∷ before)) (λ m. Each (λ (r : Slot). r.name ≢ m) (take n ss)) ms later.own.beside later.parameters);
      })

  -- ---- the variables of scattered switches

  -- a name that was made: it is none of the program
  abbrev pub IsMade : List (List ℕ) → List ℕ → Type 0
  IsMade used m = (IsName m × Clear m) × (In used m × Out ns m)

  pub record AreMade (used : List (List ℕ)) (vs : List Slot) : Type 0 where
    pub each : Each (IsMade used) (names_of vs)
    pub apart : AllDiffer (names_of vs)

  made_more : (us vs : List (List ℕ)) (xs : List Slot) → Grows us vs → AreMade us xs → AreMade vs xs
  made_more us vs xs g h = record { each = each_map (IsMade us) (IsMade vs) (λ m i. (i.0, (g.0 m i.1.0, i.1.1))) (names_of xs) h.each; apart = h.apart }

  names_end : (vs : List Slot) (s : Slot) → names_of (vs ++ s ∷ []) ≡ names_of vs ++ s.name ∷ []
  names_end [] s = refl
  names_end (v ∷ vs) s = ap (λ l. v.name ∷ l) (names_end vs s)

  break_grows : (k : ℕ) (b : Bool) (g : Given) → Grows g.used (name_break k b g).used
  break_grows k true g = grows_with g.used (fresh (numbered (codes "break") k) g.used)
  break_grows k false g = grows_self g.used

  default_grows : (k : ℕ) (b : Bool) (g : Given) → Grows g.used (name_default k b g).used
  default_grows k true g = grows_with g.used (fresh (numbered (codes "default") k) g.used)
  default_grows k false g = grows_self g.used

  cases_grow : (k i n : ℕ) (g : Given) → Grows g.used (name_cases k i n g).used
  cases_grow k i zero g = grows_self g.used
  cases_grow k i (suc n) g =
      grows_then g.used (name_case k i g).used (name_cases k (i + 1) n (name_case k i g)).used
      (grows_with g.used (fresh (numbered (numbered (codes "case") k) i) g.used)) (cases_grow k (i + 1) n (name_case k i g))

  behind_grows : (i n : ℕ) (d l : Bool) (g : Given) → Grows g.used (name_break i l (name_default i d (name_cases i 1 n g))).used
  behind_grows i n d l g =
      let a = name_cases i 1 n g in
      let b = name_default i d a in
      grows_then g.used a.used (name_break i l b).used (cases_grow i 1 n g)
      (grows_then a.used b.used (name_break i l b).used (default_grows i d a) (break_grows i l b))

  construct_grows : (i : ℕ) (x : Construct) (g : Given) → Grows g.used (name_construct i x g).used
  construct_grows i c.Stays g = grows_self g.used
  construct_grows i (c.Scattered k n d l) g =
      let one = name_variable i k g in
      grows_then g.used one.used (name_construct i (c.Scattered k n d l) g).used (grows_with g.used (fresh (numbered (codes "switch") i) g.used))
      (behind_grows i n d l one)

  pub constructs_grow : (i : ℕ) (cs : List Construct) (g : Given) → Grows g.used (name_constructs i cs g).used
  constructs_grow i [] g = grows_self g.used
  constructs_grow i (x ∷ cs) g = grows_then g.used (name_construct i x g).used (name_constructs (i + 1) cs (name_construct i x g)).used
      (construct_grows i x g) (constructs_grow (i + 1) cs (name_construct i x g))

  switch_word : (i : ℕ) → IsName (numbered (codes "switch") i)
  switch_word i = numbered_name (codes "switch") i refl

  variable_made : (i : ℕ) (k : IntKind) (taken : List (List ℕ)) (g : Given) → Giving taken g.used → AreMade g.used g.variables →
      2 + length g.used < 2 ^ 64 → AreMade (name_variable i k g).used (name_variable i k g).variables
  variable_made i k taken g y h f =
      let w = fresh (numbered (codes "switch") i) g.used in
      let o = fresh_unused g.used (numbered (codes "switch") i) f in
      let none = out_by ns g.used w (y.named w) o in
      let old = made_more g.used (with_name g.used w) g.variables (grows_with g.used w) h in
      let s = number_slot k w in
      let new : IsMade (with_name g.used w) w = (
        (fresh_name g.used (numbered (codes "switch") i) (switch_word i), y.clear_used w o),
        (own_with g.used w, none),
      ) in
      record {
        each = subst (Each (IsMade (with_name g.used w))) (sym (names_end g.variables s))
            (each_append (IsMade (with_name g.used w)) (names_of g.variables) (w ∷ []) old.each (new, tt));
        apart = subst AllDiffer (sym (names_end g.variables s)) (differ_append (names_of g.variables) (w ∷ []) h.apart (tt, tt)
            (each_map (IsMade g.used) (λ m. m ≢ w) (λ m q. in_out g.used m w q.1.0 o) (names_of g.variables) h.each, tt));
      }

  pub variables_own : (i : ℕ) (cs : List Construct) (taken : List (List ℕ)) (g : Given) → Giving taken g.used → AreMade g.used g.variables →
      2 + length (name_constructs i cs g).used < 2 ^ 64
      → AreMade (name_constructs i cs g).used (name_constructs i cs g).variables
  variables_own i [] taken g y h f = h
  variables_own i (c.Stays ∷ cs) taken g y h f = variables_own (i + 1) cs taken (name_construct i c.Stays g) y h f
  variables_own i (c.Scattered k n d l ∷ cs) taken g y h f =
      let one = name_variable i k g in
      let all = name_cases i 1 n one in
      let next = name_construct i (c.Scattered k n d l) g in
      let e : next.variables ≡ one.variables = break_same i l (name_default i d all) ∙ default_same i d all ∙ cases_same i 1 n one in
      let first = construct_grows i (c.Scattered k n d l) g in
      let few = first.1 in
      let more = (constructs_grow (i + 1) cs next).1 in
      let made = variable_made i k taken g y h (omega (arith, few, more, f)) in
      variables_own (i + 1) cs taken next (giving_more taken g.used taken next.used (grows_self taken) first y)
      (subst (AreMade next.used) (sym e) (made_more one.used next.used one.variables (behind_grows i n d l one) made)) f

  pub made_before : (taken used : List (List ℕ)) (vs : List Slot) → AreMade used vs → Each (IsBefore taken used) (names_of vs)
  made_before taken used vs h = each_map (IsMade used) (IsBefore taken used) (λ m i. inr (i.1.0, inr i.1.1)) (names_of vs) h.each

  pub made_other : (m : List ℕ) (s : Slot) → IsName m → Out ns m → IsParameter s → s.name ≢ m
  made_other m s n o (inl e) i = some_name m n (sym e ∙ i)
  made_other m s n o (inr h) i = in_out ns s.name m h o i
