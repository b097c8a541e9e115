-- The names that lowering makes are names, none of them used before, and apart from each other.
use Rattle.std.proofs.Common.{◌≡◌, ◌≢◌, ℕ, zero, suc, ◌+◌, ◌≤◌, ◌<◌, ◌^◌, ◌/◌, ◌%◌, Bool, true, false, true≢false, cond, eqb, codes, List, [], ◌∷◌, length, map, get_or, Option, Some, None, refl, sym, ap, subst, ◌∙◌, arith}
use Rattle.std.proofs.lemmas.Bool.Decides.{Decides-eqb}
use Rattle.c_types.specs.declared.kinds.IntKind.{IntKind}
use Rattle.c_copies.specs.Names.{has_name, with_name}
use Rattle.c_tree.specs.declared.tree.Slot.{Slot}
use Rattle.c_fresh_names.specs.Fresh.{numbered, fresh}
use Rattle.c_fresh_names.proofs.NameSets.{one_more}
use Rattle.c_resolved_defs.specs.Within.{Each, AllDiffer}
use Rattle.c_resolved_defs.specs.PrintableExpressions.{IsName}
use Rattle.flat_function.proofs.FreshNames.{numbered_name, fresh_name, fresh_unused, Grows, grows_self, grows_then, grows_with, own_with}
use Rattle.whole_laws.proofs.PlainLists.{each_map}
use Rattle.lower_laws.specs.Lowering.{label_names}
use Rattle.lower_result_laws.proofs.Variables.{kinds, more_variables, used_behind}

abbrev pub In : List (List ℕ) → List ℕ → Type 0
In us m = has_name us m ≡ true

abbrev pub Out : List (List ℕ) → List ℕ → Type 0
Out us m = has_name us m ≡ false

pub in_out : (us : List (List ℕ)) (m n : List ℕ) → In us m → Out us n → m ≢ n
in_out us m n h k e = true≢false (sym h ∙ ap (has_name us) e ∙ k)

pub out_of : (us vs : List (List ℕ)) → Grows us vs → (m : List ℕ) → Out vs m → Out us m
out_of us vs g m e = at (has_name us m) refl
  where
    at : (b : Bool) → has_name us m ≡ b → Out us m
    at true i = absurd (true≢false (sym (g.0 m i) ∙ e))
    at false i = i

-- ---- variables of switches

abbrev Switch : ℕ → List (List ℕ) → List ℕ
Switch k used = fresh (numbered (codes "switch") k) used

pub switches_grow : (k : ℕ) (cs : List (Option IntKind)) (used : List (List ℕ)) → Grows used (used_behind k cs used)
switches_grow k [] used = grows_self used
switches_grow k (None ∷ cs) used = switches_grow (k + 1) cs used
switches_grow k (Some kind ∷ cs) used =
    let w = Switch k used in
    grows_then used (with_name used w) (used_behind (k + 1) cs (with_name used w)) (grows_with used w) (switches_grow (k + 1) cs (with_name used w))

pub switches_few : (k : ℕ) (cs : List (Option IntKind)) (used : List (List ℕ)) → length (used_behind k cs used) ≤ length used + length (kinds cs)
switches_few k [] used = omega arith
switches_few k (None ∷ cs) used = switches_few (k + 1) cs used
switches_few k (Some kind ∷ cs) used =
    let w = Switch k used in
    let h = switches_few (k + 1) cs (with_name used w) in
    let i = one_more used w in
    omega (arith, h, i)

-- a name that was not used
abbrev pub IsNewName : List (List ℕ) → List ℕ → Type 0
IsNewName used m = IsName m × Out used m

abbrev pub names_of : List Slot → List (List ℕ)
names_of ss = map (λ (s : Slot). s.name) ss

new_before : (us vs : List (List ℕ)) → Grows us vs → (ms : List (List ℕ)) → Each (IsNewName vs) ms → Each (IsNewName us) ms
new_before us vs g ms h = each_map (IsNewName vs) (IsNewName us) (λ m i. (i.0, out_of us vs g m i.1)) ms h

pub record AreNewNames (used ms : List (List ℕ)) : Type 0 where
  pub each : Each (IsNewName used) ms
  pub apart : AllDiffer ms

pub switches_new : (k : ℕ) (cs : List (Option IntKind)) (used : List (List ℕ)) → 2 + length (used_behind k cs used) < 2 ^ 64 →
    AreNewNames used (names_of (more_variables k cs used))
switches_new k [] used f = record { each = tt; apart = tt }
switches_new k (None ∷ cs) used f = switches_new (k + 1) cs used f
switches_new k (Some kind ∷ cs) used f =
    let w = Switch k used in
    let g = (switches_grow k (Some kind ∷ cs) used).1 in
    let rest = switches_new (k + 1) cs (with_name used w) f in
    let ms = names_of (more_variables (k + 1) cs (with_name used w)) in
    record {
      each = (
        (
          fresh_name used (numbered (codes "switch") k) (numbered_name (codes "switch") k refl),
          fresh_unused used (numbered (codes "switch") k) (omega (arith, f, g)),
        ),
        new_before used (with_name used w) (grows_with used w) ms rest.each,
      );
      apart = (
        each_map (IsNewName (with_name used w)) (λ m. m ≢ w) (λ m i e. in_out (with_name used w) w m (own_with used w) i.1 (sym e)) ms
            rest.each,
        rest.apart,
      );
    }

-- ---- labels

-- a label of the source is one of n
abbrev pub IsCode : ℕ → ℕ → Type 0
IsCode n c = c % 7 ≡ 0 → c / 7 < n

differ_at : (xs : List (List ℕ)) (i j : ℕ) → AllDiffer xs → i < length xs → j < length xs → i ≢ j → get_or xs i [] ≢ get_or xs j []
differ_at [] i j d a b n e = omega (arith, a)
differ_at (x ∷ xs) zero zero d a b n e = n refl
differ_at (x ∷ xs) zero (suc j) d a b n e = other xs j d.0 (omega (arith, b)) (sym e)
  where
    other : (xs : List (List ℕ)) (j : ℕ) → Each (λ y. y ≢ x) xs → j < length xs → get_or xs j [] ≢ x
    other [] j h b = absurd (omega (arith, b))
    other (y ∷ xs) zero h b = h.0
    other (y ∷ xs) (suc j) h b = other xs j h.1 (omega (arith, b))
differ_at (x ∷ xs) (suc i) zero d a b n e = other xs i d.0 (omega (arith, a)) e
  where
    other : (xs : List (List ℕ)) (j : ℕ) → Each (λ y. y ≢ x) xs → j < length xs → get_or xs j [] ≢ x
    other [] j h b = absurd (omega (arith, b))
    other (y ∷ xs) zero h b = h.0
    other (y ∷ xs) (suc j) h b = other xs j h.1 (omega (arith, b))
differ_at (x ∷ xs) (suc i) (suc j) d a b n e = differ_at xs i j d.1 (omega (arith, a)) (omega (arith, b)) (λ q. n (ap suc q)) e

module _ (labels : List (List ℕ)) (distinct : AllDiffer labels) (own : (l : ℕ) → l < length labels → IsName (get_or labels l [])) where
  abbrev Low : ℕ → List (List ℕ) → List ℕ
  Low n used = fresh (numbered (codes "low") n) used

  -- the names of the labels of the source are used
  abbrev pub AreUsed : List (List ℕ) → Type 0
  AreUsed used = (l : ℕ) → l < length labels → In used (get_or labels l [])

  used_more : (us vs : List (List ℕ)) → Grows us vs → AreUsed us → AreUsed vs
  used_more us vs g h l b = g.0 (get_or labels l []) (h l b)

  -- which name a label has
  pub data Named (used : List (List ℕ)) (n c : ℕ) (cs : List ℕ) : Type 0 where
    of_source : c % 7 ≡ 0 → label_names labels used n (c ∷ cs) ≡ get_or labels (c / 7) [] ∷ label_names labels used n cs → Named used n c cs
    made : label_names labels used n (c ∷ cs) ≡ Low n used ∷ label_names labels (with_name used (Low n used)) (n + 1) cs → Named used n c cs

  named : (used : List (List ℕ)) (n c : ℕ) (cs : List ℕ) → Named used n c cs
  named used n c cs = at (eqb (c % 7) 0) refl
    where
      at : (b : Bool) → eqb (c % 7) 0 ≡ b → Named used n c cs
      at true e = of_source ((Decides-eqb (c % 7) 0).0 e)
          (ap (λ b. cond b (get_or labels (c / 7) [] ∷ label_names labels used n cs)
          (Low n used ∷ label_names labels (with_name used (Low n used)) (n + 1) cs)) e)
      at false e = made (ap (λ b. cond b (get_or labels (c / 7) [] ∷ label_names labels used n cs)
          (Low n used ∷ label_names labels (with_name used (Low n used)) (n + 1) cs)) e)

  pub labels_length : (used : List (List ℕ)) (n : ℕ) (cs : List ℕ) → length (label_names labels used n cs) ≡ length cs
  labels_length used n [] = refl
  labels_length used n (c ∷ cs) = at (named used n c cs) (labels_length used n cs) (labels_length (with_name used (Low n used)) (n + 1) cs)
    where
      at : Named used n c cs → length (label_names labels used n cs) ≡ length cs →
          length (label_names labels (with_name used (Low n used)) (n + 1) cs) ≡ length cs → length (label_names labels used n (c ∷ cs)) ≡ length (c ∷ cs)
      at (of_source e q) i j = ap length q ∙ ap suc i
      at (made q) i j = ap length q ∙ ap suc j

  low_name : (n : ℕ) (used : List (List ℕ)) → IsName (Low n used)
  low_name n used = fresh_name used (numbered (codes "low") n) (numbered_name (codes "low") n refl)

  pub labels_named : (used : List (List ℕ)) (n : ℕ) (cs : List ℕ) → Each (IsCode (length labels)) cs → Each IsName (label_names labels used n cs)
  labels_named used n [] h = tt
  labels_named used n (c ∷ cs) h = at (named used n c cs) (labels_named used n cs h.1) (labels_named (with_name used (Low n used)) (n + 1) cs h.1)
    where
      at : Named used n c cs → Each IsName (label_names labels used n cs) →
          Each IsName (label_names labels (with_name used (Low n used)) (n + 1) cs) → Each IsName (label_names labels used n (c ∷ cs))
      at (of_source e q) i j = subst (Each IsName) (sym q) (own (c / 7) (h.0 e), i)
      at (made q) i j = subst (Each IsName) (sym q) (low_name n used, j)

  -- few names are used
  abbrev IsFew : List (List ℕ) → List ℕ → Type 0
  IsFew used cs = 2 + length used + length cs < 2 ^ 64

  few_more : (used : List (List ℕ)) (w : List ℕ) (c : ℕ) (cs : List ℕ) → IsFew used (c ∷ cs) → IsFew (with_name used w) cs
  few_more used w c cs f = let h = one_more used w in omega (arith, f, h)

  -- no label of these is the used name, where none of the source among them is
  other_than : (m : List ℕ) (used : List (List ℕ)) (n : ℕ) (cs : List ℕ) → In used m → IsFew used cs →
      Each (λ c. c % 7 ≡ 0 → get_or labels (c / 7) [] ≢ m) cs → Each (λ y. y ≢ m) (label_names labels used n cs)
  other_than m used n [] i f s = tt
  other_than m used n (c ∷ cs) i f s =
      let w = Low n used in
      at (named used n c cs) (other_than m used n cs i (omega (arith, f)) s.1)
      (other_than m (with_name used w) (n + 1) cs ((grows_with used w).0 m i) (few_more used w c cs f) s.1)
    where
      at : Named used n c cs → Each (λ y. y ≢ m) (label_names labels used n cs) →
          Each (λ y. y ≢ m) (label_names labels (with_name used (Low n used)) (n + 1) cs) → Each (λ y. y ≢ m) (label_names labels used n (c ∷ cs))
      at (of_source e q) j k = subst (Each (λ y. y ≢ m)) (sym q) (s.0 e, j)
      at (made q) j k = subst (Each (λ y. y ≢ m)) (sym q) (
        λ e. in_out used m (Low n used) i
            (fresh_unused used (numbered (codes "low") n) (omega (arith, f))) (sym e),
        k,
      )

  seventh : (c d : ℕ) → c % 7 ≡ 0 → d % 7 ≡ 0 → d ≢ c → d / 7 ≢ c / 7
  seventh c d e i n q = n (omega (arith, e, i, q))

  pub labels_apart : (used : List (List ℕ)) (n : ℕ) (cs : List ℕ) → Each (IsCode (length labels)) cs → AllDiffer cs → AreUsed used → IsFew used cs →
      AllDiffer (label_names labels used n cs)
  labels_apart used n [] h d u f = tt
  labels_apart used n (c ∷ cs) h d u f =
      let w = Low n used in
      at (named used n c cs) (labels_apart used n cs h.1 d.1 u (omega (arith, f)))
      (labels_apart (with_name used w) (n + 1) cs h.1 d.1 (used_more used (with_name used w) (grows_with used w) u) (few_more used w c cs f))
    where
      sources : c % 7 ≡ 0 → (ds : List ℕ) → Each (IsCode (length labels)) ds → Each (λ y. y ≢ c) ds →
          Each (λ x. x % 7 ≡ 0 → get_or labels (x / 7) [] ≢ get_or labels (c / 7) []) ds
      sources e [] k j = tt
      sources e (x ∷ ds) k j = (λ i. differ_at labels (x / 7) (c / 7) distinct (k.0 i) (h.0 e) (seventh c x e i j.0), sources e ds k.1 j.1)

      of_used : (w : List ℕ) → Out used w → (ds : List ℕ) → Each (IsCode (length labels)) ds → Each (λ x. x % 7 ≡ 0 → get_or labels (x / 7) [] ≢ w) ds
      of_used w o [] k = tt
      of_used w o (x ∷ ds) k = (λ i. in_out used (get_or labels (x / 7) []) w (u (x / 7) (k.0 i)) o, of_used w o ds k.1)

      at : Named used n c cs → AllDiffer (label_names labels used n cs) → AllDiffer (label_names labels (with_name used (Low n used)) (n + 1) cs) →
          AllDiffer (label_names labels used n (c ∷ cs))
      at (of_source e q) i j = subst AllDiffer (sym q) (
        other_than (get_or labels (c / 7) []) used n cs (u (c / 7) (h.0 e)) (omega (arith, f))
            (sources e cs h.1 d.0),
        i,
      )
      at (made q) i j =
          let w = Low n used in
          let o = fresh_unused used (numbered (codes "low") n) (omega (arith, f)) in
          subst AllDiffer (sym q) (other_than w (with_name used w) (n + 1) cs (own_with used w) (few_more used w c cs f) (of_used w o cs h.1), j)
