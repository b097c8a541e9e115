-- The counts of the slots that may go.
use Rattle.std.proofs.Common.{ℕ, zero, suc, ◌+◌, ◌<◌, ◌≤◌, ◌≢◌, arith, Bool, true, false, cond, ◌&&◌, ◌||◌, eqb, eqb-true, eq-eqb, true≢false, leb, ltb, List, [], ◌∷◌, ◌++◌, length, slice_get, slice_set, replicate, Option, Some, None, ◌≡◌, refl, sym, ap, ◌∙◌}
use Rattle.std.proofs.lemmas.Bool.{ne_eqb, leb-true, leb-false}
use Rattle.std.proofs.lemmas.List.{get_or-set_same, get_or-set_other}
use Rattle.c_tree.specs.Trees.{Tree, Forest, Nil, Then, Local}
use Rattle.jump_meaning.specs.Code.{FunctionTree, items_of, entry_or}
use Rattle.jump_meaning.specs.World.{no_slot}
use Rattle.tidy_laws.specs.Changes.{is_flag, is_zero_value, is_declaration, declares}
use Rattle.tidy_laws.proofs.Tailed.{and_of_all}
use Rattle.tidy_slots.specs.Counts.{list_count}
use Rattle.tidy_slots.specs.Added.{Adds}
use Rattle.tidy_loops.specs.Views.{is_it}
use Rattle.tidy_loops.specs.Slots.{declared, is_free, may_go, counts_of, count_in, Tells}
use Rattle.tidy_loops.proofs.Read.{none_past}

-- ---- zeros

pub zero_more : (n : ℕ) → replicate n zero ++ zero ∷ [] ≡ replicate (n + 1) zero
zero_more zero = refl
zero_more (suc n) = let j : suc n + 1 ≡ suc (n + 1) = omega arith in ap (λ z. zero ∷ z) (zero_more n) ∙ sym (ap (λ m. replicate m zero) j)

pub zeros_in : (n g : ℕ) → count_in (replicate n 0) g ≡ 0
zeros_in zero g = refl
zeros_in (suc n) zero = refl
zeros_in (suc n) (suc g) = zeros_in n g

pub zeros_long : (n : ℕ) → length (replicate n zero) ≡ n
zeros_long zero = refl
zeros_long (suc n) = ap suc (zeros_long n)

past_count : (xs : List ℕ) (g : ℕ) → length xs ≤ g → count_in xs g ≡ 0
past_count [] g h = refl
past_count (x ∷ xs) zero h = absurd (omega (arith, h))
past_count (x ∷ xs) (suc g) h = let k : length xs ≤ g = omega (arith, h) in past_count xs g k

pub none_counted : (xs : List ℕ) (g : ℕ) → None ≡ slice_get xs g → 0 ≡ count_in xs g
none_counted [] g e = refl
none_counted (x ∷ xs) zero e = cc
none_counted (x ∷ xs) (suc g) e = none_counted xs g e

-- ---- one put

pub put_at : (xs : List ℕ) (s n g : ℕ) → s < length xs → count_in (slice_set xs s n) g ≡ cond (eqb s g) n (count_in xs g)
put_at xs s n g h = by (eqb s g) refl
  where
    by : (b : Bool) → eqb s g ≡ b → count_in (slice_set xs s n) g ≡ cond (eqb s g) n (count_in xs g)
    by true e =
        let q : s ≡ g = eqb-true s g e in
        ap (count_in (slice_set xs s n)) (sym q) ∙ get_or-set_same xs s n 0 h ∙ sym (ap (λ b. cond b n (count_in xs g)) e)
    by false e = get_or-set_other xs s g n 0 (λ q. true≢false (sym (eq-eqb s g (sym q)) ∙ e)) ∙ sym (ap (λ b. cond b n (count_in xs g)) e)

pub put_past : (xs : List ℕ) (s n g : ℕ) → length xs ≤ s → g < length xs → count_in xs g ≡ cond (eqb s g) n (count_in xs g)
put_past xs s n g h l = let q : s ≢ g = omega (arith, h, l) in sym (ap (λ b. cond b n (count_in xs g)) (ne_eqb s g q))

-- ---- one declaration

and_it : (g x : ℕ) (z : Bool) → (eqb x g && z) ≡ is_it g (cond z (Some x) None)
and_it g x true = by (eqb x g)
  where
    by : (b : Bool) → (b && true) ≡ b
    by true = refl
    by false = refl
and_it g x false = by (eqb x g)
  where
    by : (b : Bool) → (b && false) ≡ false
    by true = refl
    by false = refl

declared_is : (g : ℕ) (x : Tree) → is_declaration g x ≡ is_it g (declared x)
declared_is g (Local x es) = and_it g x (is_zero_value es)
declared_is g _ = refl

pub none_kept : (p : Bool) (c k : ℕ) → cond (p && false) c k ≡ k
none_kept true c k = refl
none_kept false c k = refl

module _ (f : FunctionTree) (x : Tree) (counts : List ℕ) (g k : ℕ) where
  abbrev Kept : ℕ → Type 0
  Kept n = n ≡ cond (is_free f g && is_declaration g x) (count_in counts g) k

  by_declared : (n : ℕ) (o : Option ℕ) → o ≡ declared x → n ≡ cond (is_free f g && is_it g o) (count_in counts g) k → Kept n
  by_declared n o e h = h ∙ ap (λ b. cond (is_free f g && b) (count_in counts g) k) (ap (is_it g) e ∙ sym (declared_is g x))

  pub kept_none : None ≡ declared x → Kept k
  kept_none e = by_declared k None e (sym (none_kept (is_free f g) (count_in counts g) k))

  pub kept_free : (s : ℕ) → Some s ≡ declared x → is_free f s ≡ true → (n : ℕ) → n ≡ cond (eqb s g) (count_in counts s) k → Kept n
  kept_free s e h n p = by_declared n (Some s) e (by (eqb s g) refl)
    where
      by : (b : Bool) → eqb s g ≡ b → n ≡ cond (is_free f g && eqb s g) (count_in counts g) k
      by true i =
          let q : s ≡ g = eqb-true s g i in
          p ∙ ap (λ b. cond b (count_in counts s) k) i ∙ ap (count_in counts) q ∙
          sym (ap (λ b. cond (is_free f g && b) (count_in counts g) k) i ∙ ap (λ b. cond (b && true) (count_in counts g) k) (ap (is_free f) (sym q) ∙ h))
      by false i = p ∙ ap (λ b. cond b (count_in counts s) k) i ∙ sym
          (ap (λ b. cond (is_free f g && b) (count_in counts g) k) i ∙ none_kept (is_free f g) (count_in counts g) k)

  pub kept_bound : (s : ℕ) → Some s ≡ declared x → is_free f s ≡ false → Kept k
  kept_bound s e h = by_declared k (Some s) e (by (eqb s g) refl)
    where
      by : (b : Bool) → eqb s g ≡ b → k ≡ cond (is_free f g && eqb s g) (count_in counts g) k
      by true i =
          let q : s ≡ g = eqb-true s g i in
          sym (ap (λ b. cond (b && eqb s g) (count_in counts g) k) (ap (is_free f) (sym q) ∙ h))
      by false i = sym (ap (λ b. cond (is_free f g && b) (count_in counts g) k) i ∙ none_kept (is_free f g) (count_in counts g) k)

-- ---- of a list

kept_on : (p d r : Bool) (c k : ℕ) → cond (p && (d || r)) c k ≡ cond (p && r) c (cond (p && d) c k)
kept_on true true true c k = refl
kept_on true true false c k = refl
kept_on true false r c k = refl
kept_on false d r c k = refl

-- what is kept so far, and what the rest declares
pub record KeptUpTo (f : FunctionTree) (counts : List ℕ) (whole : Forest) (old : List ℕ) (rest : Forest) (new : List ℕ) : Type 0 where
  pub as_long : length new ≡ length old
  pub kept : (g : ℕ) → g < length old → cond (is_free f g && declares g rest) (count_in counts g) (count_in new g) ≡ cond
      (is_free f g && declares g whole) (count_in counts g) (count_in old g)

pub none_yet : (f : FunctionTree) (counts : List ℕ) (a : Forest) (old : List ℕ) → KeptUpTo f counts a old a old
none_yet f counts a old = record { as_long = refl; kept = λ g h. refl }

pub one_more_kept : (f : FunctionTree) (counts : List ℕ) (whole : Forest) (old : List ℕ) (rest : Forest) (new : List ℕ) (x : Tree) (later : Forest)
    (next : List ℕ) → rest ≡ Then x later → length next ≡ length new
    → ((g : ℕ) → g < length new → count_in next g ≡ cond (is_free f g && is_declaration g x) (count_in counts g) (count_in new g)) →
    KeptUpTo f counts whole old rest new → KeptUpTo f counts whole old later next
one_more_kept f counts whole old rest new x later next e l p d = record {
  as_long = l ∙ d.as_long;
  kept = λ g h. let m : g < length new = omega (arith, h, d.as_long) in
      ap (cond (is_free f g && declares g later) (count_in counts g)) (p g m)
      ∙ sym (ap (λ z. cond (is_free f g && declares g z) (count_in counts g) (count_in new g)) e ∙
      kept_on (is_free f g) (is_declaration g x) (declares g later) (count_in counts g) (count_in new g))
      ∙ d.kept g h;
}

pub all_kept : (f : FunctionTree) (counts : List ℕ) (whole : Forest) (old : List ℕ) (rest : Forest) (new : List ℕ) → rest ≡ Nil →
    KeptUpTo f counts whole old rest new
    → (g : ℕ) → g < length old → count_in new g ≡ cond (is_free f g && declares g whole) (count_in counts g) (count_in old g)
all_kept f counts whole old rest new e d g h =
    sym (ap (λ z. cond (is_free f g && declares g z) (count_in counts g) (count_in new g)) e ∙
    none_kept (is_free f g) (count_in counts g) (count_in new g)) ∙ d.kept g h

-- ---- of a function

goes_if : (f : FunctionTree) (g : ℕ) → (is_free f g && declares g (items_of f)) ≡ may_go f g
goes_if f g = and_of_all (leb f.params g && ltb g (length f.slots)) (is_flag (entry_or no_slot f.slots g)) (declares g (items_of f))

-- the counts of the body, and those that are kept of them
pub tells : (f : FunctionTree) (zeros counts kept : List ℕ) → zeros ≡ replicate (length f.slots) 0 →
    Adds zeros (λ g. list_count g (items_of f)) counts → length kept ≡ length f.slots
    → ((g : ℕ) → g < length f.slots → count_in kept g ≡ cond (is_free f g && declares g (items_of f)) (count_in counts g) 0) → Tells kept f
tells f zeros counts kept z a l p g = by (leb (length f.slots) g) refl
  where
    by : (b : Bool) → leb (length f.slots) g ≡ b → count_in kept g ≡ counts_of f g
    by true e =
        let h : length f.slots ≤ g = leb-true (length f.slots) g e in
        past_count kept g (omega (arith, l, h)) ∙ sym (ap (λ b. cond b (list_count g (items_of f)) 0)
        (none_past f g (is_flag (entry_or no_slot f.slots g) && declares g (items_of f)) h))
    by false e =
        let h : g < length f.slots = leb-false (length f.slots) g e in
        let m : length zeros ≡ length f.slots = ap length z ∙ zeros_long (length f.slots) in
        let k : g < length zeros = omega (arith, h, m) in
        let o : count_in zeros g ≡ 0 = ap (λ xs. count_in xs g) z ∙ zeros_in (length f.slots) g in
        let u : 0 + list_count g (items_of f) ≡ list_count g (items_of f) = omega arith in
        let q : count_in counts g ≡ list_count g (items_of f) = a.counted g k ∙ ap (λ v. v + list_count g (items_of f)) o ∙ u in
        p g h ∙ ap (λ b. cond b (count_in counts g) 0) (goes_if f g) ∙ ap (λ v. cond (may_go f g) v 0) q
