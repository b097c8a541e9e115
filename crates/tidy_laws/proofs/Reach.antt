-- Each change is one of a slot of the function that is no parameter, and takes it away.
use Rattle.std.proofs.Common.{ℕ, zero, suc, ◌+◌, ◌-◌, ◌≤◌, ◌<◌, true, List, [], ◌∷◌, length, Option, Some, None, option_map, ◌≡◌, refl, sym, ap, ◌∙◌, subst, arith}
use Rattle.std.specs.Prelude.{All, Contains}
use Rattle.std.specs.Option.{option_map_or}
use Rattle.std.proofs.lemmas.List.Elements.{All-nil, All-cons, All-filter, All-contains, filter_passes}
use Rattle.c_tree.specs.declared.tree.Slot.{Slot}
use Rattle.c_tree.specs.Trees.{Tree, Forest, Nil, Then, Sections, NoSection, Section, If, While, Do, For, Switch, Block}
use Rattle.jump_meaning.specs.Code.{FunctionTree}
use Rattle.tidy_laws.specs.Renumbered.{without}
use Rattle.tidy_laws.specs.Changes.{broken_loop, after_reset, both_there, continued_loop, around, changed_here, changed_lists, changed_items, changed_sections, is_allowed, changes, changes_of, changed, changed_first, changed_once, changed_times, one_more, times_changed, changed_fully}
use Rattle.tidy_laws.specs.TidyChangesLaws.{ChangeLaws}
use Rattle.tidy_laws.proofs.Lists.{Each, each_both, each_around, each_for}

module _ (start count : ℕ) where
  abbrev Reach : {A : Type 0} → ℕ × A → Type 0
  Reach c = (start ≤ c.0) × (c.0 < start + count)

  here_reach : (level : ℕ) (x : Tree) (xs : Forest) → Each Reach (changed_here start count level x xs)
  here_reach level x xs =
      each_both Reach _ _
      (each_for Reach (λ g. both_there (broken_loop g (suc level) x) (after_reset g xs)) start count (λ g c l m e. (l, m)))
      (each_for Reach (λ g. option_map (λ y. Then y xs) (continued_loop g (suc level) x)) start count (λ g c l m e. (l, m)))

  around_reach : {A B : Type 0} (f : A → B) (cs : List (ℕ × A)) → Each Reach cs → Each Reach (around f cs)
  around_reach f cs h = each_around Reach Reach f cs (λ c h. h) h

  mutual
    pub lists_reach : (a : Forest) (level : ℕ) → Each Reach (changed_lists start count level a)
    lists_reach Nil level = tt
    lists_reach (Then x xs) level =
        each_both Reach (changed_here start count level x xs) _ (here_reach level x xs)
        (each_both Reach _ _ (around_reach (λ y. Then y xs) (changed_items start count (suc level) x) (items_reach x (suc level)))
        (around_reach (Then x) (changed_lists start count level xs) (lists_reach xs level)))

    items_reach : (x : Tree) (level : ℕ) → Each Reach (changed_items start count level x)
    items_reach (If t a b) level = each_both Reach (around (λ c. If t c b) (changed_lists start count level a))
        _ (around_reach (λ c. If t c b) (changed_lists start count level a) (lists_reach a level))
        (around_reach (If t a) (changed_lists start count level b) (lists_reach b level))
    items_reach (While t a) level = around_reach (While t) (changed_lists start count level a) (lists_reach a level)
    items_reach (Do a t) level = around_reach (λ c. Do c t) (changed_lists start count level a) (lists_reach a level)
    items_reach (For f t u a) level = each_both Reach (around (λ c. For c t u a) (changed_lists start count level f))
        _ (around_reach (λ c. For c t u a) (changed_lists start count level f) (lists_reach f level))
        (around_reach (For f t u) (changed_lists start count level a) (lists_reach a level))
    items_reach (Switch s b) level = around_reach (Switch s) (changed_sections start count level b) (sections_reach b level)
    items_reach (Block a) level = around_reach Block (changed_lists start count level a) (lists_reach a level)
    items_reach _ level = tt

    sections_reach : (s : Sections) (level : ℕ) → Each Reach (changed_sections start count level s)
    sections_reach NoSection level = tt
    sections_reach (Section cases default a ends s) level =
        each_both Reach (around (λ b. Section cases default b ends s) (changed_lists start count level a)) _
        (around_reach (λ b. Section cases default b ends s) (changed_lists start count level a) (lists_reach a level))
        (around_reach (Section cases default a ends) (changed_sections start count level s) (sections_reach s level))

pub all_of : {A : Type 0} (P : A → Type 0) (cs : List A) → Each P cs → All P cs
all_of P [] h = All-nil P
all_of P (c ∷ cs) h = All-cons P c cs h.0 (all_of P cs h.1)

pub no_element : {A : Type 0} (c : A) → Contains [] c → ⊥
no_element c h = let i = h.1 in omega (arith, i)

-- what holds of all changes holds of one that applies, which is allowed
pub of_change : (P : ℕ × Forest → Type 0) (f : FunctionTree) (a : Forest) → Each P (changed_lists f.params (length f.slots - f.params) 1 a) →
    (c : ℕ × Forest) → Contains (changes f a) c → P c × (is_allowed f.slots c ≡ true)
of_change P f a h c k =
    let cs = changed_lists f.params (length f.slots - f.params) 1 a in (
      All-contains P (changes f a) c (All-filter (is_allowed f.slots) P cs (all_of P cs h)) k,
      All-contains (λ c. is_allowed f.slots c ≡ true) (changes f a) c (filter_passes (is_allowed f.slots) cs) k,
    )

pub in_reach : (f : FunctionTree) (c : ℕ × Forest) → Contains (changes_of f) c → (f.params ≤ c.0) × (c.0 < length f.slots)
in_reach f c k = at f.body k
  where
    at : (o : Option Forest) → Contains (option_map_or (changes f) o []) c → (f.params ≤ c.0) × (c.0 < length f.slots)
    at None k = absurd (no_element c k)
    at (Some a) k =
        let h = (of_change (Reach f.params (length f.slots - f.params)) f a (lists_reach f.params (length f.slots - f.params) a 1) c k).0 in
        let i = h.0 in
        let j = h.1 in
        (i, grind (arith))

without_length : (g : ℕ) (ss : List Slot) → g < length ss → suc (length (without g ss)) ≡ length ss
without_length g [] h = absurd (omega (arith, h))
without_length zero (s ∷ ss) h = refl
without_length (suc g) (s ∷ ss) h = ap suc (without_length g ss (let i : suc g < suc (length ss) = h in omega (arith, i)))

pub fewer : (f : FunctionTree) (c : ℕ × Forest) → Contains (changes_of f) c → suc (length (changed f c).slots) ≡ length f.slots
fewer f c k = without_length c.0 f.slots (in_reach f c k).1

pub first_among : {A : Type 0} (c : A) (cs : List A) → Contains (c ∷ cs) c
first_among c cs = (0, (let i : 0 < suc (length cs) = omega arith in i), refl)

-- ---- changes one after another

stays : (n : ℕ) (f : FunctionTree) → changes_of f ≡ [] → changed_times n f ≡ f
stays zero f e = refl
stays (suc n) f e = ap (λ cs. changed_times n (changed_first f cs)) e ∙ stays n f e

pub over_after : (n : ℕ) (f : FunctionTree) → length f.slots ≤ n → changes_of (changed_times n f) ≡ []
over_after zero f h = at (changes_of f) refl
  where
    at : (cs : List (ℕ × Forest)) → changes_of f ≡ cs → changes_of f ≡ []
    at [] e = e
    at (c ∷ cs) e = let i = fewer f c (subst (λ ds. Contains ds c) (sym e) (first_among c cs)) in absurd (omega (arith, i, h))
over_after (suc n) f h = at (changes_of f) refl (over_after n)
  where
    at : (cs : List (ℕ × Forest)) → changes_of f ≡ cs → ((f : FunctionTree) → length f.slots ≤ n → changes_of (changed_times n f) ≡ []) →
        changes_of (changed_times n (changed_once f)) ≡ []
    at [] e k = ap (λ ds. changes_of (changed_times n (changed_first f ds))) e ∙ ap changes_of (stays n f e) ∙ e
    at (c ∷ cs) e k =
        let i = fewer f c (subst (λ ds. Contains ds c) (sym e) (first_among c cs)) in
        ap (λ ds. changes_of (changed_times n (changed_first f ds))) e ∙ k (changed f c) (omega (arith, i, h))

pub over : (f : FunctionTree) → changes_of (changed_fully f) ≡ []
over f = over_after (length f.slots) f (omega arith)

counted_after : (n : ℕ) (f : FunctionTree) → times_changed n f + length (changed_times n f).slots ≡ length f.slots
counted_after zero f = omega arith
counted_after (suc n) f = at (changes_of f) refl (counted_after n)
  where
    at : (cs : List (ℕ × Forest)) → changes_of f ≡ cs → ((f : FunctionTree) → times_changed n f + length (changed_times n f).slots ≡ length f.slots)
        → one_more (changes_of f) (times_changed n (changed_once f)) + length (changed_times n (changed_once f)).slots ≡ length f.slots
    at [] e k =
        ap (λ ds. one_more ds (times_changed n (changed_first f ds)) + length (changed_times n (changed_first f ds)).slots) e
        ∙ ap (λ (h : FunctionTree). 0 + length h.slots) (stays n f e) ∙ omega arith
    at (c ∷ cs) e k =
        let i = fewer f c (subst (λ ds. Contains ds c) (sym e) (first_among c cs)) in
        let j = k (changed f c) in
        ap (λ ds. one_more ds (times_changed n (changed_first f ds)) + length (changed_times n (changed_first f ds)).slots) e ∙ omega (arith, i, j)

pub counted : (f : FunctionTree) (n : ℕ) → times_changed n f + length (changed_times n f).slots ≡ length f.slots
counted f n = counted_after n f

last_of : (n : ℕ) (f : FunctionTree) → changed_times (suc n) f ≡ changed_once (changed_times n f)
last_of zero f = refl
last_of (suc n) f = last_of n (changed_once f)

pub change_law : ChangeLaws
change_law = record { fewer = fewer; over = over; counted = counted; last = λ f n. last_of n f }
