-- Changes made with the old numbers lead to what they lead to with new numbers after each.
use mathlib.Core.Path.{ap₂}
use Rattle.std.proofs.Common.{ℕ, zero, suc, ◌-◌, ◌<◌, ◌≢◌, arith, Bool, true, false, cond, ◌&&◌, eqb, eqb-true, leb, ltb, List, [], ◌∷◌, length, replicate, slice_set, Option, Some, None, option_map, ◌≡◌, refl, sym, ap, subst, ◌∙◌}
use Rattle.std.specs.Prelude.{filter, Contains}
use Rattle.std.specs.Option.{option_map_or}
use Rattle.std.proofs.lemmas.Bool.{eqb-false}
use Rattle.std.proofs.lemmas.List.{get_or-set_other, length-set}
use Rattle.c_tree.specs.Trees.{Forest, Nil}
use Rattle.jump_meaning.specs.Code.{FunctionTree, items_of, entry_or}
use Rattle.jump_meaning.specs.World.{no_slot}
use Rattle.tidy_laws.specs.Mentions.{list_lacks}
use Rattle.tidy_laws.specs.Renumbered.{without, renumbered_list}
use Rattle.tidy_laws.specs.Changes.{is_flag, undeclared, declares, is_allowed, changed_lists, changes, changes_of, changed}
use Rattle.tidy_laws.proofs.Reach.{in_reach, first_among, fewer}
use Rattle.tidy_slots.specs.Counts.{list_count}
use Rattle.tidy_slots.proofs.CountLemmas.{count_laws_hold}
use Rattle.tidy_laws.specs.Renamed.{renamed_list}
use Rattle.tidy_laws.specs.Gone.{is_gone, old_number, gone_before, left}
use Rattle.tidy_laws.proofs.TidyNumberingNumbers.{number_laws_hold, no_less, was_there}
use Rattle.tidy_loops.specs.Slots.{may_go, counts_of, count_in, Tells}
use Rattle.break_recovery.specs.Next.{first}
use Rattle.break_recovery.specs.Underway.{TreeChangedTimes, Stands, Underway}
use Rattle.break_recovery.proofs.BodyLaws.{Each, both_so, lists_keep, KeepsDeclared, search_laws_hold}
use Rattle.break_recovery.proofs.RenamedCounts.{count_list}
use Rattle.break_recovery.proofs.RenamedDeclared.{declares_same, undeclared_same}
use Rattle.break_recovery.proofs.RenamedNext.{moved, next_same}
use Rattle.break_recovery.proofs.Others.{KeepsOthers, lists_others, undeclared_other, declares_other}
use Rattle.break_recovery.proofs.Outermost.{set_zero}

-- ---- the next change of both

module _ (gone : List Bool) (f h : FunctionTree) (k : Stands gone f h) where
  items_same : items_of f ≡ renamed_list (old_number gone) (items_of h)
  items_same = ap (λ b. option_map_or (λ a. a) b Nil) k.body ∙ by h.body
    where
      by : (b : Option Forest) → option_map_or (λ a. a) (option_map (renamed_list (old_number gone)) b) Nil ≡ renamed_list (old_number gone)
          (option_map_or (λ a. a) b Nil)
      by None = refl
      by (Some a) = refl

  may_same : (g : ℕ) → may_go f (old_number gone g) ≡ may_go h g
  may_same g =
      let s = old_number gone in
      ap₂ (λ a b. a && b)
      (ap₂ (λ a b. a && b)
      (number_laws_hold.in_front gone f.params g k.front ∙ ap (λ p. leb p g) (sym k.params))
      (number_laws_hold.there gone f.slots g ∙ ap (λ ss. ltb g (length ss)) (sym k.slots)))
      (ap₂ (λ a b. a && b)
      (ap is_flag (number_laws_hold.entry gone f.slots g ∙ ap (λ ss. entry_or no_slot ss g) (sym k.slots)))
      (ap (declares (s g)) items_same ∙ declares_same s (number_laws_hold.apart gone) g (items_of h)))

  counts_same : (g : ℕ) → counts_of f (old_number gone g) ≡ counts_of h g
  counts_same g =
      let s = old_number gone in
      ap₂ (λ b n. cond b n 0) (may_same g) (ap (list_count (s g)) items_same ∙ count_list s (number_laws_hold.apart gone) g (items_of h))

  pub first_same : first (changes_of f) ≡ moved (old_number gone) (renamed_list (old_number gone)) (first (changes_of h))
  first_same = ap (λ b. first (option_map_or (changes f) b [])) k.body ∙ by h.body refl
    where
      by : (b : Option Forest) → h.body ≡ b → first (option_map_or (changes f) (option_map (renamed_list (old_number gone)) b) []) ≡ moved
          (old_number gone) (renamed_list (old_number gone)) (first (changes_of h))
      by None e = sym (ap (λ b. moved (old_number gone) (renamed_list (old_number gone)) (first (option_map_or (changes h) b []))) e)
      by (Some a) e =
          let s = old_number gone in
          sym (search_laws_hold.whole f (renamed_list s a) (k.body ∙ ap (option_map (renamed_list s)) e))
          ∙ next_same s (number_laws_hold.apart gone) f h counts_same a 1
          ∙ ap (moved s (renamed_list s)) (search_laws_hold.whole h a e)
          ∙ sym (ap (λ b. moved s (renamed_list s) (first (option_map_or (changes h) b []))) e)

-- ---- what is known of a change

each_filter : {A : Type 0} (P : A → Type 0) (q : A → Bool) (cs : List A) → Each P cs → Each (λ c. P c × (q c ≡ true)) (filter q cs)
each_filter P q [] h = tt
each_filter P q (c ∷ cs) h = by (q c) refl (each_filter P q cs h.1)
  where
    by : (b : Bool) → q c ≡ b → Each (λ c. P c × (q c ≡ true)) (filter q cs) → Each (λ c. P c × (q c ≡ true)) (cond b (c ∷ filter q cs) (filter q cs))
    by true e k = ((h.0, e), k)
    by false e k = k

each_both : {A : Type 0} (P Q : A → Type 0) (cs : List A) → Each P cs → Each Q cs → Each (λ c. P c × Q c) cs
each_both P Q [] p q = tt
each_both P Q (c ∷ cs) p q = ((p.0, q.0), each_both P Q cs p.1 q.1)

-- the declarations and the counts of others stay, and the slot is named no more
abbrev Known : FunctionTree → ℕ × Forest → Type 0
Known f c = (KeepsDeclared (items_of f) c × KeepsOthers (items_of f) c) × (is_allowed f.slots c ≡ true)

known : (f : FunctionTree) (c : ℕ × Forest) (later : List (ℕ × Forest)) → changes_of f ≡ c ∷ later → Known f c
known f c later e = at f.body refl
  where
    at : (b : Option Forest) → f.body ≡ b → Known f c
    at None i = absurd (none (sym e ∙ ap (λ b. option_map_or (changes f) b []) i))
      where
        none : c ∷ later ≡ [] → ⊥
        none e = cc
    at (Some a) i =
        let n = length f.slots - f.params in
        let P = λ (c : ℕ × Forest). KeepsDeclared a c × KeepsOthers a c in
        let w = each_filter P (is_allowed f.slots) (changed_lists f.params n 1 a)
        (each_both (KeepsDeclared a) (KeepsOthers a) (changed_lists f.params n 1 a) (lists_keep f.params n 1 a) (lists_others f.params n a 1)) in
        let j : changes f a ≡ c ∷ later = sym (ap (λ b. option_map_or (changes f) b []) i) ∙ e in
        subst (λ z. (KeepsDeclared z c × KeepsOthers z c) × (is_allowed f.slots c ≡ true)) (sym (ap (λ b. option_map_or (λ a. a) b Nil) i))
        (subst (Each (λ c. P c × (is_allowed f.slots c ≡ true))) j w).0

lacked : (f : FunctionTree) (c : ℕ × Forest) → is_allowed f.slots c ≡ true → list_lacks c.0 (undeclared c.0 c.1) ≡ true
lacked f c e =
    let b = both_so (is_flag (entry_or no_slot f.slots c.0)) (declares c.0 c.1 && list_lacks c.0 (undeclared c.0 c.1)) e in
    (both_so (declares c.0 c.1) (list_lacks c.0 (undeclared c.0 c.1)) b.1).1

-- ---- the counts after a change

cond_same : (b : Bool) (n : ℕ) → n ≡ 0 → cond b n 0 ≡ 0
cond_same true n e = e
cond_same false n e = refl

told_after : (counts : List ℕ) (f : FunctionTree) (c : ℕ × Forest) (later : List (ℕ × Forest)) → changes_of f ≡ c ∷ later → Tells counts f →
    Tells (slice_set counts c.0 0) (record f { body = Some (undeclared c.0 c.1) })
told_after counts f c later e t g = at (eqb c.0 g) refl
  where
    k : Known f c
    k = known f c later e

    at : (b : Bool) → eqb c.0 g ≡ b → count_in (slice_set counts c.0 0) g ≡ counts_of (record f { body = Some (undeclared c.0 c.1) }) g
    at true i =
        let q : c.0 ≡ g = eqb-true c.0 g i in
        let n : list_count c.0 (undeclared c.0 c.1) ≡ 0 = eqb-true (list_count c.0 (undeclared c.0 c.1)) 0
        (sym (count_laws_hold.none c.0 (undeclared c.0 c.1)) ∙ lacked f c k.1) in
        ap (count_in (slice_set counts c.0 0)) (sym q) ∙ set_zero counts c.0
        ∙ sym (ap (counts_of (record f { body = Some (undeclared c.0 c.1) })) (sym q) ∙
        cond_same (may_go (record f { body = Some (undeclared c.0 c.1) }) c.0) (list_count c.0 (undeclared c.0 c.1)) n)
    at false i =
        let q : c.0 ≢ g = eqb-false c.0 g i in
        get_or-set_other counts c.0 g 0 0 (λ w. q (sym w)) ∙ t g
        ∙ sym (ap₂ (λ d n. cond ((leb f.params g && ltb g (length f.slots)) && (is_flag (entry_or no_slot f.slots g) && d)) n 0)
        (declares_other c.0 g i c.1 ∙ k.0.0 g) (undeclared_other c.0 g i c.1 ∙ k.0.1 g i))

-- ---- the start

none_gone : (n x : ℕ) → is_gone (replicate n false) x ≡ false
none_gone zero x = refl
none_gone (suc n) zero = refl
none_gone (suc n) (suc x) = none_gone n x

as_many : (n : ℕ) → length (replicate n false) ≡ n
as_many zero = refl
as_many (suc n) = ap suc (as_many n)

pub starts : (f : FunctionTree) (gone : List Bool) (counts : List ℕ) → gone ≡ replicate (length f.slots) false → Tells counts f → Underway 0 f gone counts f
starts f gone counts e t = subst (λ gone. Underway 0 f gone counts f) (sym e) (record {
  now = f;
  changed = refl;
  stands = record {
    result = refl;
    params = refl;
    slots = sym (number_laws_hold.none_left (length f.slots) f.slots);
    body = by f.body;
    as_long = as_many (length f.slots);
    front = λ x h. none_gone (length f.slots) x;
  };
  told = t;
})
  where
    by : (b : Option Forest) → b ≡ option_map (renamed_list (old_number (replicate (length f.slots) false))) b
    by None = refl
    by (Some a) = ap Some (sym (number_laws_hold.none (length f.slots) a))

-- ---- one change

times_more : (n : ℕ) (f h : FunctionTree) (c : ℕ × Forest) (later : List (ℕ × Forest)) → TreeChangedTimes n f h → changes_of h ≡ c ∷ later →
    TreeChangedTimes (suc n) f (changed h c)
times_more zero f h c later e i = (c, later, ap changes_of (sym e) ∙ i, ap (λ z. changed z c) e)
times_more (suc n) f h c later (d, l, first, rest) i = (d, l, first, times_more n (changed f d) h c later rest i)

some_first : {A B : Type 0} (s : ℕ → ℕ) (F : A → B) (cs : List (ℕ × A)) (d : ℕ × B) → Some d ≡ moved s F (first cs) →
    (c : ℕ × A) × (later : List (ℕ × A)) × (cs ≡ c ∷ later) × (d.0 ≡ s c.0) × (d.1 ≡ F c.1)
some_first {A} {B} s F [] d e = cc
some_first {A} {B} s F (c ∷ cs) d e = (c, cs, refl, ap (λ o. option_map_or (λ (z : ℕ × B). z.0) o d.0) e, ap (λ o. option_map_or (λ (z : ℕ × B). z.1) o d.1) e)

pub goes_on : (n : ℕ) (start : FunctionTree) (gone : List Bool) (counts : List ℕ) (f : FunctionTree) (c : ℕ × Forest) (later : List (ℕ × Forest)) →
    changes_of f ≡ c ∷ later → Underway n start gone counts f
    → Underway (suc n) start (slice_set gone c.0 true) (slice_set counts c.0 0) (record f { body = Some (undeclared c.0 c.1) }) ×
    (suc (length (left (slice_set gone c.0 true) f.slots)) ≡ length (left gone f.slots))
goes_on n start gone counts f c later e u =
    let s = old_number gone in
    let h : FunctionTree = u.now in
    let k = u.stands in
    let d = some_first s (renamed_list s) (changes_of h) c (sym (ap first e) ∙ first_same gone f h k) in
    let g : ℕ = d.0.0 in
    let reach = in_reach h d.0 (subst (λ cs. Contains cs d.0) (sym d.2) (first_among d.0 d.1)) in
    let i : g < length (left gone f.slots) = subst (λ ss. g < length ss) k.slots reach.1 in
    let j = was_there gone f.slots g i in
    let m : s g < length gone = omega (arith, j, k.as_long) in
    let l : list_lacks g (undeclared g d.0.1) ≡ true = lacked h d.0 (known h d.0 d.1 d.2).1 in
    let slots : left (slice_set gone c.0 true) f.slots ≡ without g h.slots =
    ap (λ x. left (slice_set gone x true) f.slots) d.3 ∙ number_laws_hold.one_less gone g f.slots m ∙ ap (without g) (sym k.slots) in (
      record {
        now = changed h d.0;
        changed = times_more n start h d.0 d.1 u.changed d.2;
        stands = record {
          result = k.result;
          params = k.params;
          slots = sym slots;
          body = ap Some (
              ap₂ undeclared d.3 d.4 ∙ undeclared_same s (number_laws_hold.apart gone) g d.0.1
              ∙ sym (number_laws_hold.one_more gone g (undeclared g d.0.1) m l)
              ∙ sym (ap (λ x. renamed_list (old_number (slice_set gone x true)) (renumbered_list g (undeclared g d.0.1))) d.3)
              );
          as_long = length-set gone c.0 true ∙ k.as_long;
          front = λ x p. let q = no_less gone g in let r = reach.0 in
              get_or-set_other gone c.0 x true false (omega (arith, p, q, r, k.params, d.3)) ∙ k.front x p;
        };
        told = told_after counts f c later e u.told;
      },
      ap (λ ss. suc (length ss)) slots ∙ fewer h d.0 (subst (λ cs. Contains cs d.0) (sym d.2) (first_among d.0 d.1)) ∙ ap length k.slots,
    )

-- ---- the end

pub settles : (n : ℕ) (start : FunctionTree) (gone : List Bool) (counts : List ℕ) (f : FunctionTree) → changes_of f ≡ [] →
    (u : Underway n start gone counts f) → changes_of u.now ≡ []
settles n start gone counts f e u = none (changes_of u.now) (sym (ap first e) ∙ first_same gone f u.now u.stands)
  where
    none : (cs : List (ℕ × Forest)) → None ≡ moved (old_number gone) (renamed_list (old_number gone)) (first cs) → cs ≡ []
    none [] e = refl
    none (c ∷ cs) e = absurd (no e)
      where
        no : None ≡ moved (old_number gone) (renamed_list (old_number gone)) (first (c ∷ cs)) → ⊥
        no e = cc

pub numbered : (gone : List Bool) (f h k : FunctionTree) (r : ℕ → ℕ) → ((x : ℕ) → r x ≡ x - gone_before gone x) → Stands gone f h →
    k.result ≡ f.result → k.params ≡ f.params → k.slots ≡ left gone f.slots
    → k.body ≡ option_map (renamed_list r) f.body → k ≡ h
numbered gone f h k r e s a b c d = same a b c (d ∙ ap (option_map (renamed_list r)) s.body ∙ by h.body)
  where
    by : (b : Option Forest) → option_map (renamed_list r) (option_map (renamed_list (old_number gone)) b) ≡ b
    by None = refl
    by (Some a) = ap Some (number_laws_hold.back gone r a e)

    same : k.result ≡ f.result → k.params ≡ f.params → k.slots ≡ left gone f.slots → k.body ≡ h.body → k ≡ h
    same a b c d =
        ap (λ z. record k { result = z }) (a ∙ sym s.result)
        ∙ ap (λ z. record k { result = h.result; params = z }) (b ∙ sym s.params)
        ∙ ap (λ z. record k { result = h.result; params = h.params; slots = z }) (c ∙ sym s.slots)
        ∙ ap (λ z. record k { result = h.result; params = h.params; slots = h.slots; body = z }) d
