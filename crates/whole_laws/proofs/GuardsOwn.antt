-- Where no name of a guard is used elsewhere, each variable of the plain form of a function has a name of its own.
use Rattle.std.proofs.Common.{◌≡◌, ℕ, ◌+◌, ◌≤◌, ◌||◌, Bool, true, false, true≢false, cond, List, [], ◌∷◌, ◌++◌, length, map, take, drop, Option, Some, None, refl, sym, ap, subst, ◌∙◌}
use Rattle.std.specs.Prelude.{◌≢◌}
use Rattle.std.specs.Str.{bytes_eq}
use Rattle.std.proofs.lemmas.Slice.Eq.{bytes_eq-Decides}
use Rattle.std.proofs.lemmas.Bool.{or_parts}
use Rattle.std.proofs.lemmas.List.{drop-append-le, take-append-le}
use Rattle.c_types.specs.Words.{is_known, known_functions}
use Rattle.c_copies.specs.Names.{has_name, with_names, given_name, slot_names, slots_names, enum_names, enums_names, top_names, tops_names, names, option_names, given_names}
use Rattle.c_copies.proofs.Rising.{rising-members}
use Rattle.c_tree.specs.declared.tree.EnumItem.{EnumItem}
use Rattle.c_tree.specs.declared.tree.Function.{Function}
use Rattle.c_tree.specs.declared.tree.Item.{Item}
use Rattle.c_tree.specs.declared.tree.Program.{Program}
use Rattle.c_tree.specs.declared.tree.Slot.{Slot}
use Rattle.c_tree.specs.declared.tree.Top.{Top}
use Rattle.c_tree.specs.declared.tree.Top.TheVariants as T
use Rattle.guard_vars.specs.GuardNames.{names_used, own_names, guard_names, AreNew}
use Rattle.plain_laws.specs.Plain.{is_left, names_left, guard_slot, with_guard_variables, plain_body, plain_function}
use Rattle.c_resolved_defs.specs.Within.{Each, AllDiffer}
use Rattle.c_resolved_defs.specs.PrintableExpressions.{IsName}
use Rattle.whole_laws.specs.Names.{TopIsOther, IsFreeIn, HasOwnNames}
use Rattle.whole_laws.specs.Guards.{HasNames}
use Rattle.whole_laws.proofs.PlainLists.{each_map, each_both, each_append, each_taken, each_dropped, each_name}
use Rattle.whole_laws.proofs.GuardWords.{IsGuardName, are_guard_names, guard_is_name, guard_unknown, guard_some}
use Rattle.whole_laws.proofs.PlainTops.{plain_flat, no_body}

-- ---- names that don't stand in a list

pub has_append : (xs ys : List (List ℕ)) (m : List ℕ) → has_name (xs ++ ys) m ≡ false → (has_name xs m ≡ false) × (has_name ys m ≡ false)
has_append [] ys m e = (refl, e)
has_append (x ∷ xs) ys m e =
    let h = or_parts (bytes_eq m x) (has_name (xs ++ ys) m) e in
    let i = has_append xs ys m h.1 in
    (ap (λ b. b || has_name xs m) h.0 ∙ i.0, i.1)

pub not_same : (m x : List ℕ) → bytes_eq m x ≡ false → x ≢ m
not_same m x e i = true≢false (sym ((bytes_eq-Decides m x).1 (sym i)) ∙ e)

pub first_not : (m x : List ℕ) (xs : List (List ℕ)) → has_name (x ∷ xs) m ≡ false → x ≢ m
first_not m x xs e = not_same m x (or_parts (bytes_eq m x) (has_name xs m) e).0

rest_not : (m x : List ℕ) (xs : List (List ℕ)) → has_name (x ∷ xs) m ≡ false → has_name xs m ≡ false
rest_not m x xs e = (or_parts (bytes_eq m x) (has_name xs m) e).1

module _ (m : List ℕ) where
  enums_other : (es : List EnumItem) → has_name (enums_names es) m ≡ false → Each (λ (x : EnumItem). x.name ≢ m) es
  enums_other [] e = tt
  enums_other (x ∷ es) e = let h = has_append (enum_names x) (enums_names es) m e in (first_not m x.name (option_names x.given) h.0, enums_other es h.1)

  top_other : (t : Top) → has_name (top_names t) m ≡ false → TopIsOther m t
  top_other (T.Enum es) e = enums_other es e
  top_other (T.Global g) e = first_not m g.slot.name (given_names g.init) e
  top_other (T.Function f) e = first_not m f.name _ e
  top_other _ e = tt

  pub tops_other : (ts : List Top) → has_name (tops_names ts) m ≡ false → IsFreeIn ts m
  tops_other [] e = tt
  tops_other (t ∷ ts) e = let h = has_append (top_names t) (tops_names ts) m e in (top_other t h.0, tops_other ts h.1)

  slot_other : (n : List ℕ) → (m ≡ [] → ⊥) → has_name (given_name n) m ≡ false → n ≢ m
  slot_other [] some e i = some (sym i)
  slot_other (c ∷ cs) some e i = first_not m (c ∷ cs) [] e i

  slots_other : (ss : List Slot) → (m ≡ [] → ⊥) → has_name (slots_names ss) m ≡ false → Each (λ (s : Slot). s.name ≢ m) ss
  slots_other [] some e = tt
  slots_other (s ∷ ss) some e = let h = has_append (slot_names s) (slots_names ss) m e in (slot_other s.name some h.0, slots_other ss some h.1)

-- ---- new names

all_new : (used gs : List (List ℕ)) → AreNew used gs → Each (λ m. has_name used m ≡ false) gs
all_new used [] h = tt
all_new used (g ∷ gs) h = (
  h.0,
  each_map (λ m. has_name (g ∷ used) m ≡ false) (λ m. has_name used m ≡ false) (λ m e. rest_not m g used e) gs
      (all_new (g ∷ used) gs h.1),
)

all_differ : (used gs : List (List ℕ)) → AreNew used gs → AllDiffer gs
all_differ used [] h = tt
all_differ used (g ∷ gs) h = (
  each_map (λ m. has_name (g ∷ used) m ≡ false) (λ m. m ≢ g) (λ m e i. first_not m g used e (sym i)) gs (all_new (g ∷ used) gs h.1),
  all_differ (g ∷ used) gs h.1,
)

-- ---- the guards that are left

module _ (xs : List Item) where
  left_cond : (P : List ℕ → Type 0) (b : Bool) (m : List ℕ) (ms : List (List ℕ)) → P m → Each P ms → Each P (cond b (m ∷ ms) ms)
  left_cond P true m ms h g = (h, g)
  left_cond P false m ms h g = g

  each_left : (P : List ℕ → Type 0) (n : ℕ) (ms : List (List ℕ)) → Each P ms → Each P (names_left xs n ms)
  each_left P n [] h = tt
  each_left P n (m ∷ ms) h = left_cond P (is_left xs n) m (names_left xs (n + 1) ms) h.0 (each_left P (n + 1) ms h.1)

  differ_cond : (b : Bool) (m : List ℕ) (ms : List (List ℕ)) → Each (λ y. y ≢ m) ms → AllDiffer ms → AllDiffer (cond b (m ∷ ms) ms)
  differ_cond true m ms h g = (h, g)
  differ_cond false m ms h g = g

  differ_left : (n : ℕ) (ms : List (List ℕ)) → AllDiffer ms → AllDiffer (names_left xs n ms)
  differ_left n [] h = tt
  differ_left n (m ∷ ms) h = differ_cond (is_left xs n) m (names_left xs (n + 1) ms) (each_left (λ y. y ≢ m) (n + 1) ms h.0) (differ_left (n + 1) ms h.1)

-- ---- lists, one after the other

pub differ_append : (xs ys : List (List ℕ)) → AllDiffer xs → AllDiffer ys → Each (λ y. Each (λ x. x ≢ y) xs) ys → AllDiffer (xs ++ ys)
differ_append [] ys h g k = g
differ_append (x ∷ xs) ys h g k = (
  each_append (λ y. y ≢ x) xs ys h.0 (each_map (λ y. Each (λ z. z ≢ y) (x ∷ xs)) (λ y. y ≢ x) (λ y e i. e.0 (sym i)) ys k),
  differ_append xs ys h.1 g (each_map (λ y. Each (λ z. z ≢ y) (x ∷ xs)) (λ y. Each (λ z. z ≢ y) xs) (λ y e. e.1) ys k),
)

pub map_more : (xs : List Slot) (ms : List (List ℕ)) → map (λ (s : Slot). s.name) (xs ++ map guard_slot ms) ≡ map (λ (s : Slot). s.name) xs ++ ms
map_more [] [] = refl
map_more [] (m ∷ ms) = ap (λ l. m ∷ l) (map_more [] ms)
map_more (x ∷ xs) ms = ap (λ l. x.name ∷ l) (map_more xs ms)

each_guard : (P : List ℕ → Type 0) (ms : List (List ℕ)) → Each P ms → Each (λ (s : Slot). P s.name) (map guard_slot ms)
each_guard P [] h = tt
each_guard P (m ∷ ms) h = (h.0, each_guard P ms h.1)

-- ---- the plain form of a flat function

module _ (p : Program) (g : Function) (params : g.params ≤ length g.slots) (n : HasNames p g) (xs : List Item) where
  abbrev given : List (List ℕ)
  given = guard_names (names p) g

  abbrev Elsewhere : List (List ℕ)
  Elsewhere = names p ++ known_functions ++ own_names g

  -- what is known of each name of a guard
  abbrev IsGood : List ℕ → Type 0
  IsGood m = IsGuardName m × (has_name Elsewhere m ≡ false)

  all_good : Each IsGood given
  all_good = each_both IsGuardName (λ m. has_name Elsewhere m ≡ false) given
      (are_guard_names (with_names (names_used (names p)) (own_names g)) g.labels n.labels) (all_new Elsewhere given n.guards)

  abbrev chosen : List (List ℕ)
  chosen = names_left xs 0 given

  good : Each IsGood chosen
  good = each_left xs IsGood 0 given all_good

  neither : (m : List ℕ) → has_name Elsewhere m ≡ false → (has_name (names p) m ≡ false) × (has_name (slots_names g.slots) m ≡ false)
  neither m e =
      let a = has_append (names p ++ known_functions) (own_names g) m e in
      ((has_append (names p) known_functions m a.0).0, (has_append (slots_names g.slots) g.labels m a.1).0)

  in_file : (m : List ℕ) → has_name Elsewhere m ≡ false → IsFreeIn p.tops m
  in_file m e = tops_other m p.tops (sym (rising-members (tops_names p.tops) m) ∙ (neither m e).0)

  in_slots : (m : List ℕ) → IsGood m → Each (λ (s : Slot). s.name ≢ m) g.slots
  in_slots m h = slots_other m g.slots (guard_some m h.0) (neither m h.1).1

  abbrev variables : List Slot
  variables = drop g.params g.slots

  each_own : (P : List ℕ → Type 0) → Each (λ (s : Slot). P s.name) variables → ((m : List ℕ) → IsGood m → P m) →
      Each (λ (s : Slot). P s.name) (drop g.params (g.slots ++ map guard_slot chosen))
  each_own P h f =
      subst (Each (λ (s : Slot). P s.name)) (sym (drop-append-le g.params g.slots (map guard_slot chosen) params))
      (each_append (λ (s : Slot). P s.name) variables (map guard_slot chosen) h (each_guard P chosen (each_map IsGood P f chosen good)))

  apart : AllDiffer (map (λ (s : Slot). s.name) (drop g.params (g.slots ++ map guard_slot chosen)))
  apart =
      let e = ap (map (λ (s : Slot). s.name)) (drop-append-le g.params g.slots (map guard_slot chosen) params) ∙ map_more variables chosen in
      let names_of = map (λ (s : Slot). s.name) variables in
      subst AllDiffer (sym e)
      (differ_append names_of chosen n.variables.apart (differ_left xs 0 given (all_differ Elsewhere given n.guards))
      (each_map IsGood (λ m. Each (λ x. x ≢ m) names_of) (λ m h. each_name (λ x. x ≢ m) variables
      (each_dropped (λ (s : Slot). s.name ≢ m) g.params g.slots (in_slots m h))) chosen good))

  abbrev Beside : List Slot → List ℕ → Type 0
  Beside taken m = Each (λ (t : Slot). t.name ≢ m) taken

  guards_own : HasOwnNames p.tops (with_guard_variables given g xs)
  guards_own = record {
    words = each_own IsName n.variables.words (λ m h. guard_is_name m h.0);
    unknown = each_own (λ m. is_known m ≡ false) n.variables.unknown (λ m h. guard_unknown m h.0);
    free = each_own (IsFreeIn p.tops) n.variables.free (λ m h. in_file m h.1);
    apart = apart;
    beside = subst (λ taken. Each (λ (s : Slot). Beside taken s.name) (drop g.params (g.slots ++ map guard_slot chosen)))
        (sym (take-append-le g.params g.slots (map guard_slot chosen) params))
        (each_own (Beside (take g.params g.slots)) n.variables.beside (λ m h. each_taken (λ (t : Slot). t.name ≢ m) g.params g.slots (in_slots m h)));
  }

pub plain_names_own : (p : Program) (g : Function) → g.flat ≡ true → g.params ≤ length g.slots → HasNames p g →
    HasOwnNames p.tops (plain_function (guard_names (names p) g) g)
plain_names_own p g flat params n = at g.body refl
  where
    at : (o : Option (List Item)) → g.body ≡ o → HasOwnNames p.tops (plain_function (guard_names (names p) g) g)
    at None e = subst (HasOwnNames p.tops) (sym (no_body (guard_names (names p) g) g e)) n.variables
    at (Some xs) e = subst (HasOwnNames p.tops) (sym (ap (plain_body (guard_names (names p) g) g) e ∙ plain_flat (guard_names (names p) g) g xs flat))
        (guards_own p g params n xs)
