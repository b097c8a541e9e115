-- Each variable of the flat form of a function of a program has a name of its own.
use Rattle.std.proofs.Common.{◌≡◌, ◌⊎◌, ℕ, ◌≤◌, ◌||◌, Bool, true, false, true≢false, List, [], ◌∷◌, ◌++◌, length, map, take, drop, refl, sym, ap, subst, ◌∙◌, arith}
use Rattle.std.specs.Prelude.{◌≢◌}
use Rattle.std.specs.List.{list_any}
use Rattle.std.specs.Str.{bytes_eq}
use Rattle.std.proofs.lemmas.Slice.Eq.{bytes_eq-Decides}
use Rattle.std.proofs.lemmas.Bool.{or_parts, or_left}
use Rattle.std.proofs.lemmas.List.{drop-append-le}
use Rattle.c_types.specs.Words.{is_known, known_functions}
use Rattle.c_copies.specs.Names.{has_name, with_names, enum_name, enums_name, top_name, tops_name}
use Rattle.c_tree.specs.declared.tree.EnumItem.{EnumItem}
use Rattle.c_tree.specs.declared.tree.Function.{Function}
use Rattle.c_tree.specs.declared.tree.Item.{Item}
use Rattle.c_tree.specs.declared.tree.Program.{Program}
use Rattle.c_tree.specs.declared.tree.Slot.{Slot}
use Rattle.c_tree.specs.declared.tree.Top.{Top}
use Rattle.c_tree.specs.declared.tree.Top.TheVariants as T
use Rattle.c_tree.specs.Trees.{trees_of}
use Rattle.c_fresh_names.proofs.NameSets.{in_either}
use Rattle.flat_names.specs.declared.constructs.Construct.{Construct}
use Rattle.flat_names.specs.FlatNames.{Given, Named, constructs, name_constructs, none_given, named_slots}
use Rattle.c_resolved_defs.specs.Within.{Each, AllDiffer}
use Rattle.c_resolved_defs.specs.PrintableExpressions.{IsName}
use Rattle.whole_laws.specs.Names.{TopIsOther, IsFreeIn, HasOwnNames}
use Rattle.whole_laws.proofs.GuardsOwn.{first_not, has_append, tops_other, differ_append}
use Rattle.whole_laws.proofs.PlainLists.{each_map, each_append}
use Rattle.flat_function.specs.Laws.{named_flat}
use Rattle.flat_function.specs.Own.{IsNamedIn, FlatNamesAreOwn}
use Rattle.flat_function.proofs.Forms.{kinds, numbers_named, named_length, first_same}
use Rattle.flat_function.proofs.FreshNames.{grows_self}
use Rattle.flat_function.proofs.OwnNames.{Giving, giving_more, AreMade, IsMade, constructs_grow, variables_own, made_before, made_other, slots_grow, AreOwnSlots, slots_own}

-- ---- names that don't stand in a file

turned : (m k : List ℕ) → bytes_eq m k ≡ false → bytes_eq k m ≡ false
turned m k e = at (bytes_eq k m) refl
  where
    at : (b : Bool) → bytes_eq k m ≡ b → bytes_eq k m ≡ false
    at true i = absurd (true≢false (sym ((bytes_eq-Decides m k).1 (sym ((bytes_eq-Decides k m).0 i))) ∙ e))
    at false i = i

all_turned : (m : List ℕ) (ks : List (List ℕ)) → has_name ks m ≡ false → list_any (λ k. bytes_eq k m) ks ≡ false
all_turned m [] e = refl
all_turned m (k ∷ ks) e =
    let h = or_parts (bytes_eq m k) (has_name ks m) e in ap (λ b. b || list_any (λ j. bytes_eq j m) ks) (turned m k h.0) ∙ all_turned m ks h.1

module _ (m : List ℕ) where
  enums_scope : (es : List EnumItem) → has_name (enums_name es) m ≡ false → Each (λ (x : EnumItem). x.name ≢ m) es
  enums_scope [] e = tt
  enums_scope (x ∷ es) e = let h = has_append (enum_name x) (enums_name es) m e in (first_not m x.name [] h.0, enums_scope es h.1)

  top_scope : (t : Top) → has_name (top_name t) m ≡ false → TopIsOther m t
  top_scope (T.Enum es) e = enums_scope es e
  top_scope (T.Global g) e = first_not m g.slot.name [] e
  top_scope (T.Function f) e = first_not m f.name [] e
  top_scope _ e = tt

  tops_scope : (ts : List Top) → has_name (tops_name ts) m ≡ false → IsFreeIn ts m
  tops_scope [] e = tt
  tops_scope (t ∷ ts) e = let h = has_append (top_name t) (tops_name ts) m e in (top_scope t h.0, tops_scope ts h.1)

-- those of a list and of the library
with_known : (ns : List (List ℕ)) (q : List ℕ) → has_name (with_names (with_names [] ns) known_functions) q ≡ (has_name ns q || has_name known_functions q)
with_known ns q = in_either (with_names [] ns) known_functions q ∙ ap (λ b. b || has_name known_functions q) (in_either [] ns q)

-- ---- lists of slots

names_more : (xs ys : List Slot) → map (λ (s : Slot). s.name) (xs ++ ys) ≡ map (λ (s : Slot). s.name) xs ++ map (λ (s : Slot). s.name) ys
names_more [] ys = refl
names_more (x ∷ xs) ys = ap (λ l. x.name ∷ l) (names_more xs ys)

each_slot : (P : List ℕ → Type 0) (xs : List Slot) → Each P (map (λ (s : Slot). s.name) xs) → Each (λ (s : Slot). P s.name) xs
each_slot P [] h = tt
each_slot P (x ∷ xs) h = (h.0, each_slot P xs h.1)

first_turned : (b : List ℕ) (bs ms : List (List ℕ)) → Each (λ m. Each (λ x. x ≢ m) (b ∷ bs)) ms → Each (λ m. m ≢ b) ms
first_turned b bs ms h = each_map (λ m. Each (λ x. x ≢ m) (b ∷ bs)) (λ m. m ≢ b) (λ m i e. i.0 (sym e)) ms h

turn : (bs ms : List (List ℕ)) → Each (λ m. Each (λ b. b ≢ m) bs) ms → Each (λ b. Each (λ m. m ≢ b) ms) bs
turn [] ms h = tt
turn (b ∷ bs) ms h = (first_turned b bs ms h, turn bs ms (each_map (λ m. Each (λ x. x ≢ m) (b ∷ bs)) (λ m. Each (λ x. x ≢ m) bs) (λ m i. i.1) ms h))

-- ---- the whole

module _ (p : Program) (names file : List (List ℕ)) (f : Function) (old new : List Item) (params : f.params ≤ length f.slots)
    (n : IsNamedIn p names file f (trees_of old)) where
  abbrev Clear : List ℕ → Type 0
  Clear m = (is_known m ≡ false) × IsFreeIn p.tops m

  abbrev taken : List (List ℕ)
  taken = with_names (with_names [] file) known_functions

  abbrev used : List (List ℕ)
  used = with_names (with_names [] names) known_functions

  start : Giving names Clear taken used
  start = record {
    named = λ m h. with_known names m ∙ or_left (has_name names m) (has_name known_functions m) h;
    clear_taken = λ m h. (let k = or_parts (has_name file m) (has_name known_functions m) (sym (with_known file m) ∙ h) in
        (all_turned m known_functions k.1, tops_scope m p.tops (sym (n.scope m) ∙ k.0)));
    clear_used = λ m h. (let k = or_parts (has_name names m) (has_name known_functions m) (sym (with_known names m) ∙ h) in
        (all_turned m known_functions k.1, tops_other m p.tops (sym (n.all m) ∙ k.0)));
  }

  abbrev cs : List Construct
  cs = constructs (trees_of old)

  abbrev g : Given
  g = name_constructs 1 cs (none_given used)

  abbrev named : Named
  named = named_slots f.params taken g.used f.slots

  made : AreMade names Clear g.used g.variables
  made =
      let few = n.few in
      let more = (slots_grow names Clear f.params taken g.used f.slots).1 in
      variables_own names Clear 1 cs taken (none_given used) start (record { each = tt; apart = tt }) (omega (arith, few, more))

  own : AreOwnSlots names Clear (map (λ (s : Slot). s.name) g.variables) f.params f.slots named.slots
  own =
      slots_own names Clear f.params (map (λ (s : Slot). s.name) g.variables) taken g.used f.slots params
      (giving_more names Clear taken used taken g.used (grows_self taken) (constructs_grow names Clear 1 cs (none_given used)) start)
      (made_before names Clear taken g.used g.variables made) n.parameters n.variables n.few

  abbrev blocks : List Slot
  blocks = drop f.params named.slots

  behind : drop f.params (named.slots ++ g.variables) ≡ blocks ++ g.variables
  behind = let l = named_length f.params taken g.used f.slots in drop-append-le f.params named.slots g.variables (omega (arith, l, params))

  front : take f.params (named.slots ++ g.variables) ≡ take f.params f.slots
  front = first_same g.variables (kinds cs) (numbers_named 1 cs (none_given used) [] tt) f.params taken g.used f.slots params

  each_own : (P : List ℕ → Type 0) → Each P (map (λ (s : Slot). s.name) blocks) → ((m : List ℕ) → IsMade names Clear g.used m → P m) →
      Each (λ (s : Slot). P s.name) (drop f.params (named.slots ++ g.variables))
  each_own P h k =
      subst (Each (λ (s : Slot). P s.name)) (sym behind)
      (each_append (λ (s : Slot). P s.name) blocks g.variables (each_slot P blocks h)
      (each_slot P g.variables (each_map (IsMade names Clear g.used) P k (map (λ (s : Slot). s.name) g.variables) made.each)))

  abbrev Beside : List Slot → List ℕ → Type 0
  Beside ts m = Each (λ (t : Slot). t.name ≢ m) ts

  named_own : HasOwnNames p.tops (named_flat names file f old new)
  named_own = record {
    words = each_own IsName own.own.words (λ m h. h.0.0);
    unknown = each_own (λ m. is_known m ≡ false) (each_map Clear (λ m. is_known m ≡ false) (λ m h. h.0) (map (λ (s : Slot). s.name) blocks)
        own.own.clear) (λ m h. h.0.1.0);
    free = each_own (IsFreeIn p.tops) (each_map Clear (IsFreeIn p.tops) (λ m h. h.1) (map (λ (s : Slot). s.name) blocks) own.own.clear) (λ m h. h.0.1.1);
    apart = subst AllDiffer (sym (ap (map (λ (s : Slot). s.name)) behind ∙ names_more blocks g.variables))
        (differ_append (map (λ (s : Slot). s.name) blocks) (map (λ (s : Slot). s.name) g.variables) own.own.apart made.apart
        (turn (map (λ (s : Slot). s.name) g.variables) (map (λ (s : Slot). s.name) blocks) own.own.beside));
    beside = subst (λ ts. Each (λ (s : Slot). Beside ts s.name) (drop f.params (named.slots ++ g.variables))) (sym front)
        (each_own (Beside (take f.params f.slots)) own.parameters
        (λ m h. each_map (λ (s : Slot). (s.name ≡ []) ⊎ (has_name names s.name ≡ true)) (λ (t : Slot). t.name ≢ m)
        (λ t q. made_other names Clear m t h.0.0 h.1.1 q) (take f.params f.slots) n.parameters));
  }

pub flat_names_own : FlatNamesAreOwn
flat_names_own p names file f old new params n = named_own p names file f old new params n
