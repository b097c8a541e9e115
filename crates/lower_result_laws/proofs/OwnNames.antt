-- The variables and labels of a lowered function of a resolved program have names of their own.
use Rattle.std.proofs.Common.{◌≡◌, ◌≢◌, ◌⊎◌, inl, inr, ℕ, zero, suc, ◌+◌, ◌-◌, ◌≤◌, ◌<◌, ◌^◌, ◌||◌, Bool, true, false, true≢false, cond, List, [], ◌∷◌, ◌++◌, length, take, drop, get_or, Some, refl, sym, ap, subst, ◌∙◌, arith}
use Rattle.std.specs.Prelude.{IfSome, nat_lt}
use Rattle.std.specs.List.{list_any}
use Rattle.std.specs.Str.{bytes_eq}
use Rattle.std.proofs.lemmas.Bool.{or_left, or_right, or_parts, false_from_ne_true}
use Rattle.std.proofs.lemmas.List.{append-nil, drop-append-le, take-append-le}
use Rattle.std.proofs.lemmas.List.Folds.{list_any-append}
use Rattle.std.proofs.lemmas.Slice.Eq.{bytes_eq-Decides}
use Rattle.c_types.specs.Words.{is_word, is_known, known_functions}
use Rattle.c_copies.specs.Names.{has_name, with_name, with_names, given_name, slots_names, body_names, function_names, tops_name, tops_names, names, file_names}
use Rattle.c_copies.proofs.Rising.{rising-members}
use Rattle.c_tree.specs.declared.tree.Function.{Function}
use Rattle.c_tree.specs.declared.tree.Item.{Item}
use Rattle.c_tree.specs.declared.tree.Program.{Program}
use Rattle.c_tree.specs.declared.tree.Slot.{Slot}
use Rattle.c_tree.specs.InRange.{body_of}
use Rattle.c_tree.specs.Everywhere.{total}
use Rattle.c_tree.specs.Trees.{Forest, trees_of}
use Rattle.c_tree.proofs.TreeLaws.{trees-none}
use Rattle.flat_names.specs.FlatNames.{Named, with_known, slot_named, slot_taken, slot_used, named_slots, flat_names_beside}
use Rattle.c_fresh_names.specs.Fresh.{fresh}
use Rattle.c_fresh_names.proofs.NameSets.{in_either, no_more, one_more}
use Rattle.c_resolved_defs.specs.Within.{Each, AllDiffer}
use Rattle.c_resolved_defs.specs.Form.{gathered, declared_slot, marked_label}
use Rattle.c_resolved_defs.specs.Limits.{FlatCounts}
use Rattle.c_resolved_defs.specs.PrintableExpressions.{IsName}
use Rattle.c_resolved_defs.specs.Resolved.{IsResolvedFunction}
use Rattle.c_resolved_defs.specs.Spelling.{BodyIsSpelled, FunctionIsSpelled}
use Rattle.whole_laws.specs.Names.{IsFreeIn, HasOwnNames}
use Rattle.whole_laws.proofs.GuardsOwn.{tops_other, differ_append}
use Rattle.whole_laws.proofs.PlainLists.{each_map, each_both, each_append, each_taken, each_dropped}
use Rattle.flat_function.specs.Own.{used_at_end, IsNamedIn}
use Rattle.flat_function.proofs.Forms.{named_length}
use Rattle.flat_function.proofs.FreshNames.{Grows, grows_self, grows_with, own_with}
use Rattle.flat_function.proofs.NamedOwn.{flat_names_own}
use Rattle.flat_function.proofs.OwnNames.{slots_grow}
use Rattle.whole_laws.proofs.SourceNames as S
use Rattle.whole_laws.proofs.SourceNames.{slots_named}
use Rattle.lower_laws.specs.Lowered.{variables_of}
use Rattle.lower_laws.specs.Lowering.{most_held, constructs}
use Rattle.lower_result_laws.proofs.Variables.{used_behind, counted}
use Rattle.lower_result_laws.proofs.Lowered.{body_is, blocks as the_blocks, switches, slots_are}
use Rattle.lower_result_laws.proofs.LoweredFacts.{new_slots, slots_length}
use Rattle.lower_result_laws.proofs.FreshOnes.{In, Out, in_out, out_of, switches_grow, switches_few, IsNewName, names_of, AreNewNames, switches_new}

-- ---- names that don't stand in a file

turned : (m k : List ℕ) → bytes_eq m k ≡ false → bytes_eq k m ≡ false
turned m k e = false_from_ne_true (bytes_eq k m) (λ i. true≢false (sym ((bytes_eq-Decides m k).1 (sym ((bytes_eq-Decides k m).0 i))) ∙ e))

all_turned : (m : List ℕ) (ks : List (List ℕ)) → has_name ks m ≡ false → list_any (λ k. bytes_eq k m) ks ≡ false
all_turned m [] e = refl
all_turned m (k ∷ ks) e =
    let h = or_parts (bytes_eq m k) (has_name ks m) e in ap (λ b. b || list_any (λ j. bytes_eq j m) ks) (turned m k h.0) ∙ all_turned m ks h.1

-- those of a list and of the library
known_in : (ns : List (List ℕ)) (q : List ℕ) → has_name (with_known ns) q ≡ (has_name ns q || has_name known_functions q)
known_in ns q = in_either (with_names [] ns) known_functions q ∙ ap (λ b. b || has_name known_functions q) (in_either [] ns q)

-- ---- names of a function are names of its program

abbrev pub AreAmong : List (List ℕ) → List (List ℕ) → Type 0
AreAmong ns all = (q : List ℕ) → has_name ns q ≡ true → has_name all q ≡ true

in_both : (xs ys : List (List ℕ)) (q : List ℕ) → has_name (xs ++ ys) q ≡ (has_name xs q || has_name ys q)
in_both xs ys q = list_any-append (bytes_eq q) xs ys

pub among_left : (xs ys all : List (List ℕ)) → AreAmong (xs ++ ys) all → AreAmong xs all
among_left xs ys all f q h = f q (in_both xs ys q ∙ or_left (has_name xs q) (has_name ys q) h)

pub among_right : (xs ys all : List (List ℕ)) → AreAmong (xs ++ ys) all → AreAmong ys all
among_right xs ys all f q h = f q (in_both xs ys q ∙ or_right (has_name xs q) (has_name ys q) h)

itself : (n : List ℕ) → has_name (n ∷ []) n ≡ true
itself n = or_left (bytes_eq n n) false ((bytes_eq-Decides n n).1 refl)

-- a variable has no name, or one of these
abbrev IsNoneOrAmong : List (List ℕ) → Slot → Type 0
IsNoneOrAmong all s = (s.name ≡ []) ⊎ In all s.name

slot_among : (n : List ℕ) (all : List (List ℕ)) → AreAmong (given_name n) all → (n ≡ []) ⊎ In all n
slot_among [] all f = inl refl
slot_among (c ∷ cs) all f = inr (f (c ∷ cs) (itself (c ∷ cs)))

slots_among : (ss : List Slot) (all : List (List ℕ)) → AreAmong (slots_names ss) all → Each (IsNoneOrAmong all) ss
slots_among [] all f = tt
slots_among (s ∷ ss) all f = (
  slot_among s.name all (among_left (given_name s.name) (slots_names ss) all f),
  slots_among ss all (among_right (given_name s.name) (slots_names ss) all f),
)

own_among : (all : List (List ℕ)) (s : Slot) → IsName s.name × IsNoneOrAmong all s → IsName s.name × In all s.name
own_among all s (n, inl e) = absurd (true≢false (sym n.0 ∙ ap is_word e))
own_among all s (n, inr h) = (n, h)

at_name : (ls : List (List ℕ)) (l : ℕ) (all : List (List ℕ)) → AreAmong ls all → l < length ls → In all (get_or ls l [])
at_name [] l all f b = absurd (omega (arith, b))
at_name (n ∷ ls) zero all f b = f n (or_left (bytes_eq n n) (has_name ls n) ((bytes_eq-Decides n n).1 refl))
at_name (n ∷ ls) (suc l) all f b = at_name ls l all (among_right (n ∷ []) ls all f) (omega (arith, b))

-- ---- block variables have used names

slot_more : (p : Bool) (taken used : List (List ℕ)) (s : Slot) → length (slot_used p taken used s) ≤ length used + 1
slot_more true taken used s = omega arith
slot_more false taken used s = at (has_name taken s.name)
  where
    at : (b : Bool) → length (cond b (with_name used (fresh s.name used)) used) ≤ length used + 1
    at true = one_more used (fresh s.name used)
    at false = omega arith

slots_used : (n : ℕ) (taken used : List (List ℕ)) (ss : List Slot) → length (named_slots n taken used ss).used ≤ length used + length ss
slots_used n taken used [] = omega arith
slots_used n taken used (s ∷ ss) =
    let p = nat_lt 0 n in
    let h = slots_used (n - 1) (slot_taken p taken used s) (slot_used p taken used s) ss in
    let e = slot_more p taken used s in
    omega (arith, h, e)

-- a variable has no name, or a used one
blocks_used : (n : ℕ) (taken used : List (List ℕ)) (ss : List Slot) → Each (IsNoneOrAmong used) ss →
    Each (IsNoneOrAmong (named_slots n taken used ss).used) (named_slots n taken used ss).slots
blocks_used n taken used [] h = tt
blocks_used n taken used (s ∷ ss) h =
    let b = nat_lt 0 n in
    let used' = slot_used b taken used s in
    let rest = slots_grow [] (λ m. Unit {0}) (n - 1) (slot_taken b taken used s) used' ss in
    let step = one b in (
      more used' (named_slots (n - 1) (slot_taken b taken used s) used' ss).used (slot_named b taken used s) rest step.0,
      blocks_used (n - 1) (slot_taken b taken used s) used' ss
          (each_map (IsNoneOrAmong used) (IsNoneOrAmong used') (λ t i. more used used' t step.1 i) ss h.1),
    )
  where
    more : (us vs : List (List ℕ)) (t : Slot) → Grows us vs → IsNoneOrAmong us t → IsNoneOrAmong vs t
    more us vs t g (inl e) = inl e
    more us vs t g (inr i) = inr (g.0 t.name i)

    named : (z : Bool) → ((cond z (fresh s.name used) s.name ≡ []) ⊎ In (cond z (with_name used (fresh s.name used)) used)
        (cond z (fresh s.name used) s.name)) × Grows used (cond z (with_name used (fresh s.name used)) used)
    named true = (inr (own_with used (fresh s.name used)), grows_with used (fresh s.name used))
    named false = (h.0, grows_self used)

    one : (b : Bool) → IsNoneOrAmong (slot_used b taken used s) (slot_named b taken used s) × Grows used (slot_used b taken used s)
    one true = (h.0, grows_self used)
    one false = named (has_name taken s.name)

-- ---- a function of a resolved program

module _ (counts : FlatCounts) (p : Program) (f : Function) (resolved : IsResolvedFunction counts p.tops f) (spelled : FunctionIsSpelled f)
    (among : AreAmong (function_names f) (names p)) (few : length (names p) ≤ most_held) where
  abbrev params : f.params ≤ length f.slots
  params = resolved.form.parameters

  abbrev pub used : List (List ℕ)
  used = with_known (names p)

  abbrev pub taken : List (List ℕ)
  taken = with_known (file_names p)

  parts_among : AreAmong (slots_names f.slots ++ f.labels) (names p)
  parts_among = among_left (slots_names f.slots ++ f.labels) (body_names f.body) (names p)
      (among_right (f.name ∷ []) (slots_names f.slots ++ f.labels ++ body_names f.body) (names p) among)

  slots_there : Each (IsNoneOrAmong (names p)) f.slots
  slots_there = slots_among f.slots (names p) (among_left (slots_names f.slots) f.labels (names p) parts_among)

  in_used : (m : List ℕ) → In (names p) m → In used m
  in_used m h = known_in (names p) m ∙ or_left (has_name (names p) m) (has_name known_functions m) h

  pub labels_used : (l : ℕ) → l < length f.labels → In used (get_or f.labels l [])
  labels_used l b = in_used (get_or f.labels l []) (at_name f.labels l (names p) (among_right (slots_names f.slots) f.labels (names p) parts_among) b)

  -- a name that is not used is none of the library, and none of the file
  new_unknown : (m : List ℕ) → Out used m → is_known m ≡ false
  new_unknown m h = let k = or_parts (has_name (names p) m) (has_name known_functions m) (sym (known_in (names p) m) ∙ h) in all_turned m known_functions k.1

  new_free : (m : List ℕ) → Out used m → IsFreeIn p.tops m
  new_free m h = let k = or_parts (has_name (names p) m) (has_name known_functions m) (sym (known_in (names p) m) ∙ h) in
      tops_other m p.tops (sym (rising-members (tops_names p.tops) m) ∙ k.0)

  module _ (old : List Item) (there : f.body ≡ Some old) where
    abbrev a : Forest
    a = trees_of old

    body_spelled : BodyIsSpelled f old
    body_spelled = subst (λ o. IfSome o (BodyIsSpelled f)) there spelled.body

    same : body_of f ≡ a
    same = body_is f old there

    pub source_labels : (l : ℕ) → l < length f.labels → IsName (get_or f.labels l [])
    source_labels l b = S.labels_named f a body_spelled.items (ap (gathered marked_label) (sym same) ∙ resolved.form.labels) l b

    abbrev blocks : Named
    blocks = the_blocks used taken f a

    abbrev more : List Slot
    more = switches used taken f a

    abbrev end : List (List ℕ)
    end = used_behind 1 (constructs a) blocks.used

    module _ (held : length (new_slots f params used taken a) ≤ most_held) where
      pub few_used : length end ≤ length (names p) + length known_functions + length f.slots + total variables_of a
      few_used =
          let b = no_more [] (names p) in
          let c = no_more (with_names [] (names p)) known_functions in
          let d = slots_used f.params taken used f.slots in
          let e = switches_few 1 (constructs a) blocks.used in
          let g = counted a in
          omega (arith, b, c, d, e, g)

      small : 2 + length end < 2 ^ 64
      small = let h = few_used in let l = slots_length f params used taken a in omega (arith, h, l, held, few)

      -- the block variables, as those of a body without switches
      named_in : IsNamedIn p (names p) (file_names p) f (trees_of [])
      named_in = record {
        all = rising-members (tops_names p.tops);
        scope = rising-members (tops_name p.tops);
        parameters = each_taken (IsNoneOrAmong (names p)) f.params f.slots slots_there;
        variables = each_map (λ (s : Slot). IsName s.name × IsNoneOrAmong (names p) s) (λ (s : Slot). IsName s.name × In (names p) s.name)
            (own_among (names p)) (drop f.params f.slots)
            (each_both (λ (s : Slot). IsName s.name) (IsNoneOrAmong (names p)) (drop f.params f.slots)
            (slots_named f a body_spelled.items params (ap (gathered declared_slot) (sym same) ∙ resolved.form.slots))
            (each_dropped (IsNoneOrAmong (names p)) f.params f.slots slots_there));
        few = subst (λ z. 2 + length (used_at_end (names p) (file_names p) f z) < 2 ^ 64) (sym trees-none)
            (let b = no_more [] (names p) in let c = no_more (with_names [] (names p)) known_functions in
            let d = slots_used f.params taken used f.slots in let l = slots_length f params used taken a in omega (arith, b, c, d, l, held, few));
      }

      -- the variables of a flat form
      abbrev flat_slots : Forest → List Slot
      flat_slots z = (flat_names_beside used taken f z []).slots

      blocks_own : HasOwnNames p.tops (record f { slots = blocks.slots })
      blocks_own =
          let h = flat_names_own p (names p) (file_names p) f [] [] params named_in in
          let e = ap flat_slots trees-none ∙ append-nil blocks.slots in
          record {
            words = subst (λ ss. Each (λ (s : Slot). IsName s.name) (drop f.params ss)) e h.words;
            unknown = subst (λ ss. Each (λ (s : Slot). is_known s.name ≡ false) (drop f.params ss)) e h.unknown;
            free = subst (λ ss. Each (λ (s : Slot). IsFreeIn p.tops s.name) (drop f.params ss)) e h.free;
            apart = subst (λ ss. AllDiffer (names_of (drop f.params ss))) e h.apart;
            beside = subst (λ ss. Each (λ (s : Slot). Each (λ (t : Slot). t.name ≢ s.name) (take f.params ss)) (drop f.params ss)) e h.beside;
          }

      -- the variables of switches
      made : AreNewNames blocks.used (names_of more)
      made = switches_new 1 (constructs a) blocks.used small

      grown : Grows used blocks.used
      grown = slots_grow [] (λ m. Unit {0}) f.params taken used f.slots

      there_before : Each (IsNoneOrAmong blocks.used) blocks.slots
      there_before = blocks_used f.params taken used f.slots
          (each_map (IsNoneOrAmong (names p)) (IsNoneOrAmong used) (λ s i. in_either_way s i) f.slots slots_there)
        where
          in_either_way : (s : Slot) → IsNoneOrAmong (names p) s → IsNoneOrAmong used s
          in_either_way s (inl e) = inl e
          in_either_way s (inr h) = inr (in_used s.name h)

      other : (t : Slot) (m : List ℕ) → IsNoneOrAmong blocks.used t → IsNewName blocks.used m → t.name ≢ m
      other t m (inl e) n i = true≢false (sym n.0.0 ∙ ap is_word (sym i ∙ e))
      other t m (inr h) n i = in_out blocks.used t.name m h n.1 i

      all_other : (ts : List Slot) (m : List ℕ) → Each (IsNoneOrAmong blocks.used) ts → IsNewName blocks.used m → Each (λ (t : Slot). t.name ≢ m) ts
      all_other ts m h n = each_map (IsNoneOrAmong blocks.used) (λ (t : Slot). t.name ≢ m) (λ t i. other t m i n) ts h

      enough : f.params ≤ length blocks.slots
      enough = let l = named_length f.params taken used f.slots in omega (arith, l, params)

      behind : drop f.params (new_slots f params used taken a) ≡ drop f.params blocks.slots ++ more
      behind = ap (drop f.params) (slots_are used taken f a) ∙ drop-append-le f.params blocks.slots more enough

      front : take f.params (new_slots f params used taken a) ≡ take f.params blocks.slots
      front = ap (take f.params) (slots_are used taken f a) ∙ take-append-le f.params blocks.slots more enough

      each_slot : (P : List ℕ → Type 0) (ss : List Slot) → Each P (names_of ss) → Each (λ (s : Slot). P s.name) ss
      each_slot P [] h = tt
      each_slot P (s ∷ ss) h = (h.0, each_slot P ss h.1)

      each_own : (P : List ℕ → Type 0) → Each (λ (s : Slot). P s.name) (drop f.params blocks.slots) → ((m : List ℕ) → IsNewName blocks.used m → P m) →
          Each (λ (s : Slot). P s.name) (drop f.params (new_slots f params used taken a))
      each_own P h k =
          subst (Each (λ (s : Slot). P s.name)) (sym behind)
          (each_append (λ (s : Slot). P s.name) (drop f.params blocks.slots) more h
          (each_slot P more (each_map (IsNewName blocks.used) P k (names_of more) made.each)))

      names_more : (xs ys : List Slot) → names_of (xs ++ ys) ≡ names_of xs ++ names_of ys
      names_more [] ys = refl
      names_more (x ∷ xs) ys = ap (λ l. x.name ∷ l) (names_more xs ys)

      each_names : (P : List ℕ → Type 0) (ss : List Slot) → Each (λ (s : Slot). P s.name) ss → Each P (names_of ss)
      each_names P [] h = tt
      each_names P (s ∷ ss) h = (h.0, each_names P ss h.1)

      new_out : (m : List ℕ) → IsNewName blocks.used m → Out used m
      new_out m n = out_of used blocks.used grown m n.1

      abbrev beyond : List Slot
      beyond = drop f.params blocks.slots

      apart : AllDiffer (names_of (drop f.params (new_slots f params used taken a)))
      apart =
          subst AllDiffer (sym (ap names_of behind ∙ names_more beyond more))
          (differ_append (names_of beyond) (names_of more) blocks_own.apart made.apart
          (each_map (IsNewName blocks.used) (λ m. Each (λ x. x ≢ m) (names_of beyond))
          (λ m n. each_names (λ x. x ≢ m) beyond (all_other beyond m (each_dropped (IsNoneOrAmong blocks.used) f.params blocks.slots there_before)
          n)) (names_of more) made.each))

      pub variables_own : HasOwnNames p.tops (record f { slots = new_slots f params used taken a })
      variables_own = record {
        words = each_own IsName blocks_own.words (λ m n. n.0);
        unknown = each_own (λ m. is_known m ≡ false) blocks_own.unknown (λ m n. new_unknown m (new_out m n));
        free = each_own (IsFreeIn p.tops) blocks_own.free (λ m n. new_free m (new_out m n));
        apart = apart;
        beside = subst (λ ts. Each (λ (s : Slot). Each (λ (t : Slot). t.name ≢ s.name) ts) (drop f.params (new_slots f params used taken a))) (sym front)
            (each_own (λ m. Each (λ (t : Slot). t.name ≢ m) (take f.params blocks.slots)) blocks_own.beside
            (λ m n. all_other (take f.params blocks.slots) m (each_taken (IsNoneOrAmong blocks.used) f.params blocks.slots there_before) n));
      }

      -- the names of the source are used where labels are named
      pub labels_used_then : (l : ℕ) → l < length f.labels → In end (get_or f.labels l [])
      labels_used_then l b = (switches_grow 1 (constructs a) blocks.used).0 (get_or f.labels l []) (grown.0 (get_or f.labels l []) (labels_used l b))
