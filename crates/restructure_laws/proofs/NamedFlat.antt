-- A function of a resolved program that is flattened with the names of the program has names of its own.
use Rattle.std.proofs.Common.{◌≡◌, ◌⊎◌, inl, inr, ℕ, ◌+◌, ◌*◌, ◌≤◌, ◌<◌, ◌^◌, ◌||◌, Bool, true, false, true≢false, cond, List, [], ◌∷◌, ◌++◌, length, drop, Option, Some, None, refl, sym, ap, subst, ◌∙◌, arith, length-append}
use Rattle.std.specs.Prelude.{IfSome}
use Rattle.std.specs.Str.{bytes_eq}
use Rattle.std.proofs.lemmas.Bool.{or_left, or_right}
use Rattle.std.proofs.lemmas.List.Folds.{list_any-append}
use Rattle.std.proofs.lemmas.Slice.Eq.{bytes_eq-Decides}
use Rattle.c_types.specs.Words.{is_word, known_functions}
use Rattle.c_copies.specs.Names.{has_name, with_names, given_name, slots_names, body_names, function_names, tops_name, tops_names, names, file_names}
use Rattle.c_copies.proofs.Rising.{rising-members}
use Rattle.c_tree.specs.declared.tree.Function.{Function}
use Rattle.c_tree.specs.declared.tree.Item.{Item}
use Rattle.c_tree.specs.declared.tree.Program.{Program}
use Rattle.c_tree.specs.declared.tree.Slot.{Slot}
use Rattle.c_tree.specs.Everywhere.{total, Everywhere}
use Rattle.c_tree.specs.InRange.{body_of}
use Rattle.c_tree.specs.Numerals.{constant}
use Rattle.c_tree.specs.Trees.{trees_of}
use Rattle.flat_laws.specs.Parts.{has_jumps, cases_of}
use Rattle.flat_laws.specs.FlatForm.{flat_body}
use Rattle.flat_laws.specs.Source.{HasOwnCases}
use Rattle.flat_laws.specs.FlatWellMadeLaws.{label_count}
use Rattle.flat_form.specs.Codes.{label_codes}
use Rattle.flat_names.specs.declared.whole.FlatNames.{FlatNames}
use Rattle.flat_names.specs.FlatNames.{Given, Named, with_known, constructs, name_constructs, none_given, named_slots}
use Rattle.flat_form.specs.declared.forms.Form.{Form}
use Rattle.flat_form.specs.declared.forms.Form.TheVariants.{Same, Calm, Flat}
use Rattle.flat_form.specs.Flattened.{IsFormOf, applied, IsFlattened}
use Rattle.c_fresh_names.proofs.NameSets.{no_more}
use Rattle.c_resolved_defs.specs.Within.{Each}
use Rattle.c_resolved_defs.specs.Form.{gathered, declared_slot, marked_label, numbers_from}
use Rattle.c_resolved_defs.specs.Limits.{IsWithinLimits}
use Rattle.c_resolved_defs.specs.PrintableExpressions.{IsName}
use Rattle.c_resolved_defs.specs.Resolved.{IsResolvedFunction}
use Rattle.c_resolved_defs.specs.Switches.{HasCases}
use Rattle.c_resolved_defs.specs.Spelling.{BodyIsSpelled, FunctionIsSpelled}
use Rattle.c_resolved_laws.specs.Counts.{counts_of, measured_form, flat_counts}
use Rattle.c_resolved_laws.proofs.Counted.{counted_plainly}
use Rattle.c_resolved_laws.proofs.LabelsGiven.{function_labels}
use Rattle.whole_laws.proofs.Flattened.{body_is}
use Rattle.whole_laws.specs.Guards.{HasNames}
use Rattle.whole_laws.proofs.PlainLists.{each_map, each_both, each_taken, each_dropped}
use Rattle.c_resolved_laws.proofs.Measures.{same_labels}
use Rattle.flat_function.specs.Laws.{named_flat}
use Rattle.flat_function.specs.Own.{used_at_end, IsNamedIn}
use Rattle.flat_function.proofs.Forms.{named_length, forms}
use Rattle.flat_function.proofs.NamedOwn.{flat_names_own}
use Rattle.restructure_laws.specs.Flattened.{most_held}
use Rattle.restructure_laws.proofs.LabelNames.{IsCode, codes_stand, labels_have_names}
use Rattle.restructure_laws.proofs.MadeLabels.{constructs_named, constructs_given, constructs_used, slots_used}
use Rattle.restructure_laws.proofs.NewGuards.{guard_names_new}
use Rattle.whole_laws.proofs.SourceNames.{labels_named, slots_named}
use Rattle.restructure_laws.proofs.SwitchCases.{cases_counted, few_cases}

-- ---- the names of a part are names of the whole

abbrev pub AreAmong : List (List ℕ) → List (List ℕ) → Type 0
AreAmong ns all = (q : List ℕ) → has_name ns q ≡ true → has_name all q ≡ true

in_both : (xs ys : List (List ℕ)) (q : List ℕ) → has_name (xs ++ ys) q ≡ (has_name xs q || has_name ys q)
in_both xs ys q = list_any-append (bytes_eq q) xs ys

pub among_left : (xs ys all : List (List ℕ)) → AreAmong (xs ++ ys) all → AreAmong xs all
among_left xs ys all f q h = f q (in_both xs ys q ∙ or_left (has_name xs q) (has_name ys q) h)

pub among_right : (xs ys all : List (List ℕ)) → AreAmong (xs ++ ys) all → AreAmong ys all
among_right xs ys all f q h = f q (in_both xs ys q ∙ or_right (has_name xs q) (has_name ys q) h)

among_rest : (n : List ℕ) (ns all : List (List ℕ)) → AreAmong (n ∷ ns) all → AreAmong ns all
among_rest n ns all f q h = f q (or_right (bytes_eq q n) (has_name ns q) h)

-- a variable has no name, or one of these
abbrev IsNoneOrAmong : List (List ℕ) → Slot → Type 0
IsNoneOrAmong all s = (s.name ≡ []) ⊎ (has_name all s.name ≡ true)

itself : (n : List ℕ) → has_name (n ∷ []) n ≡ true
itself n = or_left (bytes_eq n n) false ((bytes_eq-Decides n n).1 refl)

slot_among : (n : List ℕ) (all : List (List ℕ)) → AreAmong (given_name n) all → (n ≡ []) ⊎ (has_name all n ≡ true)
slot_among [] all f = inl refl
slot_among (c ∷ cs) all f = inr (f (c ∷ cs) (itself (c ∷ cs)))

slots_among : (ss : List Slot) (all : List (List ℕ)) → AreAmong (slots_names ss) all → Each (IsNoneOrAmong all) ss
slots_among [] all f = tt
slots_among (s ∷ ss) all f = (
  slot_among s.name all (among_left (given_name s.name) (slots_names ss) all f),
  slots_among ss all (among_right (given_name s.name) (slots_names ss) all f),
)

own_among : (all : List (List ℕ)) (s : Slot) → IsName s.name × IsNoneOrAmong all s → IsName s.name × (has_name all s.name ≡ true)
own_among all s (n, inl e) = absurd (true≢false (sym n.0 ∙ ap is_word e))
own_among all s (n, inr h) = (n, h)

with_jumps : (b : Bool) (n : ℕ × ℕ) (P : ℕ × ℕ → Type 0) → b ≡ true → IfSome (cond b (Some n) None) P → P n
with_jumps true n P e h = h
with_jumps false n P e h = cc

-- ---- a function of a resolved program

module _ (p : Program) (f : Function) (resolved : IsResolvedFunction flat_counts p.tops f) (spelled : FunctionIsSpelled f)
    (among : AreAmong (function_names f) (names p)) (few : length (names p) ≤ most_held) where
  params : f.params ≤ length f.slots
  params = resolved.form.parameters

  slots_there : Each (IsNoneOrAmong (names p)) f.slots
  slots_there =
      slots_among f.slots (names p)
      (among_left (slots_names f.slots) f.labels (names p)
      (among_left (slots_names f.slots ++ f.labels) (body_names f.body) (names p)
      (among_rest f.name (slots_names f.slots ++ f.labels ++ body_names f.body) (names p) among)))

  -- a function with jumps
  module _ (old new : List Item) (there : f.body ≡ Some old) (jumps : has_jumps (trees_of old) ≡ true)
      (trees : trees_of new ≡ flat_body constant f.slots (length f.labels) (trees_of old)) where
    body_spelled : BodyIsSpelled f old
    body_spelled = subst (λ o. IfSome o (BodyIsSpelled f)) there spelled.body

    same : body_of f ≡ trees_of old
    same = body_is f old there

    abbrev pub new_form : Function
    new_form = named_flat (names p) (file_names p) f old new

    abbrev used : List (List ℕ)
    used = with_names (with_names [] (names p)) known_functions

    abbrev g : Given
    g = name_constructs 1 (constructs (trees_of old)) (none_given used)

    abbrev named : Named
    named = named_slots f.params (with_names (with_names [] (file_names p)) known_functions) g.used f.slots

    slots_are : length new_form.slots ≡ length f.slots + length g.variables
    slots_are =
        let a = length-append named.slots g.variables in
        let n = named_length f.params (with_names (with_names [] (file_names p)) known_functions) g.used f.slots in
        omega (arith, a, n)

    -- ---- few names are used

    few_used : length new_form.slots ≤ most_held → 2 + length (used_at_end (names p) (file_names p) f (trees_of old)) < 2 ^ 64
    few_used held =
        let cases = few_cases (trees_of old) (subst (Everywhere HasCases) same resolved.cases) in
        let a = no_more [] (names p) in
        let b = no_more (with_names [] (names p)) known_functions in
        let c = constructs_used 1 (constructs (trees_of old)) (none_given used) cases in
        let d = slots_used f.params (with_names (with_names [] (file_names p)) known_functions) g.used f.slots in
        let e = slots_are in
        omega (arith, few, held, a, b, c, d, e)

    named_in : length new_form.slots ≤ most_held → IsNamedIn p (names p) (file_names p) f (trees_of old)
    named_in held = record {
      all = rising-members (tops_names p.tops);
      scope = rising-members (tops_name p.tops);
      parameters = each_taken (IsNoneOrAmong (names p)) f.params f.slots slots_there;
      variables = each_map (λ (s : Slot). IsName s.name × IsNoneOrAmong (names p) s)
          (λ (s : Slot). IsName s.name × (has_name (names p) s.name ≡ true)) (own_among (names p)) (drop f.params f.slots)
          (each_both (λ (s : Slot). IsName s.name) (IsNoneOrAmong (names p)) (drop f.params f.slots)
          (slots_named f (trees_of old) body_spelled.items params (ap (gathered declared_slot) (sym same) ∙ resolved.form.slots))
          (each_dropped (IsNoneOrAmong (names p)) f.params f.slots slots_there));
      few = few_used held;
    }

    -- ---- labels

    labels_given : gathered marked_label (trees_of old) ≡ numbers_from 0 (length f.labels)
    labels_given = ap (gathered marked_label) (sym same) ∙ resolved.form.labels

    labels_are_names : Each IsName new_form.labels
    labels_are_names =
        let given = constructs_given 1 (constructs (trees_of old)) (none_given used) in
        let counted = cases_counted (trees_of old) in
        let count : length g.made.cases ≡ total cases_of (trees_of old) = omega (arith, given, counted) in
        let stand = codes_stand f (trees_of old) (subst (Everywhere HasOwnCases) same (function_labels flat_counts p.tops f resolved).cases) labels_given in
        labels_have_names f.labels g.made (labels_named f (trees_of old) body_spelled.items labels_given)
        (constructs_named 1 (constructs (trees_of old)) (none_given used) (record { cases = tt; defaults = tt; breaks = tt }))
        named.used (label_codes f (trees_of old)) (subst (λ n. Each (IsCode (length f.labels) n) (label_codes f (trees_of old))) (sym count) stand)

    few_labels : 6 * length new_form.labels ≤ 400
    few_labels =
        let form = forms (with_known (names p)) (with_known (file_names p)) f old new there params trees in
        let l = form.labels ∙ ap (label_count f.slots (length f.labels)) (sym (body_is f form.old form.old_body) ∙ same) in
        let m = same_labels f.slots (length f.labels) (trees_of old) in
        let limits = with_jumps (has_jumps (trees_of old)) (counts_of (measured_form (trees_of old))) (IsWithinLimits f) jumps
        (subst (λ a. IfSome (cond (has_jumps a) (Some (counts_of (measured_form a))) None) (IsWithinLimits f)) same
        (subst (λ o. IfSome o (IsWithinLimits f)) (counted_plainly flat_counts p.tops f resolved) resolved.untangled)) in
        let c = limits.counted in
        omega (arith, l, m, c)

    -- ---- the whole

    pub flat_has_names : length new_form.slots ≤ most_held → HasNames p new_form
    flat_has_names held = record {
      variables = flat_names_own p (names p) (file_names p) f old new params (named_in held);
      labels = labels_are_names;
      guards = guard_names_new (names p) new_form (let l = few_labels in omega (arith, few, held, l));
    }

  -- ---- what it is flattened to

  by_body : (o : Option (List Item)) → f.body ≡ o → (form : Form) → IsFormOf (names p) (file_names p) (record f { body = o }) form → (h : Function) →
      h ≡ applied form f → length h.slots ≤ most_held → h.flat ≡ true → HasNames p h
  by_body None e form i h w held is_flat = absurd
      (true≢false (sym is_flat ∙ ap (λ (k : Function). k.flat) (w ∙ ap (λ m. applied m f) i) ∙ resolved.form.unflat))
  by_body (Some body) e Same i h w held is_flat = absurd i
  by_body (Some body) e (Calm new) i h w held is_flat = absurd (true≢false (sym is_flat ∙ ap (λ (k : Function). k.flat) w ∙ resolved.form.unflat))
  by_body (Some body) e (Flat m) i h w held flat =
      let whole : h ≡ named_flat (names p) (file_names p) f body m.body =
      w ∙ ap (λ (n : FlatNames). record f { slots = n.slots; labels = n.labels; body = Some m.body; flat = true }) i.2 in
      subst (HasNames p) (sym whole) (flat_has_names body m.body e i.0 i.1 (subst (λ (k : Function). length k.slots ≤ most_held) whole held))

  pub flattened_has_names : (h : Function) → IsFlattened (names p) (file_names p) f h → length h.slots ≤ most_held → h.flat ≡ true → HasNames p h
  flattened_has_names h w held is_flat = by_body f.body refl w.form w.is h w.whole held is_flat
