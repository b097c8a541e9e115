-- A function after its first change.
use Rattle.std.proofs.Common.{◌≡◌, ℕ, zero, suc, pred, ◌+◌, ◌-◌, ◌<◌, ◌≤◌, Bool, true, false, true≢false, ◌&&◌, List, [], ◌∷◌, length, take, drop, Option, Some, None, option_map, refl, sym, ap, ◌∙◌, subst, arith}
use Rattle.std.specs.Prelude.{Contains, is_some}
use Rattle.std.specs.Option.{option_map_or}
use Rattle.std.proofs.lemmas.Bool.{and_parts}
use Rattle.c_tree.specs.declared.tree.Function.{Function}
use Rattle.c_tree.specs.declared.tree.Item.{Item}
use Rattle.c_tree.specs.declared.tree.Slot.{Slot}
use Rattle.c_tree.specs.declared.tree.Top.{Top}
use Rattle.c_tree.specs.Exits.{breaks, continues}
use Rattle.c_tree.specs.Trees.{Tree, Forest, Nil, trees_of}
use Rattle.c_tree.specs.Everywhere.{Everywhere}
use Rattle.c_tree.specs.InRange.{IsUnguarded, body_of}
use Rattle.c_tree.proofs.WellMoved.{everywhere_map, everywhere_both}
use Rattle.jump_meaning.specs.Code.{FunctionTree, entry_or, function_tree}
use Rattle.jump_meaning.specs.World.{no_slot}
use Rattle.struct_meaning.specs.Structured.{IsStructured}
use Rattle.c_resolved_defs.specs.Files.{IsLength, IsParameterLength, AreLengths}
use Rattle.c_resolved_defs.specs.Form.{gathered, declared_slot, numbers_from}
use Rattle.c_resolved_defs.specs.Kinds.{ItemAgrees, ReturnFits, KeepsConsts}
use Rattle.c_resolved_defs.specs.Names.{Names}
use Rattle.c_resolved_defs.specs.PrintableStatements.{most, depth}
use Rattle.c_resolved_defs.specs.Resolved.{HasLengths, IsInitialised, names_in}
use Rattle.c_resolved_defs.specs.Scopes.{Scope, inside, with_parameters, AreBound}
use Rattle.c_resolved_defs.specs.Spelling.{AreSpelled}
use Rattle.c_resolved_defs.specs.Switches.{HasCases}
use Rattle.tidy_laws.specs.Mentions.{item_lacks, list_lacks}
use Rattle.tidy_laws.specs.Renumbered.{without, renumbered_item, renumbered_list}
use Rattle.tidy_laws.specs.Changes.{is_flag, declares, undeclared, changes, changes_of}
use Rattle.tidy_laws.proofs.Reach.{of_change, in_reach, fewer as slots_fewer, first_among}
use Rattle.tidy_laws.specs.Ends.{IsChangedFirst}
use Rattle.tidy_laws.proofs.TheLaws.{front_without}
use Rattle.whole_laws.proofs.SameFile.{SameDeclaration}
use Rattle.whole_laws.proofs.ScopeLists.{parameters_take}
use Rattle.tidy_result_laws.proofs.Trims.{Trim}
use Rattle.tidy_result_laws.proofs.TrimLists.{HasFirst, lists_trim}
use Rattle.tidy_result_laws.proofs.TrimCounts.{IsOfLeaves, trim_gathered, trim_breaks, trim_continues, trim_depth}
use Rattle.tidy_result_laws.proofs.TrimFacts.{IsKept, trim_everywhere}
use Rattle.tidy_result_laws.proofs.KeptFacts.{HasEntries, kinds_kept, consts_kept, returns_kept, cases_kept, entries_kept, initialised_kept, firsts_kept, jumps_kept, unguarded_kept}
use Rattle.tidy_result_laws.proofs.TrimSpelled.{trim_spelled}
use Rattle.tidy_result_laws.proofs.TrimBound.{trim_bound}
use Rattle.tidy_result_laws.proofs.SlotGone.{drop_without}
use Rattle.tidy_result_laws.proofs.KindsGone.{fewer_names}
use Rattle.tidy_result_laws.proofs.ItemsGone.{HasFreeCases, everywhere_undeclared, everywhere_without, free_cases, agrees_without, keeps_without, fits_without, cases_stay, initialised_without, firsts_without, jumps_without, unguarded_without, entries_without}
use Rattle.tidy_result_laws.proofs.CountsGone.{declared_gone, breaks_gone, continues_gone, depth_gone}
use Rattle.tidy_result_laws.proofs.SpelledGone.{spelled_without, spelled_undeclared}
use Rattle.tidy_result_laws.proofs.FileScopes.{AreBelow, below_inside, below_parameters}
use Rattle.tidy_result_laws.proofs.BoundGone.{body_bound, below_without}
use Rattle.tidy_result_laws.proofs.Loose.{IsLoose}

-- ---- the body of a function

there : (o : Option (List Item)) (b : Forest) → option_map trees_of o ≡ Some b → (is_some o ≡ true) × (option_map_or trees_of o Nil ≡ b)
there None b e = cc
there (Some xs) b e = (refl, ap or e)
  where
    or : Option Forest → Forest
    or (Some a) = a
    or None = Nil

-- what is known of a change that a function has
record IsChange (f : Function) (c : ℕ × Forest) : Type 0 where
  some : is_some f.body ≡ true
  trim : Trim c.0 false 1 (body_of f) c.1
  declared : declares c.0 c.1 ≡ true
  lacks : list_lacks c.0 (undeclared c.0 c.1) ≡ true

no_change : (c : ℕ × Forest) → Contains [] c → ⊥
no_change c h = let i = h.1 in omega (arith, i)

is_change : (ts : List Top) (f : Function) (c : ℕ × Forest) → IsLoose ts f → Contains (changes_of (function_tree f)) c → IsChange f c
is_change ts f c l k = at f.body refl k
  where
    at : (o : Option (List Item)) → f.body ≡ o → Contains (option_map_or (changes (function_tree f)) (option_map trees_of o) []) c → IsChange f c
    at None e k = absurd (no_change c k)
    at (Some xs) e k =
        let is_body : body_of f ≡ trees_of xs = ap (λ b. option_map_or trees_of b Nil) e in
        let h = of_change (λ d. (b : Bool) → Trim d.0 b 1 (trees_of xs) d.1) (function_tree f) (trees_of xs)
        (lists_trim f.slots f.params (length f.slots - f.params) (trees_of xs) (subst (Everywhere (HasFirst f.slots)) is_body l.firsts) 1) c k in
        let i = and_parts (is_flag (entry_or no_slot f.slots c.0)) (declares c.0 c.1 && list_lacks c.0 (undeclared c.0 c.1)) h.1 in
        let j = and_parts (declares c.0 c.1) (list_lacks c.0 (undeclared c.0 c.1)) i.1 in
        record { some = ap is_some e; trim = subst (λ a. Trim c.0 false 1 a c.1) (sym is_body) (h.0 false); declared = j.0; lacks = j.1 }

lengths_without : (P : Option ℕ → Type 0) (g : ℕ) (ss : List Slot) → AreLengths P ss → AreLengths P (without g ss)
lengths_without P zero [] h = tt
lengths_without P (suc g) [] h = tt
lengths_without P zero (s ∷ ss) h = h.1
lengths_without P (suc g) (s ∷ ss) h = (h.0, lengths_without P g ss h.1)

-- ---- a function and what it becomes

module _ (ts : List Top) (f h : Function) (s : IsChangedFirst f h) (l : IsLoose ts f) where
  abbrev g : ℕ
  g = s.first.0

  abbrev C : Forest
  C = s.first.1

  contained : Contains (changes_of (function_tree f)) s.first
  contained = subst (λ cs. Contains cs s.first) (sym s.changes) (first_among s.first s.later)

  reach : (f.params ≤ g) × (g < length f.slots)
  reach = in_reach (function_tree f) s.first contained

  facts : IsChange f s.first
  facts = is_change ts f s.first l contained

  pub slots_are : h.slots ≡ without g f.slots
  slots_are = ap (λ (t : FunctionTree). t.slots) s.tree

  has_body : (is_some h.body ≡ true) × (body_of h ≡ renumbered_list g (undeclared g C))
  has_body = there h.body (renumbered_list g (undeclared g C)) (ap (λ (t : FunctionTree). t.body) s.tree)

  params_are : h.params ≡ f.params
  params_are = ap (λ (k : Function). k.params) s.kept

  taken : take h.params h.slots ≡ take f.params f.slots
  taken = (λ i. take (params_are i) (slots_are i)) ∙ front_without f.params g f.slots reach.0

  fewer : suc (length h.slots) ≡ length f.slots
  fewer = ap (λ ss. suc (length ss)) slots_are ∙ slots_fewer (function_tree f) s.first contained

  pub changed_declared : SameDeclaration f h
  changed_declared = record {
    name = ap (λ (k : Function). k.name) s.kept;
    result = ap (λ (k : Function). k.result) s.kept;
    file_only = ap (λ (k : Function). k.file_only) s.kept;
    params = params_are;
    parameters = taken;
    body = has_body.0 ∙ sym facts.some;
  }

  -- ---- a fact of each item

  module _ (P Q : Tree → Type 0) (k : IsKept g P) (q : Everywhere P C → Everywhere Q (renumbered_list g (undeclared g C))) where
    kept_everywhere : Everywhere P (body_of f) → Everywhere Q (body_of h)
    kept_everywhere p = subst (Everywhere Q) (sym has_body.1) (q (trim_everywhere g P k facts.trim p))

  -- by a map of items
  gone_by : (P Q : Tree → Type 0) → ((x : Tree) → item_lacks g x ≡ true → P x → Q (renumbered_item g x)) → Everywhere P C →
      Everywhere Q (renumbered_list g (undeclared g C))
  gone_by P Q f p = everywhere_without g P Q f (undeclared g C) facts.lacks (everywhere_undeclared g P C p)

  structured_there : Everywhere IsStructured C
  structured_there = trim_everywhere g IsStructured (jumps_kept g) facts.trim l.structured

  free_there : Everywhere (HasFreeCases g) C
  free_there = everywhere_map HasCases (HasFreeCases g) (free_cases g) C (trim_everywhere g HasCases (cases_kept g) facts.trim l.cases)

  fit_there : Everywhere (λ x. IsStructured x × HasFreeCases g x) C
  fit_there = everywhere_both IsStructured (HasFreeCases g) C structured_there free_there

  with_fit : (P : Tree → Type 0) → Everywhere P C → Everywhere (λ x. IsStructured x × (HasFreeCases g x × P x)) C
  with_fit P p = everywhere_both IsStructured (λ x. HasFreeCases g x × P x) C structured_there (everywhere_both (HasFreeCases g) P C free_there p)

  -- over the slots without this one
  over : (P : List Slot → Type 0) → P (without g f.slots) → P h.slots
  over P p = subst P (sym slots_are) p

  abbrev N : Names
  N = names_in ts f

  over_names : (P : Names → Tree → Type 0) → Everywhere (P (fewer_names g N)) (body_of h) → Everywhere (P (names_in ts h)) (body_of h)
  over_names P p = over (λ ss. Everywhere (P (record { tops = ts; slots = ss })) (body_of h)) p

  lengths_kept : HasLengths h
  lengths_kept = record {
    parameters = subst (AreLengths IsParameterLength) (sym taken) l.lengths.parameters;
    others = subst (λ n. AreLengths IsLength (drop n h.slots)) (sym params_are)
        (over (λ ss. AreLengths IsLength (drop f.params ss))
        (drop_without (AreLengths IsLength) f.params g f.slots reach.0 (lengths_without IsLength) l.lengths.others));
  }

  numbers : gathered declared_slot (body_of h) ≡ numbers_from h.params (length h.slots - h.params)
  numbers =
      let leaves : IsOfLeaves declared_slot = record { evaluate = λ e. refl; break = refl; continue = refl } in
      let before = trim_gathered g declared_slot leaves facts.trim ∙ l.slots in
      let low = reach.0 in
      let high = reach.1 in
      let n = fewer in
      let p = params_are in
      let count : length f.slots - f.params ≡ suc (length h.slots - h.params) = omega (arith, low, high, n, p) in
      ap (gathered declared_slot) has_body.1 ∙ declared_gone g C f.params (length f.slots - f.params) facts.declared before
      ∙ (λ i. numbers_from (sym params_are i) (pred (count i)))

  exits_kept : breaks (body_of h) + continues (body_of h) ≡ 0
  exits_kept =
      let b = ap breaks has_body.1 ∙ breaks_gone g C ∙ trim_breaks g refl facts.trim in
      let c = ap continues has_body.1 ∙ continues_gone g C ∙ trim_continues g refl facts.trim in
      let e = l.exits in omega (arith, b, c, e)

  pub loose_kept : IsLoose ts h
  loose_kept = record {
    unflat = ap (λ (k : Function). k.flat) s.kept ∙ l.unflat;
    labels = ap (λ (k : Function). k.labels) s.kept ∙ l.labels;
    parameters = (let low = reach.0 in let high = reach.1 in let n = fewer in let p = params_are in omega (arith, low, high, n, p));
    prototype = λ none. absurd (true≢false (sym has_body.0 ∙ none));
    structured = kept_everywhere IsStructured IsStructured (jumps_kept g) (gone_by IsStructured IsStructured (jumps_without g)) l.structured;
    unguarded = kept_everywhere IsUnguarded IsUnguarded (unguarded_kept g) (gone_by IsUnguarded IsUnguarded (unguarded_without g)) l.unguarded;
    entries = kept_everywhere HasEntries HasEntries (entries_kept g) (gone_by HasEntries HasEntries (entries_without g)) l.entries;
    firsts = over (λ ss. Everywhere (HasFirst ss) (body_of h))
        (kept_everywhere (HasFirst f.slots) (HasFirst (without g f.slots)) (firsts_kept g f.slots)
        (gone_by (HasFirst f.slots) (HasFirst (without g f.slots)) (firsts_without g f.slots)) l.firsts);
    slots = numbers;
    exits = exits_kept;
    kinds = over_names ItemAgrees (kept_everywhere (ItemAgrees N) (ItemAgrees (fewer_names g N)) (kinds_kept g N)
        (λ p. gone_by (λ x. IsStructured x × (HasFreeCases g x × ItemAgrees N x)) (ItemAgrees (fewer_names g N)) (agrees_without g N)
        (with_fit (ItemAgrees N) p)) l.kinds);
    returns = subst (λ k. Everywhere (ReturnFits k) (body_of h)) (sym changed_declared.result)
        (kept_everywhere (ReturnFits f.result) (ReturnFits f.result) (returns_kept g f.result)
        (gone_by (ReturnFits f.result) (ReturnFits f.result) (fits_without g f.result)) l.returns);
    cases = kept_everywhere HasCases HasCases (cases_kept g) (gone_by HasCases HasCases (cases_stay g)) l.cases;
    consts = over_names KeepsConsts (kept_everywhere (KeepsConsts N) (KeepsConsts (fewer_names g N)) (consts_kept g N)
        (λ p. gone_by (λ x. IsStructured x × (HasFreeCases g x × KeepsConsts N x)) (KeepsConsts (fewer_names g N)) (keeps_without g N)
        (with_fit (KeepsConsts N) p)) l.consts);
    lengths = lengths_kept;
    initialised = over (λ ss. Everywhere (IsInitialised ss) (body_of h))
        (kept_everywhere (IsInitialised f.slots) (IsInitialised (without g f.slots)) (initialised_kept g f.slots)
        (gone_by (IsInitialised f.slots) (IsInitialised (without g f.slots)) (initialised_without g f.slots)) l.initialised);
  }

  -- ---- its text and its names

  pub items_spelled : AreSpelled f (body_of f) → AreSpelled h (body_of h)
  items_spelled k =
      subst (AreSpelled h) (sym has_body.1)
      (spelled_without g f h slots_are (undeclared g C) facts.lacks (everywhere_undeclared g (λ x. IsStructured x × HasFreeCases g x) C fit_there)
      (spelled_undeclared g f C (trim_spelled f g facts.trim k)))

  pub depth_kept : 1 + depth (body_of f) ≤ most → 1 + depth (body_of h) ≤ most
  depth_kept d =
      let e = ap depth has_body.1 in
      let i = depth_gone g C in
      let j = trim_depth g facts.trim (omega arith) d in omega (arith, e, i, j)

  pub items_bound : (ss : List Scope) → AreBelow 0 ss → AreBound f.slots (with_parameters f.params 0 f.slots (inside ss)) (body_of f) →
      AreBound h.slots (with_parameters h.params 0 h.slots (inside ss)) (body_of h)
  items_bound ss z b =
      let base = with_parameters f.params 0 f.slots (inside ss) in
      let l = reach.0 in
      let low = below_parameters g f.params 0 f.slots (inside ss) (omega (arith, l))
      (below_inside g ss (λ m k e. let i = z m k e in absurd (omega (arith, i)))) in
      let same : with_parameters h.params 0 h.slots (inside ss) ≡ base =
      (λ i. with_parameters (params_are i) 0 h.slots (inside ss)) ∙ parameters_take f.params 0 f.slots h.slots (inside ss)
      (ap (λ n. take n h.slots) (sym params_are) ∙ taken) in
      subst (λ sc. AreBound h.slots sc (body_of h)) (sym same)
      (subst (AreBound h.slots base) (sym has_body.1)
      (over (λ sl. AreBound sl base (renumbered_list g (undeclared g C)))
      (body_bound g f.slots C base base facts.lacks fit_there (below_without g base low) (trim_bound f.slots g base facts.trim b))))
