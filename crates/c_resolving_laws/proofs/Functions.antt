-- A function without a violation: its items, its slots, and what its parameters are bound to.
use Rattle.std.proofs.Common.{ℕ, suc, ◌+◌, ◌-◌, ◌≤◌, ◌<◌, Bool, true, false, cond, List, [], ◌∷◌, ◌++◌, append_assoc, map, length, take, drop, Option, Some, None, is_some, ◌≡◌, refl, sym, ap, subst, ◌∙◌, true≢false, slice_get, arith, length-append}
use Rattle.std.specs.Prelude.{IfSome}
use Rattle.std.proofs.lemmas.List.{append-nil, length-map}
use Rattle.c_tree.specs.declared.tree.Slot.{Slot}
use Rattle.c_tree.specs.declared.tree.Item as item
use Rattle.c_tree.specs.declared.tree.Function as tree
use Rattle.c_tree.specs.declared.tree.Home.TheVariants as H
use Rattle.c_tree.specs.declared.tree.Top.{Top}
use Rattle.c_tree.specs.ExpressionTrees.{ExpressionTree}
use Rattle.c_tree.specs.Trees.{Tree, trees_of}
use Rattle.c_tree.specs.Everywhere.{Everywhere}
use Rattle.c_tree.specs.InRange.{body_of}
use Rattle.c_tree.proofs.WellMoved.{everywhere_map}
use Rattle.c_grammar.specs.Items.{Body, Braces, Lone, Declarator}
use Rattle.c_grammar.specs.Tops.{Parameter, Function}
use Rattle.c_kinds.specs.declared.binding.Binding.TheVariants.{Local}
use Rattle.c_kinds.specs.Scopes.{Scope, Faults, fault_if, is_bound, bind, bind_fault}
use Rattle.c_statements.specs.declared.extents.Kinded.{Kinded}
use Rattle.c_statements.specs.declared.anchors.Anchor.{Anchor}
use Rattle.c_statements.specs.declared.anchors.Anchor.TheVariants.{AtEnd}
use Rattle.c_statements.specs.Context.{Context, Walk, env_at, env_in, notes_at, no_construct}
use Rattle.c_statements.specs.Declarations.{placeholder, is_array, size_faults, slot_of, local_faults}
use Rattle.c_statements.specs.Functions.{FlatCounts, parameter_name, parameter_slot, parameter_shape, bind_parameter, bind_parameters, parameter_fault, parameters_faults, body_items, behind_body, body_faults, context, inside, function_of}
use Rattle.c_resolving_laws.proofs.Defined.{prototype_context, defined}
use Rattle.c_statements.specs.Labels.{body_labels}
use Rattle.c_statements.specs.Statements.{list_items, item_items, behind_item, behind_items}
use Rattle.c_resolved_defs.specs.Files.{IsLength, IsParameterLength, AreLengths}
use Rattle.c_resolved_defs.specs.Form.{gathered, declared_slot, marked_label, numbers_from, HasSourceForm, HasForm}
use Rattle.c_resolved_defs.specs.Kinds.{ItemAgrees, KeepsConsts, ReturnFits}
use Rattle.c_resolved_defs.specs.Limits.{IsWithinLimits}
use Rattle.c_resolved_defs.specs.Names.{Names}
use Rattle.c_resolved_defs.specs.PrintableExpressions.{IsName}
use Rattle.c_resolved_defs.specs.Resolved.{names_in, HasLengths, IsInitialised}
use Rattle.c_resolved_defs.specs.Scopes as Scopes
use Rattle.c_resolved_defs.specs.Scopes.{AVariable, AreBound, IsNew, IsNewParameter, AreNewParameters, with_parameters, BodyIsBound}
use Rattle.c_types.specs.Words.{is_word}
use Rattle.c_resolved_defs.specs.Switches.{HasCases}
use Rattle.c_resolved_defs.specs.Within.{Each, AllDiffer}
use Rattle.c_resolving_laws.proofs.Arrays.{array_fine}
use Rattle.c_kinds.proofs.Entries.{names_same}
use Rattle.c_resolving_laws.proofs.Bindings.{knows_bound, knows_inside, look_up_tree}
use Rattle.c_resolving_laws.proofs.BoundTerms.{Nearest, nearest_new, nearest_bound, At, binds_both}
use Rattle.c_resolving_laws.proofs.Bound.{place_binds, item_binds, list_binds}
use Rattle.c_resolving_laws.proofs.Declared.{slot_there}
use Rattle.c_resolving_laws.proofs.FileParts.{BodyParts, parameters_parts}
use Rattle.c_resolving_laws.proofs.FunctionTrees.{inside_slots, take_all, drop_all, body_grown, behind_parameters}
use Rattle.c_resolving_laws.proofs.Exits.{Exits, exits_surrounded}
use Rattle.c_resolving_laws.proofs.Gathered.{before_notes, list_numbers, item_numbers, of_list, of_item}
use Rattle.c_resolving_laws.proofs.LabelNumbers.{marks_gather, number_at, list_list, item_list, numbered_all}
use Rattle.c_resolving_laws.proofs.SlotNumbers.{slots_gather, list_runs, item_runs, run_is}
use Rattle.c_resolving_laws.proofs.Surroundings.{has_both, has_notes, has_list, has_item}
use Rattle.c_resolving_laws.proofs.ItemKinds.{KnownAt, GoodItem, Good, kinds_closed}
use Rattle.c_resolving_laws.proofs.ItemCases.{cases_closed}
use Rattle.c_resolving_laws.proofs.ItemForms.{forms_closed}
use Rattle.c_resolving_laws.proofs.ItemReturns.{Anywhere, AnyConstant, returns_closed, initialised_closed}
use Rattle.c_resolving_laws.proofs.Known.{HasShape, IsKnown, Knows}
use Rattle.c_resolving_laws.proofs.Lists.{clean_if, is_some_and}
use Rattle.c_resolving_laws.proofs.Parts.{local_parts}
use Rattle.c_resolving_laws.specs.Counts.{IsFewBody}
use Rattle.c_resolving_laws.proofs.Untangled.{within_limits}
use Rattle.c_resolving_laws.specs.Read.{IsReadDeclarator, IsReadBody, IsReadParameter, IsReadFunction}
use Rattle.c_resolving_laws.proofs.Walk.{Begins, Closed, Holds, hold_both}
use Rattle.c_resolving_laws.proofs.Walked.{list_holds, item_holds, notes_hold}

-- ---- parameters

module _ (ctx : Context) (defines : Bool) (x : Parameter) (w : Walk) where
  -- a parameter with a name is new in its scope
  abbrev IsNewName : Option ℕ → Type 0
  IsNewName None = Unit {0}
  IsNewName (Some at) = is_bound (ctx.word at) w.scopes ≡ false

  pub parameter_new : parameter_fault ctx.word defines x w [] ≡ [] → IsNewName x.name
  parameter_new e = by x.name e
    where
      by : (o : Option ℕ) → ◌≡◌ {A = Faults}
          (elim o [
            | Some at ↦ bind_fault at (ctx.word at) w.scopes (size_faults (env_at ctx w) x.size [])
            | None ↦ fault_if defines x.first 43
                (size_faults (env_at ctx w) x.size [])
          ]) [] → IsNewName o
      by None e = tt
      by (Some at) e = (clean_if (is_bound (ctx.word at) w.scopes) at 21 (size_faults (env_at ctx w) x.size []) e).1

array_cells : (b : Bool) → is_some {T = ℕ} (cond b (Some 0) None) ≡ b
array_cells true = refl
array_cells false = refl

pub parameter_is : (word : ℕ → List ℕ) (x : Parameter) → HasShape (parameter_shape word x) (parameter_slot word x)
parameter_is word x = record { kind = refl; array = array_cells (is_array x.size); constant = refl }

-- a parameter has its length
pub parameter_lengths : (word : ℕ → List ℕ) (xs : List Parameter) → AreLengths IsParameterLength (map (parameter_slot word) xs)
parameter_lengths word [] = tt
parameter_lengths word (x ∷ xs) = (by (is_array x.size), parameter_lengths word xs)
  where
    by : (b : Bool) → IsParameterLength (cond b (Some 0) None)
    by true = refl
    by false = tt

module _ (ctx : Context) (n : Names) where
  parameter_known : (x : Parameter) (w : Walk) (at : ℕ) (ss : List Scopes.Scope) → x.name ≡ Some at → Begins (bind_parameter ctx.word x w).slots n.slots
      → IsKnown n (Scopes.bind (ctx.word at) (AVariable (H.Slot (length w.slots))) ss) (ctx.word at) (Local (length w.slots) (parameter_shape ctx.word x))
  parameter_known x w at ss e b =
      let m = ctx.word at in
      let k = length w.slots in
      let s = parameter_slot ctx.word x in (
        is_some_and _ (slice_get n.slots k) s (ap (λ l. slice_get l k) b.1 ∙ slot_there w.slots b.0 s)
            (ap (parameter_name ctx.word) e, parameter_is ctx.word x),
        look_up_tree m m (AVariable (H.Slot k)) ss ∙ ap (λ t. cond t (Some (AVariable (H.Slot k))) (Scopes.look_up ss m)) (names_same m m refl),
      )

  -- what is known behind a parameter
  behind_parameter : (defines : Bool) (x : Parameter) (w : Walk) → parameter_fault ctx.word defines x w [] ≡ [] →
      Begins (bind_parameter ctx.word x w).slots n.slots → KnownAt ctx n w.scopes → KnownAt ctx n (bind_parameter ctx.word x w).scopes
  behind_parameter defines x w e b i = by x.name refl (parameter_new ctx defines x w e)
    where
      by : (o : Option ℕ) → x.name ≡ o → IsNewName ctx defines x w o
          → KnownAt ctx n (elim o [ Some at ↦ bind (ctx.word at) (Local (length w.slots) (parameter_shape ctx.word x)) w.scopes | None ↦ w.scopes ])
      by None e h = i
      by (Some at) e h =
          let m = ctx.word at in (
            Scopes.bind m (AVariable (H.Slot (length w.slots))) i.0,
            knows_bound n ctx.word m (Local (length w.slots) (parameter_shape ctx.word x)) (AVariable (H.Slot (length w.slots))) w.scopes i.0 h
                (parameter_known x w at i.0 e b) i.1,
          )

  bound_begins : (xs : List Parameter) (w : Walk) → Begins (bind_parameters ctx.word xs w).slots n.slots → Begins w.slots n.slots
  bound_begins [] w b = b
  bound_begins (x ∷ xs) w b =
      let r = bound_begins xs (bind_parameter ctx.word x w) b in
      (parameter_slot ctx.word x ∷ r.0, r.1 ∙ append_assoc w.slots (parameter_slot ctx.word x ∷ []) r.0)

  pub parameters_known : (defines : Bool) (xs : List Parameter) (w : Walk) → parameters_faults ctx.word defines xs w [] ≡ [] →
      Begins (bind_parameters ctx.word xs w).slots n.slots → KnownAt ctx n w.scopes
      → KnownAt ctx n (bind_parameters ctx.word xs w).scopes
  parameters_known defines [] w e b i = i
  parameters_known defines (x ∷ xs) w e b i =
      let p = parameters_parts ctx defines x xs w e in
      let v = bind_parameter ctx.word x w in
      parameters_known defines xs v p.1 b (behind_parameter defines x w p.0 (bound_begins xs v b) i)

-- ---- bodies

module _ (ctx : Context) (final : List Slot) (I : List Scope → Type 0) (P : Tree → Type 0) (C : ExpressionTree → Type 0) (c : Closed ctx final I P C) where
  -- a fact of each item of a body
  pub body_holds : (b : Body) (w : Walk) → IsReadBody ctx.word b → body_faults ctx b w [] ≡ [] → I w.scopes →
      Begins (behind_body ctx b w).slots final → Holds P (body_items ctx b w)
  body_holds (Braces first after xs) w r e i z =
      hold_both P (list_items ctx xs w) (notes_at ctx (AtEnd first)) (list_holds ctx final I P C c no_construct xs w r e i z)
      (notes_hold ctx final I P C c (AtEnd first))
  body_holds (Lone first after x) w r e i z =
      hold_both P (item_items ctx x w) (notes_at ctx (AtEnd first)) (item_holds ctx final I P C c no_construct x w r e i z).0
      (notes_hold ctx final I P C c (AtEnd first))

-- ---- functions

-- a slot of a declared variable has a length and a name
pub record IsFine (s : Slot) : Type 0 where
  pub length : IsLength s.cells
  pub named : IsName s.name

pub declared_fine : (ctx : Context) (k : Kinded) (d : Declarator) (w : Walk) → IsReadDeclarator ctx.word d → local_faults ctx.word k d w [] ≡ [] →
    IsFine (slot_of (env_in ctx.word w) k d)
declared_fine ctx k d w r e =
    let p = local_parts ctx.word k d w e in
    record { length = (array_fine ctx.word (λ t. placeholder) true (env_in ctx.word w) d p.size r.value p.array).0; named = r.named }

lengths_of : (ss : List Slot) → Each IsFine ss → AreLengths IsLength ss
lengths_of [] h = tt
lengths_of (s ∷ ss) h = (h.0.length, lengths_of ss h.1)

-- the counts of a body, where there is one
abbrev flat_of : FlatCounts → Option (List item.Item) → Option (ℕ × ℕ)
flat_of flat None = None
flat_of flat (Some xs) = flat xs

-- what is proved of a function
pub record Resolves (flat : FlatCounts) (ts : List Top) (t : tree.Function) : Type 0 where
  pub kinds : Everywhere (ItemAgrees (names_in ts t)) (body_of t)
  pub consts : Everywhere (KeepsConsts (names_in ts t)) (body_of t)
  pub returns : Everywhere (ReturnFits t.result) (body_of t)
  pub initialised : Everywhere (IsInitialised t.slots) (body_of t)
  pub lengths : HasLengths t
  pub form : HasForm t
  pub labels : AllDiffer t.labels
  pub cases : Everywhere HasCases (body_of t)
  pub untangled : (xs : List item.Item) → t.body ≡ Some xs → (n : ℕ × ℕ) → flat xs ≡ Some n → IsWithinLimits t n

-- ---- slots, labels and exits

abbrev Nothing : ℕ → ℕ → Type 0
Nothing a b = numbers_from a (b - a) ≡ []

nothing : (a b : ℕ) → b ≡ a → Nothing a b
nothing a b e = ap (numbers_from a) (let h : b - a ≡ 0 = omega arith in h)

-- the numbers of a body
module _ (ctx : Context) where
  body_slots : (b : Body) (w : Walk) → body_faults ctx b w [] ≡ [] → gathered declared_slot (trees_of (body_items ctx b w)) ≡ numbers_from
      (length w.slots) (length (behind_body ctx b w).slots - length w.slots)
  body_slots (Braces first after xs) w e =
      before_notes ctx declared_slot slots_gather (list_items ctx xs w) (AtEnd first)
      ∙ (list_numbers ctx declared_slot slots_gather no_construct xs w e ∙
      run_is (length w.slots) (length (behind_items ctx xs w).slots) (of_list ctx declared_slot slots_gather xs w) (list_runs ctx xs w))
  body_slots (Lone first after x) w e =
      before_notes ctx declared_slot slots_gather (item_items ctx x w) (AtEnd first)
      ∙ (item_numbers ctx declared_slot slots_gather no_construct x w e ∙
      run_is (length w.slots) (length (behind_item ctx x w).slots) (of_item ctx declared_slot slots_gather x w) (item_runs ctx x w))

  body_marks : (b : Body) (w : Walk) → body_faults ctx b w [] ≡ [] → gathered marked_label (trees_of (body_items ctx b w)) ≡ map (number_at ctx)
      (body_labels b [])
  body_marks (Braces first after xs) w e =
      before_notes ctx marked_label marks_gather (list_items ctx xs w) (AtEnd first)
      ∙ (list_numbers ctx marked_label marks_gather no_construct xs w e ∙ sym (list_list ctx xs w [] ∙ append-nil (of_list ctx marked_label marks_gather xs w)))
  body_marks (Lone first after x) w e =
      before_notes ctx marked_label marks_gather (item_items ctx x w) (AtEnd first)
      ∙ (item_numbers ctx marked_label marks_gather no_construct x w e ∙ sym (item_list ctx x w [] ∙ append-nil (of_item ctx marked_label marks_gather x w)))

  body_exits : (b : Body) (w : Walk) → body_faults ctx b w [] ≡ [] → Exits no_construct (trees_of (body_items ctx b w))
  body_exits (Braces first after xs) w e = has_both ctx Exits exits_surrounded no_construct (list_items ctx xs w) (notes_at ctx (AtEnd first))
      (has_list ctx Exits exits_surrounded no_construct xs w e) (has_notes ctx Exits exits_surrounded no_construct (AtEnd first))
  body_exits (Lone first after x) w e = has_both ctx Exits exits_surrounded no_construct (item_items ctx x w) (notes_at ctx (AtEnd first))
      (has_item ctx Exits exits_surrounded no_construct x w e) (has_notes ctx Exits exits_surrounded no_construct (AtEnd first))

none_before : (n : ℕ) → 0 + n ≡ n
none_before n = omega arith

begins_long : (a more slots : List Slot) (n : ℕ) → slots ≡ a ++ more → length a ≡ n → n ≤ length slots
begins_long a more slots n e l = let h = ap length e ∙ length-append a more in omega arith

module _ (flat : FlatCounts) (word : ℕ → List ℕ) (notes : Anchor → List (List ℕ)) (f : Function) (scopes : List Scope) (ts : List Top) where
  -- what is known in its body, at any slots
  abbrev pub KnownOutside : Type 0
  KnownOutside = (slots : List Slot) → (ss : List Scopes.Scope) × Knows (record { tops = ts; slots = slots }) ss (record { word = word; scopes = scopes })

  resolves_by : (o : Option Body) → IfSome o (IsReadBody word) → IfSome o (IsFewBody word f.counted) → BodyParts flat word notes f o scopes →
      KnownOutside → Resolves flat ts (defined word notes f o scopes)
  resolves_by None r few p k =
      let b = behind_parameters flat word notes f scopes None r p in
      let slots = (inside word f scopes).slots in
      let same = ap length (inside_slots word f scopes) ∙ length-map f.parameters (parameter_slot word) in
      record {
        kinds = tt;
        consts = tt;
        returns = tt;
        initialised = tt;
        labels = tt;
        cases = tt;
        untangled = λ xs e n h. absurd (true≢false (sym (ap is_some e)));
        form = record {
          unflat = refl;
          parameters = begins_long (map (parameter_slot word) f.parameters) [] slots (length f.parameters)
              (inside_slots word f scopes ∙ sym (append-nil (map (parameter_slot word) f.parameters))) (length-map f.parameters (parameter_slot word));
          prototype = λ e. (same, refl);
          items = tt;
          slots = sym (nothing (length f.parameters) (length slots) same);
          labels = refl;
          cases = tt;
          exits = refl;
        };
        lengths = record {
          parameters = subst (AreLengths IsParameterLength)
              (sym (ap (take (length f.parameters)) b.whole ∙ take_all (parameter_slot word) f.parameters b.more)) (parameter_lengths word f.parameters);
          others = subst (AreLengths IsLength)
              (sym (ap (drop (length f.parameters)) (inside_slots word f scopes ∙ sym (append-nil (map (parameter_slot word) f.parameters))) ∙
              drop_all (parameter_slot word) f.parameters [])) tt;
        };
      }
  resolves_by (Some b) r few p k =
      let ctx = context word notes f b in
      let w = inside word f scopes in
      let slots = (behind_body ctx b w).slots in
      let n : Names = record { tops = ts; slots = slots } in
      let g = body_grown ctx IsFine (declared_fine ctx) b w r p.body in
      let q = g.whole ∙ ap (λ l. l ++ g.more) (inside_slots word f scopes) in
      let start = ap length (inside_slots word f scopes) ∙ length-map f.parameters (parameter_slot word) in
      let ls = numbered_all [] word (body_labels b []) p.labels in
      let x = body_exits ctx b w p.body in
      let t = defined word notes f (Some b) scopes in
      let count : length ctx.labels ≡ length t.labels = ls.count ∙
      (none_before (length (body_labels b [])) ∙ sym (ap length ls.names ∙ length-map (body_labels b []) word)) in
      let all : Begins slots slots = ([], sym (append-nil slots)) in
      let o = k slots in
      let i = parameters_known ctx n true f.parameters (record { scopes = [] ∷ scopes; slots = [] }) p.parameters (g.more, g.whole)
      ([] ∷ o.0, knows_inside n word scopes o.0 o.1) in
      let h = body_holds ctx slots (KnownAt ctx n) (GoodItem n) (Good n) (kinds_closed ctx n) b w r p.body i all in
      record {
        kinds = everywhere_map (GoodItem n) (ItemAgrees n) (λ x h. h.agrees) (trees_of (body_items ctx b w)) h;
        consts = everywhere_map (GoodItem n) (KeepsConsts n) (λ x h. h.consts) (trees_of (body_items ctx b w)) h;
        returns = body_holds ctx slots Anywhere (ReturnFits ctx.result) AnyConstant (returns_closed ctx slots) b w r p.body tt all;
        initialised = body_holds ctx slots Anywhere (IsInitialised slots) AnyConstant (initialised_closed ctx slots) b w r p.body tt all;
        form = record {
          unflat = refl;
          parameters = begins_long (map (parameter_slot word) f.parameters) g.more slots (length f.parameters) q
              (length-map f.parameters (parameter_slot word));
          prototype = λ e. absurd (true≢false e);
          items = body_holds ctx slots Anywhere (HasSourceForm t) AnyConstant
              (forms_closed ctx t (λ m k h. subst (λ c. k < c) count (ls.below (λ q n e. absurd (true≢false (sym (ap is_some e)))) m k h))) b w r p.body tt all;
          slots = body_slots ctx b w p.body ∙ ap (λ k. numbers_from k (length slots - k)) start;
          labels = body_marks ctx b w p.body ∙ (ls.numbers ∙ ap (numbers_from 0) (sym (ap length ls.names ∙ length-map (body_labels b []) word)));
          cases = x.arriving refl;
          exits = λ i. x.breaking refl i + x.continuing refl i;
        };
        labels = subst AllDiffer (sym ls.names) ls.differ;
        untangled = λ xs e k h. within_limits word notes f b scopes k few (p.tangle k (ap (flat_of flat) e ∙ h)) ls.names;
        cases = body_holds ctx slots (KnownAt ctx n) HasCases AnyConstant (cases_closed ctx n) b w r p.body i all;
        lengths = record {
          parameters = subst (AreLengths IsParameterLength)
              (sym (ap (take (length f.parameters)) q ∙ take_all (parameter_slot word) f.parameters g.more)) (parameter_lengths word f.parameters);
          others = subst (AreLengths IsLength) (sym (ap (drop (length f.parameters)) q ∙ drop_all (parameter_slot word) f.parameters g.more))
              (lengths_of g.more g.good);
        };
      }

  pub resolves : IsReadFunction word f → BodyParts flat word notes f f.body scopes → KnownOutside → Resolves flat ts (function_of word notes f scopes)
  resolves r p k = resolves_by f.body r.body r.few p k

-- ---- the names of a function

word_nonempty : (m : List ℕ) (i : ℕ) (ss : List Scopes.Scope) → is_word m ≡ true → Scopes.bind_parameter m i ss ≡ Scopes.bind m (AVariable (H.Slot i)) ss
word_nonempty [] i ss e = absurd (true≢false (sym e))
word_nonempty (c ∷ cs) i ss e = refl

new_parameter : (m : List ℕ) (ss : List Scopes.Scope) → IsNew m ss → IsNewParameter m ss
new_parameter [] ss h = tt
new_parameter (c ∷ cs) ss h = h

at_same : {ctx : Context} {n : Names} (v w : Walk) (s t : List Scopes.Scope) → v.scopes ≡ w.scopes → s ≡ t → At ctx n w t → At ctx n v s
at_same {ctx = ctx} {n = n} v w s t e f a =
    let b = subst (At ctx n w) (sym f) a in
    record { knows = subst (λ sc. Knows n s (record { word = ctx.word; scopes = sc })) (sym e) b.knows; nearest = subst (λ sc. Nearest sc s) (sym e) b.nearest }

module _ (ctx : Context) (n : Names) (defines : Bool) where
  -- the scopes behind parameters, and that their names are new
  pub record ParametersBound (i : ℕ) (xs : List Parameter) (w : Walk) (ss : List Scopes.Scope) (more : List Slot) : Type 0 where
    pub ss' : List Scopes.Scope
    pub same : with_parameters (length xs) i (map (parameter_slot ctx.word) xs ++ more) ss ≡ ss'
    pub new : AreNewParameters (length xs) i (map (parameter_slot ctx.word) xs ++ more) ss
    pub at : At ctx n (bind_parameters ctx.word xs w) ss'

  -- one parameter
  pub record ParameterBound (i : ℕ) (x : Parameter) (w : Walk) (ss : List Scopes.Scope) : Type 0 where
    pub new : IsNewParameter (parameter_name ctx.word x.name) ss
    pub at : At ctx n (bind_parameter ctx.word x w) (Scopes.bind_parameter (parameter_name ctx.word x.name) i ss)

  one_parameter : (i : ℕ) (x : Parameter) (w : Walk) (ss : List Scopes.Scope) → i ≡ length w.slots → IfSome x.name (λ at. IsName (ctx.word at)) →
      parameter_fault ctx.word defines x w [] ≡ [] → Begins (bind_parameter ctx.word x w).slots n.slots
      → At ctx n w ss → ParameterBound i x w ss
  one_parameter i x w ss q r e b a = by x.name refl r (parameter_new ctx defines x w e)
    where
      by : (o : Option ℕ) → x.name ≡ o → IfSome o (λ at. IsName (ctx.word at)) → IsNewName ctx defines x w o → ParameterBound i x w ss
      by None j r h = record {
        new = subst (λ o. IsNewParameter (parameter_name ctx.word o) ss) (sym j) tt;
        at = at_same (bind_parameter ctx.word x w) w (Scopes.bind_parameter (parameter_name ctx.word x.name) i ss) ss
            (ap (λ (o : Option ℕ). elim o [ Some at ↦ bind (ctx.word at) (Local (length w.slots) (parameter_shape ctx.word x)) w.scopes | None ↦ w.scopes ]) j)
            (ap (λ o. Scopes.bind_parameter (parameter_name ctx.word o) i ss) j) a;
      }
      by (Some at) j r h =
          let m = ctx.word at in
          let k = length w.slots in
          let shape = parameter_shape ctx.word x in
          let scopes = ap (λ (o : Option ℕ). elim o [
            | Some at ↦ bind (ctx.word at) (Local (length w.slots) (parameter_shape ctx.word x)) w.scopes
            | None ↦ w.scopes
          ]) j in
          let bound : At ctx n (record { scopes = bind m (Local k shape) w.scopes; slots = (bind_parameter ctx.word x w).slots })
          (Scopes.bind m (AVariable (H.Slot k)) ss) = record {
            knows = knows_bound n ctx.word m (Local k shape) (AVariable (H.Slot k)) w.scopes ss h (parameter_known ctx n x w at ss j b) a.knows;
            nearest = nearest_bound w.scopes ss m (Local k shape) a.nearest h;
          } in
          record {
            new = subst (λ o. IsNewParameter (parameter_name ctx.word o) ss) (sym j) (new_parameter m ss (nearest_new w.scopes ss m a.nearest h));
            at = at_same (bind_parameter ctx.word x w) _ (Scopes.bind_parameter (parameter_name ctx.word x.name) i ss) _ scopes
                (ap (λ o. Scopes.bind_parameter (parameter_name ctx.word o) i ss) j ∙
                (word_nonempty m i ss r.0 ∙ ap (λ k. Scopes.bind m (AVariable (H.Slot k)) ss) q)) bound;
          }

  pub parameters_bound : (xs : List Parameter) (i : ℕ) (w : Walk) (ss : List Scopes.Scope) (more : List Slot) → i ≡ length w.slots →
      Each (IsReadParameter ctx.word) xs → parameters_faults ctx.word defines xs w [] ≡ []
      → Begins (bind_parameters ctx.word xs w).slots n.slots → At ctx n w ss → ParametersBound i xs w ss more
  parameters_bound [] i w ss more q r e b a = record { ss' = ss; same = refl; new = tt; at = a }
  parameters_bound (x ∷ xs) i w ss more q r e b a =
      let p = parameters_parts ctx defines x xs w e in
      let v = bind_parameter ctx.word x w in
      let one = one_parameter i x w ss q r.0.named p.0 (bound_begins ctx n xs v b) a in
      let rest = parameters_bound xs (suc i) v (Scopes.bind_parameter (parameter_name ctx.word x.name) i ss) more
      (let h = length-append w.slots (parameter_slot ctx.word x ∷ []) in omega arith) r.1 p.1 b one.at in
      record { ss' = rest.ss'; same = rest.same; new = (one.new, rest.new); at = rest.at }

-- the names of a body
body_is_bound : (ctx : Context) (n : Names) (b : Body) (w : Walk) (ss : List Scopes.Scope) → At ctx n w ss → IsReadBody ctx.word b →
    body_faults ctx b w [] ≡ [] → Begins (behind_body ctx b w).slots n.slots → AreBound n.slots ss (trees_of (body_items ctx b w))
body_is_bound ctx n (Braces first after xs) w ss a r e z =
    let l = list_binds ctx n no_construct xs w ss a r e z in
    (binds_both ctx n ss l.ss' l.ss' (list_items ctx xs w) (notes_at ctx (AtEnd first)) l.binds (place_binds ctx n l.ss' (AtEnd first))).bound
body_is_bound ctx n (Lone first after x) w ss a r e z =
    let l = item_binds ctx n no_construct x w ss a r e z in (binds_both ctx n ss l.ss' l.ss' (item_items ctx x w) (notes_at ctx (AtEnd first)) l.binds
    (place_binds ctx n l.ss' (AtEnd first))).bound

module _ (flat : FlatCounts) (word : ℕ → List ℕ) (notes : Anchor → List (List ℕ)) (f : Function) (scopes : List Scope) (ts : List Top) (ss : List Scopes.Scope)
    (knows : (slots : List Slot) → Knows (record { tops = ts; slots = slots }) ss (record { word = word; scopes = scopes })) where
  abbrev at_start : Walk
  at_start = record { scopes = [] ∷ scopes; slots = [] }

  start_at : (ctx : Context) (n : Names) → ctx.word ≡ word → n.tops ≡ ts → Knows n ss (record { word = ctx.word; scopes = scopes }) →
      At ctx n at_start (Scopes.inside ss)
  start_at ctx n e t k = record { knows = knows_inside n ctx.word scopes ss k; nearest = λ m. refl }

  bound_by : (o : Option Body) → IfSome o (IsReadBody word) → Each (IsReadParameter word) f.parameters → BodyParts flat word notes f o scopes
      → let t = defined word notes f o scopes in AreNewParameters t.params 0 t.slots (Scopes.inside ss) × BodyIsBound t ss t.body
  bound_by None r q p =
      let ctx = prototype_context word f in
      let slots = (inside word f scopes).slots in
      let n : Names = record { tops = ts; slots = slots } in
      let whole = inside_slots word f scopes ∙ sym (append-nil (map (parameter_slot word) f.parameters)) in
      let a = parameters_bound ctx n false f.parameters 0 at_start (Scopes.inside ss) [] refl q p ([], sym (append-nil slots))
      (start_at ctx n refl refl (knows slots)) in
      (subst (λ l. AreNewParameters (length f.parameters) 0 l (Scopes.inside ss)) (sym whole) a.new, tt)
  bound_by (Some b) r q p =
      let ctx = context word notes f b in
      let w = inside word f scopes in
      let slots = (behind_body ctx b w).slots in
      let n : Names = record { tops = ts; slots = slots } in
      let g = body_grown ctx IsFine (declared_fine ctx) b w r p.body in
      let whole = g.whole ∙ ap (λ l. l ++ g.more) (inside_slots word f scopes) in
      let a = parameters_bound ctx n true f.parameters 0 at_start (Scopes.inside ss) g.more refl q p.parameters (g.more, g.whole)
      (start_at ctx n refl refl (knows slots)) in
      let all : Begins slots slots = ([], sym (append-nil slots)) in (
        subst (λ l. AreNewParameters (length f.parameters) 0 l (Scopes.inside ss)) (sym whole) a.new,
        subst (λ x. AreBound slots x (trees_of (body_items ctx b w)))
            (sym (ap (λ l. with_parameters (length f.parameters) 0 l (Scopes.inside ss)) whole ∙ a.same)) (body_is_bound ctx n b w a.ss' a.at r p.body all),
      )

  pub function_is_bound : IsReadFunction word f → BodyParts flat word notes f f.body scopes
      → let t = function_of word notes f scopes in AreNewParameters t.params 0 t.slots (Scopes.inside ss) × BodyIsBound t ss t.body
  function_is_bound r p = bound_by f.body r.body r.parameters p
