-- A file of such functions is resolved once the sections of its switches have their plain form.
use Rattle.std.proofs.Common.{◌≡◌, ℕ, ◌-◌, ◌≤◌, Bool, true, false, cond, List, [], ◌∷◌, ◌⊎◌, inl, inr, map, length, Option, Some, None, refl, sym, ap, ◌∙◌, subst, arith}
use Rattle.std.specs.Prelude.{is_some, IfSome}
use Rattle.std.specs.Option.{option_map_or}
use Rattle.c_types.specs.declared.kinds.IntKind.{IntKind}
use Rattle.c_tree.specs.declared.tree.Function.{Function}
use Rattle.c_tree.specs.declared.tree.Item.{Item}
use Rattle.c_tree.specs.declared.tree.Top.{Top}
use Rattle.c_tree.specs.declared.tree.Top.TheVariants as T
use Rattle.c_tree.specs.ExpressionTrees.{ExpressionTree}
use Rattle.c_tree.specs.Trees.{Tree, Forest, Nil, Sections, Return, For, Switch, trees_of}
use Rattle.c_tree.specs.Everywhere.{Everywhere}
use Rattle.c_tree.specs.InRange.{body_of}
use Rattle.c_tree.proofs.WellMoved.{everywhere_map, everywhere_both}
use Rattle.struct_meaning.specs.Structured.{IsStructured}
use Rattle.flat_laws.specs.Parts.{has_jumps}
use Rattle.flat_laws.specs.Unlabelled.{unlabelled}
use Rattle.plain_laws.specs.Plain.{tidied, with_guard_variables, plain_body, plain_function, plain_top}
use Rattle.plain_laws.specs.Tidied.{tidy, tidy_item, tidy_sections}
use Rattle.plain_laws.proofs.PlainRange.{tidy_everywhere}
use Rattle.whole_laws.specs.Rewritten.{IsNoFunction}
use Rattle.whole_laws.proofs.Unlabelled.{IsPlainItem, unlabelled_same}
use Rattle.c_resolved_defs.specs.Form.{gathered, marked_label, numbers_from, HasForm, HasNoLoose, HasSourceForm}
use Rattle.c_resolved_defs.specs.Kinds.{KindsAgree, ItemAgrees, ReturnFits, WritesNoConst, KeepsConsts}
use Rattle.c_resolved_defs.specs.Names.{Names}
use Rattle.c_resolved_defs.specs.PrintableStatements.{depth}
use Rattle.c_resolved_defs.specs.Resolved.{names_in, IsResolvedFunction, IsResolvedTop}
use Rattle.c_resolved_defs.specs.Scopes.{inside, with_parameters, AreBound}
use Rattle.c_resolved_defs.specs.Spelling.{AreSpelled}
use Rattle.c_resolved_defs.specs.Within.{Each, Within, CaseExpressions}
use Rattle.c_resolved_laws.specs.Counts.{flat_counts, without_strays}
use Rattle.c_resolved_laws.proofs.Counted.{jumps_stay}
use Rattle.whole_laws.proofs.FactsMoved.{left_trees}
use Rattle.whole_laws.proofs.FactsPlain.{tidy_cases}
use Rattle.whole_laws.proofs.ItemKinds.{cases_all, all_in_cases}
use Rattle.whole_laws.proofs.PlainCases.{unmoved_cases}
use Rattle.whole_laws.proofs.PlainForms.{tidied_form}
use Rattle.whole_laws.proofs.PlainLengths.{unmoved_lengths, unmoved_initialised, no_jumps}
use Rattle.whole_laws.proofs.PlainTops.{IsUnmovedForm, no_body}
use Rattle.whole_laws.proofs.SameFile.{SameDeclaration, SameFile}
use Rattle.whole_laws.proofs.SameTops.{self_declared, unmoved_declared, unmoved_slots, unmoved_params}
use Rattle.whole_laws.proofs.TidyForm.{Ready, tidy_plain}
use Rattle.whole_laws.proofs.UnmovedBound.{bound_unmoved}
use Rattle.whole_laws.proofs.UnmovedSpelled.{spelled_unmoved, depth_unmoved}
use Rattle.tidy_result_laws.proofs.KeptFacts.{HasEntries}
use Rattle.tidy_result_laws.proofs.TrimLists.{HasFirst}
use Rattle.tidy_result_laws.proofs.Loose.{IsLoose, TopIsLoose, loose_plain}
use Rattle.tidy_result_laws.proofs.Files.{Over, o_none, o_function, o_other, KeepsBound, KeepsSpelling, loose_over, other_over}

-- ---- a function and the same with its sections

plain_unflat : (ns : List (List ℕ)) (f : Function) (xs : List Item) → f.flat ≡ false → plain_body ns f (Some xs) ≡ record f { body = Some (tidied xs) }
plain_unflat ns f xs e = ap (λ b. cond b (with_guard_variables ns f xs) (record f { body = Some (tidied xs) })) e

abbrev pub IsSectioned : Function → Function → Type 0
IsSectioned f h = ((f.body ≡ None) × (h ≡ f)) ⊎ IsUnmovedForm f h

module _ (ns : List (List ℕ)) (all : List Top) where
  pub sectioned : (f : Function) → IsLoose all f → IsSectioned f (plain_function ns f)
  sectioned f l = at f.body refl
    where
      at : (o : Option (List Item)) → f.body ≡ o → IsSectioned f (plain_function ns f)
      at None e = inl (e, no_body ns f e)
      at (Some xs) e =
          let is_body : body_of f ≡ trees_of xs = ap (λ b. option_map_or trees_of b Nil) e in
          inr (record {
            free = no_jumps (body_of f) (loose_plain all f l);
            left = f;
            is_left = record {
              old = xs;
              new = xs;
              old_body = e;
              new_body = e;
              trees = sym (unlabelled_same (trees_of xs) (subst (Everywhere IsStructured) is_body l.structured));
              flat = l.unflat;
              name = refl;
              result = refl;
              params = refl;
              file_only = refl;
              slots = refl;
              labels = l.labels;
            };
            plain = ap (plain_body ns f) e ∙ plain_unflat ns f xs l.unflat;
          })

  sectioned_declared : (f h : Function) → IsSectioned f h → SameDeclaration f h
  sectioned_declared f h (inl e) = subst (SameDeclaration f) (sym e.1) (self_declared f)
  sectioned_declared f h (inr m) = unmoved_declared f h m

-- ---- facts of items

module _ (n : Names) where
  tidy_case : (P : ExpressionTree → Type 0) (c : Sections) → CaseExpressions P c → CaseExpressions P (tidy_sections c)
  tidy_case P c h = all_in_cases P (tidy_sections c) (subst (Each P) (sym (tidy_cases c)) (cases_all P c h))

  agrees_tidy : (x : Tree) → ItemAgrees n x → ItemAgrees n (tidy_item x)
  agrees_tidy (Switch s c) h = let k = h.kinds in record { kinds = (k.0, tidy_case (KindsAgree n) c k.1); values = h.values }
  agrees_tidy x h = record { kinds = h.kinds; values = h.values }

  keeps_tidy : (x : Tree) → KeepsConsts n x → KeepsConsts n (tidy_item x)
  keeps_tidy (Switch s c) h = (h.0, tidy_case (Within (WritesNoConst n)) c h.1)
  keeps_tidy x h = h

fits_tidy : (result : Option IntKind) (x : Tree) → ReturnFits result x → ReturnFits result (tidy_item x)
fits_tidy None (Return e) h = h
fits_tidy (Some k) (Return e) h = h
fits_tidy _ x h = tt

is_ready : (h : Function) (x : Tree) → IsPlainItem x × (HasFirst h.slots x × HasEntries x) → Ready h x
is_ready h (For first t u a) k = (k.0, k.1.0)
is_ready h (Switch s c) k = (k.0, k.1.1)
is_ready h x k = (k.0, tt)

counted_none : (b : Bool) (n : ℕ × ℕ) (P : ℕ × ℕ → Type 0) → b ≡ false → IfSome (cond b (Some n) None) P
counted_none true n P e = cc
counted_none false n P e = tt

-- ---- a function with a body

module _ (us : List Top) (f h : Function) (m : IsUnmovedForm f h) (l : IsLoose us f) where
  abbrev X : Forest
  X = body_of f

  same_items : unlabelled X ≡ X
  same_items = unlabelled_same X l.structured

  is_tidy : body_of h ≡ tidy X
  is_tidy = left_trees f h m ∙ ap tidy same_items

  plain : Everywhere IsPlainItem X
  plain = loose_plain us f l

  plain_tidy : Everywhere IsPlainItem (tidy (unlabelled X))
  plain_tidy = tidy_plain (unlabelled X) (subst (Everywhere IsPlainItem) (sym same_items) plain)

  over : (P : Names → Tree → Type 0) → Everywhere (P (names_in us f)) (tidy X) → Everywhere (P (names_in us h)) (body_of h)
  over P k = subst (λ ss. Everywhere (P (record { tops = us; slots = ss })) (body_of h)) (sym (unmoved_slots f h m))
      (subst (Everywhere (P (names_in us f))) (sym is_tidy) k)

  ready : Everywhere (Ready h) X
  ready =
      everywhere_map (λ x. IsPlainItem x × (HasFirst h.slots x × HasEntries x)) (Ready h) (is_ready h) X
      (everywhere_both IsPlainItem (λ x. HasFirst h.slots x × HasEntries x) X plain
      (everywhere_both (HasFirst h.slots) HasEntries X (subst (λ ss. Everywhere (HasFirst ss) X) (sym (unmoved_slots f h m)) l.firsts) l.entries))

  form : HasForm h
  form =
      tidied_form h X is_tidy (ap (λ (k : Function). k.flat) m.plain ∙ m.is_left.flat) (ap (λ (k : Function). is_some k.body) m.plain)
      (ap (λ (k : Function). k.labels) m.plain ∙ m.is_left.labels)
      (subst (λ n. n ≤ length h.slots) (sym (unmoved_params f h m)) (subst (λ ss. f.params ≤ length ss) (sym (unmoved_slots f h m)) l.parameters))
      ready
      (l.slots ∙ (λ i. numbers_from (sym (unmoved_params f h m) i) (length (sym (unmoved_slots f h m) i) - sym (unmoved_params f h m) i)))
      l.exits

  pub unmoved_resolved : IsResolvedFunction flat_counts us h
  unmoved_resolved =
      let result = (unmoved_declared f h m).result in
      record {
        form = form;
        kinds = over ItemAgrees (tidy_everywhere (ItemAgrees (names_in us f)) (agrees_tidy (names_in us f)) X l.kinds);
        returns = subst (λ k. Everywhere (ReturnFits k) (body_of h)) (sym result)
            (subst (Everywhere (ReturnFits f.result)) (sym is_tidy) (tidy_everywhere (ReturnFits f.result) (fits_tidy f.result) X l.returns));
        cases = unmoved_cases f h m (subst (Everywhere IsPlainItem) (sym same_items) plain) l.cases;
        consts = over KeepsConsts (tidy_everywhere (KeepsConsts (names_in us f)) (keeps_tidy (names_in us f)) X l.consts);
        lengths = unmoved_lengths f h m l.lengths;
        initialised = unmoved_initialised f h m l.initialised;
        untangled = counted_none (has_jumps (without_strays (body_of h)))
            _ _ (jumps_stay (body_of h) ∙ no_jumps (body_of h) (subst (Everywhere IsPlainItem) (sym (left_trees f h m)) plain_tidy));
      }

  pub unmoved_keeps_bound : KeepsBound f h
  unmoved_keeps_bound ss z b =
      subst (λ n. AreBound h.slots (with_parameters n 0 h.slots (inside ss)) (body_of h)) (sym (unmoved_params f h m))
      (subst (λ ts. AreBound ts (with_parameters f.params 0 ts (inside ss)) (body_of h)) (sym (unmoved_slots f h m))
      (subst (AreBound f.slots (with_parameters f.params 0 f.slots (inside ss))) (sym (left_trees f h m))
      (bound_unmoved f.slots X (with_parameters f.params 0 f.slots (inside ss)) b)))

  pub unmoved_keeps_spelling : KeepsSpelling f h
  unmoved_keeps_spelling = record {
    labels = ap (λ (k : Function). k.labels) m.plain ∙ m.is_left.labels;
    items = λ k. subst (AreSpelled h) (sym (left_trees f h m)) (spelled_unmoved f h (unmoved_slots f h m) X plain_tidy k);
    depth = λ d. let e = ap depth (left_trees f h m) in let i = depth_unmoved X in omega (arith, d, e, i);
  }

-- ---- a prototype

declared_resolved : (us : List Top) (f : Function) → f.body ≡ None → IsLoose us f → IsResolvedFunction flat_counts us f
declared_resolved us f e l =
    let nothing : body_of f ≡ Nil = ap (λ o. option_map_or trees_of o Nil) e in
    record {
      form = record {
        unflat = l.unflat;
        parameters = l.parameters;
        prototype = l.prototype;
        items = subst (Everywhere (HasSourceForm f)) (sym nothing) tt;
        slots = l.slots;
        labels = ap (gathered marked_label) nothing ∙ sym (ap (λ (ls : List (List ℕ)). numbers_from 0 (length ls)) l.labels);
        cases = subst HasNoLoose (sym nothing) tt;
        exits = l.exits;
      };
      kinds = l.kinds;
      returns = l.returns;
      cases = l.cases;
      consts = l.consts;
      lengths = l.lengths;
      initialised = l.initialised;
      untangled = counted_none (has_jumps (without_strays (body_of f))) _ _ (jumps_stay (body_of f) ∙ no_jumps (body_of f) (loose_plain us f l));
    }

-- ---- files

module _ (names : Function → List (List ℕ)) (all : List Top) where
  pub sections_over : (ts : List Top) → Each (TopIsLoose all) ts → Over IsSectioned ts (map (plain_top names) ts)
  sections_over [] l = o_none
  sections_over (T.Function f ∷ ts) l =
      let s = sectioned (names f) all f l.0 in o_function (sectioned_declared (names f) all f (plain_function (names f) f) s) s (sections_over ts l.1)
  sections_over (T.Include b ∷ ts) l = o_other (T.Include b) tt (sections_over ts l.1)
  sections_over (T.Enum xs ∷ ts) l = o_other (T.Enum xs) tt (sections_over ts l.1)
  sections_over (T.Global g ∷ ts) l = o_other (T.Global g) tt (sections_over ts l.1)
  sections_over (T.Note b ∷ ts) l = o_other (T.Note b) tt (sections_over ts l.1)

pub section_bound : (all : List Top) (f h : Function) → IsSectioned f h → IsLoose all f → KeepsBound f h
section_bound all f h (inl e) l = subst (KeepsBound f) (sym e.1) (λ ss z b. b)
section_bound all f h (inr m) l = unmoved_keeps_bound all f h m l

pub section_spelled : (all : List Top) (f h : Function) → IsSectioned f h → IsLoose all f → KeepsSpelling f h
section_spelled all f h (inl e) l = subst (KeepsSpelling f) (sym e.1) (record { labels = l.labels; items = λ k. k; depth = λ d. d })
section_spelled all f h (inr m) l = unmoved_keeps_spelling all f h m l

section_resolved : (us : List Top) (f h : Function) → IsSectioned f h → IsLoose us f → IsResolvedFunction flat_counts us h
section_resolved us f h (inl e) l = subst (IsResolvedFunction flat_counts us) (sym e.1) (declared_resolved us f e.0 l)
section_resolved us f h (inr m) l = unmoved_resolved us f h m l

other_resolved : (us : List Top) (t : Top) → IsNoFunction t → TopIsLoose us t → IsResolvedTop flat_counts us t
other_resolved us (T.Function f) n h = absurd n
other_resolved us (T.Include bytes) n h = tt
other_resolved us (T.Enum xs) n h = h
other_resolved us (T.Global g) n h = h
other_resolved us (T.Note bytes) n h = tt

pub section_tops : (all us : List Top) (same : SameFile all us) {ts vs : List Top} → Over IsSectioned ts vs → Each (TopIsLoose all) ts →
    Each (IsResolvedTop flat_counts us) vs
section_tops all us same o_none l = tt
section_tops all us same (o_function {f = f} {h = h} d r o) l = (section_resolved us f h r (loose_over all us same f l.0), section_tops all us same o l.1)
section_tops all us same (o_other t n o) l = (other_resolved us t n (other_over all us same t n l.0), section_tops all us same o l.1)
