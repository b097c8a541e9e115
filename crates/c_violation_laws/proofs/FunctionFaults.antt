-- What a walk finds in a function.
use Rattle.std.specs.Prelude.{flat_map}
use Rattle.std.proofs.Common.{append_assoc, arith, ◌≤◌, ◌≡◌, ◌⊎◌, ℕ, Bool, true, List, [], ◌∷◌, map, Option, Some, None, is_some, refl, sym, ap, subst, ◌++◌, ◌∙◌}
use Rattle.c_tree.specs.declared.tree.Item as tree
use Rattle.c_grammar.specs.Items.{Body, Braces, Lone}
use Rattle.c_grammar.specs.Tops.{Parameter, Function}
use Rattle.c_kinds.specs.declared.typed.Fault.{Fault}
use Rattle.c_kinds.specs.Scopes.{Scope, fault_if, bind_fault}
use Rattle.c_statements.specs.declared.anchors.Anchor.{Anchor}
use Rattle.c_statements.specs.Context.{Walk, env_in, no_construct}
use Rattle.c_statements.specs.Declarations.{size_faults}
use Rattle.c_statements.specs.Functions.{FlatCounts, context, inside, bind_parameter, bind_parameters, parameter_fault, parameters_faults, body_items, body_faults, measures, tangle_fault, faults_within, function_faults, result_kind}
use Rattle.c_statements.specs.Functions as walked
use Rattle.c_statements.specs.Labels.{twice_faults, body_labels as walked_labels}
use Rattle.c_statements.specs.Measures.{is_tangled}
use Rattle.c_kinds.specs.Typing.{typed}
use Rattle.c_reading_defs.specs.Bodies.{known}
use Rattle.c_reading_defs.specs.Bodies as written
use Rattle.c_violation_laws.proofs.WrittenFunctions.{body_same}
use Rattle.c_violation_laws.proofs.WalkedLabels.{labels_same}
use Rattle.c_reading_defs.specs.Labels.{InFunction, each_once, body_labels}
use Rattle.c_reading_defs.specs.Variables.{variables_within, variables_of}
use Rattle.c_reading_defs.specs.Behind.{SomeBehind}
use Rattle.c_reading_defs.specs.Bindings.{IsDeclared}
use Rattle.c_reading_defs.specs.Declared.{SizeBreaks}
use Rattle.c_reading_defs.specs.Functions.{ParameterBreaks, ParametersBreak, LabelTwice, OutermostBreaks, Tangled, DefinitionBreaks, FunctionBreaks}
use Rattle.c_reading_defs.specs.Scopes.{Identifier, scopes_at}
use Rattle.c_reading_defs.specs.Places.{Place, names_behind, parameter_identifier, outermost_identifiers}
use Rattle.c_reading_defs.specs.Violations.{broken}
use Rattle.c_violation_laws.specs.Finds.{Finds}
use Rattle.c_violation_laws.proofs.Finding.{Rule, finds_none, finds_both, finds_same, finds_nothing, finds_if}
use Rattle.c_violation_laws.proofs.Rising.{Rising, rising_ends, parted, Apart}
use Rattle.c_violation_laws.proofs.Standing.{AreMaps, Numbered}
use Rattle.c_violation_laws.proofs.Marks.{each_marks, parameter_marks, within_marks, inner_marks}
use Rattle.c_violation_laws.proofs.Known.{FromOn, from_earlier, from_both, Sees, InScope}
use Rattle.c_violation_laws.proofs.Inside.{OutermostIn, GivenIn, parameter_here, parameter_named, parameter_past, parameters_from, entered_scope, entered_numbered, stands_inside, outermost_from}
use Rattle.c_violation_laws.proofs.Declared.{sizes, twice}
use Rattle.c_violation_laws.proofs.LabelFaults.{labels_twice}
use Rattle.c_violation_laws.proofs.Statements.{item, list}

module _ (f : InFunction) (apart : Apart f.variables) where
  -- ---- parameters

  module _ (defines : Bool) (w : Walk) (p : Place) (x : Parameter) (here : AreMaps w.scopes (scopes_at p.scopes x.first))
      (there : (at : ℕ) → x.name ≡ Some at → AreMaps w.scopes (scopes_at p.scopes at)) where
    abbrev Breaks : Rule
    Breaks v = SizeBreaks (names_behind f p x.first) x.size v ⊎ ParameterBreaks f p defines x v

    some_same : (a b : ℕ) → x.name ≡ Some a → x.name ≡ Some b → a ≡ b
    some_same a b e g = cc

    some_none : (a : ℕ) → x.name ≡ Some a → x.name ≡ None → ⊥
    some_none a e g = cc

    by_name : (o : Option ℕ) → x.name ≡ o
        → Finds (λ vs. elim o [
          | Some at ↦ bind_fault at (f.word at) w.scopes (size_faults (env_in f.word w) x.size vs)
          | None ↦ fault_if defines
              x.first 43 (size_faults (env_in f.word w) x.size vs)
        ]) Breaks
    by_name (Some at) e =
        finds_both (size_faults (env_in f.word w) x.size) (bind_fault at (f.word at) w.scopes)
        _ _ (sizes f.word w.scopes (scopes_at p.scopes x.first) here x.size)
        (finds_same (bind_fault at (f.word at) w.scopes) _ (λ v. ParameterBreaks f p defines x v)
        (twice f.word w.scopes (scopes_at p.scopes at) (there at e) (f.word at) at)
        (λ v q. subst (ParameterBreaks f p defines x) (sym q.1) (ParameterBreaks.declared_twice at e q.0)) fro)
      where
        fro : (v : Fault) → ParameterBreaks f p defines x v → IsDeclared (f.word at) (scopes_at p.scopes at) × (v ≡ broken at 21)
        fro v (ParameterBreaks.declared_twice b g h) = let same = some_same b at g e in
            (subst (λ z. IsDeclared (f.word z) (scopes_at p.scopes z)) same h, ap (λ z. broken z 21) same)
        fro v (ParameterBreaks.no_name d g) = absurd (some_none at e g)
    by_name None e =
        finds_both (size_faults (env_in f.word w) x.size) (fault_if defines x.first 43) _ _ (sizes f.word w.scopes (scopes_at p.scopes x.first) here x.size)
        (finds_same (fault_if defines x.first 43) _ (λ v. ParameterBreaks f p defines x v) (finds_if defines x.first 43)
        (λ v q. subst (ParameterBreaks f p defines x) (sym q.1) (ParameterBreaks.no_name q.0 e)) fro)
      where
        fro : (v : Fault) → ParameterBreaks f p defines x v → (defines ≡ true) × (v ≡ broken x.first 43)
        fro v (ParameterBreaks.declared_twice b g h) = absurd (some_none b g e)
        fro v (ParameterBreaks.no_name d g) = (d, refl)

    parameter : Finds (parameter_fault f.word defines x w) Breaks
    parameter = by_name x.name refl

  parameters : (defines : Bool) (xs : List Parameter) (w : Walk) (p : Place) (lo end hi : ℕ) (zs : List Identifier) (rest : List ℕ) →
      InScope w.scopes p.scopes lo hi (flat_map (parameter_identifier f) xs ++ zs)
      → Rising lo (each_marks parameter_marks xs) end → end ≤ hi → FromOn end zs → Numbered f.variables w (map (λ x. x.first) xs ++ rest) →
      Finds (parameters_faults f.word defines xs w) (λ v. ParametersBreak f p defines xs v)
  parameters defines [] w p lo end hi zs rest h r room beyond n = finds_none
  parameters defines (x ∷ xs) w p lo end hi zs rest h r room beyond n =
      let s = parted lo (parameter_marks x) (each_marks parameter_marks xs) end r in
      let more = flat_map (parameter_identifier f) xs in
      let last = rising_ends s.0 (each_marks parameter_marks xs) end s.2 in
      let inner = subst (λ l. InScope w.scopes p.scopes lo hi l) (append_assoc (parameter_identifier f x) more zs) h in
      let after = from_both s.0 more zs (parameters_from f apart s.0 xs end s.2) (from_earlier s.0 end zs last beyond) in
      let here = parameter_here f apart x w p.scopes lo s.0 hi (more ++ zs) inner s.1 (omega (arith, last, room)) after in
      let there = λ (at : ℕ) (e : x.name ≡ Some at). parameter_named f apart x at x.name e w p.scopes lo s.0 hi (more ++ zs) inner s.1
      (omega (arith, last, room)) after in
      let g = parameter_past f apart x w p.scopes lo s.0 hi (more ++ zs) (map (λ x. x.first) xs ++ rest) inner s.1 n in
      finds_both (parameter_fault f.word defines x w) (parameters_faults f.word defines xs (bind_parameter f.word x w)) _ _ (parameter defines w p x here there)
      (parameters defines xs (bind_parameter f.word x w) p s.0 end hi zs rest g.0 s.2 room beyond g.1)

module _ (word : ℕ → List ℕ) (flat : FlatCounts) (notes : Anchor → List (List ℕ)) (f : Function) (apart : Apart (variables_of f)) (ms : List Scope)
    (ss : List (List Identifier)) (lo hi : ℕ)
    (sees : Sees ms ss lo hi) (order : Rising lo (inner_marks f) hi) where
  abbrev vs : List ℕ
  vs = variables_of f

  abbrev here : InFunction
  here = known word notes f

  abbrev place : Place
  place = written.inside word notes f ss

  module _ (b : Body) (is : f.body ≡ Some b) where
    abbrev ours : List tree.Item
    ours = body_items (context word notes f b) b (inside word f ms)

    -- those that are written there
    abbrev theirs : List tree.Item
    theirs = written.outermost_items typed here b place

    some_counts : (n k : ℕ × ℕ) → flat theirs ≡ Some n → flat theirs ≡ Some k → n ≡ k
    some_counts n k e g = cc

    none_counts : (n : ℕ × ℕ) → flat theirs ≡ Some n → flat theirs ≡ None → ⊥
    none_counts n e g = cc

    by_counts : (o : Option (ℕ × ℕ)) → flat theirs ≡ o → Finds
        (λ vs. elim o [ Some n ↦ fault_if (is_tangled (measures word f b n)) f.name 39 vs | None ↦ vs ]) (λ v. Tangled typed flat word notes f b ss v)
    by_counts (Some n) e =
        finds_same (fault_if (is_tangled (measures word f b n)) f.name 39) _ (λ v. Tangled typed flat word notes f b ss v)
        (finds_if (is_tangled (measures word f b n)) f.name 39)
        (λ v q. subst (Tangled typed flat word notes f b ss) (sym q.1) (Tangled.tangled n e q.0)) fro
      where
        fro : (v : Fault) → Tangled typed flat word notes f b ss v → (is_tangled (measures word f b n) ≡ true) × (v ≡ broken f.name 39)
        fro v (Tangled.tangled k g t) = (subst (λ z. is_tangled (measures word f b z) ≡ true) (some_counts k n g e) t, refl)
    by_counts None e = finds_nothing (λ v. Tangled typed flat word notes f b ss v) no
      where
        no : (v : Fault) → Tangled typed flat word notes f b ss v → ⊥
        no v (Tangled.tangled k g t) = none_counts k g e

    stands_body : OutermostIn here apart (inside word f ms) place b
    stands_body = subst (λ o. GivenIn here apart (inside word f ms) place o) is (stands_inside here apart f refl ms ss lo hi sees order)

    items_alike : ours ≡ theirs
    items_alike = body_same word notes f apart b is (inside word f ms) place stands_body

    tangles : Finds (tangle_fault flat word f b ours) (λ v. Tangled typed flat word notes f b ss v)
    tangles = by_counts (flat ours) (ap flat (sym items_alike))

  -- in a function with these labels
  abbrev Outermost : Body → List (List ℕ) → Type 0
  Outermost b labels =
      Finds (body_faults (context word notes f b) b (inside word f ms))
      (λ v. OutermostBreaks typed (record { word = word; notes = notes; labels = labels; variables = vs; result = result_kind word f }) place b v)

  by_walk : (b : Body) → f.body ≡ Some b → OutermostIn here apart (inside word f ms) place b → Outermost b (each_once (map word (walked_labels b [])))
  by_walk (Braces first after xs) is h = list word notes (map word (walked_labels (Braces first after xs) [])) (result_kind word f) vs apart
      no_construct xs (inside word f ms) place [] refl h
  by_walk (Lone first after x) is h = item word notes (map word (walked_labels (Lone first after x) [])) (result_kind word f) vs apart no_construct x
      (inside word f ms) place [] refl h

  outermost : (b : Body) → f.body ≡ Some b → Outermost b (written.labels_within word f.body)
  outermost b is = subst (Outermost b) (ap (λ ats. each_once (map word ats)) (labels_same b) ∙ ap (written.labels_within word) (sym is))
      (by_walk b is (stands_body b is))

  twice_labelled : (b : Body) → Finds (twice_faults word (walked_labels b [])) (λ v. SomeBehind (λ before at. LabelTwice word before at v) (body_labels b))
  twice_labelled b = subst (λ ats. Finds (twice_faults word (walked_labels b [])) (λ v. SomeBehind (λ before at. LabelTwice word before at v) ats))
      (labels_same b) (labels_twice word (walked_labels b []))

  definition : (o : Option Body) → f.body ≡ o → Finds (faults_within flat word notes f o (inside word f ms))
      (λ v. DefinitionBreaks typed flat word notes f ss o v)
  definition None is = finds_none
  definition (Some b) is =
      finds_both (twice_faults word (walked_labels b [])) (λ vs. tangle_fault flat word f b (ours b is)
      (body_faults (context word notes f b) b (inside word f ms) vs)) _ _ (twice_labelled b)
      (finds_both (body_faults (context word notes f b) b (inside word f ms)) (tangle_fault flat word f b (ours b is)) _ _ (outermost b is) (tangles b is))

  pub function : Finds (function_faults flat word notes f ms) (λ v. FunctionBreaks typed flat word notes f ss v)
  function =
      let s = parted lo (each_marks parameter_marks f.parameters) (within_marks f.body) hi order in
      finds_both (parameters_faults word (is_some f.body) f.parameters (walked.entered ms)) (faults_within flat word notes f f.body (inside word f ms)) _ _
      (parameters here apart (is_some f.body) f.parameters (walked.entered ms) place lo s.0 hi (outermost_identifiers here f.body)
      (variables_within f.body) (entered_scope here apart f refl ms ss lo hi sees order) s.1
      (rising_ends s.0 (within_marks f.body) hi s.2) (outermost_from here apart s.0 f.body hi s.2) (entered_numbered here apart f refl ms ss lo hi sees order))
      (definition f.body refl)
