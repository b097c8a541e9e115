-- A walk into a function: behind its parameters it stands in the outermost list.
use Rattle.std.proofs.Common.{◌≡◌, ◌≤◌, ◌+◌, ℕ, List, [], ◌∷◌, ◌++◌, map, length, Option, Some, None, refl, ap, sym, subst, append_assoc, append-nil, length-append, arith}
use Rattle.std.specs.Prelude.{flat_map}
use Rattle.c_grammar.specs.Items.{Body, Braces, Lone, Then, NoItem}
use Rattle.c_grammar.specs.Tops.{Parameter, Function}
use Rattle.c_kinds.specs.declared.binding.Binding.TheVariants.{Local}
use Rattle.c_kinds.specs.Scopes.{Scope, bind}
use Rattle.c_statements.specs.Context.{Walk}
use Rattle.c_statements.specs.Functions.{parameter_shape, parameter_slot, bind_parameter, bind_parameters}
use Rattle.c_statements.specs.Functions as walked
use Rattle.c_reading_defs.specs.Labels.{InFunction}
use Rattle.c_reading_defs.specs.Variables.{item_variables, list_variables, variables_within, variables_of, variable_number}
use Rattle.c_reading_defs.specs.Scopes.{Identifier, scopes_at}
use Rattle.c_reading_defs.specs.Places.{Place, parameter_identifier, item_identifiers, list_identifiers, outermost_identifiers, within_function}
use Rattle.c_violation_laws.proofs.Rising.{Rising, rising_ends, parted, Apart}
use Rattle.c_violation_laws.proofs.Marks.{each_marks, name_marks, parameter_marks, item_marks, list_marks, within_marks, inner_marks}
use Rattle.c_violation_laws.proofs.Known.{FromOn, from_earlier, from_both, Sees, InScope, scope_entered, scope_sees, scope_declared, scope_narrow}
use Rattle.c_violation_laws.proofs.Standing.{AreMaps, Numbered, StandsIn, numbered_last, numbered_next, number_here, list_from}

module _ (f : InFunction) (apart : Apart f.variables) where
  -- ---- one parameter

  module _ (x : Parameter) where
    -- what it declares, if it has this name
    abbrev pub own : Option ℕ → List Identifier
    own o = elim o [
      | Some at ↦ record {
        at = at;
        name = f.word at;
        binding = Local (variable_number f.variables x.first)
            (parameter_shape f.word x);
      } ∷ []
      | None ↦ []
    ]

    own_past : (o : Option ℕ) (w : Walk) (ss : List (List Identifier)) (lo end hi : ℕ) (zs : List Identifier) (rest : List ℕ) →
        InScope w.scopes ss lo hi (own o ++ zs)
        → Rising lo (x.first ∷ (x.first + 1) ∷ name_marks o) end → Numbered f.variables w (x.first ∷ rest)
        → InScope (elim o [ Some at ↦ bind (f.word at) (Local (length w.slots) (parameter_shape f.word x)) w.scopes | None ↦ w.scopes ]) ss end hi zs
    own_past (Some at) w ss lo end hi zs rest h r n =
        let g = r.0 in
        let k = r.1.1.0 in
        let b = ap (λ i. Local i (parameter_shape f.word x)) (number_here f.variables apart x.first w rest n) in
        scope_narrow (bind (f.word at) (Local (length w.slots) (parameter_shape f.word x)) w.scopes) ss (at + 1) hi end hi zs
        (scope_declared w.scopes ss lo hi (Local (length w.slots) (parameter_shape f.word x))
        (record { at = at; name = f.word at; binding = Local (variable_number f.variables x.first) (parameter_shape f.word x) }) zs h
        (omega (arith, g, k)) b)
        r.1.1.1.1 (omega arith)
    own_past None w ss lo end hi zs rest h r n = scope_narrow w.scopes ss lo hi end hi zs h (rising_ends lo (x.first ∷ (x.first + 1) ∷ []) end r) (omega arith)

    pub parameter_past : (w : Walk) (ss : List (List Identifier)) (lo end hi : ℕ) (zs : List Identifier) (rest : List ℕ) →
        InScope w.scopes ss lo hi (parameter_identifier f x ++ zs)
        → Rising lo (parameter_marks x) end → Numbered f.variables w (x.first ∷ rest) →
        InScope (bind_parameter f.word x w).scopes ss end hi zs × Numbered f.variables (bind_parameter f.word x w) rest
    parameter_past w ss lo end hi zs rest h r n = (
      own_past x.name w ss lo end hi zs rest h r n,
      numbered_next f.variables w (bind_parameter f.word x w) x.first rest n (length-append w.slots (parameter_slot f.word x ∷ [])),
    )

    own_from : (token : ℕ) (o : Option ℕ) (end : ℕ) → Rising token (name_marks o) end → FromOn token (own o)
    own_from token None end r = tt
    own_from token (Some at) end r = (r.0, tt)

    -- at its first token
    pub parameter_here : (w : Walk) (ss : List (List Identifier)) (lo end hi : ℕ) (zs : List Identifier) →
        InScope w.scopes ss lo hi (parameter_identifier f x ++ zs) → Rising lo (parameter_marks x) end → end ≤ hi → FromOn end zs
        → AreMaps w.scopes (scopes_at ss x.first)
    parameter_here w ss lo end hi zs h r room beyond =
        let first = r.0 in
        let last = rising_ends (x.first + 1) (name_marks x.name) end r.1.1 in
        scope_sees w.scopes ss lo hi x.first (parameter_identifier f x ++ zs) h (omega (arith, last, room))
        (from_both x.first (own x.name) zs (from_earlier x.first (x.first + 1) (own x.name) (omega arith) (own_from (x.first + 1) x.name end r.1.1))
        (from_earlier x.first end zs (omega (arith, last)) beyond))
        x.first first (omega arith)

    -- and at its name
    pub parameter_named : (at : ℕ) (o : Option ℕ) → o ≡ Some at → (w : Walk) (ss : List (List Identifier)) (lo end hi : ℕ) (zs : List Identifier) →
        InScope w.scopes ss lo hi (own o ++ zs)
        → Rising lo (x.first ∷ (x.first + 1) ∷ name_marks o) end → end ≤ hi → FromOn end zs → AreMaps w.scopes (scopes_at ss at)
    parameter_named at None e w ss lo end hi zs h r room beyond = cc
    parameter_named at (Some b) e w ss lo end hi zs h r room beyond =
        let same : b ≡ at = cc in
        let first = r.0 in
        let name = r.1.1.0 in
        let last = r.1.1.1.1 in
        subst (λ z. AreMaps w.scopes (scopes_at ss z)) same
        (scope_sees w.scopes ss lo hi b (own (Some b) ++ zs) h (omega (arith, last, room))
        (omega arith, from_earlier b end zs (omega (arith, last)) beyond) b (omega (arith, first, name)) (omega arith))

  -- ---- all of them

  pub parameters_from : (lo : ℕ) (xs : List Parameter) (hi : ℕ) → Rising lo (each_marks parameter_marks xs) hi →
      FromOn lo (flat_map (parameter_identifier f) xs)
  parameters_from lo [] hi r = tt
  parameters_from lo (x ∷ xs) hi r =
      let s = parted lo (parameter_marks x) (each_marks parameter_marks xs) hi r in
      let g = r.0 in
      from_both lo (parameter_identifier f x) (flat_map (parameter_identifier f) xs)
      (from_earlier lo (x.first + 1) (own x x.name) (omega (arith, g)) (own_from x (x.first + 1) x.name s.0 s.1.1.1))
      (from_earlier lo s.0 (flat_map (parameter_identifier f) xs) (rising_ends lo (parameter_marks x) s.0 s.1) (parameters_from s.0 xs hi s.2))

  pub parameters_past : (xs : List Parameter) (w : Walk) (ss : List (List Identifier)) (lo end hi : ℕ) (zs : List Identifier) (rest : List ℕ) →
      InScope w.scopes ss lo hi (flat_map (parameter_identifier f) xs ++ zs)
      → Rising lo (each_marks parameter_marks xs) end → Numbered f.variables w (map (λ x. x.first) xs ++ rest) →
      InScope (bind_parameters f.word xs w).scopes ss end hi zs × Numbered f.variables (bind_parameters f.word xs w) rest
  parameters_past [] w ss lo end hi zs rest h r n = (scope_narrow w.scopes ss lo hi end hi zs h r (omega arith), n)
  parameters_past (x ∷ xs) w ss lo end hi zs rest h r n =
      let s = parted lo (parameter_marks x) (each_marks parameter_marks xs) end r in
      let more = flat_map (parameter_identifier f) xs in
      let inner = subst (λ l. InScope w.scopes ss lo hi l) (append_assoc (parameter_identifier f x) more zs) h in
      let g = parameter_past x w ss lo s.0 hi (more ++ zs) (map (λ x. x.first) xs ++ rest) inner s.1 n in
      parameters_past xs (bind_parameter f.word x w) ss s.0 end hi zs rest g.0 s.2 g.1

  -- ---- the outermost list

  pub outermost_from : (lo : ℕ) (o : Option Body) (hi : ℕ) → Rising lo (within_marks o) hi → FromOn lo (outermost_identifiers f o)
  outermost_from lo None hi r = tt
  outermost_from lo (Some (Braces first after xs)) hi r = list_from f lo xs hi r
  outermost_from lo (Some (Lone first after x)) hi r = list_from f lo (Then x NoItem) hi (subst (λ l. Rising lo l hi) (sym (append-nil (item_marks x))) r)

  abbrev pub OutermostIn : Walk → Place → Body → Type 0
  OutermostIn w p (Braces first after xs) = StandsIn f.variables w p (list_identifiers f xs) (list_marks xs) (list_variables xs ++ [])
  OutermostIn w p (Lone first after x) = StandsIn f.variables w p (item_identifiers f x) (item_marks x) (item_variables x ++ [])

  abbrev pub GivenIn : Walk → Place → Option Body → Type 0
  GivenIn w p None = Unit {0}
  GivenIn w p (Some b) = OutermostIn w p b

  given_in : (o : Option Body) (w : Walk) (p : Place) (lo hi : ℕ) → InScope w.scopes p.scopes lo hi (outermost_identifiers f o) →
      Rising lo (within_marks o) hi → Numbered f.variables w (variables_within o) → GivenIn w p o
  given_in None w p lo hi h r n = tt
  given_in (Some (Braces first after xs)) w p lo hi h r n = record {
    lo = lo;
    end = hi;
    hi = hi;
    later = [];
    inner = subst (λ l. InScope w.scopes p.scopes lo hi l) (sym (append-nil (list_identifiers f xs))) h;
    order = r;
    room = omega arith;
    beyond = tt;
    numbered = numbered_last f.variables w (list_variables xs) n;
  }
  given_in (Some (Lone first after x)) w p lo hi h r n = record {
    lo = lo;
    end = hi;
    hi = hi;
    later = [];
    inner = h;
    order = r;
    room = omega arith;
    beyond = tt;
    numbered = numbered_last f.variables w (item_variables x) n;
  }

  module _ (fn : Function) (are : f.variables ≡ variables_of fn) (ms : List Scope) (ss : List (List Identifier)) (lo hi : ℕ) (sees : Sees ms ss lo hi)
      (order : Rising lo (inner_marks fn) hi) where
    abbrev pub place : Place
    place = within_function f fn ss

    -- before the parameters
    pub entered_scope : InScope (walked.entered ms).scopes place.scopes lo hi
        (flat_map (parameter_identifier f) fn.parameters ++ outermost_identifiers f fn.body)
    entered_scope = scope_entered ms (flat_map (parameter_identifier f) fn.parameters ++ outermost_identifiers f fn.body) ss lo hi sees

    pub entered_numbered : Numbered f.variables (walked.entered ms) (variables_of fn)
    entered_numbered = record { front = []; split = are; count = refl }

    pub stands_inside : GivenIn (walked.inside f.word fn ms) place fn.body
    stands_inside =
        let s = parted lo (each_marks parameter_marks fn.parameters) (within_marks fn.body) hi order in
        let k = parameters_past fn.parameters (walked.entered ms) place.scopes lo s.0 hi (outermost_identifiers f fn.body) (variables_within fn.body)
        entered_scope s.1 entered_numbered in
        given_in fn.body (walked.inside f.word fn ms) place s.0 hi k.0 s.2 k.1
