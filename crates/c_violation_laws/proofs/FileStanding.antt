-- The maps of a walk over a file find what is known in the scope of the file.
use Rattle.std.proofs.Common.{◌≡◌, ℕ, ◌+◌, ℤ, List, [], ◌∷◌, ◌++◌, map, Option, Some, None, refl, sym, ap, subst, ◌∙◌, append_assoc, append-nil, arith}
use Rattle.std.specs.Prelude.{option_map, option_and_then}
use Rattle.c_grammar.specs.Terms.{Term}
use Rattle.c_grammar.specs.Items.{Declarator}
use Rattle.c_grammar.specs.Tops.{Enumerator, Function, Form, Line, Enum, Globals, Defines, Unread, Top, From}
use Rattle.c_kinds.specs.declared.binding.Binding.{Binding}
use Rattle.c_kinds.specs.declared.binding.Binding.TheVariants.{Constant, Global}
use Rattle.c_kinds.specs.declared.binding.Binding.TheVariants as binding
use Rattle.c_kinds.specs.Scopes.{Scope, Env, bind}
use Rattle.c_kinds.specs.Constants.{constant_of}
use Rattle.c_statements.specs.declared.extents.Kinded.{Kinded}
use Rattle.c_statements.specs.Context.{Walk, no_construct}
use Rattle.c_statements.specs.Declarations.{kinded, shape_of}
use Rattle.c_scopes.specs.Enums.{an_int, next_value, number_of, value_of, or_zero, enumerated, behind_enum}
use Rattle.c_scopes.specs.FunctionNames.{signature_in}
use Rattle.c_scopes.specs.Globals.{behind_globals}
use Rattle.c_scopes.specs.Files.{File, State, function_declared}
use Rattle.c_scopes.specs.Files as walked
use Rattle.c_kinds.specs.Typing.{typed}
use Rattle.c_reading_defs.specs.Written.{written_or}
use Rattle.c_reading_defs.specs.Scopes.{Identifier, scopes_at}
use Rattle.c_reading_defs.specs.Places.{Place}
use Rattle.c_reading_defs.specs.FileScopes.{global_variable, function_identifier, form_identifiers, file_identifiers}
use Rattle.c_violation_laws.proofs.AlikeTerms.{typed_alike}
use Rattle.c_violation_laws.proofs.Rising.{Rising, rising_ends, parted}
use Rattle.c_violation_laws.proofs.Marks.{each_marks, value_marks, declarator_marks, enumerator_marks, inner_marks, form_marks, top_marks}
use Rattle.c_violation_laws.proofs.Enumerated.{first_before, number_in, value_in, constants, constants_are}
use Rattle.c_violation_laws.proofs.Known.{FromOn, from_earlier, from_both, scope_sees, scope_declared, scope_narrow}
use Rattle.c_violation_laws.proofs.Standing.{AreMaps, Stands, StandsIn, stands_begin, stands_stated}

-- the names in these scopes
abbrev pub in_scopes : (ℕ → List ℕ) → List Scope → Env
in_scopes word ms = record { word = word; scopes = ms }

-- ---- a walk over a file

-- it has no slots
abbrev pub file_walk : List Scope → Walk
file_walk ms = record { scopes = ms; slots = [] }

abbrev pub file_place : List (List Identifier) → Place
file_place ss = record { scopes = ss; around = no_construct }

abbrev pub FileIn : List Scope → List (List Identifier) → List Identifier → List ℕ → Type 0
FileIn ms ss xs marks = StandsIn [] (file_walk ms) (file_place ss) xs marks []

-- these tokens declare no name in front of theirs
abbrev pub Follow : List ℕ → List Identifier → Type 0
Follow ms xs = (mid hi : ℕ) → Rising mid ms hi → FromOn mid xs

module _ (ms : List Scope) (ss : List (List Identifier)) where
  -- at a name
  pub file_here : (x : Identifier) (xs : List Identifier) (ns : List ℕ) → FileIn ms ss (x ∷ xs) (x.at ∷ (x.at + 1) ∷ ns) → Follow ns xs →
      AreMaps ms (scopes_at ss x.at)
  file_here x xs ns h follow =
      let first = h.order.0 in
      let last = rising_ends (x.at + 1) ns h.end h.order.1.1 in
      let room = h.room in
      scope_sees ms ss h.lo h.hi x.at (x ∷ (xs ++ h.later)) h.inner (omega (arith, last, room)) (
        omega arith,
        from_both x.at xs h.later (from_earlier x.at (x.at + 1) xs (omega arith) (follow (x.at + 1) h.end h.order.1.1))
            (from_earlier x.at h.end h.later (omega (arith, last)) h.beyond),
      )
      x.at first (omega arith)

  -- behind it
  pub file_past : (b : Binding) (x : Identifier) (xs : List Identifier) (ns : List ℕ) → FileIn ms ss (x ∷ xs) (x.at ∷ (x.at + 1) ∷ ns) →
      b ≡ x.binding → FileIn (bind x.name b ms) ss xs ns
  file_past b x xs ns h e = record {
    lo = x.at + 1;
    end = h.end;
    hi = h.hi;
    later = h.later;
    inner = scope_declared ms ss h.lo h.hi b x (xs ++ h.later) h.inner h.order.0 e;
    order = h.order.1.1;
    room = h.room;
    beyond = h.beyond;
    numbered = record { front = []; split = refl; count = refl };
  }

  -- at values that follow, and behind them
  pub file_values : (xs : List Identifier) (vs ns : List ℕ) → FileIn ms ss xs (vs ++ ns) → Follow ns xs → Stands [] (file_walk ms) (file_place ss) vs []
  file_values xs vs ns h follow = stands_stated [] (file_walk ms) (file_place ss) vs []
      (stands_begin [] (file_walk ms) (file_place ss) [] xs vs ns [] [] [] h follow)

  pub file_behind : (xs : List Identifier) (vs ns : List ℕ) → FileIn ms ss xs (vs ++ ns) → FileIn ms ss xs ns
  file_behind xs vs ns h =
      let s = parted h.lo vs ns h.end h.order in
      record {
        lo = s.0;
        end = h.end;
        hi = h.hi;
        later = h.later;
        inner = scope_narrow ms ss h.lo h.hi s.0 h.hi (xs ++ h.later) h.inner (rising_ends h.lo vs s.0 s.1) (omega arith);
        order = s.2;
        room = h.room;
        beyond = h.beyond;
        numbered = h.numbered;
      }

-- where nothing else is declared behind it
pub file_last : (ms : List Scope) (ss : List (List Identifier)) (xs : List Identifier) (marks : List ℕ) → FileIn ms ss xs marks →
    FileIn ms ss (xs ++ []) (marks ++ [])
file_last ms ss xs marks h = subst (λ l. FileIn ms ss l (marks ++ [])) (sym (append-nil xs)) (subst (λ l. FileIn ms ss xs l) (sym (append-nil marks)) h)

-- ---- values of constants

module _ (word : ℕ → List ℕ) where
  number_same : (ms ss : List Scope) → AreMaps ms ss → (t : Option Term) (before : Option ℤ)
      → number_of (in_scopes word ms) t before ≡ written_or typed (in_scopes word ss) t (next_value before)
  number_same ms ss h (Some t) before = λ i. option_map (λ c. c.1) (constant_of (typed_alike word ms ss h t i))
  number_same ms ss h None before = refl

  pub number_alike : (ms : List Scope) (scopes : List (List Identifier)) (e : Enumerator) → AreMaps ms (scopes_at scopes e.name) → (before : Option ℤ)
      → number_of (in_scopes word ms) e.value before ≡ number_in word scopes before e
  number_alike ms scopes e h before = number_same ms (scopes_at scopes e.name) h e.value before

  pub value_alike : (ms : List Scope) (scopes : List (List Identifier)) (e : Enumerator) → AreMaps ms (scopes_at scopes e.name) → (before : Option ℤ)
      → value_of (in_scopes word ms) e.value before ≡ value_in word scopes before e
  value_alike ms scopes e h before = ap (option_and_then an_int) (number_alike ms scopes e h before)

  -- ---- in front of names

  pub constants_from : (ss : List (List Identifier)) (before : Option ℤ) (lo : ℕ) (es : List Enumerator) (hi : ℕ) →
      Rising lo (each_marks enumerator_marks es) hi → FromOn lo (constants word ss before es)
  constants_from ss before lo [] hi r = tt
  constants_from ss before lo (e ∷ es) hi r =
      let g = r.0 in
      let v = value_in word ss before e in
      (g, from_earlier lo (e.name + 1) (constants word ss v es) (omega (arith, g)) (constants_from ss v (e.name + 1) es hi r.1.1))

  pub globals_from : (k : Kinded) (lo : ℕ) (ds : List Declarator) (hi : ℕ) → Rising lo (each_marks declarator_marks ds) hi →
      FromOn lo (map (global_variable word k) ds)
  globals_from k lo [] hi r = tt
  globals_from k lo (d ∷ ds) hi r =
      let s = parted lo (declarator_marks d) (each_marks declarator_marks ds) hi r in
      (s.1.0, from_earlier lo s.0 (map (global_variable word k) ds) (rising_ends lo (declarator_marks d) s.0 s.1) (globals_from k s.0 ds hi s.2))

  follow_both : (ms ns : List ℕ) (xs ys : List Identifier) → Follow ms xs → Follow ns ys → Follow (ms ++ ns) (xs ++ ys)
  follow_both ms ns xs ys f g mid hi r =
      let s = parted mid ms ns hi r in
      from_both mid xs ys (f mid s.0 s.1) (from_earlier mid s.0 ys (rising_ends mid ms s.0 s.1) (g s.0 hi s.2))

  -- ---- behind enums

  module _ (ss : List (List Identifier)) where
    pub constant_here : (e : Enumerator) (es : List Enumerator) (before : Option ℤ) (ms : List Scope) (zs : List Identifier) (ns : List ℕ)
        → FileIn ms ss (constants word ss before (e ∷ es) ++ zs) (each_marks enumerator_marks (e ∷ es) ++ ns) → Follow ns zs → AreMaps ms (scopes_at ss e.name)
    constant_here e es before ms zs ns h follow =
        let v = value_in word ss before e in
        let more = constants word ss v es in
        file_here ms ss (record { at = e.name; name = word e.name; binding = Constant (or_zero v) }) (more ++ zs) (each_marks enumerator_marks es ++ ns) h
        (follow_both (each_marks enumerator_marks es) ns more zs (λ mid hi r. constants_from ss v mid es hi r) follow)

    -- with the value of the walk
    pub constant_past : (e : Enumerator) (es : List Enumerator) (before : Option ℤ) (ms : List Scope) (zs : List Identifier) (ns : List ℕ)
        (v : Option ℤ) → v ≡ value_in word ss before e
        → FileIn ms ss (constants word ss before (e ∷ es) ++ zs) (each_marks enumerator_marks (e ∷ es) ++ ns)
        → FileIn (bind (word e.name) (Constant (or_zero v)) ms) ss (constants word ss (value_in word ss before e) es ++ zs)
        (each_marks enumerator_marks es ++ ns)
    constant_past e es before ms zs ns v same h =
        let value = value_in word ss before e in
        file_past ms ss (Constant (or_zero v)) (record { at = e.name; name = word e.name; binding = Constant (or_zero value) })
        (constants word ss value es ++ zs) (each_marks enumerator_marks es ++ ns) h
        (ap (λ z. Constant (or_zero z)) same)

    enums_past : (es : List Enumerator) (before : Option ℤ) (ms : List Scope) (zs : List Identifier) (ns : List ℕ) →
        FileIn ms ss (constants word ss before es ++ zs) (each_marks enumerator_marks es ++ ns) → Follow ns zs
        → FileIn (behind_enum es before (in_scopes word ms)).scopes ss zs ns
    enums_past [] before ms zs ns h follow = h
    enums_past (e ∷ es) before ms zs ns h follow =
        let v = value_of (in_scopes word ms) e.value before in
        let same = value_alike ms ss e (constant_here e es before ms zs ns h follow) before in
        subst (λ z. FileIn (behind_enum es z (enumerated e v (in_scopes word ms))).scopes ss zs ns) (sym same)
        (enums_past es (value_in word ss before e) (bind (word e.name) (Constant (or_zero v)) ms) zs ns (constant_past e es before ms zs ns v same h) follow)

    -- ---- behind variables

    module _ (k : Kinded) (d : Declarator) (ds : List Declarator) (ms : List Scope) (zs : List Identifier) (ns : List ℕ)
        (h : FileIn ms ss (map (global_variable word k) (d ∷ ds) ++ zs) (each_marks declarator_marks (d ∷ ds) ++ ns)) (follow : Follow ns zs) where
      abbrev more : List Identifier
      more = map (global_variable word k) ds

      follows : Follow (each_marks declarator_marks ds ++ ns) (more ++ zs)
      follows = follow_both (each_marks declarator_marks ds) ns more zs (λ mid hi r. globals_from k mid ds hi r) follow

      grouped : FileIn ms ss (global_variable word k d ∷ (more ++ zs)) (d.name ∷ (d.name + 1) ∷ (value_marks d.value ++ (each_marks declarator_marks ds ++ ns)))
      grouped = subst (λ l. FileIn ms ss (global_variable word k d ∷ (more ++ zs)) (d.name ∷ (d.name + 1) ∷ l))
          (append_assoc (value_marks d.value) (each_marks declarator_marks ds) ns) h

      pub global_here : AreMaps ms (scopes_at ss d.name)
      global_here =
          file_here ms ss (global_variable word k d) (more ++ zs) (value_marks d.value ++ (each_marks declarator_marks ds ++ ns)) grouped
          (follow_both (value_marks d.value) (each_marks declarator_marks ds ++ ns) [] (more ++ zs) (λ mid hi r. tt) follows)

      declared : FileIn (bind (word d.name) (Global (shape_of k d)) ms) ss (more ++ zs) (value_marks d.value ++ (each_marks declarator_marks ds ++ ns))
      declared = file_past ms ss (Global (shape_of k d)) (global_variable word k d) (more ++ zs)
          (value_marks d.value ++ (each_marks declarator_marks ds ++ ns)) grouped refl

      pub global_values : Stands [] (file_walk (bind (word d.name) (Global (shape_of k d)) ms)) (file_place ss) (value_marks d.value) []
      global_values = file_values (bind (word d.name) (Global (shape_of k d)) ms) ss (more ++ zs) (value_marks d.value)
          (each_marks declarator_marks ds ++ ns) declared follows

      pub global_past : FileIn (bind (word d.name) (Global (shape_of k d)) ms) ss (more ++ zs) (each_marks declarator_marks ds ++ ns)
      global_past = file_behind (bind (word d.name) (Global (shape_of k d)) ms) ss (more ++ zs) (value_marks d.value)
          (each_marks declarator_marks ds ++ ns) declared

    globals_past : (k : Kinded) (ds : List Declarator) (ms : List Scope) (zs : List Identifier) (ns : List ℕ) →
        FileIn ms ss (map (global_variable word k) ds ++ zs) (each_marks declarator_marks ds ++ ns) → Follow ns zs
        → FileIn (behind_globals k ds (in_scopes word ms)).scopes ss zs ns
    globals_past k [] ms zs ns h follow = h
    globals_past k (d ∷ ds) ms zs ns h follow = globals_past k ds (bind (word d.name) (Global (shape_of k d)) ms) zs ns
        (global_past k d ds ms zs ns h follow) follow

-- ---- behind all that stands at file scope

module _ (file : File) (ss : List (List Identifier)) where
  pub function_here : (f : Function) (s : State) (zs : List Identifier) (ns : List ℕ) →
      FileIn s.scopes ss (function_identifier file f ∷ zs) (f.name ∷ (f.name + 1) ∷ ns) → Follow ns zs → AreMaps s.scopes (scopes_at ss f.name)
  function_here f s zs ns h follow = file_here s.scopes ss (function_identifier file f) zs ns h follow

  pub function_past : (f : Function) (s : State) (zs : List Identifier) (ns : List ℕ) →
      FileIn s.scopes ss (function_identifier file f ∷ zs) (f.name ∷ (f.name + 1) ∷ ns) → FileIn (function_declared file f s).scopes ss zs ns
  function_past f s zs ns h = file_past s.scopes ss (binding.Function (signature_in file.bodies file.word f)) (function_identifier file f) zs ns h refl

  -- within a function
  pub function_inside : (f : Function) (s : State) → FileIn s.scopes ss (function_identifier file f ∷ []) (f.name ∷ (f.name + 1) ∷ inner_marks f) →
      Stands [] (file_walk (function_declared file f s).scopes) (file_place ss) (inner_marks f) []
  function_inside f s h = stands_stated [] (file_walk (function_declared file f s).scopes) (file_place ss) (inner_marks f) []
      (function_past f s [] (inner_marks f) h)

  form_from : (form : Form) → Follow (form_marks form) (form_identifiers typed file ss form)
  form_from Line mid hi r = tt
  form_from (Enum es) mid hi r = subst (FromOn mid) (sym (constants_are file.word ss es)) (constants_from file.word ss first_before mid es hi r)
  form_from (Globals static d) mid hi r = globals_from file.word (kinded file.word d) mid d.names hi r
  form_from (Defines f) mid hi r = (r.0, tt)
  form_from Unread mid hi r = tt

  pub tops_from : (xs : List Top) → Follow (each_marks top_marks xs) (file_identifiers typed file ss xs)
  tops_from [] mid hi r = tt
  tops_from (From first after form ∷ xs) mid hi r =
      follow_both file.word (form_marks form) (each_marks top_marks xs) (form_identifiers typed file ss form) (file_identifiers typed file ss xs)
      (form_from form) (tops_from xs) mid hi r

  form_past : (form : Form) (s : State) (zs : List Identifier) (ns : List ℕ) →
      FileIn s.scopes ss (form_identifiers typed file ss form ++ zs) (form_marks form ++ ns) → Follow ns zs →
      FileIn (walked.behind_form file form s).scopes ss zs ns
  form_past Line s zs ns h follow = h
  form_past (Enum es) s zs ns h follow =
      let valued = subst (λ l. FileIn s.scopes ss (l ++ zs) (each_marks enumerator_marks es ++ ns)) (constants_are file.word ss es) h in
      enums_past file.word ss es first_before s.scopes zs ns valued follow
  form_past (Globals static d) s zs ns h follow = globals_past file.word ss (kinded file.word d) d.names s.scopes zs ns h follow
  form_past (Defines f) s zs ns h follow = file_behind (function_declared file f s).scopes ss zs _ ns (function_past f s zs _ h)
  form_past Unread s zs ns h follow = h

  -- before what stands first, and behind it
  abbrev pub Before : List Top → State → Type 0
  Before xs s = FileIn s.scopes ss (file_identifiers typed file ss xs) (each_marks top_marks xs)

  pub form_first : (first after : ℕ) (form : Form) (xs : List Top) (s : State) → Before (From first after form ∷ xs) s →
      FileIn s.scopes ss (form_identifiers typed file ss form) (form_marks form)
  form_first first after form xs s h =
      stands_begin [] (file_walk s.scopes) (file_place ss) (form_identifiers typed file ss form) (file_identifiers typed file ss xs) (form_marks form)
      (each_marks top_marks xs) [] [] [] h (tops_from xs)

  pub tops_rest : (first after : ℕ) (form : Form) (xs : List Top) (s : State) → Before (From first after form ∷ xs) s →
      Before xs (walked.behind_form file form s)
  tops_rest first after form xs s h = form_past form s (file_identifiers typed file ss xs) (each_marks top_marks xs) h (tops_from xs)

-- at the beginning
pub file_begins : (file : File) (xs : List Top) (scope : List Identifier) (hi : ℕ) → scope ≡ file_identifiers typed file (scope ∷ []) xs →
    Rising 0 (each_marks top_marks xs) hi → Before file (scope ∷ []) xs walked.start
file_begins file xs scope hi e r = record {
  lo = 0;
  end = hi;
  hi = hi;
  later = [];
  inner = record {
    front = [];
    outer = [];
    split = ap (λ l. l ∷ []) (e ∙ sym (append-nil (file_identifiers typed file (scope ∷ []) xs)));
    early = tt;
    maps = λ token g l. (λ name. refl, (λ name. refl, tt));
  };
  order = r;
  room = omega arith;
  beyond = tt;
  numbered = record { front = []; split = refl; count = refl };
}
