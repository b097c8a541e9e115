-- What stands at file scope, and the whole.
use Rattle.std.proofs.Common.{◌≡◌, ℕ, Bool, true, false, ◌||◌, cond, List, [], ◌∷◌, ◌++◌, is_some, refl, ap, sym, subst, ◌∙◌, append_assoc, bytes_eq, map, Option, Some, None}
use Rattle.std.specs.Prelude.{ℤ, option_map, flat_map}
use Rattle.std.specs.BTreeSet.{insert_key}
use Rattle.std.specs.declared.cmp.Ordering.{Ordering}
use Rattle.std.specs.declared.cmp.Ordering.TheVariants.{Less, Equal, Greater}
use Rattle.std.specs.Ordering.{match_ordering, is_eq}
use Rattle.std.proofs.lemmas.Map.Text.{is_eq-slice_cmp}
use Rattle.c_types.specs.Words.{name_cmp}
use Rattle.c_tree.specs.declared.tree.Top.TheVariants as top
use Rattle.c_grammar.specs.Terms.{Term, first_of}
use Rattle.c_grammar.specs.Items.{Declarator}
use Rattle.c_grammar.specs.Tops.{Enumerator, Form, Line, Enum, Globals, Defines, Unread, Top, From}
use Rattle.c_kinds.specs.declared.binding.Binding.TheVariants.{Constant, Global}
use Rattle.c_kinds.specs.Scopes.{Scope, bind}
use Rattle.c_kinds.proofs.Entries.{same_names}
use Rattle.c_statements.specs.declared.extents.Kinded.{Kinded}
use Rattle.c_statements.specs.declared.anchors.Anchor.TheVariants as anchor
use Rattle.c_statements.specs.declared.anchors.Anchor.TheVariants.{Last}
use Rattle.c_statements.specs.Declarations.{kinded, shape_of}
use Rattle.c_statements.specs.Declarations as walked_names
use Rattle.c_scopes.specs.Enums.{value_of, or_zero}
use Rattle.c_scopes.specs.Enums as enums
use Rattle.c_scopes.specs.Globals as walked_globals
use Rattle.c_scopes.specs.FunctionNames.{has_function, bodies_of}
use Rattle.c_scopes.specs.Files.{File, State, start}
use Rattle.c_scopes.specs.Files as walked
use Rattle.c_scopes.specs.Resolving.{program_of}
use Rattle.c_kinds.specs.Typing.{typed}
use Rattle.c_reading_defs.specs.Scopes.{Identifier, scopes_at, names_for}
use Rattle.c_reading_defs.specs.FileScopes.{global_variable, form_identifiers, IsFileScope}
use Rattle.c_reading_defs.specs.Written.{constant_at}
use Rattle.c_reading_defs.specs.Programs.{global, form_tops, top_tops, program, defined}
use Rattle.c_violation_laws.proofs.Enumerated.{first_before, value_in, constants, constants_are, enum_items, enum_items_are}
use Rattle.c_violation_laws.proofs.FileStanding.{in_scopes, file_walk, FileIn, Follow, file_last, value_alike, constant_here, constant_past, global_here, global_values, global_past, function_inside, Before, form_first, tops_rest, file_begins}
use Rattle.c_violation_laws.proofs.Ordered.{file as ordered_file}
use Rattle.c_violation_laws.proofs.Marks.{each_marks, enumerator_marks, declarator_marks, form_marks}
use Rattle.c_reading_defs.specs.Symbols.{Symbol}
use Rattle.c_reading_defs.specs.DerivedTops.{IsFile}
use Rattle.c_violation_laws.proofs.Numbered.{IsApart, AreApart, file_apart}
use Rattle.c_violation_laws.proofs.Standing.{AreMaps}
use Rattle.c_violation_laws.proofs.Items.{constant_same, slot_same, initial_same}
use Rattle.c_violation_laws.proofs.WrittenFunctions.{function_same}

-- ---- functions with a body

inserted_at : (name n : List ℕ) (m : List ℕ) (ms : List (List ℕ)) (o : Ordering) → is_eq o ≡ bytes_eq n m →
    has_function (insert_key name_cmp ms n) name ≡ (bytes_eq name n || has_function ms name)
    → has_function (match_ordering o (n ∷ m ∷ ms) (m ∷ ms) (m ∷ insert_key name_cmp ms n)) name ≡ (bytes_eq name n || (bytes_eq name m || has_function ms name))
inserted_at name n m ms Less e h = refl
inserted_at name n m ms Equal e h =
    let s : n ≡ m = same_names n m (sym e) in
    subst (λ z. (bytes_eq name z || has_function ms name) ≡ (bytes_eq name n || (bytes_eq name z || has_function ms name))) s
    (twice (bytes_eq name n) (has_function ms name))
  where
    twice : (a b : Bool) → (a || b) ≡ (a || (a || b))
    twice true b = refl
    twice false b = refl
inserted_at name n m ms Greater e h = ap (λ b. bytes_eq name m || b) h ∙ swapped (bytes_eq name m) (bytes_eq name n) (has_function ms name)
  where
    swapped : (a b c : Bool) → (a || (b || c)) ≡ (b || (a || c))
    swapped true true c = refl
    swapped true false c = refl
    swapped false b c = refl

inserted : (name n : List ℕ) (ms : List (List ℕ)) → has_function (insert_key name_cmp ms n) name ≡ (bytes_eq name n || has_function ms name)
inserted name n [] = refl
inserted name n (m ∷ ms) = inserted_at name n m ms (name_cmp n m) (is_eq-slice_cmp n m) (inserted name n ms)

with_one : (n name : List ℕ) (ms ns : List (List ℕ)) (b : Bool) → has_function ms name ≡ has_function ns name
    → has_function (cond b (insert_key name_cmp ms n) ms) name ≡ has_function (cond b (n ∷ ns) ns) name
with_one n name ms ns true e = inserted name n ms ∙ ap (λ b. bytes_eq name n || b) e
with_one n name ms ns false e = e

pub defined_same : (word : ℕ → List ℕ) (xs : List Top) (name : List ℕ) → has_function (bodies_of word xs) name ≡ has_function (defined word xs) name
defined_same word [] name = refl
defined_same word (From first after Line ∷ xs) name = defined_same word xs name
defined_same word (From first after (Enum es) ∷ xs) name = defined_same word xs name
defined_same word (From first after (Globals s d) ∷ xs) name = defined_same word xs name
defined_same word (From first after (Defines f) ∷ xs) name =
    with_one (word f.name) name (bodies_of word xs) (defined word xs) (is_some f.body) (defined_same word xs name)
defined_same word (From first after Unread ∷ xs) name = defined_same word xs name

-- ---- what is declared at file scope

module _ (word : ℕ → List ℕ) (ss : List (List Identifier)) where
  given_same : (ms known : List Scope) → AreMaps ms known → (t : Option Term) →
      option_map (walked_names.constant_at (in_scopes word ms)) t ≡ option_map (constant_at typed (λ z. in_scopes word known)) t
  given_same ms known m None = refl
  given_same ms known m (Some t) = ap Some (constant_same word (file_walk ms) known m t)

  enums_same : (es : List Enumerator) (before : Option ℤ) (ms : List Scope) (zs : List Identifier) (ns : List ℕ) →
      FileIn ms ss (constants word ss before es ++ zs) (each_marks enumerator_marks es ++ ns) → Follow ns zs
      → enums.enum_items es before (in_scopes word ms) ≡ enum_items word ss before es
  enums_same [] before ms zs ns h follow = refl
  enums_same (e ∷ es) before ms zs ns h follow =
      let known = scopes_at ss e.name in
      let m = constant_here word ss e es before ms zs ns h follow in
      let v = value_of (in_scopes word ms) e.value before in
      let same = value_alike word ms ss e m before in
      let rest = ap (λ z. enums.enum_items es z (in_scopes word (bind (word e.name) (Constant (or_zero v)) ms))) same
      ∙ enums_same es (value_in word ss before e) (bind (word e.name) (Constant (or_zero v)) ms) zs ns
      (constant_past word ss e es before ms zs ns v same h) follow in
      λ i. record { name = word e.name; given = given_same ms known m e.value i; value = or_zero (same i) } ∷ rest i

  globals_same : (static : Bool) (k : Kinded) (ds : List Declarator) (ms : List Scope) (zs : List Identifier) (ns : List ℕ) →
      FileIn ms ss (map (global_variable word k) ds ++ zs) (each_marks declarator_marks ds ++ ns) → Follow ns zs
      → walked_globals.globals static k ds (in_scopes word ms) ≡ map (global typed word ss static k) ds
  globals_same static k [] ms zs ns h follow = refl
  globals_same static k (d ∷ ds) ms zs ns h follow =
      let inner = bind (word d.name) (Global (shape_of k d)) ms in
      let here = global_here word ss k d ds ms zs ns h follow in
      let values = global_values word ss k d ds ms zs ns h follow in
      let given = initial_same values.lo values.hi (walked_names.constant_at (in_scopes word inner)) (constant_at typed (names_for word ss))
      (λ t l g. constant_same word (file_walk inner) (scopes_at ss (first_of t)) (values.sees (first_of t) l g) t) d.value values.order in
      let rest = globals_same static k ds inner zs ns (global_past word ss k d ds ms zs ns h follow) follow in
      λ i. top.Global (record { slot = slot_same word (file_walk ms) (scopes_at ss d.name) here k d i; init = given i; file_only = static }) ∷ rest i

-- ---- the whole

module _ (file : File) (ss : List (List Identifier)) where
  form_same : (first : ℕ) (form : Form) (s : State) → IsApart form → FileIn s.scopes ss (form_identifiers typed file ss form) (form_marks form) →
      walked.form_tops file first form s ≡ form_tops typed file ss first form
  form_same first Line s a h = refl
  form_same first (Enum es) s a h =
      let marks = each_marks enumerator_marks es in
      let valued = subst (λ l. FileIn s.scopes ss l marks) (constants_are file.word ss es) h in
      let last = file_last s.scopes ss (constants file.word ss first_before es) marks valued in
      let items = enums_same file.word ss es first_before s.scopes [] [] last (λ mid hi r. tt) ∙ sym (enum_items_are file.word ss es) in
      λ i. top.Enum (items i) ∷ []
  form_same first (Globals static d) s a h =
      let k = kinded file.word d in
      globals_same file.word ss static k d.names s.scopes [] []
      (file_last s.scopes ss (map (global_variable file.word k) d.names) (each_marks declarator_marks d.names) h) (λ mid hi r. tt)
  form_same first (Defines f) s a h =
      let g = function_inside file ss f s h in
      λ i. top.Function (function_same file.word file.notes f a (walked.function_declared file f s).scopes ss g.lo g.hi g.sees g.order i) ∷ []
  form_same first Unread s a h = refl

  tops_same : (xs : List Top) (s : State) → AreApart xs → Before file ss xs s →
      walked.tops_of file xs s ≡ flat_map (top_tops typed file ss) xs ++ walked.notes_tops file Last
  tops_same [] s a h = refl
  tops_same (From first after form ∷ xs) s a h =
      let t = From first after form in
      (λ i. (walked.notes_tops file (anchor.Before first) ++ form_same first form s a.0 (form_first file ss first after form xs s h) i) ++
      tops_same xs (walked.behind_form file form s) a.1 (tops_rest file ss first after form xs s h) i)
      ∙ sym (append_assoc (top_tops typed file ss t) (flat_map (top_tops typed file ss) xs) (walked.notes_tops file Last))

pub program_same : (file : File) (symbols : List Symbol) (xs : List Top) → IsFile 0 symbols xs → (scope : List Identifier) →
    IsFileScope typed file xs scope → program_of file xs ≡ program typed file scope xs
program_same file symbols xs derives scope e =
    λ i. record {
      tops = tops_same file (scope ∷ []) xs start (file_apart 0 symbols xs derives)
          (file_begins file xs scope _ e (ordered_file 0 symbols xs derives)) i;
    }
