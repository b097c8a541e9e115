-- A file that is derived has a scope.
use Rattle.std.proofs.Common.{◌≡◌, ℕ, ◌+◌, ℤ, List, [], ◌∷◌, ◌++◌, Option, refl, sym, ap, ◌∙◌, append_assoc, append-nil, arith}
use Rattle.c_grammar.specs.Tops.{Enumerator, Form, Line, Enum, Globals, Defines, Unread, Top, From}
use Rattle.c_kinds.specs.declared.binding.Binding.TheVariants.{Constant}
use Rattle.c_kinds.specs.Scopes.{Scope, known_scope}
use Rattle.c_kinds.specs.Typing.{typed}
use Rattle.c_statements.specs.Declarations.{kinded}
use Rattle.c_scopes.specs.Enums.{next_value, or_zero}
use Rattle.c_scopes.specs.Files.{File}
use Rattle.c_reading_defs.specs.Symbols.{Symbol}
use Rattle.c_reading_defs.specs.DerivedTops.{IsFile}
use Rattle.c_reading_defs.specs.Written.{written_or}
use Rattle.c_reading_defs.specs.Scopes.{Identifier, known_at}
use Rattle.c_reading_defs.specs.FileScopes.{int_only, form_identifiers, file_identifiers, IsFileScope}
use Rattle.c_violation_laws.proofs.Rising.{Rising, rising_ends, parted}
use Rattle.c_violation_laws.proofs.Marks.{each_marks, enumerator_marks, form_marks, top_marks}
use Rattle.c_violation_laws.proofs.Ordered.{file as ordered_file}
use Rattle.c_violation_laws.proofs.Enumerated.{first_before, value_in, constants, constants_are}
use Rattle.c_violation_laws.proofs.Known.{FromOn, from_earlier, from_both, known_none, known_both}
use Rattle.c_violation_laws.proofs.FileStanding.{globals_from}

module _ (word : ℕ → List ℕ) where
  -- behind these of the file
  abbrev constant : List Identifier → Option ℤ → Enumerator → Identifier
  constant front before e = record { at = e.name; name = word e.name; binding = Constant (or_zero (value_in word (front ∷ []) before e)) }

  abbrev pub constants_behind : List Identifier → Option ℤ → List Enumerator → List Identifier
  constants_behind front before [] = []
  constants_behind front before (e ∷ es) = constant front before e ∷ constants_behind (front ++ constant front before e ∷ [])
      (value_in word (front ∷ []) before e) es

  constants_from : (front : List Identifier) (before : Option ℤ) (lo : ℕ) (es : List Enumerator) (hi : ℕ) →
      Rising lo (each_marks enumerator_marks es) hi → FromOn lo (constants_behind front before es)
  constants_from front before lo [] hi r = tt
  constants_from front before lo (e ∷ es) hi r =
      let g = r.0 in
      let v = value_in word (front ∷ []) before e in
      let more = front ++ constant front before e ∷ [] in
      (g, from_earlier lo (e.name + 1) (constants_behind more v es) (omega (arith, g)) (constants_from more v (e.name + 1) es hi r.1.1))

  known_so_far : (token : ℕ) (front later : List Identifier) → FromOn token later → known_at token (front ++ later) ≡ known_at token front
  known_so_far token front later f = known_both token front later ∙ ap (λ l. known_at token front ++ l) (known_none token later f) ∙
      append-nil (known_at token front)

  constants_fixed : (front : List Identifier) (before : Option ℤ) (es : List Enumerator) (later : List Identifier) (lo hi : ℕ) →
      Rising lo (each_marks enumerator_marks es) hi → FromOn hi later
      → constants word ((front ++ (constants_behind front before es ++ later)) ∷ []) before es ≡ constants_behind front before es
  constants_fixed front before [] later lo hi r f = refl
  constants_fixed front before (e ∷ es) later lo hi r f =
      let x = constant front before e in
      let v = value_in word (front ∷ []) before e in
      let more = constants_behind (front ++ x ∷ []) v es in
      let whole = front ++ (x ∷ (more ++ later)) in
      let last = rising_ends (e.name + 1) (each_marks enumerator_marks es) hi r.1.1 in
      let from : FromOn e.name (x ∷ (more ++ later)) = (
        omega arith,
        from_both e.name more later (from_earlier e.name (e.name + 1) more (omega arith)
            (constants_from (front ++ x ∷ []) v (e.name + 1) es hi r.1.1)) (from_earlier e.name hi later (omega (arith, last)) f),
      ) in
      let same : value_in word (whole ∷ []) before e ≡ v =
      ap (λ (l : Scope). int_only (written_or typed (record { word = word; scopes = l ∷ known_scope ∷ [] }) e.value (next_value before)))
      (known_so_far e.name front (x ∷ (more ++ later)) from) in
      ap (λ (z : Option ℤ). record { at = e.name; name = word e.name; binding = Constant (or_zero z) } ∷ constants word (whole ∷ []) z es) same
      ∙ ap (λ (l : List Identifier). x ∷ constants word (l ∷ []) v es) (sym (append_assoc front (x ∷ []) (more ++ later)))
      ∙ ap (λ (l : List Identifier). x ∷ l) (constants_fixed (front ++ x ∷ []) v es later (e.name + 1) hi r.1.1 f)

module _ (file : File) where
  abbrev form_behind : List Identifier → Form → List Identifier
  form_behind front (Enum es) = constants_behind file.word front first_before es
  form_behind front form = form_identifiers typed file (front ∷ []) form

  abbrev tops_behind : List Identifier → List Top → List Identifier
  tops_behind front [] = []
  tops_behind front (From first after form ∷ xs) = form_behind front form ++ tops_behind (front ++ form_behind front form) xs

  form_from : (front : List Identifier) (lo : ℕ) (form : Form) (hi : ℕ) → Rising lo (form_marks form) hi → FromOn lo (form_behind front form)
  form_from front lo Line hi r = tt
  form_from front lo (Enum es) hi r = constants_from file.word front first_before lo es hi r
  form_from front lo (Globals static d) hi r = globals_from file.word (kinded file.word d) lo d.names hi r
  form_from front lo (Defines f) hi r = (r.0, tt)
  form_from front lo Unread hi r = tt

  tops_from : (front : List Identifier) (lo : ℕ) (xs : List Top) (hi : ℕ) → Rising lo (each_marks top_marks xs) hi → FromOn lo (tops_behind front xs)
  tops_from front lo [] hi r = tt
  tops_from front lo (From first after form ∷ xs) hi r =
      let s = parted lo (form_marks form) (each_marks top_marks xs) hi r in
      let ds = form_behind front form in
      from_both lo ds (tops_behind (front ++ ds) xs) (form_from front lo form s.0 s.1)
      (from_earlier lo s.0 (tops_behind (front ++ ds) xs) (rising_ends lo (form_marks form) s.0 s.1) (tops_from (front ++ ds) s.0 xs hi s.2))

  form_fixed : (front : List Identifier) (form : Form) (later : List Identifier) (lo hi : ℕ) → Rising lo (form_marks form) hi → FromOn hi later
      → form_identifiers typed file ((front ++ (form_behind front form ++ later)) ∷ []) form ≡ form_behind front form
  form_fixed front Line later lo hi r f = refl
  form_fixed front (Enum es) later lo hi r f =
      let behind = constants_behind file.word front first_before es in
      constants_are file.word ((front ++ (behind ++ later)) ∷ []) es ∙ constants_fixed file.word front first_before es later lo hi r f
  form_fixed front _ later lo hi r f = refl

  tops_fixed : (front : List Identifier) (xs : List Top) (lo hi : ℕ) → Rising lo (each_marks top_marks xs) hi →
      file_identifiers typed file ((front ++ tops_behind front xs) ∷ []) xs ≡ tops_behind front xs
  tops_fixed front [] lo hi r = refl
  tops_fixed front (From first after form ∷ xs) lo hi r =
      let s = parted lo (form_marks form) (each_marks top_marks xs) hi r in
      let ds = form_behind front form in
      let rest = tops_behind (front ++ ds) xs in
      let here = form_fixed front form rest lo s.0 s.1 (tops_from (front ++ ds) s.0 xs hi s.2) in
      let there = ap (λ (l : List Identifier). file_identifiers typed file (l ∷ []) xs) (sym (append_assoc front ds rest)) ∙
      tops_fixed (front ++ ds) xs s.0 hi s.2 in
      λ i. here i ++ there i

pub file_scope : (file : File) (symbols : List Symbol) (xs : List Top) → IsFile 0 symbols xs → (scope : List Identifier) × IsFileScope typed file xs scope
file_scope file symbols xs derives = (tops_behind file [] xs, sym (tops_fixed file [] xs 0 _ (ordered_file 0 symbols xs derives)))
