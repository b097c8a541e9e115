-- What `file_laws` states: what the walk reports is the least of the violations by places.
use Rattle.std.specs.Prelude.{◌≡◌, List, Some, None}
use Rattle.c_grammar.specs.Tops.{Top}
use Rattle.c_kinds.specs.declared.typed.Fault.{Fault}
use Rattle.c_scopes.specs.Files.{File}
use Rattle.c_scopes.specs.Resolving.{violation_of}
use Rattle.c_kinds.specs.Typing.{typed}
use Rattle.c_reading_defs.specs.Violations.{IsLeast, IsFaultless}
use Rattle.c_reading_defs.specs.Symbols.{Symbol}
use Rattle.c_reading_defs.specs.DerivedTops.{IsFile}
use Rattle.c_reading_defs.specs.Scopes.{Identifier}
use Rattle.c_reading_defs.specs.FileScopes.{IsFileScope}
use Rattle.c_reading_defs.specs.Files.{IsViolation}

pub record FileLaws : Type 0 where
  -- a violation is reported iff it has the least place of all, and there the least reason
  pub least : (file : File) (symbols : List Symbol) (xs : List Top) → IsFile 0 symbols xs → (scope : List Identifier) → IsFileScope typed file xs scope
      → (v : Fault) → (violation_of file xs ≡ Some v → IsLeast (IsViolation typed file scope xs) v) ×
      (IsLeast (IsViolation typed file scope xs) v → violation_of file xs ≡ Some v)
  -- and none iff no rule is broken
  pub faultless : (file : File) (symbols : List Symbol) (xs : List Top) → IsFile 0 symbols xs → (scope : List Identifier) → IsFileScope typed file xs scope
      → (violation_of file xs ≡ None → IsFaultless (IsViolation typed file scope xs)) ×
      (IsFaultless (IsViolation typed file scope xs) → violation_of file xs ≡ None)
