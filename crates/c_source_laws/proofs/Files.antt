-- The derivations of files write files that are read, apart from their limits (ISO/IEC 9899:2011, 6.9).
use Rattle.std.proofs.Common.{◌+◌, ℕ, Bool, true, false, List, [], ◌∷◌, Option, Some, None, arith}
use Rattle.std.specs.Prelude.{IfSome}
use Rattle.c_grammar.specs.declared.class.Class.{Class}
use Rattle.c_grammar.specs.declared.class.Class.TheVariants as c
use Rattle.c_grammar.specs.Expressions.{NumberType, Conditional, type_tokens}
use Rattle.c_grammar.specs.ExpressionSyntax.{type_end}
use Rattle.c_grammar.specs.Statements.{Block, Braces, word_tokens, more_tokens, rest_tokens, size_tokens, FitsMore}
use Rattle.c_grammar.specs.StatementSyntax.{word_end, more_end, rest_end}
use Rattle.c_grammar.specs.Files.{Parameter, Typed, Parameters, NoParameters, VoidParameters, SomeParameters, Enumeration, Enumerated, Declares, Function, Defined, Top, Line, OfEnum, OfDeclaration, OfFunction, parameter_tokens, parameters_tokens, constant_tokens, enumerator_tokens, enumeration_tokens, result_tokens, body_tokens, function_tokens, top_tokens, file_tokens, FitsParameter, FitsParameters, FitsConstant, FitsEnumeration, FitsBody, FitsFunction, FitsTop, FitsFile}
use Rattle.c_grammar.specs.FileSyntax.{parameter_end, parameters_end, enumerator_end, enumeration_end, result_end, body_end, function_end, top_end}
use Rattle.c_grammar.specs.Tops as s
use Rattle.c_resolved_defs.specs.PrintableExpressions.{AreBytes}
use Rattle.c_resolved_defs.specs.Within.{Each}
use Rattle.reread_parts_laws.specs.Keywords.{BodyHasKeywords, FunctionHasKeywords}
use Rattle.reread_parts_laws.specs.WrittenFunctions.{named_at, written_parameter, further_parameters, written_parameters, written_function_body, written_function}
use Rattle.reread_parts_laws.specs.WrittenFiles.{written_enumerator, further_enumerators, written_enumeration, written_form, written_tops, TopHasKeywords, FileHasKeywords}
use Rattle.c_resolving_laws.specs.Read.{IsNameAt, IsReadParameter, IsReadBody}
use Rattle.c_source_laws.specs.Classed.{Stand}
use Rattle.c_source_laws.specs.Formed.{IsFormedEnumerator, IsFormedFunction, IsFormed, IsFormedTop}
use Rattle.c_source_laws.proofs.Classes.{name_there}
use Rattle.c_source_laws.proofs.Expressions.{type_read, conditional_read}
use Rattle.c_source_laws.proofs.Declarations.{word_read, size_read, local_read}
use Rattle.c_source_laws.proofs.Statements.{items_read}

module _ (word : ℕ → List ℕ) (bytes : (at : ℕ) → AreBytes (word at)) where
  -- ---- enums

  constant_read : (at : ℕ) (o : Option Conditional) (r : List Class) → FitsConstant o → Stand word (at + 1) (constant_tokens o r) → IsNameAt word at →
      IsFormedEnumerator word (written_enumerator at o) × Stand word (enumerator_end at o) r
  constant_read at None r f s n = (record { named = n; value = tt }, s)
  constant_read at (Some d) r f s n = let x = conditional_read word bytes (at + 1 + 1) d r f (s.1) in (record { named = n; value = x.0 }, x.1)

  enumerator_read : (at : ℕ) (o : Option Conditional) (r : List Class) → FitsConstant o → Stand word at (enumerator_tokens o r) →
      IsFormedEnumerator word (written_enumerator at o) × Stand word (enumerator_end at o) r
  enumerator_read at o r f s = constant_read at o r f (s.1) (name_there (word at) (s.0))

  enumerators_read : (xs : List (Option Conditional)) (at : ℕ) (trailing : Bool) (r : List Class) → FitsMore FitsConstant xs →
      Stand word at (rest_tokens enumerator_tokens xs trailing r)
      → Each (IsFormedEnumerator word) (further_enumerators at xs) × Stand word (rest_end enumerator_end at xs trailing) r
  enumerators_read [] at true r f s = (tt, (s.1).1)
  enumerators_read [] at false r f s = (tt, s.1)
  enumerators_read (o ∷ xs) at trailing r f s =
      let x = enumerator_read (at + 1) o (rest_tokens enumerator_tokens xs trailing r) (f.0) (s.1) in
      let y = enumerators_read xs (enumerator_end (at + 1) o) trailing r (f.1) (x.1) in
      ((x.0, y.0), y.1)

  enumeration_read : (at : ℕ) (x : Enumeration) (r : List Class) → FitsEnumeration x → Stand word at (enumeration_tokens x r) →
      IsFormed word (s.Enum (written_enumeration at x)) × Stand word (enumeration_end at x) r
  enumeration_read at (Enumerated o xs trailing) r f s =
      let x = enumerator_read (at + 1 + 1) o (rest_tokens enumerator_tokens xs trailing (c.Semicolon ∷ r)) (f.0) ((s.1).1) in
      let y = enumerators_read xs (enumerator_end (at + 1 + 1) o) trailing (c.Semicolon ∷ r) (f.1) (x.1) in
      ((omega arith, (x.0, y.0)), (y.1).1)

  -- ---- functions

  named_read : (at : ℕ) (named : Bool) (r : List Class) → Stand word at (word_tokens c.Name named r) →
      IfSome (named_at at named) (IsNameAt word) × Stand word (word_end at named) r
  named_read at false r s = (tt, s)
  named_read at true r s = (name_there (word at) (s.0), s.1)

  parameter_read : (at : ℕ) (x : Parameter) (r : List Class) → FitsParameter x → Stand word at (parameter_tokens x r) →
      IsReadParameter word (written_parameter at x) × Stand word (parameter_end at x) r
  parameter_read at (Typed constant n named size) r f s =
      let a = word_end at constant in
      let b = type_end a n in
      let u = word_read word bytes at constant c.Const (type_tokens n (word_tokens c.Name named (size_tokens size r))) s in
      let v = type_read word bytes a n (word_tokens c.Name named (size_tokens size r)) u in
      let x = named_read b named (size_tokens size r) v in
      let y = size_read word bytes (word_end b named) size r f (x.1) in
      (record { named = x.0; size = y.0 }, y.1)

  further_read : (xs : List Parameter) (at : ℕ) (r : List Class) → FitsMore FitsParameter xs → Stand word at (more_tokens parameter_tokens xs r)
      → Each (IsReadParameter word) (further_parameters at xs) × Stand word (more_end parameter_end at xs) r
  further_read [] at r f s = (tt, s)
  further_read (x ∷ xs) at r f s =
      let y = parameter_read (at + 1) x (more_tokens parameter_tokens xs r) (f.0) (s.1) in
      let z = further_read xs (parameter_end (at + 1) x) r (f.1) (y.1) in
      ((y.0, z.0), z.1)

  parameters_read : (at : ℕ) (xs : Parameters) (r : List Class) → FitsParameters xs → Stand word at (parameters_tokens xs r) →
      Each (IsReadParameter word) (written_parameters at xs) × Stand word (parameters_end at xs) r
  parameters_read at NoParameters r f s = (tt, s)
  parameters_read at VoidParameters r f s = (tt, s.1)
  parameters_read at (SomeParameters x xs) r f s =
      let y = parameter_read at x (more_tokens parameter_tokens xs r) (f.0) s in
      let z = further_read xs (parameter_end at x) r (f.1) (y.1) in
      ((y.0, z.0), z.1)

  result_read : (at : ℕ) (o : Option NumberType) (r : List Class) → Stand word at (result_tokens o r) → Stand word (result_end at o) r
  result_read at None r s = s.1
  result_read at (Some n) r s = type_read word bytes at n r s

  body_read : (at : ℕ) (b : Option Block) (r : List Class) → FitsBody b → Stand word at (body_tokens b r)
      → IfSome (written_function_body at b) (IsReadBody word) × BodyHasKeywords word at b × Stand word (body_end at b) r
  body_read at None r f s = (tt, tt, s.1)
  body_read at (Some (Braces xs)) r f s = let m = items_read word bytes (at + 1) xs (c.CloseBlock ∷ r) f (s.1) in (m.items, m.keywords, (m.behind).1)

  function_read : (at : ℕ) (x : Function) (r : List Class) → FitsFunction x → Stand word at (function_tokens x r)
      → IsFormedFunction word (written_function word at x) × FunctionHasKeywords word at x × Stand word (function_end at x) r
  function_read at (Defined static n xs b) r f s =
      let w = word_end at static in
      let x = result_end w n in
      let y = parameters_end (x + 1 + 1) xs in
      let rest = c.Name ∷ c.Open ∷ parameters_tokens xs (c.Close ∷ body_tokens b r) in
      let u = word_read word bytes at static c.Static (result_tokens n rest) s in
      let v = result_read w n rest u in
      let p = parameters_read (x + 1 + 1) xs (c.Close ∷ body_tokens b r) (f.0) ((v.1).1) in
      let m = body_read (y + 1) b r (f.1) ((p.1).1) in
      (record { named = name_there (word x) (v.0); parameters = p.0; body = m.0 }, m.1, m.2)

  -- ---- files

  top_read : (at : ℕ) (x : Top) (r : List Class) → FitsTop x → Stand word at (top_tokens x r)
      → IsFormed word (written_form word at x) × TopHasKeywords word at x × Stand word (top_end at x) r
  top_read at Line r f s = (tt, tt, s.1)
  top_read at (OfEnum x) r f s = let m = enumeration_read at x r f s in (m.0, tt, m.1)
  top_read at (OfDeclaration (Declares static x)) r f s =
      let m = local_read word bytes (word_end at static) x r f (word_read word bytes at static c.Static _ s) in (m.0, tt, m.1)
  top_read at (OfFunction x) r f s = function_read at x r f s

  pub file_read : (xs : List Top) (at : ℕ) (r : List Class) → FitsFile xs → Stand word at (file_tokens xs r) →
      Each (IsFormedTop word) (written_tops word at xs) × FileHasKeywords word at xs
  file_read [] at r f s = (tt, tt)
  file_read (x ∷ xs) at r f s =
      let m = top_read at x (file_tokens xs r) (f.0) s in
      let n = file_read xs (top_end at x) r (f.1) (m.2) in
      ((m.0, n.0), (m.1, n.1))
