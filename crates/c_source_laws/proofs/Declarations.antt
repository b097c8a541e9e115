-- The derivations of declarations write declarations that are read (ISO/IEC 9899:2011, 6.7).
use Rattle.std.proofs.Common.{◌+◌, ℕ, Bool, true, false, List, [], ◌∷◌, Option, Some, None, arith}
use Rattle.std.specs.Prelude.{IfSome}
use Rattle.c_grammar.specs.declared.class.Class.{Class}
use Rattle.c_grammar.specs.declared.class.Class.TheVariants as c
use Rattle.c_grammar.specs.Expressions.{Expression, Assignment, assignment_tokens, type_tokens, FitsAssignment}
use Rattle.c_grammar.specs.ExpressionSyntax.{type_end, assignment_end}
use Rattle.c_grammar.specs.Statements.{Size, NoSize, Unsized, Sized, Initialiser, OneValue, ValueList, Declarator, Declared, Local, Locals, word_tokens, more_tokens, rest_tokens, optional_tokens, size_tokens, initialiser_tokens, value_tokens, declarator_tokens, local_tokens, FitsMore, FitsOptional, FitsSize, FitsInitialiser, FitsValue, FitsDeclarator, FitsLocal}
use Rattle.c_grammar.specs.StatementSyntax.{word_end, more_end, rest_end, optional_end, size_end, initialiser_end, value_end, declarator_end, local_end}
use Rattle.c_resolved_defs.specs.PrintableExpressions.{AreBytes}
use Rattle.c_resolved_defs.specs.Within.{Each}
use Rattle.reread_parts_laws.specs.WrittenStatements.{optional_term, written_size, further_terms, written_initialiser, written_value, written_declarator, further_declarators, written_declaration}
use Rattle.c_resolving_laws.specs.Read.{IsReadTerm, IsReadSize, IsReadInitialiser, IsReadDeclarator, IsReadDeclaration}
use Rattle.c_source_laws.specs.Classed.{Stand}
use Rattle.c_source_laws.proofs.Classes.{name_there}
use Rattle.c_source_laws.proofs.Expressions.{type_read, expression_read, assignment_read, conditional_read}

module _ (word : ℕ → List ℕ) (bytes : (at : ℕ) → AreBytes (word at)) where
  pub word_read : (at : ℕ) (given : Bool) (t : Class) (r : List Class) → Stand word at (word_tokens t given r) → Stand word (word_end at given) r
  word_read at false t r s = s
  word_read at true t r s = s.1

  pub optional_read : (at : ℕ) (o : Option Expression) (r : List Class) → FitsOptional o → Stand word at (optional_tokens o r) →
      IfSome (optional_term at o) (IsReadTerm word) × Stand word (optional_end at o) r
  optional_read at None r f s = (tt, s)
  optional_read at (Some e) r f s = expression_read word bytes at e r f s

  pub size_read : (at : ℕ) (x : Size) (r : List Class) → FitsSize x → Stand word at (size_tokens x r) →
      IsReadSize word (written_size at x) × Stand word (size_end at x) r
  size_read at NoSize r f s = (tt, s)
  size_read at Unsized r f s = (tt, (s.1).1)
  size_read at (Sized d) r f s = let x = conditional_read word bytes (at + 1) d (c.CloseIndex ∷ r) f (s.1) in (x.0, (x.1).1)

  rest_read : (xs : List Assignment) (at : ℕ) (trailing : Bool) (r : List Class) → FitsMore FitsAssignment xs →
      Stand word at (rest_tokens assignment_tokens xs trailing r)
      → Each (IsReadTerm word) (further_terms at xs) × Stand word (rest_end assignment_end at xs trailing) r
  rest_read [] at true r f s = (tt, (s.1).1)
  rest_read [] at false r f s = (tt, s.1)
  rest_read (a ∷ xs) at trailing r f s =
      let x = assignment_read word bytes (at + 1) a (rest_tokens assignment_tokens xs trailing r) (f.0) (s.1) in
      let y = rest_read xs (assignment_end (at + 1) a) trailing r (f.1) (x.1) in
      ((x.0, y.0), y.1)

  initialiser_read : (at : ℕ) (i : Initialiser) (r : List Class) → FitsInitialiser i → Stand word at (initialiser_tokens i r) →
      IsReadInitialiser word (written_initialiser at i) × Stand word (initialiser_end at i) r
  initialiser_read at (OneValue a) r f s = assignment_read word bytes at a r f s
  initialiser_read at (ValueList a xs trailing) r f s =
      let x = assignment_read word bytes (at + 1) a (rest_tokens assignment_tokens xs trailing r) (f.0) (s.1) in
      let y = rest_read xs (assignment_end (at + 1) a) trailing r (f.1) (x.1) in
      ((omega arith, (x.0, y.0)), y.1)

  value_read : (at : ℕ) (o : Option Initialiser) (r : List Class) → FitsValue o → Stand word at (value_tokens o r) →
      IsReadInitialiser word (written_value at o) × Stand word (value_end at o) r
  value_read at None r f s = (tt, s)
  value_read at (Some i) r f s = initialiser_read (at + 1) i r f (s.1)

  declarator_read : (at : ℕ) (d : Declarator) (r : List Class) → FitsDeclarator d → Stand word at (declarator_tokens d r) →
      IsReadDeclarator word (written_declarator at d) × Stand word (declarator_end at d) r
  declarator_read at (Declared size value) r f s =
      let x = size_read (at + 1) size (value_tokens value r) (f.0) (s.1) in
      let y = value_read (size_end (at + 1) size) value r (f.1) (x.1) in
      (record { named = name_there (word at) (s.0); size = x.0; value = y.0 }, y.1)

  further_read : (ds : List Declarator) (at : ℕ) (r : List Class) → FitsMore FitsDeclarator ds → Stand word at (more_tokens declarator_tokens ds r)
      → Each (IsReadDeclarator word) (further_declarators at ds) × Stand word (more_end declarator_end at ds) r
  further_read [] at r f s = (tt, s)
  further_read (d ∷ ds) at r f s =
      let x = declarator_read (at + 1) d (more_tokens declarator_tokens ds r) (f.0) (s.1) in
      let y = further_read ds (declarator_end (at + 1) d) r (f.1) (x.1) in
      ((x.0, y.0), y.1)

  pub local_read : (at : ℕ) (x : Local) (r : List Class) → FitsLocal x → Stand word at (local_tokens x r) →
      IsReadDeclaration word (written_declaration at x) × Stand word (local_end at x) r
  local_read at (Locals constant n d ds) r f s =
      let a = word_end at constant in
      let b = type_end a n in
      let rest = more_tokens declarator_tokens ds (c.Semicolon ∷ r) in
      let u = word_read at constant c.Const (type_tokens n (declarator_tokens d rest)) s in
      let v = type_read word bytes a n (declarator_tokens d rest) u in
      let x = declarator_read b d rest (f.0) v in
      let y = further_read ds (declarator_end b d) (c.Semicolon ∷ r) (f.1) (x.1) in
      ((x.0, y.0), (y.1).1)
