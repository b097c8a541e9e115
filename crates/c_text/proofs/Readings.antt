-- A text that reads as a program, or not.
use Rattle.std.proofs.Common.{◌≡◌, ℕ, List, Option, Some, None, Result, Ok, Err, inl, inr, refl, sym, ap, subst, ◌∙◌}
use Rattle.std.specs.Prelude.{◌⊎◌, IfOk, IfErr}
use Rattle.c_types.specs.declared.refusal.Refusal.{Refusal}
use Rattle.c_types.specs.declared.refusal.ReadStop.{ReadStop}
use Rattle.c_types.specs.declared.refusal.ReadStop.TheVariants as stops
use Rattle.c_types.specs.Stop.{Gives}
use Rattle.c_lexer.specs.declared.token.Token.{Token}
use Rattle.c_lexer.specs.declared.token.Scanned.{Scanned}
use Rattle.c_lexer.specs.Pieces.{Piece, Spells, tokens_of, comments_of, scanned_of}
use Rattle.c_lexer.specs.Faults.{IsFirstFault}
use Rattle.c_lexer.specs.Answers.{scanning, IsReading}
use Rattle.c_lexer.proofs.Theorem.{scan_reading, scan_read_back, scan_fault_back}
use Rattle.c_grammar.specs.declared.syntax.Syntax.{Syntax}
use Rattle.c_grammar.specs.TokenClasses.{classes_of}
use Rattle.c_grammar.specs.Derives.{Derives}
use Rattle.c_grammar.specs.Derives as grammar
use Rattle.c_parser.specs.Answers.{parsed, answer as answer_of}
use Rattle.c_parser.specs.Reads.{IsRefusedAt}
use Rattle.c_parser.proofs.Reading.{reads, parses}
use Rattle.c_parser.proofs.Decides.{refuses, limits}
use Rattle.c_grammar.specs.Words.{word_of}
use Rattle.c_grammar.specs.Parts.{file_of}
use Rattle.c_kinds.specs.declared.typed.Fault.{Fault}
use Rattle.c_grammar.specs.Tops.{Top}
use Rattle.c_scopes.specs.Files.{File}
use Rattle.c_kinds.specs.Typing.{typed}
use Rattle.c_reading_defs.specs.Derivations.{DeriveFile, IsUnexpected, IsTooMany}
use Rattle.c_source_laws.proofs.TheSourceLaws.{source_laws}
use Rattle.c_reading_defs.specs.Violations.{IsLeast, IsFaultless}
use Rattle.c_reading_defs.specs.Typings.{Typing, IsTyping}
use Rattle.c_reading_defs.specs.Scopes.{Identifier}
use Rattle.c_reading_defs.specs.FileScopes.{IsFileScope}
use Rattle.c_reading_defs.specs.Files.{IsViolation}
use Rattle.c_reading_defs.specs.Programs.{program, file_written}
use Rattle.c_violation_laws.proofs.Typings.{typed_typing, sole_typing}
use Rattle.c_violation_laws.proofs.TheProgramLaws.{program_laws}
use Rattle.c_violation_laws.proofs.TheFileLaws.{file_laws}
use Rattle.c_scopes.specs.Resolving.{resolved, answer, program_of, violation_of, file_at, refused}
use Rattle.c_tree.specs.declared.tree.Program.{Program}
use Rattle.c_scopes.specs.Reading.{of_syntax, of_tokens}
use Rattle.c_text.specs.Reading.{counts_of, reading, HasFaultyToken, HasViolation, IsRefusedFor, IsProgramOf, IsInSubset}

-- ---- one step after another

tokens_read : (t : List ℕ) (o : Result Scanned Refusal) (p : Program) → of_tokens counts_of t o ≡ Ok p
    → (s : Scanned) × (o ≡ Ok s) × (of_syntax counts_of t s (parsed t s.tokens) ≡ Ok p)
tokens_read t (Ok s) p e = (s, refl, e)
tokens_read t (Err r) p e = cc

syntax_read : (t : List ℕ) (s : Scanned) (o : Result Syntax Refusal) (p : Program) → of_syntax counts_of t s o ≡ Ok p
    → (x : Syntax) × (o ≡ Ok x) × (resolved counts_of t s.tokens s.comments x ≡ Ok p)
syntax_read t s (Ok x) p e = (x, refl, e)
syntax_read t s (Err r) p e = cc

tokens_stopped : (t : List ℕ) (o : Result Scanned Refusal) (r : Refusal) → of_tokens counts_of t o ≡ Err r
    → (o ≡ Err r) ⊎ ((s : Scanned) × (o ≡ Ok s) × (of_syntax counts_of t s (parsed t s.tokens) ≡ Err r))
tokens_stopped t (Ok s) r e = inr (s, refl, e)
tokens_stopped t (Err q) r e = let same : q ≡ r = cc in inl (ap Err same)

syntax_stopped : (t : List ℕ) (s : Scanned) (o : Result Syntax Refusal) (r : Refusal) → of_syntax counts_of t s o ≡ Err r
    → (o ≡ Err r) ⊎ ((x : Syntax) × (o ≡ Ok x) × (resolved counts_of t s.tokens s.comments x ≡ Err r))
syntax_stopped t s (Ok x) r e = inr (x, refl, e)
syntax_stopped t s (Err q) r e = let same : q ≡ r = cc in inl (ap Err same)

-- ---- what scanning and parsing say

-- the pieces of a text that was scanned
record IsScanned (t : List ℕ) (scanned : Scanned) : Type 0 where
  pieces : List Piece
  spells : Spells pieces t
  is : scanned ≡ scanned_of pieces

scanned_as : (t : List ℕ) (scanned : Scanned) → scanning t ≡ Ok scanned → IsScanned t scanned
scanned_as t scanned e =
    let p = subst (λ (o : Result Scanned Refusal). IsReading scanned_of t o) e (scan_reading t) in
    record { pieces = p.0; spells = p.1; is = p.2 }

first_fault : (t : List ℕ) (refusal : Refusal) → scanning t ≡ Err refusal → IsFirstFault t refusal
first_fault t refusal e = subst (λ (o : Result Scanned Refusal). IsReading scanned_of t o) e (scan_reading t)

-- the token at fault, by derivations of the grammar and by those of its file
at_fault : (t : List ℕ) (tokens : List Token) (refusal : Refusal) → IsRefusedAt grammar.IsUnexpected 10 t tokens refusal ⊎ IsRefusedAt
    grammar.IsTooMany 11 t tokens refusal
    → IsRefusedAt IsUnexpected 10 t tokens refusal ⊎ IsRefusedAt IsTooMany 11 t tokens refusal
at_fault t tokens refusal (inl f) = inl (record { number = f.number; fault = source_laws.unexpected _ f.number f.fault; named = f.named })
at_fault t tokens refusal (inr f) = inr (record { number = f.number; fault = source_laws.too_many _ f.number f.fault; named = f.named })

faulty_token : (t : List ℕ) (refusal : Refusal) (scanned : Scanned) → IsScanned t scanned → parsed t scanned.tokens ≡ Err refusal → HasFaultyToken t refusal
faulty_token t refusal scanned s e = record {
  pieces = s.pieces;
  spells = s.spells;
  fault = subst (λ (z : Scanned). IsRefusedAt IsUnexpected 10 t z.tokens refusal ⊎ IsRefusedAt IsTooMany 11 t z.tokens refusal) s.is
      (at_fault t scanned.tokens refusal (reads t scanned.tokens (Err (stops.Refused refusal)) e));
}

-- ---- what resolving says

-- the file of a text of these pieces, and of this syntax
abbrev pub written : List ℕ → List Piece → List Top → File
written t pieces xs = file_written counts_of t (tokens_of pieces) (comments_of pieces) xs

same_violation : (t : List ℕ) (pieces : List Piece) (xs : List Top) → violation_of (file_at counts_of t (tokens_of pieces) (comments_of pieces) xs)
    xs ≡ violation_of (written t pieces xs) xs
same_violation t pieces xs = program_laws.violation counts_of t (tokens_of pieces) (comments_of pieces) xs

pub same_program : (t : List ℕ) (pieces : List Piece) (xs : List Top) → DeriveFile (classes_of t (tokens_of pieces)) xs → (scope : List Identifier) →
    IsFileScope typed (written t pieces xs) xs scope
    → program_of (file_at counts_of t (tokens_of pieces) (comments_of pieces) xs) xs ≡ program typed (written t pieces xs) scope xs
same_program t pieces xs derives scope e = program_laws.written counts_of t (tokens_of pieces) (comments_of pieces) derives.symbols xs derives.derives scope e

-- with the one typing in the place of another
pub typed_scope : (t : List ℕ) (pieces : List Piece) (xs : List Top) (typing : Typing) → IsTyping typing → (scope : List Identifier) →
    IsFileScope typing (written t pieces xs) xs scope → IsFileScope typed (written t pieces xs) xs scope
typed_scope t pieces xs typing types scope e = subst (λ (z : Typing). IsFileScope z (written t pieces xs) xs scope) (sole_typing typing types) e

violated : (t : List ℕ) (tokens : List Token) (p : Program) (v : Option Fault) (refusal : Refusal) → answer t tokens p v ≡ Err refusal
    → (f : Fault) × (v ≡ Some f) × (refusal ≡ refused t tokens f)
violated t tokens p None refusal e = cc
violated t tokens p (Some f) refusal e = let same : refused t tokens f ≡ refusal = cc in (f, refl, sym same)

violation : (t : List ℕ) (refusal : Refusal) (pieces : List Piece) (x : Syntax) → Spells pieces t → Derives (classes_of t (tokens_of pieces)) x
    → resolved counts_of t (tokens_of pieces) (comments_of pieces) x ≡ Err refusal → HasViolation t refusal
violation t refusal pieces x spells derives e =
    let xs = file_of (word_of t (tokens_of pieces)) x in
    let file = file_at counts_of t (tokens_of pieces) (comments_of pieces) xs in
    let v = violated t (tokens_of pieces) (program_of file xs) (violation_of file xs) refusal e in
    let d = source_laws.file t pieces spells x derives in
    let scope = program_laws.scope (written t pieces xs) d.symbols xs d.derives in
    record {
      pieces = pieces;
      spells = spells;
      file = xs;
      derives = d;
      typing = typed;
      types = typed_typing;
      scope = scope.0;
      scopes = scope.1;
      violation = v.0;
      least = (file_laws.least (written t pieces xs) d.symbols xs d.derives scope.0 scope.1 v.0).0
          (sym (same_violation t pieces xs) ∙ v.1);
      place = v.2;
    }

-- ---- the whole

pub refused_for : (t : List ℕ) (refusal : Refusal) → reading t ≡ Err refusal → IsRefusedFor t refusal
refused_for t refusal e = elim (tokens_stopped t (scanning t) refusal e) [
  | inl lexical ↦ inl (first_fault t refusal lexical)
  | inr a ↦
      let s = scanned_as t a.0 a.1 in
      elim (syntax_stopped t a.0 (parsed t a.0.tokens) refusal a.2) [
        | inl parse ↦ inr (inl (faulty_token t refusal a.0 s parse))
        | inr b ↦
            let derives = reads t a.0.tokens (Ok b.0) b.1 in
            inr (inr (violation t refusal s.pieces b.0 s.spells
            (subst (λ (z : Scanned). Derives (classes_of t z.tokens) b.0) s.is derives)
            (subst (λ (z : Scanned). resolved counts_of t z.tokens z.comments b.0 ≡ Err refusal) s.is b.2)))
      ]
]

-- what a text that reads as a program is
pub record IsRead (t : List ℕ) (p : Program) : Type 0 where
  pub pieces : List Piece
  pub spells : Spells pieces t
  pub syntax_of : Syntax
  pub derives : Derives (classes_of t (tokens_of pieces)) syntax_of
  pub resolves : resolved counts_of t (tokens_of pieces) (comments_of pieces) syntax_of ≡ Ok p

pub read_as : (t : List ℕ) (p : Program) → reading t ≡ Ok p → IsRead t p
read_as t p e =
    let a = tokens_read t (scanning t) p e in
    let s = scanned_as t a.0 a.1 in
    let b = syntax_read t a.0 (parsed t a.0.tokens) p a.2 in
    record {
      pieces = s.pieces;
      spells = s.spells;
      syntax_of = b.0;
      derives = subst (λ (z : Scanned). Derives (classes_of t z.tokens) b.0) s.is (reads t a.0.tokens (Ok b.0) b.1);
      resolves = subst (λ (z : Scanned). resolved counts_of t z.tokens z.comments b.0 ≡ Ok p) s.is b.2;
    }

answered : (t : List ℕ) (tokens : List Token) (p q : Program) (v : Option Fault) → answer t tokens p v ≡ Ok q → (v ≡ None) × (q ≡ p)
answered t tokens p q None e = let same : p ≡ q = cc in (refl, sym same)
answered t tokens p q (Some f) e = cc

-- so it is the program of that text
pub program_as : (t : List ℕ) (p : Program) → reading t ≡ Ok p → IsProgramOf t p
program_as t p e =
    let a = read_as t p e in
    let xs = file_of (word_of t (tokens_of a.pieces)) a.syntax_of in
    let file = file_at counts_of t (tokens_of a.pieces) (comments_of a.pieces) xs in
    let g = answered t (tokens_of a.pieces) (program_of file xs) p (violation_of file xs) a.resolves in
    let d = source_laws.file t a.pieces a.spells a.syntax_of a.derives in
    let scope = program_laws.scope (written t a.pieces xs) d.symbols xs d.derives in
    record {
      pieces = a.pieces;
      spells = a.spells;
      file = xs;
      derives = d;
      typing = typed;
      types = typed_typing;
      scope = scope.0;
      scopes = scope.1;
      faultless = (file_laws.faultless (written t a.pieces xs) d.symbols xs d.derives scope.0 scope.1).0 (sym (same_violation t a.pieces xs) ∙ g.0);
      is = g.1 ∙ same_program t a.pieces xs d scope.0 scope.1;
    }

-- ---- and back: with such a fault, and with no other, it is refused

-- the tokens of a text that is these pieces
scanned_back : (t : List ℕ) (pieces : List Piece) → Spells pieces t → reading t ≡ of_syntax counts_of t (scanned_of pieces) (parsed t (tokens_of pieces))
scanned_back t pieces spells = ap (of_tokens counts_of t) (scan_read_back t pieces spells)

faulty_back : (t : List ℕ) (tokens : List Token) (refusal : Refusal) → IsRefusedAt IsUnexpected 10 t tokens refusal ⊎ IsRefusedAt IsTooMany 11 t tokens refusal
    → parsed t tokens ≡ Err refusal
faulty_back t tokens refusal (inl f) = ap (answer_of t tokens)
    (refuses (classes_of t tokens) f.number (source_laws.unexpected_back _ f.number f.fault)) ∙ ap Err (sym f.named)
faulty_back t tokens refusal (inr f) = ap (answer_of t tokens)
    (limits (classes_of t tokens) f.number (source_laws.too_many_back _ f.number f.fault)) ∙ ap Err (sym f.named)

-- what a file is answered
abbrev answered_of : List ℕ → List Piece → List Top → Result Program Refusal
answered_of t pieces xs =
    let file = file_at counts_of t (tokens_of pieces) (comments_of pieces) xs in
    answer t (tokens_of pieces) (program_of file xs) (violation_of file xs)

-- a text whose tokens derive this file is answered so
pub derived_back : (t : List ℕ) (pieces : List Piece) (xs : List Top) → Spells pieces t → DeriveFile (classes_of t (tokens_of pieces)) xs →
    reading t ≡ answered_of t pieces xs
derived_back t pieces xs spells derives =
    let x = source_laws.syntax_of t pieces spells xs derives in
    scanned_back t pieces spells ∙ ap (of_syntax counts_of t (scanned_of pieces)) (parses t (tokens_of pieces) x.syntax_of x.derives) ∙
    ap (answered_of t pieces) x.writes

pub refused_back : (t : List ℕ) (refusal : Refusal) → IsRefusedFor t refusal → reading t ≡ Err refusal
refused_back t refusal (inl first) = ap (of_tokens counts_of t) (scan_fault_back t refusal first)
refused_back t refusal (inr (inl token)) =
    scanned_back t token.pieces token.spells ∙ ap (of_syntax counts_of t (scanned_of token.pieces)) (faulty_back t (tokens_of token.pieces) refusal token.fault)
refused_back t refusal (inr (inr rule)) =
    let tokens = tokens_of rule.pieces in
    let xs = rule.file in
    let file = file_at counts_of t tokens (comments_of rule.pieces) xs in
    let scopes = typed_scope t rule.pieces xs rule.typing rule.types rule.scope rule.scopes in
    derived_back t rule.pieces xs rule.spells rule.derives
    ∙ ap (answer t tokens (program_of file xs))
    (same_violation t rule.pieces xs ∙ (file_laws.least (written t rule.pieces xs) rule.derives.symbols xs rule.derives.derives rule.scope scopes
    rule.violation).1 (subst (λ (typing : Typing). IsLeast (IsViolation typing (written t rule.pieces xs) rule.scope xs) rule.violation)
    (sole_typing rule.typing rule.types) rule.least))
    ∙ ap Err (sym rule.place)

-- and the program of a text is what it reads as
pub program_back : (t : List ℕ) (p : Program) → IsProgramOf t p → reading t ≡ Ok p
program_back t p h =
    let tokens = tokens_of h.pieces in
    let xs = h.file in
    let file = file_at counts_of t tokens (comments_of h.pieces) xs in
    let scopes = typed_scope t h.pieces xs h.typing h.types h.scope h.scopes in
    derived_back t h.pieces xs h.spells h.derives
    ∙ ap (answer t tokens (program_of file xs))
    (same_violation t h.pieces xs ∙ (file_laws.faultless (written t h.pieces xs) h.derives.symbols xs h.derives.derives h.scope scopes).1
    (subst (λ (typing : Typing). IsFaultless (IsViolation typing (written t h.pieces xs) h.scope xs)) (sole_typing h.typing h.types) h.faultless))
    ∙ ap Ok (same_program t h.pieces xs h.derives h.scope scopes ∙ ap (λ (typing : Typing). program typing (written t h.pieces xs) h.scope xs)
    (sym (sole_typing h.typing h.types)) ∙ sym h.is)

not_both : {A : Type 0} (o : Result A Refusal) (x : A) (r : Refusal) → o ≡ Ok x → o ≡ Err r → ⊥
not_both o x r e g = cc

-- no text is in the subset and refused
unread : (t : List ℕ) (refusal : Refusal) → reading t ≡ Err refusal → IsInSubset t → ⊥
unread t refusal e inside = not_both (reading t) inside.0 refusal (program_back t inside.0 inside.1) e

-- a text of the subset has no fault
pub faultless : (t : List ℕ) (refusal : Refusal) → IsRefusedFor t refusal → IsInSubset t → ⊥
faultless t refusal h inside = unread t refusal (refused_back t refusal h) inside

-- ---- what is returned

pub refused_at : (t : List ℕ) (r : Result Program ReadStop) → Gives (λ (p : Program). p) r (reading t) → (refusal : Refusal) →
    r ≡ Err (stops.Refused refusal) → IsRefusedFor t refusal
refused_at t (Ok p) g refusal e = cc
refused_at t (Err (stops.Refused q)) g refusal e = let same : q ≡ refusal = cc in refused_for t refusal (g ∙ ap Err same)
refused_at t (Err stops.Memory) g refusal e = cc

pub never_refused : (t : List ℕ) (r : Result Program ReadStop) → Gives (λ (p : Program). p) r (reading t) → IsInSubset t → IfErr r (λ stop. stop ≡ stops.Memory)
never_refused t (Ok p) g inside = tt
never_refused t (Err (stops.Refused q)) g inside = absurd (unread t q g inside)
never_refused t (Err stops.Memory) g inside = refl

pub program_read : (t : List ℕ) (r : Result Program ReadStop) → Gives (λ (p : Program). p) r (reading t) → IfOk r (IsProgramOf t)
program_read t (Ok p) g = program_as t p g
program_read t (Err stop) g = tt

pub same_read : (o : Result Program Refusal) (p q : Program) → o ≡ Ok p → o ≡ Ok q → p ≡ q
same_read o p q e g = cc

-- a text has one program
pub program_back_of : (t : List ℕ) (r : Result Program ReadStop) → Gives (λ (p : Program). p) r (reading t) → (p : Program) → IsProgramOf t p →
    IfOk r (λ q. q ≡ p)
program_back_of t (Ok q) g p h = same_read (reading t) q p g (program_back t p h)
program_back_of t (Err stop) g p h = tt
