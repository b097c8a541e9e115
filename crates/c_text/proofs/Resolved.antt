-- A text that reads as a program gives a resolved one.
use Rattle.std.proofs.Common.{◌≡◌, ℕ, suc, ◌≤◌, List, [], ◌∷◌, length, get_or, Fits, w8, Result, Ok, Err, refl, subst, arith, le-leb}
use Rattle.std.specs.Prelude.{IfOk}
use Rattle.c_types.specs.declared.refusal.Refusal.{Refusal}
use Rattle.c_types.specs.declared.refusal.ReadStop.{ReadStop}
use Rattle.c_types.specs.Stop.{Gives}
use Rattle.c_lexer.specs.declared.token.Scanned.{Scanned}
use Rattle.c_lexer.specs.Pieces.{tokens_of, comments_of, scanned_of}
use Rattle.c_lexer.specs.Answers.{scanning}
use Rattle.c_lexer.proofs.Theorem.{scan_read_back}
use Rattle.c_resolved_defs.specs.PrintableExpressions.{AreBytes}
use Rattle.c_tree.specs.declared.tree.Program.{Program}
use Rattle.c_resolved_laws.specs.Counts.{flat_counts, IsResolved}
use Rattle.c_resolving_laws.proofs.TheLaws.{resolving_laws}
use Rattle.c_source_laws.proofs.TheLimitLaws.{limit_laws}
use Rattle.c_text.specs.Reading.{counts_of, reading}
use Rattle.c_text.proofs.Readings.{read_as}

-- what a slice of bytes holds
pub are_bytes : (t : List ℕ) → ((i : ℕ) → Fits w8 (get_or t i 0)) → AreBytes t
are_bytes [] h = refl
are_bytes (b ∷ t) h =
    let first = h 0 in
    let small : b ≤ 255 = omega (arith, first) in
    let rest = are_bytes t (λ i. h (suc i)) in
    rw (le-leb b 255 small, rest) refl

-- the tokens of a text are few, if those that scanning gives are
few_of : (o : Result Scanned Refusal) (s : Scanned) → o ≡ Ok s → IfOk o (λ z. length z.tokens ≤ 4294967295) → length s.tokens ≤ 4294967295
few_of (Ok z) s e h = let same : z ≡ s = cc in subst (λ x. length x.tokens ≤ 4294967295) same h
few_of (Err r) s e h = cc

pub resolved : (t : List ℕ) (p : Program) → AreBytes t → IfOk (scanning t) (λ s. length s.tokens ≤ 4294967295) → reading t ≡ Ok p → IsResolved p
resolved t p bytes few e =
    let a = read_as t p e in
    let few_tokens = few_of (scanning t) (scanned_of a.pieces) (scan_read_back t a.pieces a.spells) few in
    resolving_laws.resolved flat_counts counts_of (record { same = λ xs. refl; none = refl })
    t (tokens_of a.pieces) (comments_of a.pieces) a.syntax_of p
    (limit_laws.read a.pieces t a.spells bytes few_tokens a.syntax_of a.derives) a.resolves

-- of what is returned
pub resolved_of : (t : List ℕ) (r : Result Program ReadStop) → AreBytes t → Gives (λ (p : Program). p) r (reading t) →
    IfOk r (λ _. IfOk (scanning t) (λ s. length s.tokens ≤ 4294967295))
    → IfOk r IsResolved
resolved_of t (Ok p) bytes g few = resolved t p bytes few g
resolved_of t (Err stop) bytes g few = tt
