-- The program of a text without jumps.
use Rattle.std.proofs.Common.{◌≡◌, ℕ, List, Option, Some, None, option_map, All, inl, inr, refl, sym, ap, subst, ◌∙◌}
use Rattle.c_types.specs.declared.refusal.Refusal.{Refusal}
use Rattle.c_lexer.specs.Faults.{refusal_of}
use Rattle.c_lexer.specs.Pieces.{tokens_of, comments_of}
use Rattle.c_lexer.proofs.Theorem.{scan_read_back}
use Rattle.c_grammar.specs.TokenClasses.{offset_of}
use Rattle.c_parser.proofs.Reading.{parses}
use Rattle.c_grammar.specs.Tops.{Top}
use Rattle.c_tree.specs.declared.tree.Program.{Program}
use Rattle.c_scopes.specs.Files.{start}
use Rattle.c_scopes.specs.Resolving.{file_at}
use Rattle.tidy_refusal.specs.FileJumps.{first_jump}
use Rattle.tidy_refusal.specs.JumplessLaws.{TopLacksJumps}
use Rattle.tidy_refusal.proofs.Files.{jumpless_sources}
use Rattle.c_reading_defs.specs.Typings.{Typing}
use Rattle.c_reading_defs.specs.Programs.{program, file_written}
use Rattle.c_source_laws.proofs.TheSourceLaws.{source_laws}
use Rattle.c_violation_laws.proofs.Typings.{sole_typing}
use Rattle.c_text.specs.Reading.{counts_of, IsProgramOf}
use Rattle.c_text.proofs.Readings.{faultless, same_program, typed_scope}
use Rattle.tidy_refusal.specs.TextJumps.{jump_of_tokens, jump_of_syntax, text_jump, IsRefusedForJumps, IsWithoutJumps}
use Rattle.tidy_refusal.specs.Laws.{TextJumpLaws}

none_before : {A B : Type 0} (f : A → B) (o : Option A) → option_map f o ≡ None → o ≡ None
none_before f None e = refl
none_before f (Some x) e = cc

-- no function of it has jumps
pub lacks_jumps : (t : List ℕ) (p : Program) → IsProgramOf t p → text_jump t ≡ None → All TopLacksJumps p.tops
lacks_jumps t p h e =
    let tokens = tokens_of h.pieces in
    let xs = h.file in
    let x = source_laws.syntax_of t h.pieces h.spells xs h.derives in
    let jump = λ (ys : List Top). option_map (λ at. refusal_of 60 t (offset_of t tokens at)) (first_jump ys) in
    let found = sym (ap (jump_of_tokens t) (scan_read_back t h.pieces h.spells) ∙
    ap (jump_of_syntax t tokens) (parses t tokens x.syntax_of x.derives) ∙ ap jump x.writes) ∙ e in
    let none : first_jump xs ≡ None = none_before (λ at. refusal_of 60 t (offset_of t tokens at)) (first_jump xs) found in
    subst (λ (z : Program). All TopLacksJumps z.tops) (same_program t h.pieces xs h.derives h.scope
    (typed_scope t h.pieces xs h.typing h.types h.scope h.scopes)
    ∙ ap (λ (typing : Typing). program typing (file_written counts_of t tokens (comments_of h.pieces) xs) h.scope xs)
    (sym (sole_typing h.typing h.types)) ∙ sym h.is) (jumpless_sources (file_at counts_of t tokens (comments_of h.pieces) xs) xs start none)

none_is_some : (o : Option Refusal) (refusal : Refusal) → o ≡ None → o ≡ Some refusal → ⊥
none_is_some o refusal e f = cc

pub apart : (t : List ℕ) (refusal : Refusal) → IsWithoutJumps t → IsRefusedForJumps t refusal → ⊥
apart t refusal w (inl r) = faultless t refusal r w.0
apart t refusal w (inr r) = none_is_some (text_jump t) refusal w.1 r.1

pub text_jump_laws : TextJumpLaws
text_jump_laws = record { functions = lacks_jumps; apart = apart }
