-- A derived file is read, within its limits too.
use Rattle.std.proofs.Common.{◌≡◌, ℕ, List, [], ◌∷◌, None, refl}
use Rattle.c_grammar.specs.declared.class.Class.{Class}
use Rattle.c_grammar.specs.Events.{Event, first_over}
use Rattle.c_grammar.specs.Counts.{top_events, file_events}
use Rattle.c_grammar.specs.Files.{Declares, Top, Line, OfEnum, OfDeclaration, OfFunction, top_tokens, file_tokens, FitsTop, FitsFile}
use Rattle.c_grammar.specs.FileSyntax.{top_end}
use Rattle.c_grammar.specs.Tops as s
use Rattle.c_resolved_defs.specs.Within.{Each}
use Rattle.reread_parts_laws.specs.WrittenFiles.{written_enumeration, written_form, written_tops}
use Rattle.c_resolving_laws.specs.Read.{IsReadEnumerator, IsReadTopForm, IsReadLine, IsReadFile}
use Rattle.c_source_laws.specs.Formed.{IsFormedEnumerator, IsFormed, IsFormedTop}
use Rattle.c_source_laws.proofs.Depths.{top_shallow}
use Rattle.c_source_laws.proofs.Past.{top_past}
use Rattle.c_source_laws.proofs.Numbered.{Along}
use Rattle.c_source_laws.proofs.Weights.{IsWeighed}
use Rattle.c_source_laws.proofs.Directives.{IsLine}
use Rattle.c_source_laws.proofs.CountedFiles.{IsFewEnumerator, enumeration_few, globals_few, function_counted}

module _ (word : ℕ → List ℕ) where
  enumerators : (es : List s.Enumerator) → Each (IsFormedEnumerator word) es → Each (IsFewEnumerator word) es → Each (IsReadEnumerator word) es
  enumerators [] f g = tt
  enumerators (e ∷ es) f g = (record { named = (f.0).named; value = (f.0).value; few = g.0 }, enumerators es (f.1) (g.1))

  top_reads : (x : Top) (at : ℕ) (r : List Class) (q : List Event) → FitsTop x → Along IsWeighed word at (top_tokens x r) →
      Along IsLine word at (top_tokens x r) → first_over (top_events x q) ≡ None
      → IsFormed word (written_form word at x) → IsReadTopForm word (written_form word at x) × IsReadLine word at (written_form word at x)
  top_reads Line at r q f a l h g = (tt, (l.0) refl)
  top_reads (OfEnum x) at r q f a l h g = ((g.0, enumerators (written_enumeration at x) (g.1) (enumeration_few word x at r q f a h)), tt)
  top_reads (OfDeclaration (Declares static x)) at r q f a l h g = ((g, globals_few word static x at r q f a h), tt)
  top_reads (OfFunction x) at r q f a l h g =
      let k = function_counted word x at r q f a h in (
        record {
          named = g.named;
          parameters = g.parameters;
          body = g.body;
          few = k.few;
          most = k.most;
          shallow = (top_shallow (OfFunction x) word at q h).0;
        },
        tt,
      )

  file_reads : (xs : List Top) (at : ℕ) (r : List Class) (q : List Event) → FitsFile xs → Along IsWeighed word at (file_tokens xs r) →
      Along IsLine word at (file_tokens xs r) → first_over (file_events xs q) ≡ None
      → Each (IsFormedTop word) (written_tops word at xs) → (first_over q ≡ None) × IsReadFile word (written_tops word at xs)
  file_reads [] at r q f a l h g = (h, tt)
  file_reads (x ∷ xs) at r q f a l h g =
      let m = file_reads xs (top_end at x) r (top_events x q) (f.1) (top_past IsWeighed word x at _ a) (top_past IsLine word x at _ l) h (g.1) in
      ((top_shallow x word at q (m.0)).1, (top_reads x at _ q (f.0) a l (m.0) (g.0), m.1))

  -- whose tokens derive it, within the limits
  pub file_is_read : (xs : List Top) (r : List Class) → FitsFile xs → Along IsWeighed word 0 (file_tokens xs r) →
      Along IsLine word 0 (file_tokens xs r) → first_over (file_events xs []) ≡ None
      → Each (IsFormedTop word) (written_tops word 0 xs) → IsReadFile word (written_tops word 0 xs)
  file_is_read xs r f a l h g = (file_reads xs 0 r [] f a l h g).1
