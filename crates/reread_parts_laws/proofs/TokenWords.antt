-- The words of a text are those of its tokens.
use Rattle.std.proofs.Common.{◌≡◌, ℕ, zero, suc, cond, ◌&&◌, List, [], ◌∷◌, map, length, Some, ap, ◌∙◌}
use Rattle.std.specs.Prelude.{slice_get, slice_range}
use Rattle.std.proofs.lemmas.Bool.{le-leb}
use Rattle.c_resolved_defs.specs.Within.{Each}
use Rattle.reread_parts_laws.specs.Laws.{IsTokenOf}
use Rattle.c_lexer.specs.declared.token.Token.{Token}
use Rattle.c_grammar.specs.Words.{word_of, bytes_of}
use Rattle.print_laws.specs.Reread.{Spelling, read_at}
use Rattle.reread_parts_laws.specs.Words.{AreWords}

module _ (text : List ℕ) where
  one_word : (tokens : List Token) (at : ℕ) (s : Spelling) → Each (IsTokenOf text) tokens → slice_get (map (read_at text) tokens) at ≡ Some s →
      bytes_of text (slice_get tokens at) ≡ s.bytes
  one_word [] zero s k e = cc
  one_word [] (suc at) s k e = cc
  one_word (t ∷ tokens) zero s k e =
      let f : read_at text t ≡ s = cc in
      let a = (k.0).in_order in
      let b = (k.0).inside in
      (λ i. cond (le-leb t.start t.end a i && le-leb t.end (length text) b i) (slice_range text t.start t.end) []) ∙ ap (λ (r : Spelling). r.bytes) f
  one_word (t ∷ tokens) (suc at) s k e = one_word tokens at s (k.1) e

  pub words_of : (tokens : List Token) (found : List Spelling) → Each (IsTokenOf text) tokens → map (read_at text) tokens ≡ found →
      AreWords (word_of text tokens) found
  words_of tokens found k h at s e = one_word tokens at s k (ap (λ l. slice_get l at) h ∙ e)
