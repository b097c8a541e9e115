-- The tokens that derive a syntax derive the file that it writes, and the other way round; and the same tokens are at fault.
use Rattle.std.proofs.Common.{◌≡◌, ℕ, List, [], ◌∷◌, ◌++◌, refl, sym, ap, subst, ◌∙◌}
use Rattle.c_grammar.specs.declared.class.Class.{Class}
use Rattle.c_grammar.specs.declared.class.Class.TheVariants as c
use Rattle.c_grammar.specs.declared.syntax.Syntax.{Syntax}
use Rattle.c_grammar.specs.Files as g
use Rattle.c_grammar.specs.Files.{file_tokens, FitsFile}
use Rattle.c_grammar.specs.FileSyntax.{file_node}
use Rattle.c_grammar.specs.Derives.{Derives}
use Rattle.c_grammar.specs.Derives as old
use Rattle.c_grammar.specs.Parts.{file_of}
use Rattle.c_grammar.specs.Tops.{Top}
use Rattle.reread_parts_laws.proofs.FileSources.{file_writes}
use Rattle.c_source_laws.specs.Classed.{IsClassed}
use Rattle.c_source_laws.proofs.Numbered.{Along}
use Rattle.c_source_laws.proofs.Weights.{IsWeighed}
use Rattle.c_reading_defs.specs.Symbols.{Symbol, IsOver}
use Rattle.c_reading_defs.specs.DerivedTops.{IsFile}
use Rattle.c_reading_defs.specs.Derivations.{with_end, DeriveFile, Viable, IsUnexpected, IsTooMany}
use Rattle.c_source_laws.proofs.FileSymbols.{file_symbols}
use Rattle.c_source_laws.proofs.SourceTops.{tops_of}
use Rattle.c_source_laws.proofs.StatementsSpelt.{file_spelt}
use Rattle.c_source_laws.proofs.WalkedLimits.{IsFirst, none_is, is_none, none_before, is_before, first_is, is_first}
use Rattle.c_source_laws.proofs.Limits.{file_first}
use Rattle.c_source_laws.proofs.Keywords.{file_keywords}
use Rattle.c_source_laws.proofs.SameTops.{tops_same}
use Rattle.c_source_laws.proofs.TopsDerive.{file_derives}
use Rattle.c_source_laws.proofs.TopsDerived.{file_given}

-- the syntax of a derivation of the grammar writes what the derivation does
sources : (word : ℕ → List ℕ) (file : List g.Top) (r : List Class) → FitsFile file → Along IsClassed word 0 (file_tokens file r) →
    Along IsWeighed word 0 (file_tokens file r) → file_of word (file_node file) ≡ tops_of 0 file
sources word file r f s w = file_writes word file (file_keywords word file 0 r s) ∙ tops_same word file 0 0 r refl f w

spelt : (file : List g.Top) → file_tokens file (c.End ∷ []) ≡ with_end (file_symbols file)
spelt file = (file_spelt file).tokens (c.End ∷ [])

first_along : (file : List g.Top) (xs : List Symbol) → file_symbols file ≡ xs → IsFirst (old.first_too_many file) (IsOver xs)
first_along file xs e = subst (λ (l : List Symbol). IsFirst (old.first_too_many file) (IsOver l)) e (file_first file)

-- ---- derivations

module _ (word : ℕ → List ℕ) (tokens : List Class) (classed : Along IsClassed word 0 (tokens ++ c.End ∷ []))
    (weighed : Along IsWeighed word 0 (tokens ++ c.End ∷ [])) where
  writes : (file : List g.Top) → FitsFile file → file_tokens file (c.End ∷ []) ≡ tokens ++ c.End ∷ [] → file_of word (file_node file) ≡ tops_of 0 file
  writes file f e = sources word file (c.End ∷ []) f (subst (Along IsClassed word 0) (sym e) classed) (subst (Along IsWeighed word 0) (sym e) weighed)

  pub derives_file : (x : Syntax) → Derives tokens x → DeriveFile tokens (file_of word x)
  derives_file x d = record {
    symbols = file_symbols (d.file);
    derives = subst (IsFile 0 (file_symbols (d.file))) (sym (ap (file_of word) (d.syntax_of) ∙ writes (d.file) (d.formed) (d.spelled)))
        (file_derives (d.file) 0 (d.formed));
    spelled = sym (spelt (d.file)) ∙ d.spelled;
    within = none_is _ (IsOver (file_symbols (d.file))) (file_first (d.file)) (d.within);
  }

  -- a syntax that writes this file
  pub record SyntaxOf (file : List Top) : Type 0 where
    pub syntax_of : Syntax
    pub derives : Derives tokens syntax_of
    pub writes : file_of word syntax_of ≡ file

  pub syntax_given : (file : List Top) → DeriveFile tokens file → SyntaxOf file
  syntax_given file d =
      let h = file_given 0 (d.symbols) file (d.derives) in
      let e = spelt (h.d) ∙ ap with_end (h.symbols) ∙ d.spelled in
      let o = first_along (h.d) (d.symbols) (h.symbols) in
      record {
        syntax_of = file_node (h.d);
        derives = record { file = h.d; formed = h.fits; spelled = e; syntax_of = refl; within = is_none _ (IsOver (d.symbols)) o (d.within) };
        writes = writes (h.d) (h.fits) e ∙ h.written;
      }

-- ---- faults

abbrev viable_given : (tokens : List Class) → old.Viable tokens → Viable tokens
viable_given tokens v = record {
  symbols = file_symbols (v.file);
  file = tops_of 0 (v.file);
  derives = file_derives (v.file) 0 (v.formed);
  more = v.more;
  begins = sym (spelt (v.file)) ∙ v.begins;
}

-- a derivation of the grammar that is over a limit at the same token first
record ViableBack (tokens : List Class) (v : Viable tokens) : Type 0 where
  is : old.Viable tokens
  over : IsFirst (old.first_too_many (is.file)) (IsOver (v.symbols))

viable_back : (tokens : List Class) (v : Viable tokens) → ViableBack tokens v
viable_back tokens v =
    let h = file_given 0 (v.symbols) (v.file) (v.derives) in
    record {
      is = record { file = h.d; more = v.more; formed = h.fits; begins = spelt (h.d) ∙ ap with_end (h.symbols) ∙ v.begins };
      over = first_along (h.d) (v.symbols) (h.symbols);
    }

pub unexpected_given : (tokens : List Class) (k : ℕ) → old.IsUnexpected tokens k → IsUnexpected tokens k
unexpected_given tokens k u = record {
  front = u.front;
  token = u.token;
  rest = u.rest;
  split = u.split;
  place = u.place;
  viable = viable_given (u.front) (u.viable);
  none = λ v. u.none ((viable_back (u.front ++ u.token ∷ []) v).is);
  within = λ v. let b = viable_back (u.front) v in none_before _ (IsOver (v.symbols)) k (b.over) (u.within (b.is));
}

pub unexpected_back : (tokens : List Class) (k : ℕ) → IsUnexpected tokens k → old.IsUnexpected tokens k
unexpected_back tokens k u = record {
  front = u.front;
  token = u.token;
  rest = u.rest;
  split = u.split;
  place = u.place;
  viable = (viable_back (u.front) (u.viable)).is;
  none = λ v. u.none (viable_given (u.front ++ u.token ∷ []) v);
  within = λ v. is_before _ (IsOver (file_symbols (v.file))) k (file_first (v.file)) (u.within (viable_given (u.front) v));
}

pub too_many_given : (tokens : List Class) (k : ℕ) → old.IsTooMany tokens k → IsTooMany tokens k
too_many_given tokens k u = record {
  front = u.front;
  token = u.token;
  rest = u.rest;
  split = u.split;
  place = u.place;
  viable = viable_given (u.front ++ u.token ∷ []) (u.viable);
  over = λ v. let b = viable_back (u.front ++ u.token ∷ []) v in (first_is _ (IsOver (v.symbols)) k (b.over) (u.over (b.is))).0;
  first = λ v. let b = viable_back (u.front ++ u.token ∷ []) v in (first_is _ (IsOver (v.symbols)) k (b.over) (u.over (b.is))).1;
}

pub too_many_back : (tokens : List Class) (k : ℕ) → IsTooMany tokens k → old.IsTooMany tokens k
too_many_back tokens k u = record {
  front = u.front;
  token = u.token;
  rest = u.rest;
  split = u.split;
  place = u.place;
  viable = (viable_back (u.front ++ u.token ∷ []) (u.viable)).is;
  over = λ v. let w = viable_given (u.front ++ u.token ∷ []) v in is_first _ (IsOver (w.symbols)) k (file_first (v.file)) (u.over w, u.first w);
}
