-- The sections of a printed switch read back as they are (ISO/IEC 9899:2011, 6.8.4.2).
use Rattle.std.proofs.Common.{◌≡◌, ◌+◌, ℕ, Bool, true, false, ◌&&◌, ◌||◌, List, [], ◌∷◌, map, length, refl, ap, sym, subst, ◌∙◌, arith}
use Rattle.std.specs.Prelude.{codes, ◌-◌, suc, slice_get}
use Rattle.std.specs.Option.{option_map_or}
use Rattle.c_tree.specs.declared.tree.Function.{Function}
use Rattle.c_tree.specs.declared.tree.Top.{Top}
use Rattle.c_tree.specs.ExpressionTrees.{ExpressionTree}
use Rattle.c_tree.specs.Trees.{Tree, Forest, Nil, Then, Sections, NoSection, Section}
use Rattle.c_tree.specs.Trees as t
use Rattle.c_tree.specs.TextPieces.{Piece, ◌⨾◌, newline, space, indentation, word, punctuator, only_if, joined}
use Rattle.c_tree.specs.TextExpressions.{Leveled}
use Rattle.c_tree.specs.TextItems.{Printed, PrintedSection, deeper, list_text, sections_text, case_line, default_line, null_line}
use Rattle.c_tree.specs.TextItems as text
use Rattle.c_grammar.specs.TokenClasses.{keyword_class}
use Rattle.c_grammar.specs.ExpressionSyntax.{conditional_end}
use Rattle.c_grammar.specs.Statements.{NoItems}
use Rattle.c_grammar.specs.Statements as g
use Rattle.c_statements.specs.Context.{Context, Walk, env_at}
use Rattle.c_resolved_defs.specs.Resolved.{names_in}
use Rattle.c_resolved_defs.specs.Scopes.{Scope}
use Rattle.c_resolved_defs.specs.Within.{Each}
use Rattle.c_resolved_defs.specs.Form.{IsKept}
use Rattle.print_laws.specs.Reread.{Spelling}
use Rattle.print_laws.specs.Standing.{Stands}
use Rattle.print_laws.specs.StatementDerivations.{conditional_of, null_statement, starts_with_local, is_nil, ends_with_note, is_last, optional_item, section_end, items_of}
use Rattle.print_laws.proofs.Standings.{past_indentation}
use Rattle.reread_parts_laws.specs.WrittenStatements.{written_items}
use Rattle.reread_parts_laws.specs.Keywords.{ItemsHaveKeywords}
use Rattle.reread_parts_laws.specs.Words.{AreWords}
use Rattle.reread_parts_laws.specs.Places.{Standing}
use Rattle.reread_parts_laws.specs.GoodItems.{IsCase}
use Rattle.reread_parts_laws.specs.PlacedNotes.{cases_end, default_end, optional_end_of, has_last, section_ends_at}
use Rattle.reread_parts_laws.proofs.Mirrors.{expression_in, tree_text, text_in}
use Rattle.reread_parts_laws.proofs.ItemMirrors.{printed_tree, printed_forest, printed_sections}
use Rattle.reread_parts_laws.proofs.ExpressionWords.{mark_here}
use Rattle.reread_parts_laws.proofs.FullExpressions.{chosen_full}
use Rattle.reread_parts_laws.proofs.DeclarationsRead.{place_at}
use Rattle.reread_parts_laws.proofs.LeavesRead.{keyword_here, a_mark}
use Rattle.reread_parts_laws.proofs.CaseConstants.{CasesRead}
use Rattle.reread_parts_laws.proofs.SectionSources.{DefaultStands, BeginsStated, BeginsNamed}

module _ (ts : List Top) (f : Function) (ctx : Context) (tokens : List Spelling) (words : AreWords ctx.word tokens) where
  -- ---- the labels

  pub record LabelsRead (w : Walk) (at : ℕ) (cases : List ExpressionTree) (ps : List Piece) : Type 0 where
    pub reads : CasesRead (env_at ctx w) at cases
    pub behind_it : Stands tokens (cases_end at cases) ps

  pub cases_read : (cases : List ExpressionTree) (ss : List Scope) (k : ℕ) (w : Walk) (at depth : ℕ) (ps : List Piece) →
      Standing (names_in ts f) ss k w → Each (IsCase (names_in ts f) f ctx ss) cases
      → Stands tokens at (joined (map (case_line f.slots depth) (map expression_in cases)) ps) → LabelsRead w at cases ps
  cases_read [] ss k w at depth ps h g b = record { reads = tt; behind_it = b }
  cases_read (x ∷ xs) ss k w at depth ps h g b =
      let rest = joined (map (case_line f.slots depth) (map expression_in xs)) ps in
      let b1 = subst (λ (y : Leveled). Stands tokens at ((indentation depth ⨾ word (codes "case") ⨾ space ⨾ y 3 ⨾ punctuator (codes ":") ⨾ newline)
      rest)) (text_in f.slots x) b in
      let b2 = past_indentation tokens at ((word (codes "case") ⨾ space ⨾ tree_text f.slots x 3 ⨾ punctuator (codes ":") ⨾ newline) rest) depth b1 in
      let m = keyword_here ts f ctx tokens words at (codes "case") ((space ⨾ tree_text f.slots x 3 ⨾ punctuator (codes ":") ⨾ newline) rest) b2 in
      let u = chosen_full (names_in ts f) ss (env_at ctx w) tokens (place_at (names_in ts f) ctx.word tokens words ss k w h) (at + 1)
      ((punctuator (codes ":") ⨾ newline) rest) x ((g.0).good) (m.1) in
      let y = conditional_end (at + 1) (conditional_of x) in
      let r = cases_read xs ss k w (y + 1) depth ps h (g.1) (a_mark ts f ctx tokens words y (codes ":") (newline rest) (u.behind)) in
      record { reads = (u.reads, (g.0).constant, r.reads); behind_it = r.behind_it }

  pub default_read : (default : Bool) (at depth : ℕ) (ps : List Piece) → Stands tokens at ((only_if default (default_line depth)) ps) →
      DefaultStands ctx.word at default × Stands tokens (default_end at default) ps
  default_read false at depth ps b = (tt, b)
  default_read true at depth ps b =
      let m = keyword_here ts f ctx tokens words at (codes "default") ((punctuator (codes ":") ⨾ newline) ps)
      (past_indentation tokens at ((word (codes "default") ⨾ punctuator (codes ":") ⨾ newline) ps) depth b) in
      (m.0, a_mark ts f ctx tokens words (at + 1) (codes ":") (newline ps) (m.1))

  -- ---- a `;` that stands for no item

  pub record NullRead (there : Bool) (at : ℕ) (ps : List Piece) : Type 0 where
    pub behind_it : Stands tokens (optional_end_of there 1 at) ps
    pub keywords : (xs : g.Items) → ItemsHaveKeywords ctx.word (optional_end_of there 1 at) xs →
        ItemsHaveKeywords ctx.word at (optional_item there null_statement xs)

  pub null_read : (there : Bool) (at depth : ℕ) (ps : List Piece) → Stands tokens at ((only_if there (null_line depth)) ps) → NullRead there at ps
  null_read false at depth ps b = record { behind_it = b; keywords = λ xs h. h }
  null_read true at depth ps b =
      let m = mark_here f.slots tokens ctx.word words at (codes ";") (newline ps)
      (past_indentation tokens at ((punctuator (codes ";") ⨾ newline) ps) depth b) in
      record { behind_it = m.1; keywords = λ xs h. (ap keyword_class (m.0), h) }

  -- ---- the printed list is that of the tree

  pub begins_same : (a : Forest) → text.begins_with_local (printed_forest f a) ≡ starts_with_local a
  begins_same Nil = refl
  begins_same (Then (t.Note bytes) xs) = begins_same xs
  begins_same (Then (t.Local k given) xs) = refl
  begins_same (Then _ xs) = refl

  ends_same : (a : Forest) → text.ends_in_note (printed_forest f a) ≡ ends_with_note a
  ends_same Nil = refl
  ends_same (Then (t.Note bytes) Nil) = refl
  ends_same (Then x Nil) = refl
  ends_same (Then x (Then y ys)) = by_first x (ends_same (Then y ys))
    where
      later : (x : Tree) → text.ends_in_note (printed_forest f (Then y ys)) ≡ ends_with_note (Then y ys) →
          text.ends_in_note (printed_forest f (Then x (Then y ys))) ≡ ends_with_note (Then y ys)
      later x h =
          let ps = printed_forest f ys in
          let one : length (printed_tree f x ∷ printed_tree f y ∷ ps) - 1 ≡ suc (length ps) = omega arith in
          let two : length (printed_tree f y ∷ ps) - 1 ≡ length ps = omega arith in
          ap (λ i. option_map_or (λ (p : Printed). text.is_note p.shape) (slice_get (printed_tree f x ∷ printed_tree f y ∷ ps) i) false) one
          ∙ ap (λ i. option_map_or (λ (p : Printed). text.is_note p.shape) (slice_get (printed_tree f y ∷ ps) i) false) (sym two) ∙ h

      by_first : (x : Tree) → text.ends_in_note (printed_forest f (Then y ys)) ≡ ends_with_note (Then y ys) →
          text.ends_in_note (printed_forest f (Then x (Then y ys))) ≡ ends_with_note (Then x (Then y ys))
      by_first (t.Note bytes) h = later (t.Note bytes) h
      by_first x h = later x h

  empty_same : (a : Forest) → text.is_empty (printed_forest f a) ≡ is_nil a
  empty_same Nil = refl
  empty_same (Then x xs) = refl

  pub last_same : (c : Sections) → text.is_empty (printed_sections f c) ≡ is_last c
  last_same NoSection = refl
  last_same (Section cases default a ends c) = refl

  has_last_same : (a : Forest) (last : Bool) → ((last && text.is_empty (printed_forest f a)) || text.ends_in_note (printed_forest f a)) ≡ has_last a last
  has_last_same a last = λ i. (last && empty_same a i) || ends_same a i

  -- ---- the end of a section

  pub record EndRead (at : ℕ) (ends : Bool) (a : Forest) (last : Bool) (ps : List Piece) : Type 0 where
    pub behind_it : Stands tokens (section_ends_at at ends a last) ps
    pub keywords : (xs : g.Items) → ItemsHaveKeywords ctx.word (section_ends_at at ends a last) xs → ItemsHaveKeywords ctx.word at (section_end ends a last xs)

  pub end_read : (ends : Bool) (a : Forest) (last : Bool) (at depth : ℕ) (ps : List Piece) →
      Stands tokens at (text.section_end ends (printed_forest f a) last depth ps) → EndRead at ends a last ps
  end_read true a last at depth ps b =
      let m = keyword_here ts f ctx tokens words at (codes "break") ((punctuator (codes ";") ⨾ newline) ps)
      (past_indentation tokens at ((word (codes "break") ⨾ punctuator (codes ";") ⨾ newline) ps) depth b) in
      record { behind_it = a_mark ts f ctx tokens words (at + 1) (codes ";") (newline ps) (m.1); keywords = λ xs h. (m.0, h) }
  end_read false a last at depth ps b =
      let u = null_read (has_last a last) at depth ps (subst (λ y. Stands tokens at ((only_if y (null_line depth)) ps)) (has_last_same a last) b) in
      record { behind_it = u.behind_it; keywords = u.keywords }

  -- ---- a section begins with a statement

  abbrev only_notes : Forest → Bool
  only_notes Nil = true
  only_notes (Then (t.Note bytes) xs) = only_notes xs
  only_notes (Then _ xs) = false

  pub record Begins (xs : g.Items) : Type 0 where
    pub stated : BeginsStated xs
    pub named : (y : ℕ) → BeginsNamed (written_items y xs)

  list_begins : (a : Forest) (xs : g.Items) → starts_with_local a ≡ false → (only_notes a ≡ true → Begins xs) → Begins (items_of f.slots a xs)
  list_begins Nil xs e h = h refl
  list_begins (Then (t.Note bytes) a) xs e h = list_begins a xs e h
  list_begins (Then (t.Local k given) a) xs e h = cc
  list_begins (Then (t.If c a Nil) r) xs e h = record { stated = tt; named = λ y. tt }
  list_begins (Then (t.If c a (Then b bs)) r) xs e h = record { stated = tt; named = λ y. tt }
  list_begins (Then _ r) xs e h = record { stated = tt; named = λ y. tt }

  or_true : (b : Bool) → (b || true) ≡ true
  or_true true = refl
  or_true false = refl

  notes_end : (bytes : List ℕ) (a : Forest) → only_notes a ≡ true → ends_with_note (Then (t.Note bytes) a) ≡ true
  notes_end bytes Nil h = refl
  notes_end bytes (Then (t.Note more) a) h = notes_end more a h
  notes_end bytes (Then (t.Evaluate e) a) h = cc
  notes_end bytes (Then _ a) h = cc

  end_begins : (ends : Bool) (a : Forest) (c : Sections) (xs : g.Items) → IsKept a ends c → only_notes a ≡ true → Begins (section_end ends a (is_last c) xs)
  end_begins true a c xs k h = record { stated = tt; named = λ y. tt }
  end_begins false Nil NoSection xs k h = record { stated = tt; named = λ y. tt }
  end_begins false Nil (Section cases default a ends c) xs k h = absurd k
  end_begins false (Then (t.Note bytes) a) c xs k h =
      subst (λ b. Begins (optional_item b null_statement xs))
      (sym (ap (λ b. (is_last c && false) || b) (notes_end bytes a h) ∙ or_true (is_last c && false))) (record { stated = tt; named = λ y. tt })
  end_begins false (Then (t.Evaluate e) a) c xs k h = cc
  end_begins false (Then _ a) c xs k h = cc

  pub section_begins : (a : Forest) (ends : Bool) (c : Sections) (xs : g.Items) → IsKept a ends c →
      Begins (optional_item (starts_with_local a) null_statement (items_of f.slots a (section_end ends a (is_last c) xs)))
  section_begins a ends c xs k = by_local (starts_with_local a) refl
    where
      by_local : (b : Bool) → starts_with_local a ≡ b → Begins (optional_item b null_statement (items_of f.slots a (section_end ends a (is_last c) xs)))
      by_local true e = record { stated = tt; named = λ y. tt }
      by_local false e = list_begins a (section_end ends a (is_last c) xs) e (end_begins ends a c xs k)
