-- The syntax of the derivation of a file writes the file.
use Rattle.std.proofs.Common.{◌≡◌, ◌+◌, ℕ, Bool, true, false, List, [], ◌∷◌, ◌++◌, map, Option, Some, None, refl, ap, ◌∙◌}
use Rattle.c_grammar.specs.declared.syntax.Syntax.{Syntax}
use Rattle.c_grammar.specs.declared.syntax.Production.{Production}
use Rattle.c_grammar.specs.declared.syntax.Production.TheVariants as p
use Rattle.c_grammar.specs.Nodes.{leaf}
use Rattle.c_grammar.specs.Expressions.{Conditional}
use Rattle.c_grammar.specs.Statements.{Local}
use Rattle.c_grammar.specs.StatementSyntax.{word_end, rest_end, local_end, word_parts, rest_parts, local_node}
use Rattle.c_grammar.specs.Files.{Enumeration, Enumerated, Declares, Top, Line, OfEnum, OfDeclaration, OfFunction}
use Rattle.c_grammar.specs.FileSyntax.{enumerator_end, enumeration_end, declaration_end, function_end, top_end, file_end, constant_parts, enumerator_node, enumeration_node, declaration_node, function_node, top_node, file_parts, file_node}
use Rattle.c_grammar.specs.Parts.{Part, Content, Leaf, OfEnumerator, OfTop, OfFile, part_of, gathered, enumerator, enumerator_in, globals, declaration_in, top_in, file_of, tops_in}
use Rattle.c_grammar.specs.Tops as s
use Rattle.reread_parts_laws.specs.WrittenStatements.{written_declaration}
use Rattle.reread_parts_laws.specs.WrittenFunctions.{written_function}
use Rattle.reread_parts_laws.specs.WrittenFiles.{written_enumerator, further_enumerators, written_enumeration, written_form, written_tops, TopHasKeywords, FileHasKeywords}
use Rattle.reread_parts_laws.proofs.ExpressionSources.{part_node, token, token_first}
use Rattle.reread_parts_laws.proofs.DeclarationSources.{Known, known, token_content, gathered_none, gathered_some, q, conditional_term_is, local_known}
use Rattle.reread_parts_laws.proofs.FunctionSources.{function_known}

module _ (word : ℕ → List ℕ) where
  abbrev r : List Syntax → List Part
  r xs = map (part_of word) xs

  -- ---- enums

  enumerator_is : (n : ℕ) (value : Option Conditional) → enumerator (r (leaf n ∷ constant_parts (n + 1) value)) ≡ written_enumerator n value
  enumerator_is n None = λ i. record { name = token_first word n i; value = None }
  enumerator_is n (Some d) = λ i. record { name = token_first word n i; value = Some (conditional_term_is word (n + 1 + 1) d i) }

  enumerator_known : (n : ℕ) (value : Option Conditional) → Known word (enumerator_node n value) p.Enumerator n (enumerator_end n value)
      (OfEnumerator (written_enumerator n value))
  enumerator_known n value = known word p.Enumerator n (enumerator_end n value) (leaf n ∷ constant_parts (n + 1) value)
      (OfEnumerator (written_enumerator n value)) (ap OfEnumerator (enumerator_is n value))

  no_token : (n : ℕ) (ps : List Part) → gathered enumerator_in (token word n ∷ ps) ≡ gathered enumerator_in ps
  no_token n ps = gathered_none enumerator_in (token word n) ps (ap enumerator_in (token_content word n))

  one_enumerator : (n : ℕ) (value : Option Conditional) (ps : List Part) →
      gathered enumerator_in (q word (enumerator_node n value) ∷ ps) ≡ written_enumerator n value ∷ gathered enumerator_in ps
  one_enumerator n value ps = gathered_some enumerator_in (q word (enumerator_node n value)) ps (written_enumerator n value)
      (ap enumerator_in ((enumerator_known n value).holds))

  further_are : (xs : List (Option Conditional)) (n : ℕ) (trailing : Bool) (z : ℕ) →
      gathered enumerator_in (r (rest_parts enumerator_end enumerator_node n xs trailing ++ leaf z ∷ [])) ≡ further_enumerators n xs
  further_are [] n true z = no_token n (token word (n + 1) ∷ token word z ∷ []) ∙ no_token (n + 1) (token word z ∷ []) ∙ no_token z []
  further_are [] n false z = no_token n (token word z ∷ []) ∙ no_token z []
  further_are (x ∷ xs) n trailing z =
      let y = enumerator_end (n + 1) x in
      let rest = r (rest_parts enumerator_end enumerator_node y xs trailing ++ leaf z ∷ []) in
      no_token n (q word (enumerator_node (n + 1) x) ∷ rest) ∙ one_enumerator (n + 1) x rest ∙
      ap (λ l. written_enumerator (n + 1) x ∷ l) (further_are xs y trailing z)

  enumeration_known : (n : ℕ) (x : Enumeration) → Known word (enumeration_node n x) p.Enum n (enumeration_end n x) (OfTop (s.Enum (written_enumeration n x)))
  enumeration_known n (Enumerated x xs trailing) =
      let y = enumerator_end (n + 1 + 1) x in
      let z = rest_end enumerator_end y xs trailing in
      let rest = r (rest_parts enumerator_end enumerator_node y xs trailing ++ leaf z ∷ []) in
      known word p.Enum n (z + 1) (leaf n ∷ leaf (n + 1) ∷ enumerator_node (n + 1 + 1) x ∷ rest_parts enumerator_end enumerator_node y xs trailing ++
      leaf z ∷ []) (OfTop (s.Enum (written_enumeration n (Enumerated x xs trailing))))
      (ap (λ l. OfTop (s.Enum l)) (no_token n (token word (n + 1) ∷ q word (enumerator_node (n + 1 + 1) x) ∷ rest) ∙
      no_token (n + 1) (q word (enumerator_node (n + 1 + 1) x) ∷ rest)
      ∙ one_enumerator (n + 1 + 1) x rest ∙ ap (λ l. written_enumerator (n + 1 + 1) x ∷ l) (further_are xs y trailing z)))

  -- ---- variables

  globals_are : (n : ℕ) (static : Bool) (x : Local) → let y = word_end n static in
      globals (r (word_parts n static ++ local_node y x ∷ [])) ≡ s.Globals static (written_declaration y x)
  globals_are n true x = λ i. s.Globals true (declaration_in ((local_known word (n + 1) x).holds i))
  globals_are n false x = λ i. s.Globals false (declaration_in ((local_known word n x).holds i))

  declaration_known : (n : ℕ) (static : Bool) (x : Local) → Known word (declaration_node n (Declares static x)) p.Declaration n
      (declaration_end n (Declares static x)) (OfTop (s.Globals static (written_declaration (word_end n static) x)))
  declaration_known n static x =
      let y = word_end n static in
      known word p.Declaration n (local_end y x) (word_parts n static ++ local_node y x ∷ []) (OfTop (s.Globals static (written_declaration y x)))
      (ap OfTop (globals_are n static x))

  -- ---- files

  abbrev top_of : ℕ → ℕ → Content → s.Top
  top_of first after c = elim c as (λ _. s.Top) [ OfTop form ↦ s.From first after form | Leaf ↦ s.From first after s.Line | _ ↦ s.From first after s.Unread ]

  by_known : (x : Syntax) (rule : Production) (first after : ℕ) (form : s.Form) → Known word x rule first after (OfTop form) →
      top_in (part_of word x) ≡ s.From first after form
  by_known x rule first after form k = λ i. top_of (k.begins i) (k.ends i) (k.holds i)

  top_is : (n : ℕ) (x : Top) → TopHasKeywords word n x → top_in (part_of word (top_node n x)) ≡ s.From n (top_end n x) (written_form word n x)
  top_is n Line h = λ i. top_of (token_first word n i) (token_after n i) (token_content word n i)
    where
      token_after : (n : ℕ) → (token word n).after ≡ n + 1
      token_after n = ap (λ (x : Part). x.after) (part_node word p.Token n (n + 1) [])
  top_is n (OfEnum x) h = by_known (enumeration_node n x) p.Enum n (enumeration_end n x) (s.Enum (written_enumeration n x)) (enumeration_known n x)
  top_is n (OfDeclaration (Declares static x)) h = by_known (declaration_node n (Declares static x)) p.Declaration n
      (declaration_end n (Declares static x)) (s.Globals static (written_declaration (word_end n static) x)) (declaration_known n static x)
  top_is n (OfFunction x) h = by_known (function_node n x) p.Function n (function_end n x) (s.Defines (written_function word n x)) (function_known word n x h)

  tops_are : (xs : List Top) (n : ℕ) → FileHasKeywords word n xs → map top_in (r (file_parts n xs)) ≡ written_tops word n xs
  tops_are [] n h = refl
  tops_are (x ∷ xs) n h = λ i. top_is n x (h.0) i ∷ tops_are xs (top_end n x) (h.1) i

  pub file_writes : (xs : List Top) → FileHasKeywords word 0 xs → file_of word (file_node xs) ≡ written_tops word 0 xs
  file_writes xs h = ap tops_in ((known word p.File 0 (file_end 0 xs) (file_parts 0 xs) (OfFile (written_tops word 0 xs)) (ap OfFile (tops_are xs 0 h))).holds)
