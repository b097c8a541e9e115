-- The derivations of statements write statements that are read (ISO/IEC 9899:2011, 6.8).
use Rattle.std.proofs.Common.{◌<◌, ◌+◌, ℕ, List, [], ◌∷◌, Some, None, refl, arith}
use Rattle.c_grammar.specs.declared.class.Class.{Class}
use Rattle.c_grammar.specs.declared.class.Class.TheVariants as c
use Rattle.c_grammar.specs.Expressions.{expression_tokens}
use Rattle.c_grammar.specs.ExpressionSyntax.{expression_end}
use Rattle.c_grammar.specs.Statements.{Label, NameLabel, CaseLabel, DefaultLabel, ForStart, StartLocal, StartValue, Braces, Items, NoItems, LocalItem, StatementItem, Statement, Labelled, Unlabelled, Plain, Compound, Simple, If, IfElse, While, DoWhile, For, Switch, Goto, Break, Continue, Return, optional_tokens, label_tokens, for_start_tokens, items_tokens, statement_tokens, plain_tokens, FitsLabel, FitsForStart, FitsItems, FitsStatement, FitsPlain}
use Rattle.c_grammar.specs.StatementSyntax.{optional_end, local_end, label_end, for_start_end, items_end, statement_end, plain_end}
use Rattle.c_grammar.specs.Items as s
use Rattle.c_grammar.specs.Parts.{list_of_plain}
use Rattle.c_resolved_defs.specs.PrintableExpressions.{AreBytes}
use Rattle.c_resolved_defs.specs.Within.{Each}
use Rattle.reread_parts_laws.specs.Keywords.{LabelHasKeyword, ItemsHaveKeywords, HasKeywords, PlainHasKeywords}
use Rattle.reread_parts_laws.specs.WrittenStatements.{written_label, written_start, written_labels, written_items, behind_labels, written_plain, written_body}
use Rattle.c_resolving_laws.specs.Read.{IsReadLabel, IsReadStart, IsReadPlain, IsReadStatement, IsReadBody, AreReadItems, body_cases}
use Rattle.c_source_laws.specs.Classed.{Stand}
use Rattle.c_source_laws.proofs.Classes.{name_there, name_foreign, keyword_there, semicolon_foreign}
use Rattle.c_source_laws.proofs.Expressions.{expression_read, conditional_read}
use Rattle.c_source_laws.proofs.Declarations.{optional_read, local_read}
use Rattle.c_source_laws.proofs.Ends.{body_few, stand_below}

module _ (word : ℕ → List ℕ) (bytes : (at : ℕ) → AreBytes (word at)) where
  label_read : (at : ℕ) (x : Label) (r : List Class) → FitsLabel x → Stand word at (label_tokens x r) →
      IsReadLabel word (written_label at x) × LabelHasKeyword word at x × Stand word (label_end at x) r
  label_read at NameLabel r f s = (name_there (word at) (s.0), name_foreign (word at) (s.0), (s.1).1)
  label_read at (CaseLabel d) r f s = let x = conditional_read word bytes (at + 1) d (c.Colon ∷ r) f (s.1) in (x.0, tt, (x.1).1)
  label_read at DefaultLabel r f s = (tt, keyword_there c.Default (word at) refl (s.0), (s.1).1)

  start_read : (at : ℕ) (x : ForStart) (r : List Class) → FitsForStart x → Stand word at (for_start_tokens x r) →
      IsReadStart word (written_start at x) × Stand word (for_start_end at x) r
  start_read at (StartLocal x) r f s = local_read word bytes at x r f s
  start_read at (StartValue None) r f s = (tt, s.1)
  start_read at (StartValue (Some e)) r f s = let x = expression_read word bytes at e (c.Semicolon ∷ r) f s in (x.0, (x.1).1)

  -- what is known of a statement, and of the tokens behind it
  record StatementRead (at : ℕ) (t : Statement) (r : List Class) : Type 0 where
    pub labels : Each (IsReadLabel word) (written_labels at t)
    pub plain : IsReadPlain word (behind_labels at t)
    pub keywords : HasKeywords word at t
    pub behind : Stand word (statement_end at t) r

  record PlainRead (at : ℕ) (x : Plain) (r : List Class) : Type 0 where
    pub statement : IsReadStatement word (written_plain at x)
    pub keywords : PlainHasKeywords word at x
    pub behind : Stand word (plain_end at x) r

  pub record ItemsRead (at : ℕ) (xs : Items) (r : List Class) : Type 0 where
    pub items : AreReadItems word (written_items at xs)
    pub keywords : ItemsHaveKeywords word at xs
    pub behind : Stand word (items_end at xs) r

  as_list : (first after : ℕ) (ls : List s.Label) (p : s.Plain) → Each (IsReadLabel word) ls → IsReadPlain word p →
      IsReadBody word (list_of_plain first after ls p)
  as_list first after [] (s.From a b (s.Block list)) g h = h
  as_list first after [] (s.From a b _) g h = (g, h)
  as_list first after (l ∷ ls) p g h = (g, h)

  body_read : (at : ℕ) (t : Statement) (r : List Class) → StatementRead at t r → IsReadBody word (written_body at t)
  body_read at t r x = as_list at (statement_end at t) (written_labels at t) (behind_labels at t) (x.labels) (x.plain)

  cases_few : (at : ℕ) (t : Statement) (r : List Class) → Stand word (statement_end at t) r → body_cases (written_body at t) < 2147483648
  cases_few at t r s = let g = body_few t at in let h = stand_below word r (statement_end at t) s in omega (arith, g, h)

  mutual
    pub items_read : (at : ℕ) (xs : Items) (r : List Class) → FitsItems xs → Stand word at (items_tokens xs r) → ItemsRead at xs r
    items_read at NoItems r f s = record { items = tt; keywords = tt; behind = s }
    items_read at (LocalItem x xs) r f s =
        let m = local_read word bytes at x (items_tokens xs r) (f.0) s in
        let n = items_read (local_end at x) xs r (f.1) (m.1) in
        record { items = (m.0, n.items); keywords = n.keywords; behind = n.behind }
    items_read at (StatementItem t xs) r f s =
        let m = statement_read at t (items_tokens xs r) (f.0) s in
        let n = items_read (statement_end at t) xs r (f.1) (m.behind) in
        record { items = ((m.labels, m.plain), n.items); keywords = (m.keywords, n.keywords); behind = n.behind }

    statement_read : (at : ℕ) (t : Statement) (r : List Class) → FitsStatement t → Stand word at (statement_tokens t r) → StatementRead at t r
    statement_read at (Labelled x t) r f s =
        let m = label_read at x (statement_tokens t r) (f.0) s in
        let n = statement_read (label_end at x) t r (f.1) (m.2) in
        record { labels = (m.0, n.labels); plain = n.plain; keywords = (m.1, n.keywords); behind = n.behind }
    statement_read at (Unlabelled x) r f s =
        let m = plain_read at x r f s in
        record { labels = tt; plain = m.statement; keywords = m.keywords; behind = m.behind }

    plain_read : (at : ℕ) (x : Plain) (r : List Class) → FitsPlain x → Stand word at (plain_tokens x r) → PlainRead at x r
    plain_read at (Compound (Braces xs)) r f s =
        let m = items_read (at + 1) xs (c.CloseBlock ∷ r) f (s.1) in
        record { statement = m.items; keywords = m.keywords; behind = (m.behind).1 }
    plain_read at (Simple None) r f s = record { statement = tt; keywords = semicolon_foreign (word at) (s.0); behind = s.1 }
    plain_read at (Simple (Some e)) r f s =
        let x = expression_read word bytes at e (c.Semicolon ∷ r) f s in
        record { statement = x.0; keywords = tt; behind = (x.1).1 }
    plain_read at (If e t) r f s =
        let y = expression_end (at + 1 + 1) e + 1 in
        let x = expression_read word bytes (at + 1 + 1) e (c.Close ∷ statement_tokens t r) (f.0) ((s.1).1) in
        let m = statement_read y t r (f.1) ((x.1).1) in
        record { statement = (x.0, body_read y t r m); keywords = (keyword_there c.If (word at) refl (s.0), m.keywords); behind = m.behind }
    plain_read at (IfElse e t u) r f s =
        let y = expression_end (at + 1 + 1) e + 1 in
        let z = statement_end y t + 1 in
        let x = expression_read word bytes (at + 1 + 1) e (c.Close ∷ statement_tokens t (c.Else ∷ statement_tokens u r)) (f.0) ((s.1).1) in
        let m = statement_read y t (c.Else ∷ statement_tokens u r) (f.1) ((x.1).1) in
        let n = statement_read z u r (f.3) ((m.behind).1) in
        record {
          statement = (x.0, body_read y t (c.Else ∷ statement_tokens u r) m, body_read z u r n);
          keywords = (keyword_there c.If (word at) refl (s.0), m.keywords, n.keywords);
          behind = n.behind;
        }
    plain_read at (While e t) r f s =
        let y = expression_end (at + 1 + 1) e + 1 in
        let x = expression_read word bytes (at + 1 + 1) e (c.Close ∷ statement_tokens t r) (f.0) ((s.1).1) in
        let m = statement_read y t r (f.1) ((x.1).1) in
        record { statement = (x.0, body_read y t r m); keywords = (keyword_there c.While (word at) refl (s.0), m.keywords); behind = m.behind }
    plain_read at (DoWhile t e) r f s =
        let rest = c.While ∷ c.Open ∷ expression_tokens e (c.Close ∷ c.Semicolon ∷ r) in
        let m = statement_read (at + 1) t rest (f.0) (s.1) in
        let x = expression_read word bytes (statement_end (at + 1) t + 1 + 1) e (c.Close ∷ c.Semicolon ∷ r) (f.1) (((m.behind).1).1) in
        record { statement = (body_read (at + 1) t rest m, x.0); keywords = (keyword_there c.Do (word at) refl (s.0), m.keywords); behind = ((x.1).1).1 }
    plain_read at (For h t u b) r f s =
        let i = for_start_end (at + 1 + 1) h in
        let j = optional_end i t + 1 in
        let y = optional_end j u + 1 in
        let v = start_read (at + 1 + 1) h (optional_tokens t (c.Semicolon ∷ optional_tokens u (c.Close ∷ statement_tokens b r))) (f.0) ((s.1).1) in
        let w = optional_read word bytes i t (c.Semicolon ∷ optional_tokens u (c.Close ∷ statement_tokens b r)) (f.1) (v.1) in
        let x = optional_read word bytes j u (c.Close ∷ statement_tokens b r) (f.2) ((w.1).1) in
        let m = statement_read y b r (f.3) ((x.1).1) in
        record { statement = (v.0, w.0, x.0, body_read y b r m); keywords = (keyword_there c.For (word at) refl (s.0), m.keywords); behind = m.behind }
    plain_read at (Switch e t) r f s =
        let y = expression_end (at + 1 + 1) e + 1 in
        let x = expression_read word bytes (at + 1 + 1) e (c.Close ∷ statement_tokens t r) (f.0) ((s.1).1) in
        let m = statement_read y t r (f.1) ((x.1).1) in
        record {
          statement = (x.0, body_read y t r m, cases_few y t r (m.behind));
          keywords = (keyword_there c.Switch (word at) refl (s.0), m.keywords);
          behind = m.behind;
        }
    plain_read at Goto r f s = record {
      statement = name_there (word (at + 1)) ((s.1).0);
      keywords = keyword_there c.Goto (word at) refl (s.0);
      behind = ((s.1).1).1;
    }
    plain_read at Break r f s = record { statement = tt; keywords = keyword_there c.Break (word at) refl (s.0); behind = (s.1).1 }
    plain_read at Continue r f s = record { statement = tt; keywords = keyword_there c.Continue (word at) refl (s.0); behind = (s.1).1 }
    plain_read at (Return o) r f s =
        let x = optional_read word bytes (at + 1) o (c.Semicolon ∷ r) f (s.1) in
        record { statement = x.0; keywords = keyword_there c.Return (word at) refl (s.0); behind = (x.1).1 }
