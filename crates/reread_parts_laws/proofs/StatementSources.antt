-- The syntax of the derivation of a statement writes the statement, where the words are keywords as the derivation has them.
use Rattle.std.proofs.Common.{◌≡◌, ◌≤◌, ◌+◌, ◌-◌, ℕ, suc, cond, nat_le, List, [], ◌∷◌, ◌++◌, length, map, drop, Option, Some, None, ap, sym, ◌∙◌, arith, append_assoc}
use Rattle.std.proofs.lemmas.Bool.{le-leb}
use Rattle.c_grammar.specs.declared.class.Class.{Class}
use Rattle.c_grammar.specs.declared.class.Class.TheVariants as c
use Rattle.c_grammar.specs.declared.syntax.Syntax.{Syntax}
use Rattle.c_grammar.specs.declared.syntax.Production.TheVariants as p
use Rattle.c_grammar.specs.Nodes.{leaf}
use Rattle.c_grammar.specs.TokenClasses.{keyword_class}
use Rattle.c_grammar.specs.Expressions.{Expression}
use Rattle.c_grammar.specs.ExpressionSyntax.{expression_end, expression_parts, expression_node, conditional_end}
use Rattle.c_grammar.specs.Statements.{Local, Label, NameLabel, CaseLabel, DefaultLabel, ForStart, StartLocal, StartValue, Braces, Items, NoItems, LocalItem, StatementItem, Statement, Labelled, Unlabelled, Plain, Compound, Simple, If, IfElse, While, DoWhile, For, Switch, Goto, Break, Continue, Return}
use Rattle.c_grammar.specs.StatementSyntax.{local_end, label_end, for_start_end, optional_end, items_end, statement_end, plain_end, local_node, label_parts, label_node, for_start_parts, optional_parts, block_node, items_parts, statement_parts, plain_parts, statement_node, plain_node}
use Rattle.c_grammar.specs.Parts.{Part, Content, OfTerm, OfLocal, OfLabel, OfPlain, OfItem, OfBlock, at, term_in, is_token, is_local, optional_at, behind_optional, start_of, behind_start, for_of, gathered, label, label_in, two_part_label, declaration_in, list_of_item, body_in, body_at, keyword_statement, other_statement, plain_statement, statement_in, items_in, item_in, block_in}
use Rattle.c_grammar.specs.Terms.{Term, At}
use Rattle.c_grammar.specs.Items as s
use Rattle.reread_parts_laws.specs.WrittenExpressions.{expression_form}
use Rattle.reread_parts_laws.specs.WrittenStatements.{expression_term, optional_term, written_label, written_start, written_labels, written_items, behind_labels, written_plain, written_statement, written_body}
use Rattle.reread_parts_laws.specs.Keywords.{LabelHasKeyword, ItemsHaveKeywords, HasKeywords, PlainHasKeywords}
use Rattle.reread_parts_laws.proofs.ExpressionSources.{token, token_rule, token_first, parts_write, expression_writes}
use Rattle.reread_parts_laws.proofs.DeclarationSources.{Known, known, gathered_none, gathered_some, q, expression_term_is, conditional_term_is, local_known}

-- ---- parts

last_of : (x : Part) (ys : List Part) → 1 ≤ length ys → at (x ∷ ys) (length (x ∷ ys) - 1) ≡ at ys (length ys - 1)
last_of x [] h = absurd (omega (arith, h))
last_of x (y ∷ ys) h =
    let e : length (x ∷ y ∷ ys) - 1 ≡ suc (length ys) = omega arith in
    let f : length (y ∷ ys) - 1 ≡ length ys = omega arith in
    ap (at (x ∷ y ∷ ys)) e ∙ ap (at (y ∷ ys)) (sym f)

-- the item of a node, by its place and what it writes
abbrev item_of : ℕ → ℕ → Content → s.Item
item_of first after c = elim c as (λ _. s.Item) [ OfItem x ↦ x | OfLocal d ↦ s.Declares first after d | _ ↦ s.States [] (s.From first after s.Unread) ]

-- a `for` behind its bracket, by its parts
for_third : (ps third : List Part) (last : Part) (start : s.Start) (t u : Option Term) (b : s.Body) → optional_at ps 0 ≡ t →
    behind_optional ps ≡ third → optional_at third 0 ≡ u → behind_optional third ≡ last ∷ [] → body_in last ≡ b
    → cond (nat_le 1 (length (behind_optional (behind_optional ps))))
    (s.For start (optional_at ps 0) (optional_at (behind_optional ps) 0) (body_at (behind_optional (behind_optional ps)) 0)) s.Unread ≡ s.For start t u b
for_third ps third last start t u b o e p f g =
    (λ i. cond (nat_le 1 (length (behind_optional (e i)))) (s.For start (o i) (optional_at (e i) 0) (body_at (behind_optional (e i)) 0)) s.Unread)
    ∙ (λ i. cond (nat_le 1 (length (f i))) (s.For start t (p i) (body_at (f i) 0)) s.Unread) ∙ ap (s.For start t u) g

for_steps : (ps second third : List Part) (last : Part) (start : s.Start) (t u : Option Term) (b : s.Body) → start_of ps ≡ start →
    behind_start ps ≡ second → optional_at second 0 ≡ t → behind_optional second ≡ third
    → optional_at third 0 ≡ u → behind_optional third ≡ last ∷ [] → body_in last ≡ b → for_of ps ≡ s.For start t u b
for_steps ps second third last start t u b h k o e p f g =
    (λ i. let r = k i in cond (nat_le 1 (length (behind_optional (behind_optional r))))
    (s.For (h i) (optional_at r 0) (optional_at (behind_optional r) 0) (body_at (behind_optional (behind_optional r)) 0)) s.Unread)
    ∙ for_third second third last start t u b o e p f g

module _ (word : ℕ → List ℕ) where
  -- ---- expressions that may be left out

  not_there : (n : ℕ) (ps : List Part) → optional_at (token word n ∷ ps) 0 ≡ None
  not_there n ps = λ i. cond (is_token (token_rule word n i)) None (Some (term_in (token word n)))

  is_there : (n : ℕ) (e : Expression) (ps : List Part) → optional_at (q word (expression_node n e) ∷ ps) 0 ≡ Some (expression_term n e)
  is_there n e ps = (λ i. cond (is_token ((expression_writes word n e).ruled i)) None (Some (term_in (q word (expression_node n e))))) ∙
      ap Some (expression_term_is word n e)

  optional_is : (n : ℕ) (o : Option Expression) (x : ℕ) (rest : List Syntax) →
      optional_at (map (q word) (optional_parts n o ++ leaf x ∷ rest)) 0 ≡ optional_term n o
  optional_is n None x rest = not_there x (map (q word) rest)
  optional_is n (Some e) x rest = is_there n e (map (q word) (leaf x ∷ rest))

  behind_optional_is : (n : ℕ) (o : Option Expression) (x : ℕ) (rest : List Syntax) →
      behind_optional (map (q word) (optional_parts n o ++ leaf x ∷ rest)) ≡ map (q word) rest
  behind_optional_is n None x rest = λ i. drop (cond (is_token (token_rule word x i)) 1 2) (map (q word) (leaf x ∷ rest))
  behind_optional_is n (Some e) x rest = λ i. drop (cond (is_token ((expression_writes word n e).ruled i)) 1 2)
      (map (q word) (expression_node n e ∷ leaf x ∷ rest))

  start_is : (n : ℕ) (f : ForStart) (rest : List Syntax) → start_of (map (q word) (for_start_parts n f ++ rest)) ≡ written_start n f
  start_is n (StartLocal x) rest =
      let k = local_known word n x in
      (λ i. cond (is_local (k.ruled i)) (s.StartNames (declaration_in (k.holds i)))
      (cond (is_token (q word (local_node n x)).rule) s.NoStart (s.StartValue (term_in (q word (local_node n x))))))
  start_is n (StartValue None) rest = λ i. cond (is_local (token_rule word n i)) (s.StartNames (declaration_in (token word n).content))
      (cond (is_token (token_rule word n i)) s.NoStart (s.StartValue (term_in (token word n))))
  start_is n (StartValue (Some e)) rest =
      let r = (expression_writes word n e).ruled in
      (λ i. cond (is_local (r i)) (s.StartNames (declaration_in (q word (expression_node n e)).content))
      (cond (is_token (r i)) s.NoStart (s.StartValue (expression_term_is word n e i))))

  behind_start_is : (n : ℕ) (f : ForStart) (rest : List Syntax) → behind_start (map (q word) (for_start_parts n f ++ rest)) ≡ map (q word) rest
  behind_start_is n (StartLocal x) rest =
      let ps = map (q word) (local_node n x ∷ rest) in
      (λ i. cond (is_local ((local_known word n x).ruled i)) (drop 1 ps) (behind_optional ps))
  behind_start_is n (StartValue None) rest =
      let ps = map (q word) (leaf n ∷ rest) in
      (λ i. cond (is_local (token_rule word n i)) (drop 1 ps) (behind_optional ps)) ∙ behind_optional_is n None n rest
  behind_start_is n (StartValue (Some e)) rest =
      let ps = map (q word) (expression_node n e ∷ leaf (expression_end n e) ∷ rest) in
      (λ i. cond (is_local ((expression_writes word n e).ruled i)) (drop 1 ps) (behind_optional ps)) ∙ behind_optional_is n (Some e) (expression_end n e) rest

  -- ---- statements by their parts

  abbrev Stated : ℕ → Statement → Type 0
  Stated n t = Known word (statement_node n t) p.Statement n (statement_end n t) (OfItem (written_statement n t))

  body_is : (n : ℕ) (t : Statement) → Stated n t → body_in (q word (statement_node n t)) ≡ written_body n t
  body_is n t k = λ i. list_of_item (k.begins i) (k.ends i) (item_of (k.begins i) (k.ends i) (k.holds i))

  keyword_is : (n : ℕ) (class : Class) (ps : List Part) → keyword_class (word n) ≡ class →
      plain_statement word (token word n ∷ ps) ≡ keyword_statement class (token word n ∷ ps)
  keyword_is n class ps e =
      (λ i. cond (is_token (token_rule word n i)) (keyword_statement ((ap (λ k. keyword_class (word k)) (token_first word n) ∙ e) i)
      (token word n ∷ ps)) (other_statement (token word n)))

  for_is : (n : ℕ) (f : ForStart) (t u : Option Expression) (b : Statement) → let x = for_start_end n f in let y = optional_end x t in let z =
      optional_end
      (y + 1) u in Stated (z + 1) b
      → for_of (map (q word) (for_start_parts n f ++ optional_parts x t ++ leaf y ∷ optional_parts (y + 1) u ++ leaf z ∷ statement_node (z + 1) b ∷ []))
      ≡ s.For (written_start n f) (optional_term x t) (optional_term (y + 1) u) (written_body (z + 1) b)
  for_is n f t u b k =
      let x = for_start_end n f in
      let y = optional_end x t in
      let z = optional_end (y + 1) u in
      let last = statement_node (z + 1) b ∷ [] in
      let third = optional_parts (y + 1) u ++ leaf z ∷ last in
      let second = optional_parts x t ++ leaf y ∷ third in
      let front = for_start_parts n f in
      let e = append_assoc (front ++ optional_parts x t) (leaf y ∷ optional_parts (y + 1) u) (leaf z ∷ last) ∙
      append_assoc front (optional_parts x t) (leaf y ∷ third) in
      ap (λ l. for_of (map (q word) l)) e
      ∙ for_steps (map (q word) (for_start_parts n f ++ second)) (map (q word) second) (map (q word) third) (q word (statement_node (z + 1) b))
      (written_start n f) (optional_term x t) (optional_term (y + 1) u) (written_body (z + 1) b)
      (start_is n f second) (behind_start_is n f second) (optional_is x t y third) (behind_optional_is x t y third) (optional_is (y + 1) u z last)
      (behind_optional_is (y + 1) u z last) (body_is (z + 1) b k)

  -- ---- labels

  label_is : (n : ℕ) (x : Label) → LabelHasKeyword word n x → label word n (label_end n x) (map (q word) (label_parts n x)) ≡ written_label n x
  label_is n NameLabel h = λ i. two_part_label (h i) n (n + 1 + 1)
  label_is n (CaseLabel d) h = λ i. s.Case n (conditional_end (n + 1) d + 1) (conditional_term_is word (n + 1) d i)
  label_is n DefaultLabel h = λ i. two_part_label (h i) n (n + 1 + 1)

  label_known : (n : ℕ) (x : Label) → LabelHasKeyword word n x → Known word (label_node n x) p.Label n (label_end n x) (OfLabel (written_label n x))
  label_known n x h = known word p.Label n (label_end n x) (label_parts n x) (OfLabel (written_label n x)) (ap OfLabel (label_is n x h))

  there : (n : ℕ) (t : Statement) → 1 ≤ length (map (q word) (statement_parts n t))
  there n (Labelled x t) = omega arith
  there n (Unlabelled x) = omega arith

  -- a statement by its labels and the rest of it
  record Parted (n : ℕ) (t : Statement) : Type 0 where
    labels : gathered label_in (map (q word) (statement_parts n t)) ≡ written_labels n t
    plain : statement_in (at (map (q word) (statement_parts n t)) (length (map (q word) (statement_parts n t)) - 1)) ≡ behind_labels n t

  stated : (n : ℕ) (t : Statement) → Parted n t → Stated n t
  stated n t r = known word p.Statement n (statement_end n t) (statement_parts n t) (OfItem (written_statement n t))
      (λ i. OfItem (s.States (r.labels i) (r.plain i)))

  one_label : (n : ℕ) (x : Label) (t : Statement) → LabelHasKeyword word n x → Parted (label_end n x) t → Parted n (Labelled x t)
  one_label n x t h r =
      let k = label_known n x h in
      let ps = map (q word) (statement_parts (label_end n x) t) in
      record {
        labels = gathered_some label_in (q word (label_node n x)) ps (written_label n x) (ap label_in (k.holds)) ∙ ap (λ l. written_label n x ∷ l) (r.labels);
        plain = ap statement_in (last_of (q word (label_node n x)) ps (there (label_end n x) t)) ∙ r.plain;
      }

  no_label : (n : ℕ) (x : Plain) → plain_statement word (map (q word) (plain_parts n x)) ≡ written_plain n x → Parted n (Unlabelled x)
  no_label n x e =
      let k = known word p.Plain n (plain_end n x) (plain_parts n x) (OfPlain (written_plain n x)) (ap OfPlain e) in
      record {
        labels = gathered_none label_in (q word (plain_node n x)) [] (ap label_in (k.holds));
        plain = (λ i. elim (k.holds i) as (λ _. s.Plain) [ OfPlain t ↦ s.From (k.begins i) (k.ends i) t | _ ↦ s.From (k.begins i) (k.ends i) s.Unread ]);
      }

  -- ---- lists

  abbrev Listed : ℕ → Items → Type 0
  Listed n xs = (x : ℕ) → items_in (map (q word) (items_parts n xs ++ leaf x ∷ [])) ≡ written_items n xs

  one_local : (n : ℕ) (x : Local) (xs : Items) → Listed (local_end n x) xs → Listed n (LocalItem x xs)
  one_local n x xs h z =
      let k = local_known word n x in
      let ps = map (q word) (items_parts (local_end n x) xs ++ leaf z ∷ []) in
      (λ i. cond (is_token (k.ruled i)) (items_in ps) (s.Then (item_of (k.begins i) (k.ends i) (k.holds i)) (h z i)))

  one_statement : (n : ℕ) (t : Statement) (xs : Items) → Stated n t → Listed (statement_end n t) xs → Listed n (StatementItem t xs)
  one_statement n t xs k h z =
      let ps = map (q word) (items_parts (statement_end n t) xs ++ leaf z ∷ []) in
      (λ i. cond (is_token (k.ruled i)) (items_in ps) (s.Then (item_of (k.begins i) (k.ends i) (k.holds i)) (h z i)))

  no_item : (n : ℕ) → Listed n NoItems
  no_item n z = λ i. cond (is_token (token_rule word z i)) s.NoItem (s.Then (item_in (token word z)) s.NoItem)

  -- a block by its list
  pub block_known : (n : ℕ) (xs : Items) → Listed (n + 1) xs → Known word (block_node n (Braces xs)) p.Block n (items_end (n + 1) xs + 1)
      (OfBlock (written_items (n + 1) xs))
  block_known n xs h =
      let x = items_end (n + 1) xs in
      let ps = map (q word) (items_parts (n + 1) xs ++ leaf x ∷ []) in
      known word p.Block n (x + 1) (leaf n ∷ items_parts (n + 1) xs ++ leaf x ∷ []) (OfBlock (written_items (n + 1) xs))
      (ap OfBlock ((λ i. cond (is_token (token_rule word n i)) (items_in ps) (s.Then (item_in (token word n)) (items_in ps))) ∙ h x))

  abbrev block_of : ℕ → ℕ → Content → s.Statement
  block_of first after c = elim c as (λ _. s.Statement) [
    | OfBlock xs ↦ s.Block (s.Braces first after xs)
    | OfTerm form ↦ s.Evaluate (At first form)
    | _ ↦ s.Unread
  ]

  -- an expression and `;`
  simple_writes : (n : ℕ) (e : Expression) → plain_statement word (map (q word) (plain_parts n (Simple (Some e)))) ≡ s.Evaluate (expression_term n e)
  simple_writes n e =
      let k = known word p.Expression n (expression_end n e) (expression_parts n e) (OfTerm (expression_form n e)) (ap OfTerm (parts_write word n e)) in
      let x = q word (expression_node n e) in
      (λ i. cond (is_token (k.ruled i)) (keyword_statement (keyword_class (word x.first)) (x ∷ token word (expression_end n e) ∷ []))
      (block_of (k.begins i) (k.ends i) (k.holds i)))

  for_writes : (n : ℕ) {start : s.Statement} (rest : List Part) → for_of rest ≡ start →
      cond (nat_le 2 (length (token word n ∷ token word (n + 1) ∷ rest))) (for_of (drop 2 (token word n ∷ token word (n + 1) ∷ rest))) s.Unread ≡ start
  for_writes n {start} rest e = ap (λ b. cond b (for_of rest) s.Unread) (le-leb 2 (suc (suc (length rest))) (omega arith)) ∙ e

  mutual
    pub items_write : (n : ℕ) (xs : Items) → ItemsHaveKeywords word n xs → Listed n xs
    items_write n NoItems h = no_item n
    items_write n (LocalItem x xs) h = one_local n x xs (items_write (local_end n x) xs h)
    items_write n (StatementItem t xs) h = one_statement n t xs (stated n t (statement_parted n t (h.0))) (items_write (statement_end n t) xs (h.1))

    statement_parted : (n : ℕ) (t : Statement) → HasKeywords word n t → Parted n t
    statement_parted n (Labelled x t) h = one_label n x t (h.0) (statement_parted (label_end n x) t (h.1))
    statement_parted n (Unlabelled x) h = no_label n x (plain_writes n x h)

    plain_writes : (n : ℕ) (x : Plain) → PlainHasKeywords word n x → plain_statement word (map (q word) (plain_parts n x)) ≡ written_plain n x
    plain_writes n (Compound (Braces xs)) h =
        let k = block_known n xs (items_write (n + 1) xs h) in
        (λ i. cond (is_token (k.ruled i)) (keyword_statement (keyword_class (word (q word (block_node n (Braces xs))).first))
        (q word (block_node n (Braces xs)) ∷ [])) (block_of (k.begins i) (k.ends i) (k.holds i)))
    plain_writes n (Simple None) h = keyword_is n c.Foreign [] h
    plain_writes n (Simple (Some e)) h = simple_writes n e
    plain_writes n (If e t) h =
        let x = expression_end (n + 1 + 1) e in
        let k = body_is (x + 1) t (stated (x + 1) t (statement_parted (x + 1) t (h.1))) in
        keyword_is n c.If _ (h.0) ∙ (λ i. s.If (expression_term_is word (n + 1 + 1) e i) (k i))
    plain_writes n (IfElse e t u) h =
        let x = expression_end (n + 1 + 1) e in
        let y = statement_end (x + 1) t in
        let k = body_is (x + 1) t (stated (x + 1) t (statement_parted (x + 1) t (h.1))) in
        let l = body_is (y + 1) u (stated (y + 1) u (statement_parted (y + 1) u (h.2))) in
        keyword_is n c.If _ (h.0) ∙ (λ i. s.IfElse (expression_term_is word (n + 1 + 1) e i) (k i) (l i))
    plain_writes n (While e t) h =
        let x = expression_end (n + 1 + 1) e in
        let k = body_is (x + 1) t (stated (x + 1) t (statement_parted (x + 1) t (h.1))) in
        keyword_is n c.While _ (h.0) ∙ (λ i. s.While (expression_term_is word (n + 1 + 1) e i) (k i))
    plain_writes n (DoWhile t e) h =
        let y = statement_end (n + 1) t + 1 + 1 in
        let k = body_is (n + 1) t (stated (n + 1) t (statement_parted (n + 1) t (h.1))) in
        keyword_is n c.Do _ (h.0) ∙ (λ i. s.DoWhile (k i) (expression_term_is word y e i))
    plain_writes n (For f t u b) h =
        let x = for_start_end (n + 1 + 1) f in
        let y = optional_end x t in
        let z = optional_end (y + 1) u in
        let ps = map (q word) (for_start_parts (n + 1 + 1) f ++ optional_parts x t ++ leaf y ∷ optional_parts (y + 1) u ++
        leaf z ∷ statement_node (z + 1) b ∷ []) in
        keyword_is n c.For (token word (n + 1) ∷ ps) (h.0) ∙ for_writes n ps (for_is (n + 1 + 1) f t u b (stated (z + 1) b (statement_parted (z + 1) b (h.1))))
    plain_writes n (Switch e t) h =
        let x = expression_end (n + 1 + 1) e in
        let k = body_is (x + 1) t (stated (x + 1) t (statement_parted (x + 1) t (h.1))) in
        keyword_is n c.Switch _ (h.0) ∙ (λ i. s.Switch (expression_term_is word (n + 1 + 1) e i) (k i))
    plain_writes n Goto h = keyword_is n c.Goto _ h ∙ ap s.Goto (token_first word (n + 1))
    plain_writes n Break h = keyword_is n c.Break _ h
    plain_writes n Continue h = keyword_is n c.Continue _ h
    plain_writes n (Return o) h = keyword_is n c.Return _ h ∙ ap s.Return (optional_is (n + 1) o (optional_end (n + 1) o) [])

  pub statement_known : (n : ℕ) (t : Statement) → HasKeywords word n t → Stated n t
  statement_known n t h = stated n t (statement_parted n t h)

  -- a block as the body of a function
  pub block_writes : (n : ℕ) (xs : Items) → ItemsHaveKeywords word (n + 1) xs →
      block_in (q word (block_node n (Braces xs))) ≡ Some (s.Braces n (items_end (n + 1) xs + 1) (written_items (n + 1) xs))
  block_writes n xs h =
      let k = block_known n xs (items_write (n + 1) xs h) in
      (λ i. elim (k.holds i) as (λ _. Option s.Body) [ OfBlock ys ↦ Some (s.Braces (k.begins i) (k.ends i) ys) | _ ↦ None ])
