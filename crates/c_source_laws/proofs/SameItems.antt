-- Declarations and statements write the same, whichever way the numbers of their tokens are told.
use Rattle.std.proofs.Common.{◌≡◌, ◌+◌, ℕ, List, [], ◌∷◌, Option, Some, None, refl, ap}
use Rattle.c_grammar.specs.declared.class.Class.{Class}
use Rattle.c_grammar.specs.declared.class.Class.TheVariants as c
use Rattle.c_grammar.specs.Expressions.{Expression, Assignment}
use Rattle.c_grammar.specs.ExpressionSyntax.{type_end, expression_end, assignment_end, conditional_end}
use Rattle.c_grammar.specs.Statements.{Size, NoSize, Unsized, Sized, Initialiser, OneValue, ValueList, Declarator, Declared, Local, Locals, Label, NameLabel, CaseLabel, DefaultLabel, ForStart, StartLocal, StartValue, Braces, Items, NoItems, LocalItem, StatementItem, Statement, Labelled, Unlabelled, Plain, Compound, Simple, If, IfElse, While, DoWhile, For, Switch, Goto, Break, Continue, Return}
use Rattle.c_grammar.specs.StatementSyntax.{word_end, optional_end, size_end, declarator_end, local_end, label_end, for_start_end, items_end, statement_end, plain_end}
use Rattle.c_grammar.specs.Terms.{At}
use Rattle.c_grammar.specs.Items as s
use Rattle.reread_parts_laws.specs.WrittenStatements as old
use Rattle.c_reading_defs.specs.Symbols.{token_behind}
use Rattle.c_source_laws.proofs.ExpressionSymbols.{type_symbols, assignment_symbols, conditional_symbols}
use Rattle.c_source_laws.proofs.StatementSymbols.{word_symbols, optional_symbols, size_symbols, declarator_symbols, local_symbols, label_symbols, start_symbols, tested_symbols, items_symbols, statement_symbols, body_symbols, plain_symbols}
use Rattle.c_source_laws.proofs.SourceTerms.{expression_term, assignment_term}
use Rattle.c_source_laws.proofs.SourceItems as new
use Rattle.c_source_laws.proofs.Placed.{type_placed, assignment_placed, word_placed, optional_placed, size_placed, declarator_placed, local_placed, label_placed, start_placed, conditional_placed, tested_end, tested_placed, items_placed, statement_placed, body_placed, plain_placed}
use Rattle.c_source_laws.proofs.SameTerms.{next, up, past, type_same, expression_same, assignment_same, conditional_same}

-- ---- declarations

pub size_same : (x : Size) (at at' : ℕ) → at ≡ at' → old.written_size at x ≡ new.size_of at' x
size_same NoSize at at' p = refl
size_same Unsized at at' p = refl
size_same (Sized d) at at' p =
    let q = up at at' p in
    let h = conditional_same d (at + 1) (at' + 1) q in
    λ i. s.Sized (At (q i) (h i))

further_values : (xs : List Assignment) (at at' : ℕ) → at ≡ at' → old.further_terms at xs ≡ new.further assignment_symbols assignment_term at' xs
further_values [] at at' p = refl
further_values (a ∷ xs) at at' p =
    let q = up at at' p in
    let g = assignment_same a (at + 1) (at' + 1) q in
    let h = further_values xs (assignment_end (at + 1) a) (token_behind (at' + 1) (assignment_symbols a))
    (next assignment_end a (assignment_symbols a) (assignment_placed a) (at + 1) (at' + 1) q) in
    λ i. At (q i) (g i) ∷ h i

initialiser_same : (x : Initialiser) (at at' : ℕ) → at ≡ at' → old.written_initialiser at x ≡ new.initialiser_of at' x
initialiser_same (OneValue a) at at' p = let g = assignment_same a at at' p in λ i. s.OneValue (At (p i) (g i))
initialiser_same (ValueList a xs trailing) at at' p =
    let q = up at at' p in
    let g = assignment_same a (at + 1) (at' + 1) q in
    let h = further_values xs (assignment_end (at + 1) a) (token_behind (at' + 1) (assignment_symbols a))
    (next assignment_end a (assignment_symbols a) (assignment_placed a) (at + 1) (at' + 1) q) in
    λ i. s.ValueList (At (q i) (g i) ∷ h i)

value_same : (o : Option Initialiser) (at at' : ℕ) → at ≡ at' → old.written_value at o ≡ new.value_of at' o
value_same None at at' p = refl
value_same (Some x) at at' p = initialiser_same x (at + 1) (at' + 1) (up at at' p)

declarator_same : (d : Declarator) (at at' : ℕ) → at ≡ at' → old.written_declarator at d ≡ new.declarator_of at' d
declarator_same (Declared size value) at at' p =
    let q = up at at' p in
    let g = size_same size (at + 1) (at' + 1) q in
    let h = value_same value (size_end (at + 1) size) (token_behind (at' + 1) (size_symbols size))
    (next size_end size (size_symbols size) (size_placed size) (at + 1) (at' + 1) q) in
    λ i. record { name = p i; size = g i; value = h i }

further_same : (ds : List Declarator) (at at' : ℕ) → at ≡ at' → old.further_declarators at ds ≡ new.further declarator_symbols new.declarator_of at' ds
further_same [] at at' p = refl
further_same (d ∷ ds) at at' p =
    let q = up at at' p in
    let g = declarator_same d (at + 1) (at' + 1) q in
    let h = further_same ds (declarator_end (at + 1) d) (token_behind (at' + 1) (declarator_symbols d))
    (next declarator_end d (declarator_symbols d) (declarator_placed d) (at + 1) (at' + 1) q) in
    λ i. g i ∷ h i

pub declaration_same : (x : Local) (at at' : ℕ) → at ≡ at' → old.written_declaration at x ≡ new.declaration_of at' x
declaration_same (Locals constant n d ds) at at' p =
    let x = word_end at constant in
    let x' = token_behind at' (word_symbols c.Const constant) in
    let y = type_end x n in
    let y' = token_behind x' (type_symbols n) in
    let q = next word_end constant (word_symbols c.Const constant) (word_placed c.Const constant) at at' p in
    let r = next type_end n (type_symbols n) (type_placed n) x x' q in
    let f = type_same n x x' q in
    let g = declarator_same d y y' r in
    let h = further_same ds (declarator_end y d) (token_behind y' (declarator_symbols d))
    (next declarator_end d (declarator_symbols d) (declarator_placed d) y y' r) in
    λ i. record { constant = constant; words = f i; names = g i ∷ h i }

-- ---- statements

term_same : (e : Expression) (at at' : ℕ) → at ≡ at' → old.expression_term at e ≡ expression_term at' e
term_same e at at' p = let h = expression_same e at at' p in λ i. At (p i) (h i)

optional_same : (o : Option Expression) (at at' : ℕ) → at ≡ at' → old.optional_term at o ≡ new.optional_term at' o
optional_same None at at' p = refl
optional_same (Some e) at at' p = ap Some (term_same e at at' p)

label_same : (x : Label) (at at' : ℕ) → at ≡ at' → old.written_label at x ≡ new.label_of at' x
label_same NameLabel at at' p = λ i. s.Named (p i) (p i + 1 + 1)
label_same (CaseLabel d) at at' p =
    let q = up at at' p in
    let e = past conditional_end d (conditional_symbols d) (conditional_placed d) (at + 1) (at' + 1) q in
    let h = conditional_same d (at + 1) (at' + 1) q in
    λ i. s.Case (p i) (e i) (At (q i) (h i))
label_same DefaultLabel at at' p = λ i. s.Default (p i) (p i + 1 + 1)

start_same : (x : ForStart) (at at' : ℕ) → at ≡ at' → old.written_start at x ≡ new.start_of at' x
start_same (StartLocal x) at at' p = ap s.StartNames (declaration_same x at at' p)
start_same (StartValue None) at at' p = refl
start_same (StartValue (Some e)) at at' p = ap s.StartValue (term_same e at at' p)

labels_same : (t : Statement) (at at' : ℕ) → at ≡ at' → old.written_labels at t ≡ new.labels_of at' t
labels_same (Labelled x t) at at' p =
    let g = label_same x at at' p in
    let h = labels_same t (label_end at x) (token_behind at' (label_symbols x)) (next label_end x (label_symbols x) (label_placed x) at at' p) in
    λ i. g i ∷ h i
labels_same (Unlabelled x) at at' p = refl

pub two : (at at' : ℕ) → at ≡ at' → at + 1 + 1 ≡ at' + 1 + 1
two at at' p = up (at + 1) (at' + 1) (up at at' p)

-- an expression in brackets, and what stands behind it
tested_term : (e : Expression) (at at' : ℕ) → at ≡ at' → old.expression_term (at + 1 + 1) e ≡ expression_term (at' + 1 + 1) e
tested_term e at at' p = term_same e (at + 1 + 1) (at' + 1 + 1) (two at at' p)

tested : (k : Class) (e : Expression) (at at' : ℕ) → at ≡ at' → expression_end (at + 1 + 1) e + 1 ≡ token_behind at' (tested_symbols k e)
tested k e at at' p = next tested_end e (tested_symbols k e) (tested_placed k e) at at' p

pub block_same : (xs : Items) (at at' : ℕ) → at ≡ at' → old.written_items (at + 1) xs ≡ new.items_of (at' + 1) xs →
    old.written_block at xs ≡ new.block_of at' (Braces xs)
block_same xs at at' p h = let e = past items_end xs (items_symbols xs) (items_placed xs) (at + 1) (at' + 1) (up at at' p) in λ i. s.Braces (p i) (e i) (h i)

-- what a block holds
abbrev body_in : s.Statement → s.Body
body_in (s.Block b) = b
body_in _ = s.Braces 0 0 s.NoItem

-- a statement without labels, as the list of a construct
lone_same : (x : Plain) (at at' : ℕ) → at ≡ at' → old.written_plain at x ≡ new.plain_of at' x →
    old.written_body at (Unlabelled x) ≡ new.body_of at' (Unlabelled x)
lone_same (Compound (Braces xs)) at at' p h = ap body_in h
lone_same (Simple None) at at' p h = let e = next plain_end (Simple None) (plain_symbols (Simple None)) (plain_placed (Simple None)) at at' p in
    λ i. s.Lone (p i) (e i) (s.States [] (s.From (p i) (e i) (h i)))
lone_same (Simple (Some t)) at at' p h =
    let x = Simple (Some t) in let e = next plain_end x (plain_symbols x) (plain_placed x) at at' p in
    λ i. s.Lone (p i) (e i) (s.States [] (s.From (p i) (e i) (h i)))
lone_same x at at' p h = let e = next plain_end x (plain_symbols x) (plain_placed x) at at' p in
    λ i. s.Lone (p i) (e i) (s.States [] (s.From (p i) (e i) (h i)))

mutual
  pub items_same : (xs : Items) (at at' : ℕ) → at ≡ at' → old.written_items at xs ≡ new.items_of at' xs
  items_same NoItems at at' p = refl
  items_same (LocalItem x xs) at at' p =
      let e = next local_end x (local_symbols x) (local_placed x) at at' p in
      let g = declaration_same x at at' p in
      let h = items_same xs (local_end at x) (token_behind at' (local_symbols x)) e in
      λ i. s.Then (s.Declares (p i) (e i) (g i)) (h i)
  items_same (StatementItem t xs) at at' p =
      let e = next statement_end t (statement_symbols t) (statement_placed t) at at' p in
      let f = labels_same t at at' p in
      let g = statement_same t at at' p in
      let h = items_same xs (statement_end at t) (token_behind at' (statement_symbols t)) e in
      λ i. s.Then (s.States (f i) (g i)) (h i)

  statement_same : (t : Statement) (at at' : ℕ) → at ≡ at' → old.behind_labels at t ≡ new.statement_of at' t
  statement_same (Labelled x t) at at' p = statement_same t (label_end at x) (token_behind at' (label_symbols x))
      (next label_end x (label_symbols x) (label_placed x) at at' p)
  statement_same (Unlabelled x) at at' p =
      let e = next plain_end x (plain_symbols x) (plain_placed x) at at' p in
      let h = plain_same x at at' p in
      λ i. s.From (p i) (e i) (h i)

  body_same : (t : Statement) (at at' : ℕ) → at ≡ at' → old.written_body at t ≡ new.body_of at' t
  body_same (Labelled x t) at at' p =
      let y = label_end at x in
      let y' = token_behind at' (label_symbols x) in
      let d = next label_end x (label_symbols x) (label_placed x) at at' p in
      let e = next statement_end (Labelled x t) (statement_symbols (Labelled x t)) (statement_placed (Labelled x t)) at at' p in
      let f = label_same x at at' p in
      let g = labels_same t y y' d in
      let h = statement_same t y y' d in
      λ i. s.Lone (p i) (e i) (s.States (f i ∷ g i) (h i))
  body_same (Unlabelled x) at at' p = lone_same x at at' p (plain_same x at at' p)

  plain_same : (x : Plain) (at at' : ℕ) → at ≡ at' → old.written_plain at x ≡ new.plain_of at' x
  plain_same (Compound (Braces xs)) at at' p = ap s.Block (block_same xs at at' p (items_same xs (at + 1) (at' + 1) (up at at' p)))
  plain_same (Simple None) at at' p = refl
  plain_same (Simple (Some e)) at at' p = ap s.Evaluate (term_same e at at' p)
  plain_same (If e t) at at' p =
      let g = tested_term e at at' p in
      let h = body_same t (expression_end (at + 1 + 1) e + 1) (token_behind at' (tested_symbols c.If e)) (tested c.If e at at' p) in
      λ i. s.If (g i) (h i)
  plain_same (IfElse e t u) at at' p =
      let x = expression_end (at + 1 + 1) e + 1 in
      let x' = token_behind at' (tested_symbols c.If e) in
      let q = tested c.If e at at' p in
      let f = tested_term e at at' p in
      let g = body_same t x x' q in
      let h = body_same u (statement_end x t + 1) (token_behind x' (body_symbols t) + 1) (past statement_end t (body_symbols t) (body_placed t) x x' q) in
      λ i. s.IfElse (f i) (g i) (h i)
  plain_same (While e t) at at' p =
      let g = tested_term e at at' p in
      let h = body_same t (expression_end (at + 1 + 1) e + 1) (token_behind at' (tested_symbols c.While e)) (tested c.While e at at' p) in
      λ i. s.While (g i) (h i)
  plain_same (DoWhile t e) at at' p =
      let x = statement_end (at + 1) t + 1 in
      let x' = token_behind (at' + 1) (body_symbols t) + 1 in
      let q = past statement_end t (body_symbols t) (body_placed t) (at + 1) (at' + 1) (up at at' p) in
      let g = body_same t (at + 1) (at' + 1) (up at at' p) in
      let h = term_same e (x + 1) (x' + 1) (up x x' q) in
      λ i. s.DoWhile (g i) (h i)
  plain_same (For f t u b) at at' p =
      let x = for_start_end (at + 1 + 1) f in
      let x' = token_behind (at' + 1 + 1) (start_symbols f) in
      let y = optional_end x t + 1 in
      let y' = token_behind x' (optional_symbols t) + 1 in
      let o = two at at' p in
      let q = next for_start_end f (start_symbols f) (start_placed f) (at + 1 + 1) (at' + 1 + 1) o in
      let r = past optional_end t (optional_symbols t) (optional_placed t) x x' q in
      let d = start_same f (at + 1 + 1) (at' + 1 + 1) o in
      let e = optional_same t x x' q in
      let g = optional_same u y y' r in
      let h = body_same b (optional_end y u + 1) (token_behind y' (optional_symbols u) + 1)
      (past optional_end u (optional_symbols u) (optional_placed u) y y' r) in
      λ i. s.For (d i) (e i) (g i) (h i)
  plain_same (Switch e t) at at' p =
      let g = tested_term e at at' p in
      let h = body_same t (expression_end (at + 1 + 1) e + 1) (token_behind at' (tested_symbols c.Switch e)) (tested c.Switch e at at' p) in
      λ i. s.Switch (g i) (h i)
  plain_same Goto at at' p = λ i. s.Goto (p i + 1)
  plain_same Break at at' p = refl
  plain_same Continue at at' p = refl
  plain_same (Return o) at at' p = ap s.Return (optional_same o (at + 1) (at' + 1) (up at at' p))
