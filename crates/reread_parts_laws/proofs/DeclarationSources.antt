-- The syntax of the derivation of a declaration writes the declaration.
use Rattle.std.proofs.Common.{◌≡◌, ◌+◌, ℕ, suc, Bool, true, false, cond, List, [], ◌∷◌, ◌++◌, length, map, Option, Some, None, ap, ◌∙◌, arith}
use Rattle.std.proofs.lemmas.Bool.{le-leb}
use Rattle.c_grammar.specs.declared.syntax.Syntax.{Syntax}
use Rattle.c_grammar.specs.declared.syntax.Production.{Production}
use Rattle.c_grammar.specs.declared.syntax.Production.TheVariants as p
use Rattle.c_grammar.specs.Nodes.{node, leaf}
use Rattle.c_grammar.specs.Expressions.{Expression, Assignment, NumberType}
use Rattle.c_grammar.specs.ExpressionSyntax.{type_end, type_node, expression_node, assignment_end, assignment_node, conditional_end, conditional_node}
use Rattle.c_grammar.specs.Statements.{Size, NoSize, Unsized, Sized, Initialiser, OneValue, ValueList, Declarator, Declared, Local, Locals}
use Rattle.c_grammar.specs.StatementSyntax.{word_end, more_end, size_end, initialiser_end, value_end, declarator_end, local_end, word_parts, more_parts, rest_parts, size_parts, initialiser_parts, initialiser_node, value_parts, declarator_node, local_node}
use Rattle.c_grammar.specs.Parts.{Part, Content, Leaf, OfType, OfInitialiser, OfDeclarator, OfLocal, part_of, content, at, term_in, term_list, is_token, gathered, initialiser, initialiser_in, declarator, declarator_in, declaration}
use Rattle.c_grammar.specs.Terms.{At}
use Rattle.c_grammar.specs.Items as s
use Rattle.reread_parts_laws.specs.WrittenExpressions.{expression_form, assignment_form, conditional_form}
use Rattle.reread_parts_laws.specs.WrittenStatements.{further_terms, written_initialiser, written_declarator, further_declarators, written_declaration}
use Rattle.reread_parts_laws.proofs.ExpressionSources.{part_node, token, token_rule, token_first, term_is, expression_writes, assignment_writes, conditional_writes, type_writes, type_rule, not_one}

-- what a node is known to be
pub record Known (word : ℕ → List ℕ) (x : Syntax) (rule : Production) (first after : ℕ) (c : Content) : Type 0 where
  pub ruled : (part_of word x).rule ≡ rule
  pub begins : (part_of word x).first ≡ first
  pub ends : (part_of word x).after ≡ after
  pub holds : (part_of word x).content ≡ c

pub known : (word : ℕ → List ℕ) (rule : Production) (first after : ℕ) (xs : List Syntax) (c : Content) →
    content word rule first after (map (part_of word) xs) ≡ c → Known word (node rule first after xs) rule first after c
known word rule first after xs c e =
    let n = part_node word rule first after xs in
    record {
      ruled = ap (λ (q : Part). q.rule) n;
      begins = ap (λ (q : Part). q.first) n;
      ends = ap (λ (q : Part). q.after) n;
      holds = ap (λ (q : Part). q.content) n ∙ e;
    }

pub token_content : (word : ℕ → List ℕ) (at : ℕ) → (token word at).content ≡ Leaf
token_content word at = ap (λ (q : Part). q.content) (part_node word p.Token at (at + 1) [])

-- ---- what each part has of a sort

pub gathered_none : {X : Type 0} (pick : Content → Option X) (q : Part) (qs : List Part) → pick q.content ≡ None → gathered pick (q ∷ qs) ≡ gathered pick qs
gathered_none {X} pick q qs e = λ i. elim (e i) as (λ _. List X) [ Some x ↦ x ∷ gathered pick qs | None ↦ gathered pick qs ]

pub gathered_some : {X : Type 0} (pick : Content → Option X) (q : Part) (qs : List Part) (x : X) → pick q.content ≡ Some x →
    gathered pick (q ∷ qs) ≡ x ∷ gathered pick qs
gathered_some {X} pick q qs x e = λ i. elim (e i) as (λ _. List X) [ Some y ↦ y ∷ gathered pick qs | None ↦ gathered pick qs ]

module _ (word : ℕ → List ℕ) where
  abbrev pub q : Syntax → Part
  q x = part_of word x

  pub expression_term_is : (at : ℕ) (e : Expression) → term_in (q (expression_node at e)) ≡ At at (expression_form at e)
  expression_term_is at e = term_is word (expression_node at e) p.Expression at (expression_form at e) (expression_writes word at e)

  pub assignment_term_is : (at : ℕ) (a : Assignment) → term_in (q (assignment_node at a)) ≡ At at (assignment_form at a)
  assignment_term_is at a = term_is word (assignment_node at a) p.Assignment at (assignment_form at a) (assignment_writes word at a)

  -- ---- initialisers

  past_token : (at : ℕ) (ps : List Part) → term_list (token word at ∷ ps) ≡ term_list ps
  past_token at ps = λ i. cond (is_token (token_rule word at i)) (term_list ps) (term_in (token word at) ∷ term_list ps)

  one_term : (at : ℕ) (a : Assignment) (ps : List Part) → term_list (q (assignment_node at a) ∷ ps) ≡ At at (assignment_form at a) ∷ term_list ps
  one_term at a ps = (λ i. cond (is_token ((assignment_writes word at a).ruled i)) (term_list ps)
      (term_in (q (assignment_node at a)) ∷ term_list ps)) ∙ (λ i. assignment_term_is at a i ∷ term_list ps)

  rest_terms : (xs : List Assignment) (at : ℕ) (trailing : Bool) → term_list
      (map q (rest_parts assignment_end assignment_node at xs trailing)) ≡ further_terms at xs
  rest_terms [] at true = past_token at (token word (at + 1) ∷ []) ∙ past_token (at + 1) []
  rest_terms [] at false = past_token at []
  rest_terms (a ∷ xs) at trailing =
      let y = assignment_end (at + 1) a in
      past_token at (q (assignment_node (at + 1) a) ∷ map q (rest_parts assignment_end assignment_node y xs trailing))
      ∙ one_term (at + 1) a (map q (rest_parts assignment_end assignment_node y xs trailing))
      ∙ ap (λ l. At (at + 1) (assignment_form (at + 1) a) ∷ l) (rest_terms xs y trailing)

  listed : (x y : Part) (zs : List Part) → initialiser (x ∷ y ∷ zs) ≡ s.ValueList (term_list (x ∷ y ∷ zs))
  listed x y zs = λ i. cond (not_one (length zs) i) (s.OneValue (term_in x)) (s.ValueList (term_list (x ∷ y ∷ zs)))

  initialiser_is : (at : ℕ) (i : Initialiser) → initialiser (map q (initialiser_parts at i)) ≡ written_initialiser at i
  initialiser_is at (OneValue a) = ap s.OneValue (assignment_term_is at a)
  initialiser_is at (ValueList a xs trailing) =
      let y = assignment_end (at + 1) a in
      let rest = map q (rest_parts assignment_end assignment_node y xs trailing) in
      listed (token word at) (q (assignment_node (at + 1) a)) rest
      ∙ ap s.ValueList (past_token at (q (assignment_node (at + 1) a) ∷ rest) ∙ one_term (at + 1) a rest ∙
      ap (λ l. At (at + 1) (assignment_form (at + 1) a) ∷ l) (rest_terms xs y trailing))

  initialiser_known : (at : ℕ) (i : Initialiser) → Known word (initialiser_node at i) p.Initialiser at (initialiser_end at i)
      (OfInitialiser (written_initialiser at i))
  initialiser_known at i = known word p.Initialiser at (initialiser_end at i) (initialiser_parts at i) (OfInitialiser (written_initialiser at i))
      (ap OfInitialiser (initialiser_is at i))

  -- ---- declarators

  pub conditional_term_is : (at : ℕ) (d : _) → term_in (q (conditional_node at d)) ≡ At at (conditional_form at d)
  conditional_term_is at d = term_is word (conditional_node at d) p.Conditional at (conditional_form at d) (conditional_writes word at d)

  abbrev a_declarator : ℕ → s.Size → s.Initialiser → s.Declarator
  a_declarator name size value = record { name = name; size = size; value = value }

  declarator_is : (at : ℕ) (size : Size) (value : Option Initialiser) →
      declarator (map q (leaf at ∷ size_parts (at + 1) size ++ value_parts (size_end (at + 1) size) value)) ≡ written_declarator at (Declared size value)
  declarator_is at NoSize None = λ i. a_declarator (token_first word at i) s.NoSize s.NoValue
  declarator_is at NoSize (Some v) =
      let k = initialiser_known (at + 1 + 1) v in
      (λ i. cond (is_token (k.ruled i)) (a_declarator (token word at).first s.Unsized s.NoValue)
      (a_declarator (token_first word at i) s.NoSize (initialiser_in (k.holds i))))
  declarator_is at Unsized None = λ i. cond (is_token (token_rule word (at + 1 + 1) i)) (a_declarator (token_first word at i) s.Unsized s.NoValue)
      (a_declarator (token word at).first s.NoSize (initialiser_in (token word (at + 1 + 1)).content))
  declarator_is at Unsized (Some v) = let k = initialiser_known (at + 1 + 1 + 1 + 1) v in
      λ i. a_declarator (token_first word at i) s.Unsized (initialiser_in (k.holds i))
  declarator_is at (Sized d) None = λ i. a_declarator (token_first word at i) (s.Sized (conditional_term_is (at + 1 + 1) d i)) s.NoValue
  declarator_is at (Sized d) (Some v) =
      let k = initialiser_known (conditional_end (at + 1 + 1) d + 1 + 1) v in
      λ i. a_declarator (token_first word at i) (s.Sized (conditional_term_is (at + 1 + 1) d i)) (initialiser_in (k.holds i))

  declarator_known : (at : ℕ) (d : Declarator) → Known word (declarator_node at d) p.Declarator at (declarator_end at d)
      (OfDeclarator (written_declarator at d))
  declarator_known at (Declared size value) =
      let x = size_end (at + 1) size in
      known word p.Declarator at (value_end x value) (leaf at ∷ size_parts (at + 1) size ++ value_parts x value)
      (OfDeclarator (written_declarator at (Declared size value))) (ap OfDeclarator (declarator_is at size value))

  -- ---- declarations

  no_token : (at : ℕ) (ps : List Part) → gathered declarator_in (token word at ∷ ps) ≡ gathered declarator_in ps
  no_token at ps = gathered_none declarator_in (token word at) ps (ap declarator_in (token_content word at))

  one_declarator : (at : ℕ) (d : Declarator) (ps : List Part) → gathered declarator_in (q (declarator_node at d) ∷ ps) ≡ written_declarator at
      d ∷ gathered declarator_in ps
  one_declarator at d ps = gathered_some declarator_in (q (declarator_node at d)) ps (written_declarator at d)
      (ap declarator_in ((declarator_known at d).holds))

  more_declarators : (ds : List Declarator) (at : ℕ) (x : ℕ) → gathered declarator_in
      (map q (more_parts declarator_end declarator_node at ds ++ leaf x ∷ [])) ≡ further_declarators at ds
  more_declarators [] at x = no_token x []
  more_declarators (d ∷ ds) at x =
      let y = declarator_end (at + 1) d in
      let rest = map q (more_parts declarator_end declarator_node y ds ++ leaf x ∷ []) in
      no_token at (q (declarator_node (at + 1) d) ∷ rest) ∙ one_declarator (at + 1) d rest ∙
      ap (λ l. written_declarator (at + 1) d ∷ l) (more_declarators ds y x)

  type_content : (at : ℕ) (n : NumberType) → (q (type_node at n)).content ≡ OfType
  type_content at n = ap (λ (r : Part). r.content) (part_node word p.NumberType at (type_end at n) _)

  names_are : (at : ℕ) (n : NumberType) (d : Declarator) (ds : List Declarator) (x : ℕ) → let y = type_end at n in
      gathered declarator_in (map q (type_node at n ∷ declarator_node y d ∷ more_parts declarator_end declarator_node (declarator_end y d) ds ++
      leaf x ∷ [])) ≡ written_declarator y d ∷ further_declarators (declarator_end y d) ds
  names_are at n d ds x =
      let y = type_end at n in
      let rest = map q (more_parts declarator_end declarator_node (declarator_end y d) ds ++ leaf x ∷ []) in
      gathered_none declarator_in (q (type_node at n)) (q (declarator_node y d) ∷ rest) (ap declarator_in (type_content at n))
      ∙ one_declarator y d rest ∙ ap (λ l. written_declarator y d ∷ l) (more_declarators ds (declarator_end y d) x)

  abbrev a_declaration : Bool → List ℕ → List s.Declarator → s.Declaration
  a_declaration constant words names = record { constant = constant; words = words; names = names }

  -- of two parts and more
  of_parts : (x y : Part) (zs : List Part) (constant : Bool) → is_token x.rule ≡ constant →
      declaration (x ∷ y ∷ zs) ≡ a_declaration constant (at (x ∷ y ∷ zs) (cond constant 1 0)).firsts (gathered declarator_in (x ∷ y ∷ zs))
  of_parts x y zs constant e =
      (λ i. cond (le-leb 2 (suc (suc (length zs))) (omega arith) i)
      (a_declaration (e i) (at (x ∷ y ∷ zs) (cond (e i) 1 0)).firsts (gathered declarator_in (x ∷ y ∷ zs))) (a_declaration false [] []))

  declaration_is : (at : ℕ) (constant : Bool) (n : NumberType) (d : Declarator) (ds : List Declarator) → let x = word_end at constant in let y =
      type_end x n in
      let z = more_end declarator_end (declarator_end y d) ds in
      declaration (map q (word_parts at constant ++ type_node x n ∷ declarator_node y d ∷ more_parts declarator_end declarator_node
      (declarator_end y d) ds ++ leaf z ∷ [])) ≡ written_declaration at (Locals constant n d ds)
  declaration_is at true n d ds =
      let x = at + 1 in
      let y = type_end x n in
      let z = more_end declarator_end (declarator_end y d) ds in
      let rest = map q (declarator_node y d ∷ more_parts declarator_end declarator_node (declarator_end y d) ds ++ leaf z ∷ []) in
      of_parts (token word at) (q (type_node x n)) rest true (ap is_token (token_rule word at))
      ∙ (λ i. a_declaration true (type_writes word x n i) ((no_token at (q (type_node x n) ∷ rest) ∙ names_are x n d ds z) i))
  declaration_is at false n d ds =
      let y = type_end at n in
      let z = more_end declarator_end (declarator_end y d) ds in
      let rest = map q (more_parts declarator_end declarator_node (declarator_end y d) ds ++ leaf z ∷ []) in
      of_parts (q (type_node at n)) (q (declarator_node y d)) rest false (ap is_token (type_rule word at n))
      ∙ (λ i. a_declaration false (type_writes word at n i) (names_are at n d ds z i))

  pub local_known : (at : ℕ) (x : Local) → Known word (local_node at x) p.Local at (local_end at x) (OfLocal (written_declaration at x))
  local_known at (Locals constant n d ds) =
      let x = word_end at constant in
      let y = type_end x n in
      let z = more_end declarator_end (declarator_end y d) ds in
      known word p.Local at (z + 1) (word_parts at constant ++ type_node x n ∷ declarator_node y d ∷ more_parts declarator_end declarator_node
      (declarator_end y d) ds ++ leaf z ∷ []) (OfLocal (written_declaration at (Locals constant n d ds)))
      (ap OfLocal (declaration_is at constant n d ds))
