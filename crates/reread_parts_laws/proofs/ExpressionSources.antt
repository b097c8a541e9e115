-- The syntax of the derivation of an expression writes its source form.
use Rattle.std.proofs.Common.{◌≡◌, ◌+◌, ◌==◌, ℕ, suc, false, List, [], ◌∷◌, ◌++◌, length, map, refl, ap, ◌∙◌, arith}
use Rattle.std.proofs.lemmas.Bool.{ne_eqb, le-leb}
use Rattle.c_grammar.specs.declared.syntax.Syntax.{Syntax, fold-roll-Syntax}
use Rattle.c_grammar.specs.declared.syntax.Production.{Production}
use Rattle.c_grammar.specs.declared.syntax.Production.TheVariants as p
use Rattle.c_grammar.specs.Nodes.{node, leaf}
use Rattle.c_grammar.specs.Expressions.{Base, LongIntBase, NumberType, OfBase, SignedOf, UnsignedOf, Expression, One, More, Assignment, To, Value, Conditional, Choose, Only, Binary, Single, Both, Unary, Prefixed, StepTo, CastTo, CastVoid, Place, StepAfter, CallNone, CallWith, Number, Character, Within, Target, Variable, Cell, Round, Arguments, Last, Then, Argument, Given, Written, Texts, OneText, MoreTexts}
use Rattle.c_grammar.specs.ExpressionSyntax.{base_parts, type_end, type_parts, type_node, expression_end, assignment_end, conditional_end, binary_end, unary_end, target_end, arguments_end, argument_end, texts_end, expression_parts, assignment_node, conditional_node, binary_node, unary_parts, target_node, arguments_parts, argument_node, texts_parts, expression_node, unary_node}
use Rattle.c_grammar.specs.Parts.{Part, part_of, part_layer, content, form_in, form_by, term_in, terms_in, expression_form as of_expression, bracket_form, postfix_form}
use Rattle.c_grammar.specs.Terms.{Form, At, NoTerm}
use Rattle.c_grammar.specs.Terms as s
use Rattle.c_grammar.proofs.Layers.{form-content}
use Rattle.reread_parts_laws.specs.WrittenExpressions.{base_words, type_words, text_tokens, expression_form, expression_terms, assignment_form, conditional_form, binary_form, unary_form, target_form, arguments_terms, argument_form}

-- ---- nodes

pub part_node : (word : ℕ → List ℕ) (rule : Production) (first after : ℕ) (xs : List Syntax)
    → part_of word (node rule first after xs) ≡ part_layer word (record { rule = rule; first = first; after = after; parts = map (part_of word) xs })
unfolding part_of
part_node word rule first after xs = fold-roll-Syntax Part (part_layer word) (record { rule = rule; first = first; after = after; parts = xs })

-- the parts of a token
abbrev pub token : (ℕ → List ℕ) → ℕ → Part
token word at = part_of word (leaf at)

pub token_rule : (word : ℕ → List ℕ) (at : ℕ) → (token word at).rule ≡ p.Token
token_rule word at = ap (λ (q : Part). q.rule) (part_node word p.Token at (at + 1) [])

pub token_first : (word : ℕ → List ℕ) (at : ℕ) → (token word at).first ≡ at
token_first word at = ap (λ (q : Part). q.first) (part_node word p.Token at (at + 1) [])

-- what a node is known to be
pub record Writes (word : ℕ → List ℕ) (x : Syntax) (rule : Production) (first : ℕ) (form : Form) : Type 0 where
  pub ruled : (part_of word x).rule ≡ rule
  pub begins : (part_of word x).first ≡ first
  pub formed : form_in (part_of word x).content ≡ form

pub writes : (word : ℕ → List ℕ) (rule : Production) (first after : ℕ) (xs : List Syntax) (form : Form)
    → form_by rule (map (part_of word) xs) ≡ form → Writes word (node rule first after xs) rule first form
writes word rule first after xs form e =
    let n = part_node word rule first after xs in
    record {
      ruled = ap (λ (q : Part). q.rule) n;
      begins = ap (λ (q : Part). q.first) n;
      formed = ap (λ (q : Part). form_in q.content) n ∙ form-content word rule first after (map (part_of word) xs) ∙ e;
    }

pub term_is : (word : ℕ → List ℕ) (x : Syntax) (rule : Production) (first : ℕ) (form : Form) → Writes word x rule first form →
    term_in (part_of word x) ≡ At first form
term_is word x rule first form w = λ i. At (w.begins i) (w.formed i)

-- ---- more than one assignment, and calls

pub not_one : (n : ℕ) → (suc (suc n) == 1) ≡ false
not_one n = ne_eqb (suc (suc n)) 1 (λ e. omega (arith, e))

not_two : (n : ℕ) → (suc (suc (suc n)) == 2) ≡ false
not_two n = ne_eqb (suc (suc (suc n))) 2 (λ e. omega (arith, e))

of_commas : (x : Part) (y : Part) (zs : List Part) → of_expression (x ∷ y ∷ zs) ≡ s.Commas (term_in x) (terms_in (y ∷ zs))
of_commas x y zs = rw (not_one (length zs), le-leb 2 (suc (suc (length zs))) (omega arith)) refl

of_brackets : (x y z : Part) (zs : List Part) → postfix_form (x ∷ y ∷ z ∷ zs) ≡ bracket_form (x ∷ y ∷ z ∷ zs)
of_brackets x y z zs = rw (not_one (suc (length zs)), not_two (length zs), le-leb 3 (suc (suc (suc (length zs)))) (omega arith)) refl

-- ---- each production

module _ (word : ℕ → List ℕ) where
  abbrev q : Syntax → Part
  q x = part_of word x

  firsts : List Syntax → List ℕ
  firsts xs = map (λ (r : Part). r.first) (map q xs)

  base_firsts : (at : ℕ) (b : Base) → map (λ (r : Part). r.first) (map q (base_parts at b)) ≡ base_words at b
  base_firsts at LongIntBase = λ i. token_first word at i ∷ token_first word (at + 1) i ∷ []
  base_firsts at _ = λ i. token_first word at i ∷ []

  type_firsts : (at : ℕ) (n : NumberType) → map (λ (r : Part). r.first) (map q (type_parts at n)) ≡ type_words at n
  type_firsts at (OfBase b) = base_firsts at b
  type_firsts at (SignedOf b) = λ i. token_first word at i ∷ base_firsts (at + 1) b i
  type_firsts at (UnsignedOf b) = λ i. token_first word at i ∷ base_firsts (at + 1) b i
  type_firsts at _ = λ i. token_first word at i ∷ []

  -- the words of a type
  pub type_writes : (at : ℕ) (n : NumberType) → (q (type_node at n)).firsts ≡ type_words at n
  type_writes at n = ap (λ (r : Part). r.firsts) (part_node word p.NumberType at (type_end at n) (type_parts at n)) ∙ type_firsts at n

  pub type_rule : (at : ℕ) (n : NumberType) → (q (type_node at n)).rule ≡ p.NumberType
  type_rule at n = ap (λ (r : Part). r.rule) (part_node word p.NumberType at (type_end at n) (type_parts at n))

  texts_firsts : (at : ℕ) (n : Texts) → map (λ (r : Part). r.first) (map q (texts_parts at n)) ≡ text_tokens at n
  texts_firsts at OneText = λ i. token_first word at i ∷ []
  texts_firsts at (MoreTexts n) = λ i. token_first word at i ∷ texts_firsts (at + 1) n i

  -- a token among terms is none
  past_token : (at : ℕ) (ps : List Part) → terms_in (token word at ∷ ps) ≡ terms_in ps
  past_token at ps = rw (token_rule word at) refl

  whole_expression : (at : ℕ) (e : Expression) → of_expression (map q (expression_parts at e)) ≡ expression_form at e →
      Writes word (expression_node at e) p.Expression at (expression_form at e)
  whole_expression at e h = writes word p.Expression at (expression_end at e) (expression_parts at e) (expression_form at e) h

  whole_unary : (at : ℕ) (u : Unary) → form_by p.Unary (map q (unary_parts at u)) ≡ unary_form at u → Writes word (unary_node at u) p.Unary at (unary_form at u)
  whole_unary at u h = writes word p.Unary at (unary_end at u) (unary_parts at u) (unary_form at u) h

  called : (at : ℕ) (y : Part) (ys : List Part) → postfix_form (token word at ∷ token word (at + 1) ∷ y ∷ ys) ≡ s.Call at (terms_in (y ∷ ys))
  called at y ys = of_brackets (token word at) (token word (at + 1)) y ys ∙
      rw (token_rule word (at + 1)) (λ i. s.Call (token_first word at i) (terms_in (y ∷ ys)))

  call_writes : (at : ℕ) (xs : Arguments) (x : ℕ) → postfix_form
      (map q (leaf at ∷ leaf (at + 1) ∷ arguments_parts (at + 1 + 1) xs ++ leaf x ∷ [])) ≡ s.Call at
      (terms_in (map q (arguments_parts (at + 1 + 1) xs ++ leaf x ∷ [])))
  call_writes at (Last y) x = called at (q (argument_node (at + 1 + 1) y)) (token word x ∷ [])
  call_writes at (Then y ys) x = called at (q (argument_node (at + 1 + 1) y))
      (map q (leaf (argument_end (at + 1 + 1) y) ∷ arguments_parts (argument_end (at + 1 + 1) y + 1) ys ++ leaf x ∷ []))

  texts_write : (at : ℕ) (n : Texts) → form_by p.Argument (map q (texts_parts at n)) ≡ s.Texts (text_tokens at n)
  texts_write at OneText = rw (token_rule word at) (ap s.Texts (texts_firsts at OneText))
  texts_write at (MoreTexts n) = rw (token_rule word at) (ap s.Texts (texts_firsts at (MoreTexts n)))

  mutual
    pub parts_write : (at : ℕ) (e : Expression) → of_expression (map q (expression_parts at e)) ≡ expression_form at e
    parts_write at (One a) = (assignment_writes at a).formed
    parts_write at (More a e) =
        let x = assignment_end at a in
        of_commas (q (assignment_node at a)) (token word x) (map q (expression_parts (x + 1) e))
        ∙ (λ i. s.Commas (term_is word (assignment_node at a) p.Assignment at (assignment_form at a) (assignment_writes at a) i)
        ((past_token x (map q (expression_parts (x + 1) e)) ∙ terms_write (x + 1) e) i))

    terms_write : (at : ℕ) (e : Expression) → terms_in (map q (expression_parts at e)) ≡ expression_terms at e
    terms_write at (One a) =
        let w = assignment_writes at a in
        rw (w.ruled) (λ i. s.Then (term_is word (assignment_node at a) p.Assignment at (assignment_form at a) w i) NoTerm)
    terms_write at (More a e) =
        let x = assignment_end at a in
        let w = assignment_writes at a in
        rw (w.ruled) (λ i. s.Then (term_is word (assignment_node at a) p.Assignment at (assignment_form at a) w i)
        ((past_token x (map q (expression_parts (x + 1) e)) ∙ terms_write (x + 1) e) i))

    pub assignment_writes : (at : ℕ) (a : Assignment) → Writes word (assignment_node at a) p.Assignment at (assignment_form at a)
    assignment_writes at (To t m a) =
        let x = target_end at t in
        let v = target_writes at t in
        let w = assignment_writes (x + 1) a in
        writes word p.Assignment at (assignment_end (x + 1) a) (target_node at t ∷ leaf x ∷ assignment_node (x + 1) a ∷ []) (assignment_form at (To t m a))
        (λ i. s.Assign (token_first word x i) (At (v.begins i) (v.formed i)) (At (w.begins i) (w.formed i)))
    assignment_writes at (Value d) = writes word p.Assignment at (conditional_end at d) (conditional_node at d ∷ []) (assignment_form at (Value d))
        (conditional_writes at d).formed

    pub conditional_writes : (at : ℕ) (d : Conditional) → Writes word (conditional_node at d) p.Conditional at (conditional_form at d)
    conditional_writes at (Choose b e d) =
        let x = binary_end at b in
        let y = expression_end (x + 1) e in
        let u = binary_writes at b in
        let v = whole_expression (x + 1) e (parts_write (x + 1) e) in
        let w = conditional_writes (y + 1) d in
        writes word p.Conditional at (conditional_end (y + 1) d)
        (binary_node at b ∷ leaf x ∷ expression_node (x + 1) e ∷ leaf y ∷ conditional_node (y + 1) d ∷ []) (conditional_form at (Choose b e d))
        (λ i. s.Choice (At (u.begins i) (u.formed i)) (At (v.begins i) (v.formed i)) (At (w.begins i) (w.formed i)))
    conditional_writes at (Only b) = writes word p.Conditional at (binary_end at b) (binary_node at b ∷ []) (conditional_form at (Only b))
        (binary_writes at b).formed

    binary_writes : (at : ℕ) (b : Binary) → Writes word (binary_node at b) p.Binary at (binary_form at b)
    binary_writes at (Single u) = writes word p.Binary at (unary_end at u) (unary_node at u ∷ []) (binary_form at (Single u))
        (whole_unary at u (unary_parts_write at u)).formed
    binary_writes at (Both a m b) =
        let x = binary_end at a in
        let v = binary_writes at a in
        let w = binary_writes (x + 1) b in
        writes word p.Binary at (binary_end (x + 1) b) (binary_node at a ∷ leaf x ∷ binary_node (x + 1) b ∷ []) (binary_form at (Both a m b))
        (λ i. s.Binary (token_first word x i) (At (v.begins i) (v.formed i)) (At (w.begins i) (w.formed i)))

    unary_parts_write : (at : ℕ) (u : Unary) → form_by p.Unary (map q (unary_parts at u)) ≡ unary_form at u
    unary_parts_write at (Prefixed m u) = let w = whole_unary (at + 1) u (unary_parts_write (at + 1) u) in
        λ i. s.Prefix (token_first word at i) (At (w.begins i) (w.formed i))
    unary_parts_write at (StepTo t) = let w = target_writes (at + 1) t in λ i. s.Prefix (token_first word at i) (At (w.begins i) (w.formed i))
    unary_parts_write at (CastTo n u) =
        let x = type_end (at + 1) n in
        let w = whole_unary (x + 1) u (unary_parts_write (x + 1) u) in
        rw (type_rule (at + 1) n) (λ i. s.CastTo (type_writes (at + 1) n i) (At (w.begins i) (w.formed i)))
    unary_parts_write at (CastVoid u) =
        let w = whole_unary (at + 1 + 1 + 1) u (unary_parts_write (at + 1 + 1 + 1) u) in
        rw (token_rule word (at + 1)) (λ i. s.CastVoid (At (w.begins i) (w.formed i)))
    unary_parts_write at (Place t) =
        let w = target_writes at t in
        (writes word p.Postfix at (target_end at t) (target_node at t ∷ []) (target_form at t) (rw (w.ruled) w.formed)).formed
    unary_parts_write at (StepAfter t) =
        let x = target_end at t in
        let w = target_writes at t in
        (writes word p.Postfix at (x + 1) (target_node at t ∷ leaf x ∷ []) (unary_form at (StepAfter t))
        (λ i. s.Suffix (token_first word x i) (At (w.begins i) (w.formed i)))).formed
    unary_parts_write at CallNone =
        (writes word p.Postfix at (at + 1 + 1 + 1) (leaf at ∷ leaf (at + 1) ∷ leaf (at + 1 + 1) ∷ []) (unary_form at CallNone)
        (rw (token_rule word (at + 1)) (λ i. s.Call (token_first word at i) (past_token (at + 1 + 1) [] i)))).formed
    unary_parts_write at (CallWith xs) =
        let x = arguments_end (at + 1 + 1) xs in
        (writes word p.Postfix at (x + 1) (leaf at ∷ leaf (at + 1) ∷ arguments_parts (at + 1 + 1) xs ++ leaf x ∷ []) (unary_form at (CallWith xs))
        (call_writes at xs x ∙ ap (s.Call at) (arguments_write (at + 1 + 1) xs x))).formed
    unary_parts_write at Number = (writes word p.Postfix at (at + 1) (leaf at ∷ []) (s.Constant at)
        (rw (token_rule word at) (λ i. s.Constant (token_first word at i)))).formed
    unary_parts_write at Character = (writes word p.Postfix at (at + 1) (leaf at ∷ []) (s.Constant at)
        (rw (token_rule word at) (λ i. s.Constant (token_first word at i)))).formed
    unary_parts_write at (Within e) =
        let x = expression_end (at + 1) e in
        let w = whole_expression (at + 1) e (parts_write (at + 1) e) in
        (writes word p.Postfix at (x + 1) (leaf at ∷ expression_node (at + 1) e ∷ leaf x ∷ []) (unary_form at (Within e)) (rw (w.ruled) w.formed)).formed

    arguments_write : (at : ℕ) (xs : Arguments) (x : ℕ) → terms_in (map q (arguments_parts at xs ++ leaf x ∷ [])) ≡ arguments_terms at xs
    arguments_write at (Last y) x =
        let w = argument_writes at y in
        rw (w.ruled) (λ i. s.Then (At (w.begins i) (w.formed i)) (past_token x [] i))
    arguments_write at (Then y ys) x =
        let z = argument_end at y in
        let w = argument_writes at y in
        rw (w.ruled) (λ i. s.Then (At (w.begins i) (w.formed i))
        ((past_token z (map q (arguments_parts (z + 1) ys ++ leaf x ∷ [])) ∙ arguments_write (z + 1) ys x) i))

    argument_writes : (at : ℕ) (x : Argument) → Writes word (argument_node at x) p.Argument at (argument_form at x)
    argument_writes at (Given a) =
        let w = assignment_writes at a in
        writes word p.Argument at (assignment_end at a) (assignment_node at a ∷ []) (assignment_form at a) (rw (w.ruled) w.formed)
    argument_writes at (Written n) = writes word p.Argument at (texts_end at n) (texts_parts at n) (s.Texts (text_tokens at n)) (texts_write at n)

    target_writes : (at : ℕ) (t : Target) → Writes word (target_node at t) p.Target at (target_form at t)
    target_writes at Variable = writes word p.Target at (at + 1) (leaf at ∷ []) (s.Variable at) (λ i. s.Variable (token_first word at i))
    target_writes at (Cell e) =
        let x = expression_end (at + 1 + 1) e in
        let w = whole_expression (at + 1 + 1) e (parts_write (at + 1 + 1) e) in
        writes word p.Target at (x + 1) (leaf at ∷ leaf (at + 1) ∷ expression_node (at + 1 + 1) e ∷ leaf x ∷ []) (target_form at (Cell e))
        (λ i. s.Cell (token_first word at i) (At (w.begins i) (w.formed i)))
    target_writes at (Round t) =
        let x = target_end (at + 1) t in
        writes word p.Target at (x + 1) (leaf at ∷ target_node (at + 1) t ∷ leaf x ∷ []) (target_form (at + 1) t) (target_writes (at + 1) t).formed

  pub expression_writes : (at : ℕ) (e : Expression) → Writes word (expression_node at e) p.Expression at (expression_form at e)
  expression_writes at e = whole_expression at e (parts_write at e)
