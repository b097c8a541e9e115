-- The syntax of the derivation of a function writes the function.
use Rattle.std.proofs.Common.{◌≡◌, ◌+◌, ℕ, Bool, true, false, cond, List, [], ◌∷◌, ◌++◌, map, drop, Option, Some, None, refl, ap, ◌∙◌}
use Rattle.c_grammar.specs.declared.syntax.Syntax.{Syntax}
use Rattle.c_grammar.specs.declared.syntax.Production.TheVariants as p
use Rattle.c_grammar.specs.Nodes.{leaf}
use Rattle.c_grammar.specs.Expressions.{NumberType}
use Rattle.c_grammar.specs.ExpressionSyntax.{type_end, type_node, conditional_node}
use Rattle.c_grammar.specs.Statements.{Size, NoSize, Unsized, Sized, Block, Braces}
use Rattle.c_grammar.specs.StatementSyntax.{word_end, size_end, word_parts, size_parts, more_parts}
use Rattle.c_grammar.specs.Files.{Parameter, Typed, Parameters, NoParameters, VoidParameters, SomeParameters, Function, Defined}
use Rattle.c_grammar.specs.FileSyntax.{parameter_end, parameters_end, result_end, function_end, parameter_node, parameters_parts, parameters_node, result_node, body_node, function_node}
use Rattle.c_grammar.specs.Parts.{Part, Content, Leaf, OfType, OfBlock, OfParameter, OfParameters, OfTop, part_of, content, at, first_at, is_token, token_at, gathered, greatest, term_at, parameter, parameter_name, parameter_size, parameter_in, parameters_in, block_in, function, function_of}
use Rattle.c_grammar.specs.Parts as parts
use Rattle.c_grammar.specs.Items as s
use Rattle.c_grammar.specs.Tops as tops
use Rattle.reread_parts_laws.specs.WrittenStatements.{written_size}
use Rattle.reread_parts_laws.specs.WrittenFunctions.{named_at, written_parameter, further_parameters, written_parameters, result_words, written_function_body, function_parts, written_function}
use Rattle.reread_parts_laws.specs.Keywords.{BodyHasKeywords, FunctionHasKeywords}
use Rattle.reread_parts_laws.proofs.ExpressionSources.{token, token_rule, token_first, type_writes, type_rule, conditional_writes}
use Rattle.reread_parts_laws.proofs.DeclarationSources.{Known, known, token_content, gathered_none, gathered_some, q, conditional_term_is}
use Rattle.reread_parts_laws.proofs.StatementSources.{block_writes}

module _ (word : ℕ → List ℕ) where
  abbrev r : List Syntax → List Part
  r xs = map (part_of word) xs

  -- ---- parameters

  name_is : (y : ℕ) (named : Bool) (size : Size) → parameter_name (r (word_parts y named ++ size_parts (word_end y named) size)) ≡ named_at y named
  name_is y true NoSize = ap Some (token_first word y)
  name_is y true Unsized = λ i. cond (is_token (token_rule word (y + 1) i)) (Some (token_first word y i)) None
  name_is y true (Sized d) = ap Some (token_first word y)
  name_is y false NoSize = refl
  name_is y false Unsized = refl
  name_is y false (Sized d) = λ i. cond (is_token ((conditional_writes word (y + 1) d).ruled i)) (Some (token word y).first) None

  size_is : (y : ℕ) (named : Bool) (size : Size) → parameter_size (r (word_parts y named ++ size_parts (word_end y named) size)) ≡ written_size
      (word_end y named) size
  size_is y true NoSize = refl
  size_is y true Unsized = λ i. cond (is_token (token_rule word (y + 1) i)) s.Unsized (s.Sized (term_at (r (leaf y ∷ leaf (y + 1) ∷ leaf (y + 1 + 1) ∷ [])) 1))
  size_is y true (Sized d) = ap s.Sized (conditional_term_is word (y + 1 + 1) d)
  size_is y false NoSize = refl
  size_is y false Unsized = refl
  size_is y false (Sized d) = (λ i. cond (is_token ((conditional_writes word (y + 1) d).ruled i)) s.Unsized
      (s.Sized (term_at (r (leaf y ∷ conditional_node (y + 1) d ∷ [])) 1))) ∙ ap s.Sized (conditional_term_is word (y + 1) d)

  abbrev a_parameter : ℕ → Bool → List ℕ → Option ℕ → s.Size → tops.Parameter
  a_parameter first constant words name size = record { first = first; constant = constant; words = words; name = name; size = size }

  parameter_is : (n : ℕ) (constant : Bool) (t : NumberType) (named : Bool) (size : Size) → let x = word_end n constant in let y = type_end x t in
      let z = word_end y named in
      parameter n (r (word_parts n constant ++ type_node x t ∷ word_parts y named ++ size_parts z size)) ≡ written_parameter n (Typed constant t named size)
  parameter_is n true t named size =
      let x = n + 1 in
      let y = type_end x t in
      let rest = word_parts y named ++ size_parts (word_end y named) size in
      let ps = r (leaf n ∷ type_node x t ∷ rest) in
      (λ i. let b = is_token (token_rule word n i) in a_parameter n b (at ps (cond b 1 0)).firsts (parameter_name (drop (cond b 2 1) ps))
      (parameter_size (drop (cond b 2 1) ps)))
      ∙ (λ i. a_parameter n true (type_writes word x t i) (name_is y named size i) (size_is y named size i))
  parameter_is n false t named size =
      let y = type_end n t in
      let rest = word_parts y named ++ size_parts (word_end y named) size in
      let ps = r (type_node n t ∷ rest) in
      (λ i. let b = is_token (type_rule word n t i) in a_parameter n b (at ps (cond b 1 0)).firsts (parameter_name (drop (cond b 2 1) ps))
      (parameter_size (drop (cond b 2 1) ps)))
      ∙ (λ i. a_parameter n false (type_writes word n t i) (name_is y named size i) (size_is y named size i))

  parameter_known : (n : ℕ) (x : Parameter) → Known word (parameter_node n x) p.Param n (parameter_end n x) (OfParameter (written_parameter n x))
  parameter_known n (Typed constant t named size) =
      let x = word_end n constant in
      let y = type_end x t in
      let z = word_end y named in
      known word p.Param n (size_end z size) (word_parts n constant ++ type_node x t ∷ word_parts y named ++ size_parts z size)
      (OfParameter (written_parameter n (Typed constant t named size))) (ap OfParameter (parameter_is n constant t named size))

  one_parameter : (n : ℕ) (x : Parameter) (ps : List Part) → gathered parameter_in (q word (parameter_node n x) ∷ ps) ≡ written_parameter n
      x ∷ gathered parameter_in ps
  one_parameter n x ps = gathered_some parameter_in (q word (parameter_node n x)) ps (written_parameter n x) (ap parameter_in ((parameter_known n x).holds))

  further_are : (xs : List Parameter) (n : ℕ) → gathered parameter_in (r (more_parts parameter_end parameter_node n xs)) ≡ further_parameters n xs
  further_are [] n = refl
  further_are (x ∷ xs) n =
      let rest = r (more_parts parameter_end parameter_node (parameter_end (n + 1) x) xs) in
      gathered_none parameter_in (token word n) (q word (parameter_node (n + 1) x) ∷ rest) (ap parameter_in (token_content word n))
      ∙ one_parameter (n + 1) x rest ∙ ap (λ l. written_parameter (n + 1) x ∷ l) (further_are xs (parameter_end (n + 1) x))

  parameters_are : (n : ℕ) (xs : Parameters) → gathered parameter_in (r (parameters_parts n xs)) ≡ written_parameters n xs
  parameters_are n NoParameters = refl
  parameters_are n VoidParameters = gathered_none parameter_in (token word n) [] (ap parameter_in (token_content word n))
  parameters_are n (SomeParameters x xs) =
      let rest = r (more_parts parameter_end parameter_node (parameter_end n x) xs) in
      one_parameter n x rest ∙ ap (λ l. written_parameter n x ∷ l) (further_are xs (parameter_end n x))

  parameters_known : (n : ℕ) (xs : Parameters) → Known word (parameters_node n xs) p.Params n (parameters_end n xs) (OfParameters (written_parameters n xs))
  parameters_known n xs = known word p.Params n (parameters_end n xs) (parameters_parts n xs) (OfParameters (written_parameters n xs))
      (ap OfParameters (parameters_are n xs))

  -- ---- functions

  result_is : (n : ℕ) (o : Option NumberType) → parts.result_words (q word (result_node n o)) ≡ result_words n o
  result_is n None = λ i. cond (is_token (token_rule word n i)) None (Some (token word n).firsts)
  result_is n (Some t) = λ i. cond (is_token (type_rule word n t i)) None (Some (type_writes word n t i))

  body_is : (n : ℕ) (b : Option Block) → BodyHasKeywords word n b → block_in (q word (body_node n b)) ≡ written_function_body n b
  body_is n None h = λ i. elim (token_content word n i) as (λ _. Option s.Body)
      [ OfBlock xs ↦ Some (s.Braces (token word n).first (token word n).after xs) | _ ↦ None ]
  body_is n (Some (Braces xs)) h = block_writes word n xs h

  parts_are : (static : Bool) (n : ℕ) (t : Option NumberType) (xs : Parameters) (b : Option Block) → let x = result_end n t in let y =
      parameters_end
      (x + 1 + 1) xs in BodyHasKeywords word (y + 1) b
      → function_of static (r (function_parts n t xs b)) ≡ record {
        static = static;
        words = result_words n t;
        name = x;
        parameters = written_parameters (x + 1 + 1) xs;
        body = written_function_body (y + 1) b;
        counted = greatest (r (function_parts n t xs b));
      }
  parts_are static n t xs b h =
      let x = result_end n t in
      let y = parameters_end (x + 1 + 1) xs in
      λ i. record {
        static = static;
        words = result_is n t i;
        name = token_first word x i;
        parameters = parameters_in ((parameters_known (x + 1 + 1) xs).holds i);
        body = body_is (y + 1) b h i;
        counted = greatest (r (function_parts n t xs b));
      }

  function_is : (n : ℕ) (static : Bool) (t : Option NumberType) (xs : Parameters) (b : Option Block) → let w = word_end n static in
      BodyHasKeywords word (parameters_end (result_end w t + 1 + 1) xs + 1) b
      → function (r (word_parts n static ++ function_parts w t xs b)) ≡ tops.Defines (written_function word n (Defined static t xs b))
  function_is n true t xs b h = ap tops.Defines (parts_are true (n + 1) t xs b h)
  function_is n false t xs b h = ap tops.Defines (parts_are false n t xs b h)

  pub function_known : (n : ℕ) (x : Function) → FunctionHasKeywords word n x →
      Known word (function_node n x) p.Function n (function_end n x) (OfTop (tops.Defines (written_function word n x)))
  function_known n (Defined static t xs b) h =
      let w = word_end n static in
      known word p.Function n (function_end n (Defined static t xs b)) (word_parts n static ++ function_parts w t xs b)
      (OfTop (tops.Defines (written_function word n (Defined static t xs b)))) (ap OfTop (function_is n static t xs b h))
