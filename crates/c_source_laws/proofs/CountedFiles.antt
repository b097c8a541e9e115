-- The counts of the functions, enumerators and globals of a derived file, within the limits of the derivation.
use Rattle.std.proofs.Common.{◌≡◌, ◌≤◌, ◌+◌, ℕ, Bool, List, [], ◌∷◌, ◌++◌, map, Option, Some, None, refl, arith}
use Rattle.std.specs.Prelude.{IfSome}
use Rattle.c_grammar.specs.declared.class.Class.{Class}
use Rattle.c_grammar.specs.declared.class.Class.TheVariants as c
use Rattle.c_grammar.specs.declared.syntax.Production.TheVariants as p
use Rattle.c_grammar.specs.Events.{Event, Outside, Opened, first_over}
use Rattle.c_grammar.specs.Counts.{type_events, word_events, rest_events, items_events, enumerator_events, enumeration_events, parameter_events, parameters_events, result_events, body_events, function_events, declaration_events}
use Rattle.c_grammar.specs.Expressions.{NumberType, Conditional}
use Rattle.c_grammar.specs.ExpressionSyntax.{type_end, type_node}
use Rattle.c_grammar.specs.Statements.{Block, Braces, Local, rest_tokens, FitsMore, FitsLocal}
use Rattle.c_grammar.specs.StatementSyntax.{word_end, size_end, word_parts, size_parts}
use Rattle.c_grammar.specs.Files.{Parameter, Typed, Parameters, NoParameters, VoidParameters, SomeParameters, Enumeration, Enumerated, Declares, Function, Defined, parameter_tokens, parameters_tokens, enumerator_tokens, enumeration_tokens, declaration_tokens, body_tokens, function_tokens, FitsParameter, FitsParameters, FitsConstant, FitsEnumeration, FitsBody, FitsFunction}
use Rattle.c_grammar.specs.FileSyntax.{parameter_end, parameters_end, enumerator_end, result_end, parameter_node, parameters_parts, result_node, body_node}
use Rattle.c_grammar.specs.Parts.{part_of, greatest}
use Rattle.c_grammar.specs.Tops as s
use Rattle.c_resolved_defs.specs.Within.{Each}
use Rattle.reread_parts_laws.specs.WrittenStatements.{written_declaration}
use Rattle.reread_parts_laws.specs.WrittenFunctions.{written_function_body, function_parts, written_function}
use Rattle.reread_parts_laws.specs.WrittenFiles.{written_enumerator, further_enumerators, written_enumeration}
use Rattle.c_resolving_laws.specs.Counts.{IsFew, IsFewDeclaration, IsFewBody}
use Rattle.c_source_laws.proofs.Depths.{before, more_back, rest_back, enumerator_back, parameter_back}
use Rattle.c_source_laws.proofs.Past.{type_past, word_past, enumerator_past, parameter_past, parameters_past, result_past}
use Rattle.c_source_laws.proofs.Numbered.{Along}
use Rattle.c_source_laws.proofs.Weights.{IsWeighed}
use Rattle.c_source_laws.proofs.Counted.{conditional_low}
use Rattle.c_source_laws.proofs.CountedPrinted.{conditional_printed}
use Rattle.c_source_laws.proofs.CountedDeclarations.{most_in, Low, join_low, greatest_low, low_greatest, node_low, leaf_low, type_low, word_low, size_limit, more_limit, local_few, local_limit}
use Rattle.c_source_laws.proofs.CountedStatements.{block_opened, items_few, block_limit, items_limit}

module _ (word : ℕ → List ℕ) where
  abbrev Stands : ℕ → List Class → Type 0
  Stands at r = Along IsWeighed word at r

  -- ---- enumerators

  abbrev pub IsFewEnumerator : s.Enumerator → Type 0
  IsFewEnumerator e = IfSome e.value (IsFew word 400 3)

  enumerator_few : (o : Option Conditional) (at : ℕ) (r : List Class) (q : List Event) → FitsConstant o → Stands at (enumerator_tokens o r) →
      first_over (enumerator_events o q) ≡ None → IsFewEnumerator (written_enumerator at o)
  enumerator_few None at r q f s h = tt
  enumerator_few (Some d) at r q f s h =
      let g = conditional_printed word d (at + 1 + 1) r 3 (omega arith) f ((s.1).1) in
      let l = conditional_low d (Outside ∷ Outside ∷ q) h in
      omega (arith, g, l)

  enumerators_few : (xs : List (Option Conditional)) (trailing : Bool) (at : ℕ) (r : List Class) (q : List Event) → FitsMore FitsConstant xs →
      Stands at (rest_tokens enumerator_tokens xs trailing r)
      → first_over (rest_events enumerator_events xs trailing q) ≡ None → Each IsFewEnumerator (further_enumerators at xs)
  enumerators_few [] trailing at r q f s h = tt
  enumerators_few (o ∷ xs) trailing at r q f s h =
      let u = enumerator_events o (Outside ∷ q) in
      let g = enumerator_few o (at + 1) _ (Outside ∷ q) (f.0) (s.1) (rest_back enumerator_events enumerator_back xs trailing u h) in
      (g, enumerators_few xs trailing (enumerator_end (at + 1) o) r u (f.1) (enumerator_past IsWeighed word o (at + 1) _ (s.1)) h)

  pub enumeration_few : (x : Enumeration) (at : ℕ) (r : List Class) (q : List Event) → FitsEnumeration x → Stands at (enumeration_tokens x r) →
      first_over (enumeration_events x q) ≡ None
      → Each IsFewEnumerator (written_enumeration at x)
  enumeration_few (Enumerated o xs trailing) at r q f s h =
      let v = Outside ∷ Outside ∷ q in
      let u = enumerator_events o v in
      let g = before Outside (rest_events enumerator_events xs trailing u) h in
      let k = enumerator_few o (at + 1 + 1) _ v (f.0) ((s.1).1) (rest_back enumerator_events enumerator_back xs trailing u g) in
      (k, enumerators_few xs trailing (enumerator_end (at + 1 + 1) o) (c.Semicolon ∷ r) u (f.1) (enumerator_past IsWeighed word o (at + 1 + 1) _ ((s.1).1)) g)

  -- ---- globals

  pub globals_few : (static : Bool) (x : Local) (at : ℕ) (r : List Class) (q : List Event) → FitsLocal x →
      Stands at (declaration_tokens (Declares static x) r) → first_over (declaration_events (Declares static x) q) ≡ None
      → IsFewDeclaration word 400 (written_declaration (word_end at static) x)
  globals_few static x at r q f s h =
      let y = word_end at static in
      let u = word_past IsWeighed word static c.Static at _ s in
      local_few word 400 x y r f u (local_limit word x y r (word_events static q) f u h)

  -- ---- functions

  parameter_limit : (x : Parameter) (at : ℕ) (r : List Class) (q : List Event) → FitsParameter x → Stands at (parameter_tokens x r) →
      first_over (parameter_events x q) ≡ None → most_in word (parameter_node at x) ≤ 400
  parameter_limit (Typed constant n named size) at r q f s h =
      let x = word_end at constant in
      let y = type_end x n in
      let z = word_end y named in
      let u = word_past IsWeighed word named c.Name y _ (type_past IsWeighed word n x _ (word_past IsWeighed word constant c.Const at _ s)) in
      let front = type_node x n ∷ word_parts y named in
      let e = join_low word 400 (word_parts at constant) front (word_low word 400 constant at) (type_low word 400 n x, word_low word 400 named y) in
      let l = size_limit word size z r (word_events named (type_events n (word_events constant q))) f u h in
      node_low word 400 p.Param at (size_end z size) (word_parts at constant ++ front ++ size_parts z size) refl
      (join_low word 400 (word_parts at constant ++ front) (size_parts z size) e l)

  parameters_limit : (xs : Parameters) (at : ℕ) (r : List Class) (q : List Event) → FitsParameters xs → Stands at (parameters_tokens xs r) →
      first_over (parameters_events xs q) ≡ None → Low word 400 (parameters_parts at xs)
  parameters_limit NoParameters at r q f s h = tt
  parameters_limit VoidParameters at r q f s h = (leaf_low word 400 at, tt)
  parameters_limit (SomeParameters x xs) at r q f s h =
      let u = parameter_events x q in
      let g = parameter_limit x at _ q (f.0) s (more_back parameter_events parameter_back xs u h) in (
        g,
        more_limit word FitsParameter parameter_tokens parameter_end parameter_events parameter_node (parameter_past IsWeighed word) parameter_back
            parameter_limit xs (parameter_end at x) r u (f.1) (parameter_past IsWeighed word x at _ s) h,
      )

  result_limit : (o : Option NumberType) (at : ℕ) → most_in word (result_node at o) ≤ 400
  result_limit None at = leaf_low word 400 at
  result_limit (Some n) at = type_low word 400 n at

  body_limit : (b : Option Block) (at : ℕ) (r : List Class) (q : List Event) → FitsBody b → Stands at (body_tokens b r) →
      first_over (body_events b q) ≡ None → (first_over q ≡ None) × (most_in word (body_node at b) ≤ 400)
  body_limit None at r q f s h = (before Outside q h, leaf_low word 400 at)
  body_limit (Some (Braces xs)) at r q f s h =
      let u = Outside ∷ Opened 1 ∷ q in
      let d = items_limit word xs 1 (at + 1) _ u f (s.1) (before Outside (items_events 1 xs u) h) in
      (before (Opened 1) q (before Outside (Opened 1 ∷ q) (d.0)), block_limit word at xs (d.1))

  body_few : (m : ℕ) (b : Option Block) (at : ℕ) (r : List Class) → FitsBody b → Stands at (body_tokens b r) → most_in word (body_node at b) ≤ m →
      IfSome (written_function_body at b) (IsFewBody word m)
  body_few m None at r f s h = tt
  body_few m (Some (Braces xs)) at r f s h = items_few word m xs (at + 1) _ f (s.1) (block_opened word m at xs h)

  -- each full expression of it counts no more than it says, and that is within the limit
  pub record FunctionCounted (f : s.Function) : Type 0 where
    pub few : IfSome f.body (IsFewBody word f.counted)
    pub most : f.counted ≤ 400

  pub function_counted : (x : Function) (at : ℕ) (r : List Class) (q : List Event) → FitsFunction x → Stands at (function_tokens x r) →
      first_over (function_events x q) ≡ None → FunctionCounted (written_function word at x)
  function_counted (Defined static n xs b) at r q f s h =
      let w = word_end at static in
      let x = result_end w n in
      let y = parameters_end (x + 1 + 1) xs in
      let parts = function_parts w n xs b in
      let m = greatest (map (part_of word) parts) in
      let i = ((result_past IsWeighed word n w _ (word_past IsWeighed word static c.Static at _ s)).1).1 in
      let j = (parameters_past IsWeighed word xs (x + 1 + 1) _ i).1 in
      let v = Outside ∷ Outside ∷ result_events n (word_events static q) in
      let u = parameters_events xs v in
      let d = body_limit b (y + 1) r (Outside ∷ u) (f.1) j h in
      let k = parameters_limit xs (x + 1 + 1) _ v (f.0) i (before Outside u (d.0)) in
      let g = node_low word 400 p.Params (x + 1 + 1) y (parameters_parts (x + 1 + 1) xs) refl k in
      let l = low_greatest word m parts (omega arith) in
      record {
        few = body_few m b (y + 1) r (f.1) j ((((((l.1).1).1).1).1).0);
        most = greatest_low word 400 parts (result_limit n w, (leaf_low word 400 x, (leaf_low word 400 (x + 1), (g, (leaf_low word 400 y, (d.1, tt))))));
      }
