-- The most tokens that count in one full expression of a function: by the events of its derivation, and by its syntax.
use Rattle.std.proofs.Common.{◌≡◌, ◌+◌, ℕ, max, List, [], ◌∷◌, ◌++◌, Option, Some, None, refl, ◌∙◌, arith}
use Rattle.c_grammar.specs.declared.class.Class.{Class}
use Rattle.c_grammar.specs.declared.class.Class.TheVariants as c
use Rattle.c_grammar.specs.declared.syntax.Production.TheVariants as p
use Rattle.c_grammar.specs.Events.{Event, Outside, Opened, count_of}
use Rattle.c_grammar.specs.Counts.{type_events, word_events, parameter_events, parameters_events, result_events, body_events, function_events}
use Rattle.c_grammar.specs.Expressions.{NumberType}
use Rattle.c_grammar.specs.ExpressionSyntax.{type_end, type_node}
use Rattle.c_grammar.specs.Statements.{Block, Braces}
use Rattle.c_grammar.specs.StatementSyntax.{word_end, size_end, word_parts, size_parts}
use Rattle.c_grammar.specs.Files.{Parameter, Typed, Parameters, NoParameters, VoidParameters, SomeParameters, Defined, parameter_tokens, parameters_tokens, body_tokens, function_tokens, FitsParameter, FitsParameters, FitsBody, FitsFunction}
use Rattle.c_grammar.specs.FileSyntax.{parameter_end, parameters_end, result_end, parameter_node, parameters_parts, parameters_node, result_node, body_node}
use Rattle.reread_parts_laws.specs.WrittenFunctions.{function_parts}
use Rattle.c_source_laws.proofs.Limits.{peak}
use Rattle.c_source_laws.proofs.Numbered.{Along}
use Rattle.c_source_laws.proofs.Weights.{IsWeighed}
use Rattle.c_source_laws.proofs.Past.{type_past, word_past, parameter_past, parameters_past, result_past}
use Rattle.c_source_laws.proofs.Most.{type_quiet, most_in, most_of, joined, node_is, leaf_is, type_is}
use Rattle.c_source_laws.proofs.StatementsMost.{word_closed, word_quiet, word_is, more_peak, size_peak, items_peak, block_is}

module _ (word : ℕ → List ℕ) where
  abbrev Stands : ℕ → List Class → Type 0
  Stands at r = Along IsWeighed word at r

  parameter_peak : (x : Parameter) (at : ℕ) (r : List Class) (q : List Event) → FitsParameter x → Stands at (parameter_tokens x r) → count_of q ≡ 0
      → peak (parameter_events x q) ≡ max (most_in word (parameter_node at x)) (peak q)
  parameter_peak (Typed constant n named size) at r q f s z =
      let x = word_end at constant in
      let y = type_end x n in
      let w = word_end y named in
      let t = word_past IsWeighed word named c.Name y _ (type_past IsWeighed word n x _ (word_past IsWeighed word constant c.Const at _ s)) in
      let front = word_parts at constant ++ type_node x n ∷ word_parts y named in
      let i = node_is word p.Param at (size_end w size) (front ++ size_parts w size) refl in
      let j = joined word front (size_parts w size) in
      let k = joined word (word_parts at constant) (type_node x n ∷ word_parts y named) in
      let a = word_is word constant at in
      let b = type_is word n x in
      let d = word_is word named y in
      let e = word_quiet constant q in
      let g = type_quiet n (word_events constant q) (word_closed constant q z) in
      let h = word_quiet named (type_events n (word_events constant q)) in
      let l = size_peak word size w r (word_events named (type_events n (word_events constant q))) f t in
      omega (arith, i, j, k, a, b, d, e, g, h, l)

  parameters_peak : (xs : Parameters) (at : ℕ) (r : List Class) (q : List Event) → FitsParameters xs → Stands at (parameters_tokens xs r) → count_of q ≡ 0
      → peak (parameters_events xs q) ≡ max (most_of word (parameters_parts at xs)) (peak q)
  parameters_peak NoParameters at r q f s z = omega arith
  parameters_peak VoidParameters at r q f s z = let a = leaf_is word at in omega (arith, a)
  parameters_peak (SomeParameters x xs) at r q f s z =
      let g = parameter_peak x at _ q (f.0) s z in
      let h = more_peak word FitsParameter parameter_tokens parameter_end parameter_events parameter_node (parameter_past IsWeighed word)
      parameter_peak xs (parameter_end at x) r (parameter_events x q) (f.1) (parameter_past IsWeighed word x at _ s) in
      omega (arith, g, h)

  result_is : (o : Option NumberType) (at : ℕ) → most_in word (result_node at o) ≡ 0
  result_is None at = leaf_is word at
  result_is (Some n) at = type_is word n at

  result_quiet : (o : Option NumberType) (q : List Event) → count_of q ≡ 0 → peak (result_events o q) ≡ peak q
  result_quiet None q z = omega arith
  result_quiet (Some n) q z = type_quiet n q z

  body_peak : (b : Option Block) (at : ℕ) (r : List Class) (q : List Event) → FitsBody b → Stands at (body_tokens b r) → count_of q ≡ 0
      → peak (body_events b q) ≡ max (most_in word (body_node at b)) (peak q)
  body_peak None at r q f s z = let a = leaf_is word at in omega (arith, a)
  body_peak (Some (Braces xs)) at r q f s z =
      let n = block_is word at xs in
      let g = items_peak word xs 1 (at + 1) _ (Outside ∷ Opened 1 ∷ q) f (s.1) refl in
      omega (arith, n, g, z)

  -- of a body and parameters among tokens that don't count
  both : (a b e k d m p v q : ℕ) → a ≡ 0 → b ≡ 0 → e ≡ 0 → k ≡ 0 → q ≡ 0 → v ≡ max p q → m ≡ max d (max 0 v) →
      max a (max b (max e (max p (max k (max d 0))))) ≡ m
  both a b e k d m p v q ha hb he hk hq g h = (λ i. max (ha i) (max (hb i) (max (he i) (max p (max (hk i) (max d 0)))))) ∙ omega (arith, hq, g, h)

  pub function_most : (static : _) (n : Option NumberType) (xs : Parameters) (b : Option Block) (at : ℕ) (r : List Class) →
      FitsFunction (Defined static n xs b) → Stands at (function_tokens (Defined static n xs b) r)
      → most_of word (function_parts (word_end at static) n xs b) ≡ peak (function_events (Defined static n xs b) [])
  function_most static n xs b at r f s =
      let w = word_end at static in
      let x = result_end w n in
      let y = parameters_end (x + 1 + 1) xs in
      let i = ((result_past IsWeighed word n w _ (word_past IsWeighed word static c.Static at _ s)).1).1 in
      let j = (parameters_past IsWeighed word xs (x + 1 + 1) _ i).1 in
      let k = result_events n (word_events static []) in
      let l = Outside ∷ Outside ∷ k in
      let u = parameters_events xs l in
      let c0 = word_quiet static [] in
      let c1 = result_quiet n (word_events static []) (word_closed static [] refl) in
      let start : peak l ≡ 0 = omega (arith, c0, c1) in
      let g = parameters_peak xs (x + 1 + 1) _ l (f.0) i refl in
      let node = node_is word p.Params (x + 1 + 1) y (parameters_parts (x + 1 + 1) xs) refl in
      let h = body_peak b (y + 1) r (Outside ∷ u) (f.1) j refl in
      both _ _ _ _ (most_in word (body_node (y + 1) b)) _ (most_in word (parameters_node (x + 1 + 1) xs)) (peak u) (peak l) (result_is n w)
      (leaf_is word x) (leaf_is word (x + 1)) (leaf_is word y) start (omega (arith, g, node)) h
