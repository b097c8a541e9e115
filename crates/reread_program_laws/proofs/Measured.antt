-- A function that is not too tangled is not as its printed text has it.
use Rattle.std.proofs.Common.{◌≡◌, ◌≤◌, ◌+◌, ◌*◌, ℕ, false, ◌||◌, nat_lt, List, [], ◌∷◌, ◌++◌, map, take, Option, Some, None, refl, ap, subst, ◌∙◌, arith}
use Rattle.std.specs.Prelude.{IfSome, option_map}
use Rattle.std.specs.Option.{option_map_or}
use Rattle.std.proofs.lemmas.Bool.{le-ltb, or_from}
use Rattle.c_tree.specs.declared.tree.Slot.{Slot}
use Rattle.c_tree.specs.declared.tree.Function.{Function}
use Rattle.c_tree.specs.declared.tree.Item.{Item}
use Rattle.c_tree.specs.declared.tree.Top.{Top}
use Rattle.c_tree.specs.declared.tree.Top.TheVariants as T
use Rattle.c_tree.specs.InRange.{body_of}
use Rattle.c_tree.specs.Trees.{Nil, trees_of}
use Rattle.c_grammar.specs.declared.class.Class.{Class}
use Rattle.c_grammar.specs.declared.class.Class.TheVariants as c
use Rattle.c_grammar.specs.declared.syntax.Production.TheVariants as p
use Rattle.c_grammar.specs.Expressions.{NumberType}
use Rattle.c_grammar.specs.ExpressionSyntax.{type_end, type_node}
use Rattle.c_grammar.specs.Statements.{NoItems, Braces}
use Rattle.c_grammar.specs.StatementSyntax.{word_end, size_end, word_parts, more_parts, size_parts}
use Rattle.c_grammar.specs.Files.{OfEnum, OfDeclaration, OfFunction, Defined, function_tokens, file_tokens}
use Rattle.c_grammar.specs.FileSyntax.{parameter_end, parameters_end, result_end, enumeration_end, declaration_end, function_end, parameter_node, parameters_parts, parameters_node, result_node}
use Rattle.c_grammar.specs.Tops as tops
use Rattle.c_kinds.specs.Scopes.{Faults, fault_if}
use Rattle.c_kinds.specs.Scopes as kinds
use Rattle.c_statements.specs.declared.anchors.Anchor.{Anchor}
use Rattle.c_statements.specs.Functions.{FlatCounts, measures, tangle_fault}
use Rattle.c_statements.specs.Functions as read
use Rattle.c_statements.specs.Measures.{is_tangled, body_depth, body_longest}
use Rattle.c_scopes.specs.Files.{File}
use Rattle.c_resolved_defs.specs.Limits.{IsWithinLimits, IsUntangled, most_counted}
use Rattle.c_resolved_defs.specs.Limits as limits
use Rattle.c_resolved_defs.specs.PrintablePrograms.{MaybeBody, TopsPrint}
use Rattle.c_resolved_defs.specs.PrintableStatements.{ItemsPrint, depth}
use Rattle.c_resolved_defs.specs.Resolved.{IsResolvedTop}
use Rattle.c_resolved_defs.specs.Within.{Each}
use Rattle.print_laws.specs.ExpressionDerivations.{type_of}
use Rattle.print_laws.specs.StatementDerivations.{items_of}
use Rattle.print_laws.specs.FileDerivations.{enumeration_of, global_of, parameter_size, parameter_of, parameters_of, function_of, tops_of}
use Rattle.print_laws.specs.FileDerivations as derivation
use Rattle.print_laws.specs.Reread.{Spelling}
use Rattle.print_laws.proofs.StatementFits.{items_fit}
use Rattle.c_resolving_laws.specs.Laws.{AreCounts}
use Rattle.reread_parts_laws.specs.WrittenStatements.{written_block}
use Rattle.reread_parts_laws.specs.WrittenFunctions.{written_function, written_function_body, function_parts}
use Rattle.reread_parts_laws.specs.Words.{AreWords}
use Rattle.reread_parts_laws.specs.Laws.{measured}
use Rattle.c_source_laws.proofs.Numbered.{Along}
use Rattle.c_source_laws.proofs.Weights.{IsWeighed}
use Rattle.c_source_laws.proofs.CountedDeclarations.{most_in, Low, join_low, greatest_low, node_low, leaf_low, type_low, word_low}
use Rattle.c_source_laws.proofs.Past.{word_past, result_past, parameters_past, top_past}
use Rattle.reread_program_laws.specs.Limits.{IsMeasured, AreMeasured}
use Rattle.reread_program_laws.proofs.BodiesRead.{IsReadBack, AllReadBack}
use Rattle.reread_program_laws.proofs.LongestGiven.{longest_short}
use Rattle.reread_program_laws.proofs.DepthGiven.{body_shallow}
use Rattle.reread_program_laws.proofs.CountLow.{items_low, block_low}
use Rattle.reread_program_laws.proofs.CountGiven.{body_few}

-- ---- parameters count nothing

module _ (word : ℕ → List ℕ) (m : ℕ) where
  size_low : (cells : Option ℕ) (at : ℕ) → Low word m (size_parts at (parameter_size cells))
  size_low None at = tt
  size_low (Some n) at = (leaf_low word m at, (leaf_low word m (at + 1), tt))

  parameter_low : (s : Slot) (at : ℕ) → most_in word (parameter_node at (parameter_of s)) ≤ m
  parameter_low s at =
      let n = type_of s.kind in
      let x = word_end at s.constant in
      let y = type_end x n in
      let named = derivation.is_named s.name in
      let z = word_end y named in
      let size = parameter_size s.cells in
      let front = type_node x n ∷ word_parts y named in
      let e = join_low word m (word_parts at s.constant) front (word_low word m s.constant at) (type_low word m n x, word_low word m named y) in
      node_low word m p.Param at (size_end z size) (word_parts at s.constant ++ front ++ size_parts z size) refl
      (join_low word m (word_parts at s.constant ++ front) (size_parts z size) e (size_low s.cells z))

  more_low : (ss : List Slot) (at : ℕ) → Low word m (more_parts parameter_end parameter_node at (map parameter_of ss))
  more_low [] at = tt
  more_low (s ∷ ss) at = (leaf_low word m at, (parameter_low s (at + 1), more_low ss (parameter_end (at + 1) (parameter_of s))))

  parameters_low : (ss : List Slot) (at : ℕ) → most_in word (parameters_node at (parameters_of ss)) ≤ m
  parameters_low [] at = node_low word m p.Params at (parameters_end at (parameters_of [])) (parameters_parts at (parameters_of [])) refl
      (leaf_low word m at, tt)
  parameters_low (s ∷ ss) at =
      node_low word m p.Params at (parameters_end at (parameters_of (s ∷ ss))) (parameters_parts at (parameters_of (s ∷ ss))) refl
      (parameter_low s at, more_low ss (parameter_end at (parameter_of s)))

  result_low : (o : Option NumberType) (at : ℕ) → most_in word (result_node at o) ≤ m
  result_low None at = leaf_low word m at
  result_low (Some n) at = type_low word m n at

module _ (word : ℕ → List ℕ) (f : Function) (at : ℕ) where
  -- the function, with this body
  abbrev with_body : Option (List Item) → tops.Function
  with_body o = written_function word at (Defined f.file_only (option_map type_of f.result) (parameters_of (take f.params f.slots))
      (derivation.body_of f.slots o))

  abbrev start : ℕ
  start = parameters_end (result_end (word_end at f.file_only) (option_map type_of f.result) + 1 + 1) (parameters_of (take f.params f.slots)) + 1

  counted_few : (body : List Item) (r : List Class) → ItemsPrint f (trees_of body) →
      Along IsWeighed word at (function_tokens (Defined f.file_only (option_map type_of f.result) (parameters_of (take f.params f.slots))
      (derivation.body_of f.slots (Some body))) r)
      → (with_body (Some body)).counted ≤ most_counted (trees_of body)
  counted_few body r h s =
      let m = most_counted (trees_of body) in
      let n = option_map type_of f.result in
      let xs = parameters_of (take f.params f.slots) in
      let items = items_of f.slots (trees_of body) NoItems in
      let w = word_end at f.file_only in
      let x = result_end w n in
      let y = parameters_end (x + 1 + 1) xs in
      let i = ((result_past IsWeighed word n w _ (word_past IsWeighed word f.file_only c.Static at _ s)).1).1 in
      let j = (parameters_past IsWeighed word xs (x + 1 + 1) _ i).1 in
      let few = items_low word m items (y + 1 + 1) (c.CloseBlock ∷ r) (items_fit f.slots (trees_of body) NoItems tt) (j.1)
      (body_few f m (trees_of body) h (omega arith)) in
      greatest_low word m (function_parts w n xs (Some (Braces items))) (
        result_low word m n w,
        (
          leaf_low word m x,
          (
            leaf_low word m (x + 1),
            (
              parameters_low word m (take f.params f.slots) (x + 1 + 1),
              (leaf_low word m y, (block_low word m (y + 1) items few, tt)),
            ),
          ),
        ),
      )

  -- it is within its limits, so it is not too tangled
  untangled : (body : List Item) (r : List Class) (notes : Anchor → List (List ℕ)) (scopes : List kinds.Scope) (n : ℕ × ℕ) → f.body ≡ Some body →
      IsWithinLimits f n → ItemsPrint f (trees_of body)
      → Along IsWeighed word at (function_tokens (Defined f.file_only (option_map type_of f.result) (parameters_of (take f.params f.slots))
      (derivation.body_of f.slots (Some body))) r) → read.function_of word notes (with_body (Some body)) scopes ≡ f
      → is_tangled (measures word (with_body (Some body)) (written_block start (items_of f.slots (trees_of body) NoItems)) n) ≡ false
  untangled body r notes scopes n e l h s i =
      let x = with_body (Some body) in
      let b = written_block start (items_of f.slots (trees_of body) NoItems) in
      let same : body_of f ≡ trees_of body = ap (λ o. option_map_or trees_of o Nil) e in
      let deep = body_shallow f.slots (trees_of body) start in
      let many = counted_few body r h s in
      let depths = subst (λ a. 1 + depth a + 3 * n.0 ≤ 400) same l.depth in
      let counts = subst (λ a. most_counted a + 6 * n.1 ≤ 400) same l.counted in
      let long = longest_short word notes x scopes f b refl i l.labels l.variables in
      or_from (nat_lt 400 (body_depth b + 3 * n.0) || nat_lt 400 (x.counted + 6 * n.1)) (nat_lt 63 (body_longest word b))
      (or_from (nat_lt 400 (body_depth b + 3 * n.0)) (nat_lt 400 (x.counted + 6 * n.1))
      (le-ltb 400 (body_depth b + 3 * n.0) (omega (arith, deep, depths))) (le-ltb 400 (x.counted + 6 * n.1) (omega (arith, many, counts))))
      (le-ltb 63 (body_longest word b) long)

module _ (counts : limits.FlatCounts) (ts : List Top) (file : File) (tokens : List Spelling) (words : AreWords file.word tokens)
    (same : AreCounts file.flat counts) where
  function_measured : (f : Function) (at : ℕ) (r : List Class) → IsUntangled counts f → MaybeBody f f.body →
      Along IsWeighed file.word at (function_tokens (function_of f) r) → IsReadBack counts ts file.word tokens words f at → IsMeasured file at f
  function_measured f at r u h s g = λ vs. by f.body refl h s (g.function) vs
    where
      by : (o : Option (List Item)) → f.body ≡ o → MaybeBody f o → Along IsWeighed file.word at
          (function_tokens (Defined f.file_only (option_map type_of f.result) (parameters_of (take f.params f.slots)) (derivation.body_of f.slots o)) r)
          → read.function_of file.word g.notes (with_body file.word f at o) g.scopes ≡ f → (vs : Faults)
          → measured file.flat file.word (with_body file.word f at o) (written_function_body (start file.word f at) (derivation.body_of f.slots o)) o vs ≡ vs
      by None e h s i vs = refl
      by (Some body) e h s i vs =
          let x = with_body file.word f at (Some body) in
          let b = written_block (start file.word f at) (items_of f.slots (trees_of body) NoItems) in
          let flat : file.flat body ≡ counts (trees_of body) = same.same body in
          let tree : body_of f ≡ trees_of body = ap (λ o. option_map_or trees_of o Nil) e in
          ap (λ o. elim o as (λ _. Faults) [ Some n ↦ fault_if (is_tangled (measures file.word x b n)) x.name 39 vs | None ↦ vs ]) flat
          ∙ counted (counts (trees_of body)) (subst (λ a. IfSome (counts a) (IsWithinLimits f)) tree u)
        where
          counted : (o : Option (ℕ × ℕ)) → IfSome o (IsWithinLimits f)
              → (elim o as (λ _. Faults) [
                | Some n ↦ fault_if (is_tangled (measures file.word (with_body file.word f at (Some body))
                    (written_block (start file.word f at) (items_of f.slots (trees_of body) NoItems)) n)) (with_body file.word f at (Some body)).name 39 vs
                | None ↦ vs
              ]) ≡ vs
          counted None l = refl
          counted (Some n) l = ap (λ z. fault_if z (with_body file.word f at (Some body)).name 39 vs)
              (untangled file.word f at body r g.notes g.scopes n e l h.items s i)

  pub all_measured : (xs : List Top) (at : ℕ) → TopsPrint xs → Each (IsResolvedTop counts ts) xs →
      Along IsWeighed file.word at (file_tokens (tops_of xs) (c.End ∷ [])) → AllReadBack counts ts file.word tokens words at xs → AreMeasured file at xs
  all_measured [] at h r s g = tt
  all_measured (T.Note bytes ∷ xs) at h r s g = all_measured xs at h.1 r.1 s g
  all_measured (T.Include bytes ∷ xs) at h r s g = all_measured xs (at + 1) h.1 r.1 (s.1) g
  all_measured (T.Enum [] ∷ xs) at h r s g = absurd h.0
  all_measured (T.Enum (x ∷ es) ∷ xs) at h r s g = all_measured xs (enumeration_end at (enumeration_of x es)) h.1 r.1
      (top_past IsWeighed file.word (OfEnum (enumeration_of x es)) at _ s) g
  all_measured (T.Global v ∷ xs) at h r s g = all_measured xs (declaration_end at (global_of v)) h.1 r.1
      (top_past IsWeighed file.word (OfDeclaration (global_of v)) at _ s) g
  all_measured (T.Function f ∷ xs) at h r s g = (
    function_measured f at (file_tokens (tops_of xs) (c.End ∷ [])) (r.0).untangled (h.0).body s (g.0),
    all_measured xs (function_end at (function_of f)) h.1 r.1 (top_past IsWeighed file.word (OfFunction (function_of f)) at _ s) g.1,
  )
