-- Files write the same, whichever way the numbers of their tokens and the tokens that count are told.
use Rattle.std.proofs.Common.{◌≡◌, ◌+◌, ℕ, Bool, true, false, cond, List, [], ◌∷◌, Option, Some, None, option_map, refl, ap, ◌∙◌}
use Rattle.c_grammar.specs.declared.class.Class.{Class}
use Rattle.c_grammar.specs.declared.class.Class.TheVariants as c
use Rattle.c_grammar.specs.Expressions.{NumberType, Conditional}
use Rattle.c_grammar.specs.ExpressionSyntax.{type_end}
use Rattle.c_grammar.specs.Statements.{Block, Braces}
use Rattle.c_grammar.specs.StatementSyntax.{word_end}
use Rattle.c_grammar.specs.Files.{Parameter, Typed, Parameters, NoParameters, VoidParameters, SomeParameters, Enumeration, Enumerated, Declares, Function, Defined, Top, Line, OfEnum, OfDeclaration, OfFunction, function_tokens, top_tokens, file_tokens, FitsFunction, FitsTop, FitsFile}
use Rattle.c_grammar.specs.FileSyntax.{parameter_end, parameters_end, enumerator_end, result_end, top_end}
use Rattle.c_grammar.specs.Terms.{At}
use Rattle.c_grammar.specs.Tops as s
use Rattle.reread_parts_laws.specs.WrittenFunctions as old
use Rattle.reread_parts_laws.specs.WrittenFiles as old_files
use Rattle.c_reading_defs.specs.Symbols.{token_behind, numbers_of}
use Rattle.c_source_laws.proofs.ExpressionSymbols.{type_symbols}
use Rattle.c_source_laws.proofs.StatementSymbols.{word_symbols}
use Rattle.c_source_laws.proofs.FileSymbols.{enumerator_symbols, parameter_symbols, parameters_symbols, result_symbols, top_symbols}
use Rattle.c_source_laws.proofs.SourceItems.{further, block_of}
use Rattle.c_source_laws.proofs.SourceTops as new
use Rattle.c_source_laws.proofs.Numbered.{Along}
use Rattle.c_source_laws.proofs.Weights.{IsWeighed}
use Rattle.c_source_laws.proofs.Past.{top_past}
use Rattle.c_source_laws.proofs.Placed.{type_placed, word_placed, enumerator_placed, parameter_placed, parameters_placed, result_placed, top_placed}
use Rattle.c_source_laws.proofs.SameTerms.{next, up, past, type_same, conditional_same}
use Rattle.c_source_laws.proofs.SameItems.{size_same, declaration_same, items_same, block_same, two}
use Rattle.c_source_laws.proofs.Limits.{function_peak}
use Rattle.c_source_laws.proofs.FunctionsMost.{function_most}

-- ---- enums

enumerator_same : (o : Option Conditional) (at at' : ℕ) → at ≡ at' → old_files.written_enumerator at o ≡ new.enumerator_of at' o
enumerator_same None at at' p = λ i. record { name = p i; value = None }
enumerator_same (Some d) at at' p =
    let q = two at at' p in
    let h = conditional_same d (at + 1 + 1) (at' + 1 + 1) q in
    λ i. record { name = p i; value = Some (At (q i) (h i)) }

further_enumerators : (xs : List (Option Conditional)) (at at' : ℕ) → at ≡ at' →
    old_files.further_enumerators at xs ≡ further enumerator_symbols new.enumerator_of at' xs
further_enumerators [] at at' p = refl
further_enumerators (x ∷ xs) at at' p =
    let q = up at at' p in
    let g = enumerator_same x (at + 1) (at' + 1) q in
    let h = further_enumerators xs (enumerator_end (at + 1) x) (token_behind (at' + 1) (enumerator_symbols x))
    (next enumerator_end x (enumerator_symbols x) (enumerator_placed x) (at + 1) (at' + 1) q) in
    λ i. g i ∷ h i

enumeration_same : (x : Enumeration) (at at' : ℕ) → at ≡ at' → old_files.written_enumeration at x ≡ new.enumerators_of at' x
enumeration_same (Enumerated x xs trailing) at at' p =
    let q = two at at' p in
    let g = enumerator_same x (at + 1 + 1) (at' + 1 + 1) q in
    let h = further_enumerators xs (enumerator_end (at + 1 + 1) x) (token_behind (at' + 1 + 1) (enumerator_symbols x))
    (next enumerator_end x (enumerator_symbols x) (enumerator_placed x) (at + 1 + 1) (at' + 1 + 1) q) in
    λ i. g i ∷ h i

-- ---- functions

name_same : (named : Bool) (at at' : ℕ) → at ≡ at' → old.named_at at named ≡ cond named (Some at') None
name_same true at at' p = ap Some p
name_same false at at' p = refl

parameter_same : (x : Parameter) (at at' : ℕ) → at ≡ at' → old.written_parameter at x ≡ new.parameter_of at' x
parameter_same (Typed constant n named size) at at' p =
    let x = word_end at constant in
    let x' = token_behind at' (word_symbols c.Const constant) in
    let y = type_end x n in
    let y' = token_behind x' (type_symbols n) in
    let q = next word_end constant (word_symbols c.Const constant) (word_placed c.Const constant) at at' p in
    let r = next type_end n (type_symbols n) (type_placed n) x x' q in
    let f = type_same n x x' q in
    let g = name_same named y y' r in
    let h = size_same size (word_end y named) (token_behind y' (word_symbols c.Name named))
    (next word_end named (word_symbols c.Name named) (word_placed c.Name named) y y' r) in
    λ i. record { first = p i; constant = constant; words = f i; name = g i; size = h i }

further_parameters : (xs : List Parameter) (at at' : ℕ) → at ≡ at' → old.further_parameters at xs ≡ further parameter_symbols new.parameter_of at' xs
further_parameters [] at at' p = refl
further_parameters (x ∷ xs) at at' p =
    let q = up at at' p in
    let g = parameter_same x (at + 1) (at' + 1) q in
    let h = further_parameters xs (parameter_end (at + 1) x) (token_behind (at' + 1) (parameter_symbols x))
    (next parameter_end x (parameter_symbols x) (parameter_placed x) (at + 1) (at' + 1) q) in
    λ i. g i ∷ h i

parameters_same : (xs : Parameters) (at at' : ℕ) → at ≡ at' → old.written_parameters at xs ≡ new.parameters_of at' xs
parameters_same NoParameters at at' p = refl
parameters_same VoidParameters at at' p = refl
parameters_same (SomeParameters x xs) at at' p =
    let g = parameter_same x at at' p in
    let h = further_parameters xs (parameter_end at x) (token_behind at' (parameter_symbols x))
    (next parameter_end x (parameter_symbols x) (parameter_placed x) at at' p) in
    λ i. g i ∷ h i

result_same : (o : Option NumberType) (at at' : ℕ) → at ≡ at' → old.result_words at o ≡ option_map (λ (t : NumberType). numbers_of at' (type_symbols t)) o
result_same None at at' p = refl
result_same (Some n) at at' p = ap Some (type_same n at at' p)

body_same : (b : Option Block) (at at' : ℕ) → at ≡ at' → old.written_function_body at b ≡ option_map (block_of at') b
body_same None at at' p = refl
body_same (Some (Braces xs)) at at' p = ap Some (block_same xs at at' p (items_same xs (at + 1) (at' + 1) (up at at' p)))

module _ (word : ℕ → List ℕ) where
  abbrev Stands : ℕ → List Class → Type 0
  Stands at r = Along IsWeighed word at r

  function_same : (x : Function) (at at' : ℕ) (r : List Class) → at ≡ at' → FitsFunction x → Stands at (function_tokens x r) →
      old.written_function word at x ≡ new.function_of at' x
  function_same (Defined static n xs b) at at' r p f t =
      let w = word_end at static in
      let w' = token_behind at' (word_symbols c.Static static) in
      let x = result_end w n in
      let x' = token_behind w' (result_symbols n) in
      let y = parameters_end (x + 1 + 1) xs in
      let y' = token_behind (x' + 1 + 1) (parameters_symbols xs) in
      let q = next word_end static (word_symbols c.Static static) (word_placed c.Static static) at at' p in
      let o = next result_end n (result_symbols n) (result_placed n) w w' q in
      let d = two x x' o in
      let e = past parameters_end xs (parameters_symbols xs) (parameters_placed xs) (x + 1 + 1) (x' + 1 + 1) d in
      let g = result_same n w w' q in
      let h = parameters_same xs (x + 1 + 1) (x' + 1 + 1) d in
      let j = body_same b (y + 1) (y' + 1) e in
      let k = function_most word static n xs b at r f t ∙ function_peak (Defined static n xs b) in
      λ i. record { static = static; words = g i; name = o i; parameters = h i; body = j i; counted = k i }

  top_same : (x : Top) (at at' : ℕ) (r : List Class) → at ≡ at' → FitsTop x → Stands at (top_tokens x r) → old_files.written_form word at x ≡ new.top_of at' x
  top_same Line at at' r p f t = refl
  top_same (OfEnum x) at at' r p f t = ap s.Enum (enumeration_same x at at' p)
  top_same (OfDeclaration (Declares static x)) at at' r p f t =
      let q = next word_end static (word_symbols c.Static static) (word_placed c.Static static) at at' p in
      ap (s.Globals static) (declaration_same x (word_end at static) (token_behind at' (word_symbols c.Static static)) q)
  top_same (OfFunction x) at at' r p f t = ap s.Defines (function_same x at at' r p f t)

  pub tops_same : (xs : List Top) (at at' : ℕ) (r : List Class) → at ≡ at' → FitsFile xs → Stands at (file_tokens xs r) →
      old_files.written_tops word at xs ≡ new.tops_of at' xs
  tops_same [] at at' r p f t = refl
  tops_same (x ∷ xs) at at' r p f t =
      let e = next top_end x (top_symbols x) (top_placed x) at at' p in
      let g = top_same x at at' _ p (f.0) t in
      let h = tops_same xs (top_end at x) (token_behind at' (top_symbols x)) r e (f.1) (top_past IsWeighed word x at _ t) in
      λ i. s.From (p i) (e i) (g i) ∷ h i
