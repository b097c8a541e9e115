-- The printed parameters of a function read back as its first slots (ISO/IEC 9899:2011, 6.9.1).
use Rattle.std.proofs.Common.{◌≡◌, ◌<◌, ◌+◌, ℕ, suc, Bool, true, false, cond, List, [], ◌∷◌, ◌++◌, map, length, Option, Some, None, is_some, refl, ap, sym, subst, ◌∙◌, arith, length-append}
use Rattle.std.specs.Prelude.{codes, option_map, slice_get}
use Rattle.c_types.specs.declared.kinds.IntKind.{IntKind}
use Rattle.c_tree.specs.declared.tree.Slot.{Slot}
use Rattle.c_tree.specs.declared.tree.Home.TheVariants as H
use Rattle.c_tree.specs.TextPieces.{Piece, ◌⨾◌, space, word, punctuator, more}
use Rattle.c_tree.specs.Text.{parameter_text, array_brackets}
use Rattle.c_tree.specs.Text as text
use Rattle.c_grammar.specs.ExpressionSyntax.{type_end}
use Rattle.c_grammar.specs.StatementSyntax.{word_end, size_end, more_end}
use Rattle.c_grammar.specs.FileSyntax.{parameter_end, parameters_end}
use Rattle.c_grammar.specs.Tops.{Parameter}
use Rattle.c_grammar.specs.Words.{kind_of}
use Rattle.c_kinds.specs.declared.binding.Binding.TheVariants as binding
use Rattle.c_kinds.specs.declared.binding.Want.{Want}
use Rattle.c_kinds.specs.declared.binding.Want.TheVariants as want
use Rattle.c_kinds.specs.Scopes.{Faults, fault_if, is_bound}
use Rattle.c_kinds.specs.Scopes as scopes
use Rattle.c_statements.specs.Context.{Context, Walk, env_at}
use Rattle.c_statements.specs.Declarations.{is_array, size_faults}
use Rattle.c_statements.specs.Functions.{want_of, parameter_name, parameter_slot, parameter_shape, bind_parameter, bind_parameters, parameter_fault, parameters_faults}
use Rattle.c_resolved_defs.specs.Names.{Names}
use Rattle.c_resolved_defs.specs.Scopes.{Scope, AVariable, bind, IsNewParameter}
use Rattle.c_resolved_defs.specs.Scopes as resolved
use Rattle.c_resolved_defs.specs.Files.{IsParameterLength}
use Rattle.print_laws.specs.Reread.{Spelling}
use Rattle.print_laws.specs.Standing.{Stands}
use Rattle.print_laws.specs.ExpressionDerivations.{type_of}
use Rattle.print_laws.specs.FileDerivations.{is_named, parameter_size, parameter_of, parameters_of}
use Rattle.reread_parts_laws.specs.WrittenStatements.{written_size}
use Rattle.reread_parts_laws.specs.WrittenFunctions.{written_parameter, further_parameters, written_parameters}
use Rattle.reread_parts_laws.specs.Words.{AreWords}
use Rattle.reread_parts_laws.specs.Bindings.{IsInScope, AreSameScopes, shape_of as shape_in}
use Rattle.reread_parts_laws.specs.Places.{Standing}
use Rattle.reread_parts_laws.proofs.ExpressionWords.{word_here, mark_here}
use Rattle.reread_parts_laws.proofs.SameScopes.{bind_same, new_unbound}
use Rattle.reread_parts_laws.proofs.DeclarationsRead.{words_read, take_next}

-- ---- arrays

array_is : (z : ℕ) (cells : Option ℕ) → is_array (written_size z (parameter_size cells)) ≡ is_some cells
array_is z None = refl
array_is z (Some c) = refl

cells_are : (z : ℕ) (cells : Option ℕ) → IsParameterLength cells → cond (is_array (written_size z (parameter_size cells))) (Some 0) None ≡ cells
cells_are z None h = refl
cells_are z (Some c) h = ap Some (sym h)

size_clear : (env : _) (z : ℕ) (cells : Option ℕ) (vs : Faults) → size_faults env (written_size z (parameter_size cells)) vs ≡ vs
size_clear env z None vs = refl
size_clear env z (Some c) vs = refl

module _ (n : Names) (ctx : Context) (tokens : List Spelling) (words : AreWords ctx.word tokens) where
  -- ---- one parameter

  abbrev the : ℕ → Slot → Parameter
  the at s = written_parameter at (parameter_of s)

  record ParameterRead (at : ℕ) (s : Slot) (ps : List Piece) : Type 0 where
    behind_it : Stands tokens (parameter_end at (parameter_of s)) ps
    kind_is : kind_of ctx.word (the at s).words ≡ s.kind
    name_is : parameter_name ctx.word (the at s).name ≡ s.name

  brackets_read : (cells : Option ℕ) (z : ℕ) (ps : List Piece) → Stands tokens z (array_brackets cells ps) →
      Stands tokens (size_end z (parameter_size cells)) ps
  brackets_read None z ps b = b
  brackets_read (Some c) z ps b = (mark_here n.slots tokens ctx.word words (z + 1) (codes "]") ps
      ((mark_here n.slots tokens ctx.word words z (codes "[") (punctuator (codes "]") ps) b).1)).1

  abbrev a_slot : List ℕ → IntKind → Option ℕ → Bool → Slot
  a_slot name kind cells constant = record { name = name; kind = kind; cells = cells; constant = constant }

  read_by_name : (name : List ℕ) (kind : IntKind) (cells : Option ℕ) (constant : Bool) (at : ℕ) (ps : List Piece) →
      Stands tokens at (parameter_text (a_slot name kind cells constant) ps) → ParameterRead at (a_slot name kind cells constant) ps
  read_by_name [] kind cells constant at ps b =
      let s = a_slot [] kind cells constant in
      let c = words_read n.slots tokens ctx.word words s at (array_brackets cells ps) b in
      let y = type_end (word_end at constant) (type_of kind) in
      record { behind_it = brackets_read cells y ps (c.behind); kind_is = c.kind_is_read; name_is = refl }
  read_by_name (m ∷ ms) kind cells constant at ps b =
      let s = a_slot (m ∷ ms) kind cells constant in
      let c = words_read n.slots tokens ctx.word words s at ((space ⨾ word (m ∷ ms) ⨾ array_brackets cells) ps) b in
      let y = type_end (word_end at constant) (type_of kind) in
      let w = word_here n.slots tokens ctx.word words y (m ∷ ms) (array_brackets cells ps) (c.behind) in
      record { behind_it = brackets_read cells (y + 1) ps (w.1); kind_is = c.kind_is_read; name_is = w.0 }

  parameter_read : (s : Slot) (at : ℕ) (ps : List Piece) → Stands tokens at (parameter_text s ps) → ParameterRead at s ps
  parameter_read s at ps b = read_by_name s.name s.kind s.cells s.constant at ps b

  -- ---- the walk behind it

  record Bound (ss : List Scope) (k : ℕ) (w : Walk) (at : ℕ) (s : Slot) (defines : Bool) : Type 0 where
    standing : Standing n (resolved.bind_parameter s.name k ss) (suc k) (bind_parameter ctx.word (the at s) w)
    clear : (vs : Faults) → parameter_fault ctx.word defines (the at s) w vs ≡ vs

  -- a parameter of these slots
  pub record IsParameter (ss : List Scope) (k : ℕ) (s : Slot) (defines : Bool) : Type 0 where
    pub slot_is : slice_get n.slots k ≡ Some s
    pub lengths : IsParameterLength s.cells
    pub new : IsNewParameter s.name ss
    pub named : defines ≡ true → 0 < length s.name

  inside_bound : (m : List ℕ) (k : ℕ) (ss : List Scope) → IsInScope ss → IsInScope (bind m (AVariable (H.Slot k)) ss)
  inside_bound m k [] h = absurd h
  inside_bound m k (x ∷ ss) h = tt

  longer : (w : Walk) (k : ℕ) (s : Slot) → length w.slots ≡ k → length (w.slots ++ s ∷ []) ≡ suc k
  longer w k s h = let z : k + 1 ≡ suc k = omega arith in length-append w.slots (s ∷ []) ∙ ap (λ j. j + 1) h ∙ z

  bind_by_name : (name : List ℕ) (kind : IntKind) (cells : Option ℕ) (constant : Bool) (ss : List Scope) (k : ℕ) (w : Walk) (at : ℕ) (ps : List Piece)
      (defines : Bool) → let s = a_slot name kind cells constant in
      Standing n ss k w → IsParameter ss k s defines → ParameterRead at s ps → Bound ss k w at s defines
  bind_by_name [] kind cells constant ss k w at ps defines h v r =
      let s = a_slot [] kind cells constant in
      let z = type_end (word_end at constant) (type_of kind) in
      let slot : parameter_slot ctx.word (the at s) ≡ s = λ i. a_slot [] (r.kind_is i) (cells_are z cells (v.lengths) i) constant in
      record {
        standing = record {
          inside = h.inside;
          same = h.same;
          slots_are = (λ i. h.slots_are i ++ slot i ∷ []) ∙ sym (take_next k n.slots s (v.slot_is));
          count = longer w k (parameter_slot ctx.word (the at s)) (h.count);
        };
        clear = λ vs. by_defines defines (v.named) z vs;
      }
    where
      by_defines : (b : Bool) → (b ≡ true → 0 < 0) → (z : ℕ) (vs : Faults) →
          fault_if b at 43 (size_faults (env_at ctx w) (written_size z (parameter_size cells)) vs) ≡ vs
      by_defines false g z vs = size_clear (env_at ctx w) z cells vs
      by_defines true g z vs = let e = g refl in absurd (omega (arith, e))
  bind_by_name (m ∷ ms) kind cells constant ss k w at ps defines h v r =
      let s = a_slot (m ∷ ms) kind cells constant in
      let y = type_end (word_end at constant) (type_of kind) in
      let z = y + 1 in
      let slot : parameter_slot ctx.word (the at s) ≡ s = λ i. a_slot (r.name_is i) (r.kind_is i) (cells_are z cells (v.lengths) i) constant in
      let shape : parameter_shape ctx.word (the at s) ≡ shape_in s = λ i. record { kind = r.kind_is i; array = array_is z cells i; constant = constant } in
      let b : Some (binding.Local k (shape_in s)) ≡ option_map (λ (q : Slot). binding.Local k (shape_in q)) (slice_get n.slots k) =
      ap (option_map (λ (q : Slot). binding.Local k (shape_in q))) (sym (v.slot_is)) in
      record {
        standing = record {
          inside = inside_bound (m ∷ ms) k ss (h.inside);
          same = subst (λ x. AreSameScopes n (bind (m ∷ ms) (AVariable (H.Slot k)) ss) x)
              (λ i. scopes.bind (sym (r.name_is) i) (binding.Local (sym (h.count) i) (sym shape i)) w.scopes)
              (bind_same n (m ∷ ms) (AVariable (H.Slot k)) (binding.Local k (shape_in s)) ss w.scopes (h.same) (h.inside) (v.new) b);
          slots_are = (λ i. h.slots_are i ++ slot i ∷ []) ∙ sym (take_next k n.slots s (v.slot_is));
          count = longer w k (parameter_slot ctx.word (the at s)) (h.count);
        };
        clear = λ vs. ap (λ x. fault_if x y 21 (size_faults (env_at ctx w) (written_size z (parameter_size cells)) vs))
            (ap (λ x. is_bound x w.scopes) (r.name_is) ∙ new_unbound n (m ∷ ms) ss w.scopes (h.same) (v.new)) ∙ size_clear (env_at ctx w) z cells vs;
      }

  bound_by : (s : Slot) (ss : List Scope) (k : ℕ) (w : Walk) (at : ℕ) (ps : List Piece) (defines : Bool) → Standing n ss k w →
      IsParameter ss k s defines → ParameterRead at s ps → Bound ss k w at s defines
  bound_by s ss k w at ps defines h v r = bind_by_name s.name s.kind s.cells s.constant ss k w at ps defines h v r

  want_is : (s : Slot) (at : ℕ) (ps : List Piece) (external : Bool) → ParameterRead at s ps →
      want_of ctx.word external (the at s) ≡ cond (is_some s.cells) (want.Array s.kind s.constant external) (want.Number s.kind s.constant)
  want_is s at ps external r = λ i. cond (array_is (word_end (type_end (word_end at s.constant) (type_of s.kind)) (is_named s.name)) s.cells i)
      (want.Array (r.kind_is i) s.constant external) (want.Number (r.kind_is i) s.constant)

  -- ---- all parameters

  -- the slots from number k on
  abbrev pub AreParameters : List Scope → ℕ → List Slot → Bool → Type 0
  AreParameters ss k [] defines = Unit {0}
  AreParameters ss k (s ∷ xs) defines = IsParameter ss k s defines × AreParameters (resolved.bind_parameter s.name k ss) (suc k) xs defines

  abbrev pub behind_parameters : List Scope → ℕ → List Slot → List Scope
  behind_parameters ss k [] = ss
  behind_parameters ss k (s ∷ xs) = behind_parameters (resolved.bind_parameter s.name k ss) (suc k) xs

  abbrev wants_of : Bool → List Slot → List Want
  wants_of external xs = map (λ (s : Slot). cond (is_some s.cells) (want.Array s.kind s.constant external) (want.Number s.kind s.constant)) xs

  pub record ParametersRead (ss : List Scope) (k : ℕ) (w : Walk) (xs : List Slot) (params : List Parameter) (defines : Bool) : Type 0 where
    pub standing : Standing n (behind_parameters ss k xs) (k + length xs) (bind_parameters ctx.word params w)
    pub clear : (vs : Faults) → parameters_faults ctx.word defines params w vs ≡ vs
    pub wants : (external : Bool) → map (want_of ctx.word external) params ≡ wants_of external xs
    pub count : length params ≡ length xs

  none_read : (ss : List Scope) (k : ℕ) (w : Walk) (defines : Bool) → Standing n ss k w → ParametersRead ss k w [] [] defines
  none_read ss k w defines h = record {
    standing = let e : k ≡ k + 0 = omega arith in
        subst (λ i. Standing n ss i w) e h;
    clear = λ vs. refl;
    wants = λ external. refl;
    count = refl;
  }

  one_more : (ss : List Scope) (k : ℕ) (w : Walk) (s : Slot) (xs : List Slot) (at : ℕ) (ps : List Piece) (params : List Parameter) (defines : Bool) →
      Standing n ss k w → IsParameter ss k s defines → ParameterRead at s ps
      → ((v : Walk) → Standing n (resolved.bind_parameter s.name k ss) (suc k) v →
      ParametersRead (resolved.bind_parameter s.name k ss) (suc k) v xs params defines) → ParametersRead ss k w (s ∷ xs) (the at s ∷ params) defines
  one_more ss k w s xs at ps params defines h v r later =
      let b = bound_by s ss k w at ps defines h v r in
      let w1 = bind_parameter ctx.word (the at s) w in
      let l = later w1 (b.standing) in
      let e : suc k + length xs ≡ k + suc (length xs) = omega arith in
      record {
        standing = subst (λ i. Standing n (behind_parameters (resolved.bind_parameter s.name k ss) (suc k) xs) i (bind_parameters ctx.word params w1))
            e (l.standing);
        clear = λ vs. ap (parameters_faults ctx.word defines params w1) (b.clear vs) ∙ l.clear vs;
        wants = λ external. λ i. want_is s at ps external r i ∷ l.wants external i;
        count = ap suc (l.count);
      }

  record FurtherRead (xs : List Slot) (at : ℕ) (ps : List Piece) : Type 0 where
    behind_it : Stands tokens (more_end parameter_end at (map parameter_of xs)) ps
    all : (ss : List Scope) (k : ℕ) (w : Walk) (defines : Bool) → Standing n ss k w → AreParameters ss k xs defines →
        ParametersRead ss k w xs (further_parameters at (map parameter_of xs)) defines

  further_read : (xs : List Slot) (at : ℕ) (ps : List Piece) → Stands tokens at (more (map parameter_text xs) ps) → FurtherRead xs at ps
  further_read [] at ps b = record { behind_it = b; all = λ ss k w defines h v. none_read ss k w defines h }
  further_read (s ∷ xs) at ps b =
      let rest = more (map parameter_text xs) ps in
      let m = (mark_here n.slots tokens ctx.word words at (codes ",") (space (parameter_text s rest)) b).1 in
      let r = parameter_read s (at + 1) rest m in
      let l = further_read xs (parameter_end (at + 1) (parameter_of s)) ps (r.behind_it) in
      record {
        behind_it = l.behind_it;
        all = λ ss k w defines h v. one_more ss k w s xs (at + 1) rest
            (further_parameters (parameter_end (at + 1) (parameter_of s)) (map parameter_of xs)) defines h (v.0) r (λ u st. l.all _ _ u defines st (v.1));
      }

  pub record AllRead (xs : List Slot) (at : ℕ) (ps : List Piece) : Type 0 where
    pub behind_it : Stands tokens (parameters_end at (parameters_of xs)) ps
    pub all : (ss : List Scope) (k : ℕ) (w : Walk) (defines : Bool) → Standing n ss k w → AreParameters ss k xs defines →
        ParametersRead ss k w xs (written_parameters at (parameters_of xs)) defines

  pub all_read : (xs : List Slot) (at : ℕ) (ps : List Piece) → Stands tokens at (text.parameters_text xs ps) → AllRead xs at ps
  all_read [] at ps b = record {
    behind_it = (word_here n.slots tokens ctx.word words at (codes "void") ps b).1;
    all = λ ss k w defines h v. none_read ss k w defines h;
  }
  all_read (s ∷ xs) at ps b =
      let rest = more (map parameter_text xs) ps in
      let r = parameter_read s at rest b in
      let l = further_read xs (parameter_end at (parameter_of s)) ps (r.behind_it) in
      record {
        behind_it = l.behind_it;
        all = λ ss k w defines h v. one_more ss k w s xs at rest
            (further_parameters (parameter_end at (parameter_of s)) (map parameter_of xs)) defines h (v.0) r (λ u st. l.all _ _ u defines st (v.1));
      }
