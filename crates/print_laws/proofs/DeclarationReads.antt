-- The printed text of declarations has the tokens of its derivation, and its pieces stand apart.
use Rattle.std.proofs.Common.{◌≡◌, ℕ, pos, Bool, true, false, List, [], ◌∷◌, map, Option, Some, None, refl, ap, ◌∙◌}
use Rattle.std.specs.Prelude.{codes, option_map}
use Rattle.c_types.specs.declared.kinds.IntKind.TheVariants as K
use Rattle.c_tree.specs.declared.tree.Slot.{Slot}
use Rattle.c_tree.specs.declared.tree.Expression.{Expression}
use Rattle.c_tree.specs.ExpressionTrees.{expression_tree}
use Rattle.c_tree.specs.Trees.{expression_trees}
use Rattle.c_tree.specs.TextPieces.{Text, spelled, ◌⨾◌, space, word, punctuator, number, only_if, more}
use Rattle.c_tree.specs.TextExpressions.{kind_text, expression_text, operands, expressions_text}
use Rattle.c_tree.specs.TextItems.{length_text, values_text, initialisers_text, declarator_text, kind_words, declaration_text}
use Rattle.c_grammar.specs.declared.class.Class.{Class}
use Rattle.c_grammar.specs.declared.class.Class.TheVariants as c
use Rattle.c_grammar.specs.Expressions.{type_tokens, expression_tokens, assignment_tokens, conditional_tokens}
use Rattle.c_grammar.specs.Statements.{word_tokens, more_tokens, rest_tokens, size_tokens, value_tokens, declarator_tokens}
use Rattle.print_laws.specs.ExpressionDerivations.{type_of, derivation_of}
use Rattle.c_resolved_defs.specs.PrintableExpressions.{IsName}
use Rattle.print_laws.specs.StatementDerivations.{assignment_of, conditional_of, size_of, value_of, declarator_of}
use Rattle.c_resolved_defs.specs.PrintableStatements.{FullPrints, ListPrints, LengthPrints, ValuesPrint, DeclaratorPrints}
use Rattle.print_laws.proofs.Neighbours.{never}
use Rattle.print_laws.proofs.Parts.{Front, Part, part_of_front, part_as, starts_before, word_starts, name_front, kind_front, spaced_part, comma_part}
use Rattle.print_laws.proofs.ExpressionReads.{opened, assigned, chosen, expression_reads, number_part, cell_front, equals_is}

-- ---- full expressions

pub full_opened : (slots : List Slot) (need : ℕ) (e : Expression) → FullPrints slots need (expression_tree e) →
    Part (expression_text slots e 1) (expression_tokens (derivation_of (expression_tree e)))
full_opened slots need e h = opened (expression_text slots e) (expression_tree e) ((expression_reads slots e).0 h.prints)

pub full_assigned : (slots : List Slot) (need : ℕ) (e : Expression) → FullPrints slots need (expression_tree e) →
    Part (expression_text slots e 2) (assignment_tokens (assignment_of (expression_tree e)))
full_assigned slots need e h = assigned (expression_text slots e) (expression_tree e) ((expression_reads slots e).0 h.prints)

pub full_chosen : (slots : List Slot) (need : ℕ) (e : Expression) → FullPrints slots need (expression_tree e) →
    Part (expression_text slots e 3) (conditional_tokens (conditional_of (expression_tree e)))
full_chosen slots need e h = chosen (expression_text slots e) (expression_tree e) ((expression_reads slots e).0 h.prints)

-- ---- lists with commas between them

-- each text has the tokens of its element
abbrev pub AreAll : {X : Type 0} → (X → List Class → List Class) → List Text → List X → Type 0
AreAll y [] [] = Unit {0}
AreAll y (t ∷ ts) (x ∷ xs) = Part t (y x) × AreAll y ts xs
AreAll y _ _ = ⊥

pub more_part : {X : Type 0} (y : X → List Class → List Class) (t : Text) (ts : List Text) (x : X) (xs : List X) → Part t (y x) → AreAll y ts xs →
    Part (t ⨾ more ts) (λ r. y x (more_tokens y xs r))
more_part y t [] x [] h k = h
more_part y t (s ∷ ts) x (z ∷ zs) h k = comma_part t (s ⨾ more ts) (y x) (λ r. y z (more_tokens y zs r)) h (more_part y s ts z zs k.0 k.1)
more_part y t [] x (z ∷ zs) h k = absurd k
more_part y t (s ∷ ts) x [] h k = absurd k

pub rest_is : {X : Type 0} (y : X → List Class → List Class) (xs : List X) (r : List Class) → rest_tokens y xs false r ≡ more_tokens y xs (c.CloseBlock ∷ r)
rest_is y [] r = refl
rest_is y (x ∷ xs) r = ap (λ l. c.Comma ∷ y x l) (rest_is y xs r)

-- ---- values

values_read : (slots : List Slot) (es : List Expression) → ListPrints slots 2 (map expression_tree es) →
    AreAll assignment_tokens (operands (map (expression_text slots) es)) (map assignment_of (map expression_tree es))
values_read slots [] h = tt
values_read slots (e ∷ es) h = (full_assigned slots 2 e h.0, values_read slots es h.1)

-- in braces
pub braced_part : (t : Text) (f : List Class → List Class) → Part t f →
    Part (punctuator (codes "{") ⨾ t ⨾ punctuator (codes "}")) (λ r. c.OpenBlock ∷ f (c.CloseBlock ∷ r))
braced_part t f h = record {
  reads = λ ps. ap (λ l. c.OpenBlock ∷ l) (h.reads (punctuator (codes "}") ps));
  quiet = λ ps. h.quiet (punctuator (codes "}") ps);
  starts = record { byte = 123; not_equals = refl; not_greater = refl; first = λ ps. (_, refl) };
  apart = λ first ps n a. (
    refl,
    never (codes "{") (λ b. refl) _,
    h.apart false (punctuator (codes "}") ps) refl (
      refl,
      never (codes "}") (λ b. refl)
          (spelled ps),
      a,
    ),
  );
}

-- behind a declared name, its length and `=`
given_part : (slots : List Slot) (s : Text) (f : List Class → List Class) (cells : Option ℕ) (given : Option (List Expression)) → Front s f →
    ValuesPrint slots cells (option_map expression_trees given)
    → Part (s ⨾ initialisers_text slots cells given) (λ r. f (value_tokens (value_of cells (option_map expression_trees given)) r))
given_part slots s f None None h v = part_of_front s f h
given_part slots s f (Some n) None h v = part_of_front s f h
given_part slots s f None (Some (e ∷ [])) h v = spaced_part s (expression_text slots e 2) f (assignment_tokens (assignment_of (expression_tree e)))
    (codes "=") c.Equals (part_of_front s f h) equals_is (full_assigned slots 2 e v)
given_part slots s f (Some n) (Some (e ∷ es)) h v =
    let x = assignment_of (expression_tree e) in
    let xs = map assignment_of (map expression_tree es) in
    let l = more_part assignment_tokens (expression_text slots e 2) (operands (map (expression_text slots) es)) x xs (full_assigned slots 2 e v.0)
    (values_read slots es v.1) in
    let b = braced_part (expressions_text slots (e ∷ es)) (λ r. assignment_tokens x (more_tokens assignment_tokens xs r)) l in
    part_as _ _ _ (λ r. ap (λ l. f (c.Equals ∷ c.OpenBlock ∷ assignment_tokens x l)) (rest_is assignment_tokens xs r))
    (spaced_part s (values_text slots (Some n) (e ∷ es)) f (λ r. c.OpenBlock ∷ assignment_tokens x
    (more_tokens assignment_tokens xs (c.CloseBlock ∷ r))) (codes "=") c.Equals (part_of_front s f h) equals_is b)
given_part slots s f None (Some []) h v = absurd v
given_part slots s f None (Some (d ∷ e ∷ es)) h v = absurd v
given_part slots s f (Some n) (Some []) h v = absurd v

-- a declared name and its length
named_front : (w : List ℕ) (cells : Option ℕ) → IsName w → LengthPrints cells → Front (word w ⨾ length_text cells) (λ r. c.Name ∷ size_tokens (size_of cells) r)
named_front w None h l = name_front w h
named_front w (Some n) h l = cell_front w (number (Some K.Int) (pos n)) (λ r. c.Number ∷ r) h (number_part (Some K.Int) (pos n) l)

pub declarator_part : (slots : List Slot) (s : Slot) (given : Option (List Expression)) →
    DeclaratorPrints slots s (option_map expression_trees given) → Part (declarator_text slots s given)
    (declarator_tokens (declarator_of s (option_map expression_trees given)))
declarator_part slots s given h = given_part slots (word s.name ⨾ length_text s.cells) (λ r. c.Name ∷ size_tokens (size_of s.cells) r) s.cells given
    (named_front s.name s.cells h.named h.length) h.values

-- ---- the words before a name

pub kinds_front : (s : Slot) → Front (kind_words s) (λ r. word_tokens c.Const s.constant (type_tokens (type_of s.kind) r))
kinds_front s = by_word s.constant
  where
    by_word : (b : Bool) → Front (only_if b (word (codes "const") ⨾ space) ⨾ kind_text s.kind) (λ r. word_tokens c.Const b (type_tokens (type_of s.kind) r))
    by_word false = kind_front s.kind
    by_word true =
        let k = kind_front s.kind in
        record {
          reads = λ ps. ap (λ l. c.Const ∷ l) (k.reads ps);
          quiet = k.quiet;
          starts = starts_before (word (codes "const")) (space ⨾ kind_text s.kind) (word_starts (codes "const") refl);
          apart = λ first ps n a. (refl, refl, k.apart false ps n a);
        }

-- a text behind others and a space
pub behind_space : (s t : Text) (f g : List Class → List Class) → Front s f → Part t g → Part (s ⨾ space ⨾ t) (λ r. f (g r))
behind_space s t f g h k = record {
  reads = λ ps. h.reads ((space ⨾ t) ps) ∙ ap f (k.reads ps);
  quiet = λ ps. h.quiet ((space ⨾ t) ps) ∙ k.quiet ps;
  starts = starts_before s (space ⨾ t) h.starts;
  apart = λ first ps n a. h.apart first ((space ⨾ t) ps) refl (k.apart false ps n a);
}

-- a declaration without its `;`
pub declaration_part : (slots : List Slot) (s : Slot) (given : Option (List Expression)) → DeclaratorPrints slots s (option_map expression_trees given)
    → Part (declaration_text slots s given)
    (λ r. word_tokens c.Const s.constant (type_tokens (type_of s.kind) (declarator_tokens (declarator_of s (option_map expression_trees given)) r)))
declaration_part slots s given h =
    behind_space (kind_words s) (declarator_text slots s given) (λ r. word_tokens c.Const s.constant (type_tokens (type_of s.kind) r))
    (declarator_tokens (declarator_of s (option_map expression_trees given)))
    (kinds_front s) (declarator_part slots s given h)
