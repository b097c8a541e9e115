-- The printed text of an expression has the tokens of its derivation, and its pieces stand apart.
use Rattle.std.proofs.Common.{◌≡◌, ◌≤◌, ◌+◌, ℕ, ℤ, pos, negsuc, Bool, true, false, nat_lt, List, [], ◌∷◌, ◌++◌, map, Option, Some, None, refl, ap, sym, subst, ◌∙◌, arith, append_assoc}
use Rattle.std.specs.Prelude.{codes, is_some}
use Rattle.c_types.specs.declared.kinds.IntKind.{IntKind}
use Rattle.c_types.specs.declared.kinds.IntKind.TheVariants as K
use Rattle.c_types.specs.declared.kinds.ArithOp.{ArithOp}
use Rattle.c_types.specs.declared.kinds.ArithOp.TheVariants.{Add, Sub, Mul, Div, Rem, Shl, Shr, And, Or, Xor}
use Rattle.c_types.specs.Words.{is_digit, is_word_byte}
use Rattle.c_lexer.specs.Bytes.{NotFirst}
use Rattle.c_lexer.specs.Numbers.{is_run, ends_with_power}
use Rattle.std.specs.Fmt.{signed_decimal}
use Rattle.c_tree.specs.declared.tree.Slot.{Slot}
use Rattle.c_tree.specs.declared.tree.Home.{Home}
use Rattle.c_tree.specs.declared.tree.BinaryOp.{BinaryOp}
use Rattle.c_tree.specs.declared.tree.BinaryOp.TheVariants.{Arith, Less, Greater, AtMost, AtLeast, Equal, Unequal, AndThen, OrElse}
use Rattle.c_tree.specs.declared.tree.Expression.{Expression, Expression-F, roll-Expression, map-Expression, ind-Expression, fold-roll-Expression}
use Rattle.c_tree.specs.declared.tree.Place.{Place, roll-Place, map-Place, fold-roll-Place}
use Rattle.c_tree.specs.declared.tree.Node.{Node, Node-F, roll-Node, map-Node, fold-roll-Node}
use Rattle.c_tree.specs.declared.tree.Node.TheOpen as N
use Rattle.c_tree.specs.ExpressionTrees.{ExpressionTree, PlaceTree, NodeTree, Typed, Arguments, NoArgument, Argument, arguments, node_layer, place_layer, expression_layer, expression_tree, node_tree, place_tree}
use Rattle.c_tree.specs.ExpressionTrees as t
use Rattle.c_tree.specs.TextPieces.{Piece, Text, suffix, spelled, ◌⨾◌, word, punctuator, number, character, literal, more, listed}
use Rattle.c_tree.specs.TextExpressions.{Leveled, Kinded, home_name, result_text, binary_spelling, update_spelling, count_spelling, binary_level, operands, prefix_or_postfix, node_step, place_step, expression_step, expression_text, node_text, place_text}
use Rattle.c_grammar.specs.declared.class.Class.{Class}
use Rattle.c_grammar.specs.declared.class.Class.TheVariants as c
use Rattle.c_grammar.specs.Expressions.{Expression as Derivation, expression_tokens, assignment_tokens, conditional_tokens, binary_tokens, unary_tokens, target_tokens, argument_tokens, arguments_tokens}
use Rattle.c_grammar.specs.Expressions as g
use Rattle.print_laws.specs.Reread.{number_text, grows, classes}
use Rattle.print_laws.specs.ExpressionDerivations.{unary_class, binary_class, as_assignment, as_conditional, as_binary, as_unary, followed_by, cast_of, count_of, call_of, argument_of, derivation_of, target_of, arguments_of}
use Rattle.c_resolved_defs.specs.PrintableExpressions.{level_of}
use Rattle.print_laws.specs.ExpressionDerivations as d
use Rattle.c_resolved_defs.specs.PrintableExpressions.{IsName, IsConstant, AreBytes, ArgumentPrints, Prints, PlacePrints, AllPrint}
use Rattle.print_laws.proofs.Levels.{Laid, bracketed_tokens, lies_open, lies_assigned, lies_chosen, lies_bound, lies_tight}
use Rattle.print_laws.proofs.ExpressionFits.{fits, level_is, mark_high, mark_low}
use Rattle.print_laws.proofs.Neighbours.{word_closed, run_closed, never, differs, first_of_and, IsMark}
use Rattle.print_laws.proofs.Parts.{Starts, Front, Part, part_of_front, part_as, starts_before, name_front, kind_front, void_front, bracketed_part, bare_part, unary_part, cast_part, spaced_part, comma_part, AreParts, listed_part}
use Rattle.print_laws.proofs.Numbers.{integer_in, number_is}

-- ---- marks

mark_is : (op : BinaryOp) → IsMark (binary_spelling op) (binary_class op)
mark_is (Arith Add) = record { same = refl; classed = refl; spaced = refl }
mark_is (Arith Sub) = record { same = refl; classed = refl; spaced = refl }
mark_is (Arith Mul) = record { same = refl; classed = refl; spaced = refl }
mark_is (Arith Div) = record { same = refl; classed = refl; spaced = refl }
mark_is (Arith Rem) = record { same = refl; classed = refl; spaced = refl }
mark_is (Arith Shl) = record { same = refl; classed = refl; spaced = refl }
mark_is (Arith Shr) = record { same = refl; classed = refl; spaced = refl }
mark_is (Arith And) = record { same = refl; classed = refl; spaced = refl }
mark_is (Arith Or) = record { same = refl; classed = refl; spaced = refl }
mark_is (Arith Xor) = record { same = refl; classed = refl; spaced = refl }
mark_is Less = record { same = refl; classed = refl; spaced = refl }
mark_is Greater = record { same = refl; classed = refl; spaced = refl }
mark_is AtMost = record { same = refl; classed = refl; spaced = refl }
mark_is AtLeast = record { same = refl; classed = refl; spaced = refl }
mark_is Equal = record { same = refl; classed = refl; spaced = refl }
mark_is Unequal = record { same = refl; classed = refl; spaced = refl }
mark_is AndThen = record { same = refl; classed = refl; spaced = refl }
mark_is OrElse = record { same = refl; classed = refl; spaced = refl }

update_is : (op : ArithOp) → IsMark (update_spelling op) c.Update
update_is Add = record { same = refl; classed = refl; spaced = refl }
update_is Sub = record { same = refl; classed = refl; spaced = refl }
update_is Mul = record { same = refl; classed = refl; spaced = refl }
update_is Div = record { same = refl; classed = refl; spaced = refl }
update_is Rem = record { same = refl; classed = refl; spaced = refl }
update_is Shl = record { same = refl; classed = refl; spaced = refl }
update_is Shr = record { same = refl; classed = refl; spaced = refl }
update_is And = record { same = refl; classed = refl; spaced = refl }
update_is Or = record { same = refl; classed = refl; spaced = refl }
update_is Xor = record { same = refl; classed = refl; spaced = refl }

pub equals_is : IsMark (codes "=") c.Equals
equals_is = record { same = refl; classed = refl; spaced = refl }

question_is : IsMark (codes "?") c.Question
question_is = record { same = refl; classed = refl; spaced = refl }

colon_is : IsMark (codes ":") c.Colon
colon_is = record { same = refl; classed = refl; spaced = refl }

-- ---- what is proved of each expression

-- wherever the grammar needs a level
abbrev pub ReadsExpression : Leveled → ExpressionTree → Type 0
ReadsExpression s x = (need : ℕ) → need ≤ 14 → Part (s need) (bracketed_tokens (nat_lt (level_of x) need) (derivation_of x))

laid : (need : ℕ) (s : Leveled) (x : ExpressionTree) (tokens : List Class → List Class) (events : List _ → List _) → need ≤ 14 → ReadsExpression s x →
    Laid need (derivation_of x) tokens events → Part (s need) tokens
laid need s x tokens events n h l =
    part_as (s need) (bracketed_tokens (nat_lt (level_of x) need) (derivation_of x)) tokens
    (λ r. l.0 r ∙ ap (λ k. bracketed_tokens (nat_lt k need) (derivation_of x) r) (level_is x)) (h need n)

pub opened : (s : Leveled) (x : ExpressionTree) → ReadsExpression s x → Part (s 1) (expression_tokens (derivation_of x))
opened s x h = laid 1 s x _ _ (omega arith) h (lies_open (derivation_of x) (fits x))

pub assigned : (s : Leveled) (x : ExpressionTree) → ReadsExpression s x → Part (s 2) (assignment_tokens (as_assignment (derivation_of x)))
assigned s x h = laid 2 s x _ _ (omega arith) h (lies_assigned (derivation_of x) (fits x))

pub chosen : (s : Leveled) (x : ExpressionTree) → ReadsExpression s x → Part (s 3) (conditional_tokens (as_conditional (derivation_of x)))
chosen s x h = laid 3 s x _ _ (omega arith) h (lies_chosen (derivation_of x) (fits x))

bound : (need : ℕ) (s : Leveled) (x : ExpressionTree) → 4 ≤ need → need ≤ 14 → ReadsExpression s x →
    Part (s need) (binary_tokens (as_binary need (derivation_of x)))
bound need s x l n h = laid need s x _ _ n h (lies_bound need (derivation_of x) l (fits x))

tight : (s : Leveled) (x : ExpressionTree) → ReadsExpression s x → Part (s 14) (unary_tokens (as_unary (derivation_of x)))
tight s x h = laid 14 s x _ _ (omega arith) h (lies_tight (derivation_of x) (fits x))

-- as an argument
abbrev pub ReadsArgument : Leveled → ExpressionTree → Type 0
ReadsArgument s x = Part (s 2) (argument_tokens (argument_of x (derivation_of x)))

-- ---- numbers, characters, texts

number_starts : (w : List ℕ) (v : List ℕ) (s : Text) → is_run (w ++ v) ≡ true → ((ps : List Piece) → spelled (s ps) ≡ w ++ (v ++ spelled ps)) → Starts s
number_starts w v s h e = by_cases (w ++ v) h (λ ps. e ps ∙ sym (append_assoc w v (spelled ps)))
  where
    by_cases : (u : List ℕ) → is_run u ≡ true → ((ps : List Piece) → spelled (s ps) ≡ u ++ spelled ps) → Starts s
    by_cases [] h e = cc
    by_cases (b ∷ u) h e =
        let f : is_digit b ≡ true = first_of_and (is_digit b) _ h in
        record { byte = b; not_equals = differs is_digit 61 b refl f; not_greater = differs is_digit 62 b refl f; first = λ ps. (u ++ spelled ps, e ps) }

some_is : (kind : Option IntKind) (n : ℤ) → IsConstant kind n → is_some (integer_in kind n) ≡ true
some_is (Some kind) (pos n) h = refl
some_is (Some K.Char) (negsuc n) h = absurd h
some_is (Some K.UChar) (negsuc n) h = absurd h
some_is (Some K.Int) (negsuc n) h = absurd h
some_is (Some K.UInt) (negsuc n) h = absurd h
some_is (Some K.Long) (negsuc n) h = absurd h
some_is (Some K.ULong) (negsuc n) h = absurd h
some_is None n h = absurd h

pub number_part : (kind : Option IntKind) (n : ℤ) → IsConstant kind n → Part (number kind n) (λ r. c.Number ∷ r)
number_part kind n h =
    let i = number_is kind n h in
    record {
      reads = λ ps. refl;
      quiet = λ ps. refl;
      starts = number_starts (signed_decimal n) (suffix kind) (number kind n) i.0 (λ ps. refl);
      apart = λ first ps k a. (i.0, ap is_some i.1 ∙ some_is kind n h, run_closed (ends_with_power (number_text kind n)) (spelled ps) k, a);
    }

character_part : (b : ℕ) → b ≤ 255 → Part (character b) (λ r. c.Character ∷ r)
character_part b h = record {
  reads = λ ps. refl;
  quiet = λ ps. refl;
  starts =
      record { byte = 39; not_equals = refl; not_greater = refl; first = λ ps. (_, refl) };
  apart = λ first ps k a. (h, a);
}

literal_part : (bs : List ℕ) → AreBytes bs → Part (literal bs) (λ r. c.Text ∷ r)
literal_part bs h = record {
  reads = λ ps. refl;
  quiet = λ ps. refl;
  starts =
      record { byte = 34; not_equals = refl; not_greater = refl; first = λ ps. (_, refl) };
  apart = λ first ps k a. (h, a);
}

-- ---- places

-- a text in `[` and `]` behind a name
pub cell_front : (w : List ℕ) (s : Text) (f : List Class → List Class) → IsName w → Part s f →
    Front (word w ⨾ punctuator (codes "[") ⨾ s ⨾ punctuator (codes "]")) (λ r. c.Name ∷ c.OpenIndex ∷ f (c.CloseIndex ∷ r))
cell_front w s f n h =
    let v = name_front w n in
    record {
      reads = λ ps. v.reads ((punctuator (codes "[") ⨾ s ⨾ punctuator (codes "]")) ps) ∙
          ap (λ l. c.Name ∷ c.OpenIndex ∷ l) (h.reads (punctuator (codes "]") ps));
      quiet = λ ps. v.quiet ((punctuator (codes "[") ⨾ s ⨾ punctuator (codes "]")) ps) ∙ h.quiet (punctuator (codes "]") ps);
      starts = starts_before (word w) (punctuator (codes "[") ⨾ s ⨾ punctuator (codes "]")) v.starts;
      apart = λ first ps k a.
          v.apart first ((punctuator (codes "[") ⨾ s ⨾ punctuator (codes "]")) ps) refl
          (refl, never (codes "[") (λ b. refl) _, h.apart false (punctuator (codes "]") ps) refl (refl, never (codes "]") (λ b. refl) _, a));
    }

-- ---- `++` and `--`

count_is : (up : Bool) → IsMark (count_spelling up) c.Step
count_is true = record { same = refl; classed = refl; spaced = refl }
count_is false = record { same = refl; classed = refl; spaced = refl }

count_never : (up : Bool) (r : List ℕ) → NotFirst (grows (count_spelling up)) r
count_never true r = never (codes "++") (λ b. refl) r
count_never false r = never (codes "--") (λ b. refl) r

count_starts : (up : Bool) (s : Text) → Starts (punctuator (count_spelling up) ⨾ s)
count_starts true s = record { byte = 43; not_equals = refl; not_greater = refl; first = λ ps. (_, refl) }
count_starts false s = record { byte = 45; not_equals = refl; not_greater = refl; first = λ ps. (_, refl) }

count_ends : (up : Bool) (ps : List Piece) → NotFirst is_word_byte (spelled (punctuator (count_spelling up) ps))
count_ends true ps = refl
count_ends false ps = refl

prefixed_part : (up : Bool) (s : Text) (f : List Class → List Class) → Front s f → Part (punctuator (count_spelling up) ⨾ s) (λ r. c.Step ∷ f r)
prefixed_part up s f h = record {
  reads = λ ps. λ i. (count_is up).classed i ∷ h.reads ps i;
  quiet = h.quiet;
  starts = count_starts up s;
  apart = λ first ps k a. ((count_is up).same, count_never up _, h.apart false ps (word_closed (spelled ps) k) a);
}

postfixed_part : (up : Bool) (s : Text) (f : List Class → List Class) → Front s f → Part (s ⨾ punctuator (count_spelling up)) (λ r. f (c.Step ∷ r))
postfixed_part up s f h = record {
  reads = λ ps. h.reads (punctuator (count_spelling up) ps) ∙ ap f (λ i. (count_is up).classed i ∷ classes ps);
  quiet = λ ps. h.quiet (punctuator (count_spelling up) ps);
  starts = starts_before s (punctuator (count_spelling up)) h.starts;
  apart = λ first ps k a. h.apart first (punctuator (count_spelling up) ps) (count_ends up ps) ((count_is up).same, count_never up (spelled ps), a);
}

count_reads : (kind : Option IntKind) (p : PlaceTree) (up after : Bool) (s : Text) → Front s (target_tokens (target_of p)) →
    ReadsExpression (prefix_or_postfix after (count_spelling up) s) (Typed kind (t.Count p up after))
count_reads kind p up false s h need n = bracketed_part 14 need (punctuator (count_spelling up) ⨾ s) (d.of_unary (g.StepTo (target_of p)))
    (prefixed_part up s (target_tokens (target_of p)) h)
count_reads kind p up true s h need n = bare_part need (s ⨾ punctuator (count_spelling up)) (d.of_unary (g.StepAfter (target_of p))) n
    (postfixed_part up s (target_tokens (target_of p)) h)

-- ---- casts

cast_reads : (kind : Option IntKind) (s : Text) (x : ExpressionTree) → Part s (unary_tokens (as_unary (derivation_of x)))
    → Part (punctuator (codes "(") ⨾ result_text kind ⨾ punctuator (codes ")") ⨾ s) (unary_tokens (cast_of kind (as_unary (derivation_of x))))
cast_reads None s x h = cast_part (word (codes "void")) s (λ r. c.Void ∷ r) (unary_tokens (as_unary (derivation_of x))) void_front h
cast_reads (Some kind) s x h = cast_part (result_text (Some kind)) s (g.type_tokens (d.type_of kind)) (unary_tokens (as_unary (derivation_of x)))
    (kind_front kind) h

-- ---- commas

followed_tokens : (e : Derivation) (b : g.Assignment) (r : List Class) →
    expression_tokens (followed_by e b) r ≡ expression_tokens e (c.Comma ∷ assignment_tokens b r)
followed_tokens (g.One a) b r = refl
followed_tokens (g.More a e) b r = ap (λ l. assignment_tokens a (c.Comma ∷ l)) (followed_tokens e b r)

-- ---- calls

-- the arguments between their brackets
call_part : (w : List ℕ) (ts : List Text) (xs : List g.Argument) → IsName w → AreParts ts xs →
    Part (word w ⨾ punctuator (codes "(") ⨾ listed ts ⨾ punctuator (codes ")")) (unary_tokens (call_of xs))
call_part w [] [] n h =
    let v = name_front w n in
    record {
      reads = λ ps. v.reads ((punctuator (codes "(") ⨾ punctuator (codes ")")) ps);
      quiet = λ ps. v.quiet ((punctuator (codes "(") ⨾ punctuator (codes ")")) ps);
      starts = starts_before (word w) (punctuator (codes "(") ⨾ punctuator (codes ")")) v.starts;
      apart = λ first ps k a. v.apart first ((punctuator (codes "(") ⨾ punctuator (codes ")")) ps) refl
          (refl, never (codes "(") (λ b. refl) (41 ∷ spelled ps), (refl, never (codes ")") (λ b. refl) (spelled ps), a));
    }
call_part w (s ∷ ts) (x ∷ xs) n h =
    let v = name_front w n in
    let l = listed_part s ts x xs h.0 h.1 in
    record {
      reads = λ ps. v.reads ((punctuator (codes "(") ⨾ (s ⨾ more ts) ⨾ punctuator (codes ")")) ps) ∙
          ap (λ l. c.Name ∷ c.Open ∷ l) (l.reads (punctuator (codes ")") ps));
      quiet = λ ps. v.quiet ((punctuator (codes "(") ⨾ (s ⨾ more ts) ⨾ punctuator (codes ")")) ps) ∙ l.quiet (punctuator (codes ")") ps);
      starts = starts_before (word w) (punctuator (codes "(") ⨾ (s ⨾ more ts) ⨾ punctuator (codes ")")) v.starts;
      apart = λ first ps k a.
          v.apart first ((punctuator (codes "(") ⨾ (s ⨾ more ts) ⨾ punctuator (codes ")")) ps) refl
          (refl, never (codes "(") (λ b. refl) _, l.apart false (punctuator (codes ")") ps) refl (refl, never (codes ")") (λ b. refl) (spelled ps), a));
    }
call_part w [] (x ∷ xs) n h = absurd h
call_part w (s ∷ ts) [] n h = absurd h

-- ---- each expression

module _ (slots : List Slot) where
  -- an expression by itself, and as an argument
  abbrev pub Reads : Leveled → ExpressionTree → Type 0
  Reads s x = (Prints slots x → ReadsExpression s x) × (ArgumentPrints (Prints slots x) x → ReadsArgument s x)

  abbrev ReadsNode : Kinded → NodeTree → Type 0
  ReadsNode s n = (kind : Option IntKind) → Reads (s kind) (Typed kind n)

  abbrev ReadsPlace : Text → PlaceTree → Type 0
  ReadsPlace s p = PlacePrints slots p → Front s (target_tokens (target_of p))

  abbrev IN : Type 0
  IN = (n : Node) × ReadsNode (node_text slots n) (node_tree n)

  abbrev IP : Type 0
  IP = (p : Place) × ReadsPlace (place_text slots p) (place_tree p)

  abbrev IE : Type 0
  IE = (e : Expression) × Reads (expression_text slots e) (expression_tree e)

  abbrev node : IN → Node
  node e = e.0

  abbrev place : IP → Place
  place e = e.0

  abbrev expression : IE → Expression
  expression e = e.0

  arguments_read : (xs : List IE) → AllPrint slots (arguments (map expression_tree (map expression xs))) →
      AreParts (operands (map (expression_text slots) (map expression xs))) (arguments_of (arguments (map expression_tree (map expression xs))))
  arguments_read [] h = tt
  arguments_read (x ∷ xs) h = (x.1.1 h.0, arguments_read xs h.1)

  abbrev texts_of : Node-F Node Place Expression → Node-F Kinded Text Leveled
  texts_of z = map-Node Node Place Expression Kinded Text Leveled (node_text slots) (place_text slots) (expression_text slots) z

  abbrev trees_of : Node-F Node Place Expression → Node-F NodeTree PlaceTree ExpressionTree
  trees_of z = map-Node Node Place Expression NodeTree PlaceTree ExpressionTree node_tree place_tree expression_tree z

  -- what takes no brackets
  bare : (s : Text) (kind : Option IntKind) (n : NodeTree) (u : g.Unary) → level_of (Typed kind n) ≡ 14 →
      derivation_of (Typed kind n) ≡ d.of_unary u → Part s (unary_tokens u) → ReadsExpression (λ need. s) (Typed kind n)
  bare s kind n u l e h need k =
      part_as s (bracketed_tokens (nat_lt 14 need) (d.of_unary u)) _ (λ r. (λ i. bracketed_tokens (nat_lt (l i) need) (e i) r))
      (bare_part need s (d.of_unary u) k h)

  node_reads : (y : Node-F IN IP IE) → ReadsNode (node_step slots (texts_of (map-Node IN IP IE Node Place Expression node place expression y)))
      (node_layer (trees_of (map-Node IN IP IE Node Place Expression node place expression y)))
  node_reads (N.Number n) kind =
      let f : IsConstant kind n → ReadsExpression (λ need. number kind n) (Typed kind (t.Number n)) =
      λ h. bare (number kind n) kind (t.Number n) g.Number refl refl (number_part kind n h) in
      (f, λ h. assigned (λ need. number kind n) (Typed kind (t.Number n)) (f h))
  node_reads (N.Character b) kind =
      let f : b ≤ 255 → ReadsExpression (λ need. character b) (Typed kind (t.Character b)) =
      λ h. bare (character b) kind (t.Character b) g.Character refl refl (character_part b h) in
      (f, λ h. assigned (λ need. character b) (Typed kind (t.Character b)) (f h))
  node_reads (N.EnumName name n) kind =
      let f : IsName name → ReadsExpression (λ need. word name) (Typed kind (t.EnumName name n)) =
      λ h. bare (word name) kind (t.EnumName name n) (g.Place g.Variable) refl refl (part_of_front (word name) (λ r. c.Name ∷ r) (name_front name h)) in
      (f, λ h. assigned (λ need. word name) (Typed kind (t.EnumName name n)) (f h))
  node_reads (N.Text bytes) kind = (λ h. absurd h, λ h. literal_part bytes h)
  node_reads (N.Array home) kind =
      let f : IsName (home_name slots home) → ReadsExpression (λ need. word (home_name slots home)) (Typed kind (t.Array home)) =
      λ h. bare (word (home_name slots home)) kind (t.Array home) (g.Place g.Variable) refl refl
      (part_of_front (word (home_name slots home)) (λ r. c.Name ∷ r) (name_front (home_name slots home) h)) in
      (f, λ h. assigned (λ need. word (home_name slots home)) (Typed kind (t.Array home)) (f h))
  node_reads (N.Read p) kind =
      let f : PlacePrints slots (place_tree p.0) → ReadsExpression (λ need. place_text slots p.0) (Typed kind (t.Read (place_tree p.0))) =
      λ h. bare (place_text slots p.0) kind (t.Read (place_tree p.0)) (g.Place (target_of (place_tree p.0))) refl refl
      (part_of_front (place_text slots p.0) _ (p.1 h)) in
      (f, λ h. assigned (λ need. place_text slots p.0) (Typed kind (t.Read (place_tree p.0))) (f h))
  node_reads (N.Unary op a) kind =
      let x = expression_tree a.0 in
      let s = expression_text slots a.0 in
      let f : Prints slots x → ReadsExpression (node_step slots (N.Unary op s) kind) (Typed kind (t.Unary op x)) =
      λ h need n. bracketed_part 14 need _ (d.of_unary (g.Prefixed (unary_class op) (as_unary (derivation_of x))))
      (unary_part (s 14) _ (tight s x (a.1.0 h)) op) in
      (f, λ h. assigned (node_step slots (N.Unary op s) kind) (Typed kind (t.Unary op x)) (f h))
  node_reads (N.Cast a) kind =
      let x = expression_tree a.0 in
      let s = expression_text slots a.0 in
      let f : Prints slots x → ReadsExpression (node_step slots (N.Cast s) kind) (Typed kind (t.Cast x)) =
      λ h need n. bracketed_part 14 need _ (d.of_unary (cast_of kind (as_unary (derivation_of x)))) (cast_reads kind (s 14) x (tight s x (a.1.0 h))) in
      (f, λ h. assigned (node_step slots (N.Cast s) kind) (Typed kind (t.Cast x)) (f h))
  node_reads (N.Binary op a b) kind =
      let x = expression_tree a.0 in
      let y = expression_tree b.0 in
      let s = expression_text slots a.0 in
      let u = expression_text slots b.0 in
      let l = mark_high op in
      let m = mark_low op in
      let f : Prints slots x × Prints slots y → ReadsExpression (node_step slots (N.Binary op s u) kind) (Typed kind (t.Binary op x y)) =
      λ h need n. bracketed_part (binary_level op) need _ (derivation_of (Typed kind (t.Binary op x y)))
      (spaced_part (s (binary_level op)) (u (binary_level op + 1)) (binary_tokens (as_binary (binary_level op) (derivation_of x)))
      (binary_tokens (as_binary (binary_level op + 1) (derivation_of y))) (binary_spelling op) (binary_class op)
      (bound (binary_level op) s x l (omega (arith, m)) (a.1.0 h.0)) (mark_is op)
      (bound (binary_level op + 1) u y (omega (arith, l)) (omega (arith, m)) (b.1.0 h.1))) in
      (f, λ h. assigned (node_step slots (N.Binary op s u) kind) (Typed kind (t.Binary op x y)) (f h))
  node_reads (N.Conditional a b v) kind =
      let x = expression_tree a.0 in
      let y = expression_tree b.0 in
      let z = expression_tree v.0 in
      let s = expression_text slots a.0 in
      let u = expression_text slots b.0 in
      let w = expression_text slots v.0 in
      let f : Prints slots x × Prints slots y × Prints slots z → ReadsExpression (node_step slots (N.Conditional s u w) kind)
      (Typed kind (t.Conditional x y z)) =
      λ h need n. bracketed_part 3 need _ (derivation_of (Typed kind (t.Conditional x y z)))
      (spaced_part (s 4) _ (binary_tokens (as_binary 4 (derivation_of x))) _ (codes "?") c.Question
      (bound 4 s x (omega arith) (omega arith) (a.1.0 h.0)) question_is
      (spaced_part (u 1) (w 3) (expression_tokens (derivation_of y)) (conditional_tokens (as_conditional (derivation_of z))) (codes ":") c.Colon
      (opened u y (b.1.0 h.1)) colon_is (chosen w z (v.1.0 h.2)))) in
      (f, λ h. assigned (node_step slots (N.Conditional s u w) kind) (Typed kind (t.Conditional x y z)) (f h))
  node_reads (N.Assign p a) kind =
      let x = expression_tree a.0 in
      let s = expression_text slots a.0 in
      let q = place_tree p.0 in
      let f : PlacePrints slots q × Prints slots x → ReadsExpression (node_step slots (N.Assign (place_text slots p.0) s) kind) (Typed kind (t.Assign q x)) =
      λ h need n. bracketed_part 2 need _ (derivation_of (Typed kind (t.Assign q x)))
      (spaced_part (place_text slots p.0) (s 2) (target_tokens (target_of q)) (assignment_tokens (as_assignment (derivation_of x))) (codes "=")
      c.Equals (part_of_front _ _ (p.1 h.0)) equals_is (assigned s x (a.1.0 h.1))) in
      (f, λ h. assigned (node_step slots (N.Assign (place_text slots p.0) s) kind) (Typed kind (t.Assign q x)) (f h))
  node_reads (N.Update op p a) kind =
      let x = expression_tree a.0 in
      let s = expression_text slots a.0 in
      let q = place_tree p.0 in
      let f : PlacePrints slots q × Prints slots x → ReadsExpression (node_step slots (N.Update op (place_text slots p.0) s) kind)
      (Typed kind (t.Update op q x)) =
      λ h need n. bracketed_part 2 need _ (derivation_of (Typed kind (t.Update op q x)))
      (spaced_part (place_text slots p.0) (s 2) (target_tokens (target_of q)) (assignment_tokens (as_assignment (derivation_of x)))
      (update_spelling op) c.Update (part_of_front _ _ (p.1 h.0)) (update_is op) (assigned s x (a.1.0 h.1))) in
      (f, λ h. assigned (node_step slots (N.Update op (place_text slots p.0) s) kind) (Typed kind (t.Update op q x)) (f h))
  node_reads (N.Count p up after) kind =
      let q = place_tree p.0 in
      let f : PlacePrints slots q → ReadsExpression (node_step slots (N.Count (place_text slots p.0) up after) kind)
      (Typed kind (t.Count q up after)) = λ h. count_reads kind q up after (place_text slots p.0) (p.1 h) in
      (f, λ h. assigned (node_step slots (N.Count (place_text slots p.0) up after) kind) (Typed kind (t.Count q up after)) (f h))
  node_reads (N.Comma a b) kind =
      let x = expression_tree a.0 in
      let y = expression_tree b.0 in
      let s = expression_text slots a.0 in
      let u = expression_text slots b.0 in
      let f : Prints slots x × Prints slots y → ReadsExpression (node_step slots (N.Comma s u) kind) (Typed kind (t.Comma x y)) =
      λ h need n. bracketed_part 1 need _ (derivation_of (Typed kind (t.Comma x y)))
      (part_as _ _ (expression_tokens (derivation_of (Typed kind (t.Comma x y)))) (followed_tokens (derivation_of x) (as_assignment (derivation_of y)))
      (comma_part (s 1) (u 2) (expression_tokens (derivation_of x)) (assignment_tokens (as_assignment (derivation_of y))) (opened s x (a.1.0 h.0))
      (assigned u y (b.1.0 h.1)))) in
      (f, λ h. assigned (node_step slots (N.Comma s u) kind) (Typed kind (t.Comma x y)) (f h))
  node_reads (N.Call name xs) kind =
      let es = map (expression_text slots) (map expression xs) in
      let ys = arguments (map expression_tree (map expression xs)) in
      let f : IsName name × AllPrint slots ys → ReadsExpression (node_step slots (N.Call name es) kind) (Typed kind (t.Call name ys)) =
      λ h. bare _ kind (t.Call name ys) (call_of (arguments_of ys)) refl refl (call_part name (operands es) (arguments_of ys) h.0 (arguments_read xs h.1)) in
      (f, λ h. assigned (node_step slots (N.Call name es) kind) (Typed kind (t.Call name ys)) (f h))

  var_reads : (home : Home) → ReadsPlace (place_step slots (N.Var home)) (t.Var home)
  var_reads home h = name_front (home_name slots home) h

  cell_reads : (home : Home) (a : IE) → ReadsPlace (place_step slots (N.Cell home (expression_text slots a.0))) (t.Cell home (expression_tree a.0))
  cell_reads home a h = cell_front (home_name slots home) (expression_text slots a.0 1) (expression_tokens (derivation_of (expression_tree a.0))) h.0
      (opened (expression_text slots a.0) (expression_tree a.0) (a.1.0 h.1))

  layer_reads : (y : N.Place-F IN IP IE) → ReadsPlace
      (place_step slots (map-Place Node Place Expression Kinded Text Leveled (node_text slots) (place_text slots) (expression_text slots)
      (map-Place IN IP IE Node Place Expression node place expression y)))
      (place_layer (map-Place Node Place Expression NodeTree PlaceTree ExpressionTree node_tree place_tree expression_tree
      (map-Place IN IP IE Node Place Expression node place expression y)))
  layer_reads (N.Var home) h = var_reads home h
  layer_reads (N.Cell home a) h = cell_reads home a h

  pub node_rolls : (z : Node-F Node Place Expression) → node_tree (roll-Node z) ≡ node_layer (trees_of z)
  unfolding node_tree place_tree expression_tree
  node_rolls z = fold-roll-Node NodeTree PlaceTree ExpressionTree node_layer place_layer expression_layer z

  place_rolls : (z : N.Place-F Node Place Expression) → place_tree (roll-Place z) ≡ place_layer
      (map-Place Node Place Expression NodeTree PlaceTree ExpressionTree node_tree place_tree expression_tree z)
  unfolding node_tree place_tree expression_tree
  place_rolls z = fold-roll-Place NodeTree PlaceTree ExpressionTree node_layer place_layer expression_layer z

  pub expression_rolls : (z : Expression-F Node Place Expression) → expression_tree (roll-Expression z) ≡ Typed z.kind (node_tree z.node)
  unfolding node_tree place_tree expression_tree
  expression_rolls z = fold-roll-Expression NodeTree PlaceTree ExpressionTree node_layer place_layer expression_layer z

  -- Where an expression prints, its text has the tokens of its derivation, with brackets where a level is needed, and its pieces stand apart.
  pub expression_reads : (e : Expression) → Reads (expression_text slots e) (expression_tree e)
  expression_reads = ind-Expression (λ n. ReadsNode (node_text slots n) (node_tree n)) (λ p. ReadsPlace (place_text slots p) (place_tree p))
      (λ e. Reads (expression_text slots e) (expression_tree e))
      (λ x y e. subst (λ (z : Node-F Node Place Expression). ReadsNode (node_text slots (roll-Node z)) (node_tree (roll-Node z))) e
      (subst (λ (s : Kinded). ReadsNode s (node_tree (roll-Node (map-Node IN IP IE Node Place Expression node place expression y))))
      (sym (fold-roll-Node Kinded Text Leveled (node_step slots) (place_step slots) expression_step _))
      (subst (λ (n : NodeTree). ReadsNode (node_step slots (texts_of (map-Node IN IP IE Node Place Expression node place expression y))) n)
      (sym (node_rolls _)) (node_reads y))))
      (λ x y e. subst (λ (z : N.Place-F Node Place Expression). ReadsPlace (place_text slots (roll-Place z)) (place_tree (roll-Place z))) e
      (subst (λ (s : Text). ReadsPlace s (place_tree (roll-Place (map-Place IN IP IE Node Place Expression node place expression y))))
      (sym (fold-roll-Place Kinded Text Leveled (node_step slots) (place_step slots) expression_step _))
      (subst (λ (p : PlaceTree). ReadsPlace
      (place_step slots (map-Place Node Place Expression Kinded Text Leveled (node_text slots) (place_text slots) (expression_text slots)
      (map-Place IN IP IE Node Place Expression node place expression y))) p) (sym (place_rolls _)) (layer_reads y))))
      (λ x y e. subst (λ (z : Expression-F Node Place Expression). Reads (expression_text slots (roll-Expression z)) (expression_tree (roll-Expression z))) e
      (subst (λ (s : Leveled). Reads s (expression_tree (roll-Expression (map-Expression IN IP IE Node Place Expression node place expression y))))
      (sym (fold-roll-Expression Kinded Text Leveled (node_step slots) (place_step slots) expression_step _))
      (subst (λ (x : ExpressionTree). Reads (node_text slots y.node.0 y.kind) x) (sym (expression_rolls _)) (y.node.1 y.kind))))
