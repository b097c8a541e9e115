-- The words of the tokens of a printed expression are those of its plain tree, each at its place.
use Rattle.std.proofs.Common.{◌≡◌, ◌≤◌, ◌+◌, ℕ, Bool, true, false, nat_lt, List, [], map, Option, Some, None, refl, ap, sym, subst, ◌∙◌, arith}
use Rattle.std.specs.Prelude.{codes}
use Rattle.std.proofs.lemmas.Bool.{le-ltb}
use Rattle.c_types.specs.declared.kinds.IntKind.{IntKind}
use Rattle.c_types.specs.declared.kinds.IntKind.TheVariants as K
use Rattle.c_lexer.specs.Marks.{mark_text}
use Rattle.c_lexer.specs.Pieces as l
use Rattle.c_tree.specs.declared.tree.Slot.{Slot}
use Rattle.c_tree.specs.declared.tree.UnaryOp.{UnaryOp}
use Rattle.c_tree.specs.declared.tree.UnaryOp.TheVariants.{Plus, Minus}
use Rattle.c_tree.specs.ExpressionTrees.{ExpressionTree, PlaceTree, NodeTree, Typed, Arguments, NoArgument, Argument}
use Rattle.c_tree.specs.ExpressionTrees as t
use Rattle.c_tree.specs.TextPieces.{Piece, Text, ◌⨾◌, space, word, punctuator, only_if, spaced, comma, more, listed, begins_with}
use Rattle.c_tree.specs.TextExpressions.{home_name, kind_text, result_text, unary_spelling, binary_spelling, update_spelling, count_spelling, binary_level, operands, gap}
use Rattle.c_grammar.specs.Expressions as g
use Rattle.c_grammar.specs.ExpressionSyntax.{type_end, expression_end, assignment_end, conditional_end, binary_end, unary_end, target_end, arguments_end, argument_end}
use Rattle.print_laws.specs.Reread.{Spelling, mark_in, character_in, number_text}
use Rattle.print_laws.specs.Standing.{Stands}
use Rattle.print_laws.specs.ExpressionDerivations.{type_of, as_assignment, as_conditional, as_binary, as_unary, followed_by, cast_of, listed as listed_of, call_of, argument_of, derivation_of, target_of, arguments_of}
use Rattle.print_laws.proofs.ExpressionFits.{mark_high, mark_low}
use Rattle.print_laws.proofs.Standings.{next, at_word, at_punctuator, at_number, at_character, past_gap}
use Rattle.reread_parts_laws.specs.Words.{AreWords}
use Rattle.reread_parts_laws.proofs.Mirrors.{tree_text, place_tree_text, argument_texts}
use Rattle.reread_parts_laws.proofs.Operands.{past, beginning, bracketed_end, ending, opened, assigned, chosen, bound, tight}

-- ---- words

-- a mark is spelled so
abbrev pub marked : List ℕ → List ℕ
marked w = mark_text (mark_in w)

abbrev pub TypeIsSpelled : (ℕ → List ℕ) → ℕ → IntKind → Type 0
TypeIsSpelled word at K.Char = word at ≡ codes "char"
TypeIsSpelled word at K.UChar = (word at ≡ codes "unsigned") × (word (at + 1) ≡ codes "char")
TypeIsSpelled word at K.Int = word at ≡ codes "int"
TypeIsSpelled word at K.UInt = word at ≡ codes "unsigned"
TypeIsSpelled word at K.Long = word at ≡ codes "long"
TypeIsSpelled word at K.ULong = (word at ≡ codes "unsigned") × (word (at + 1) ≡ codes "long")

abbrev pub ResultIsSpelled : (ℕ → List ℕ) → ℕ → Option IntKind → Type 0
ResultIsSpelled word at None = Unit {0}
ResultIsSpelled word at (Some kind) = TypeIsSpelled word at kind

abbrev pub result_end : ℕ → Option IntKind → ℕ
result_end at None = at + 1
result_end at (Some kind) = type_end at (type_of kind)

-- `++` and `--` before or behind a place, by whether they stand behind
abbrev pub CountIsSpelled : (ℕ → List ℕ) → ℕ → List ℕ → (ℕ → Type 0) → ℕ → Bool → Type 0
CountIsSpelled word at mark place end false = (word at ≡ marked mark) × place (at + 1)
CountIsSpelled word at mark place end true = place at × (word end ≡ marked mark)

-- ---- expressions, over the slots that their names stand in, without the brackets round them

module _ (slots : List Slot) (word : ℕ → List ℕ) where
  abbrev mutual
    pub Spelled : ℕ → ExpressionTree → Type 0
    Spelled at (Typed kind n) = NodeIsSpelled at kind n

    pub NodeIsSpelled : ℕ → Option IntKind → NodeTree → Type 0
    NodeIsSpelled at kind (t.Number n) = word at ≡ number_text kind n
    NodeIsSpelled at kind (t.Character b) = word at ≡ l.spelled (l.Char (character_in 39 b)) []
    NodeIsSpelled at kind (t.EnumName name n) = word at ≡ name
    NodeIsSpelled at kind (t.Text bytes) = word at ≡ l.spelled (l.Text (map (character_in 34) bytes)) []
    NodeIsSpelled at kind (t.Array home) = word at ≡ home_name slots home
    NodeIsSpelled at kind (t.Read p) = PlaceIsSpelled at p
    NodeIsSpelled at kind (t.Unary op a) = (word at ≡ marked (unary_spelling op)) × Spelled (beginning 14 (at + 1) a) a
    NodeIsSpelled at kind (t.Cast a) = ResultIsSpelled word (at + 1) kind × Spelled (beginning 14 (result_end (at + 1) kind + 1) a) a
    NodeIsSpelled at kind (t.Binary op a b) =
        let x = ending (binary_level op) at a in
        Spelled (beginning (binary_level op) at a) a × (word x ≡ marked (binary_spelling op)) × Spelled (beginning (binary_level op + 1) (x + 1) b) b
    NodeIsSpelled at kind (t.Conditional a b c) =
        let x = ending 4 at a in
        let y = ending 1 (x + 1) b in
        Spelled (beginning 4 at a) a × Spelled (beginning 1 (x + 1) b) b × Spelled (beginning 3 (y + 1) c) c
    NodeIsSpelled at kind (t.Assign p a) =
        let x = target_end at (target_of p) in
        PlaceIsSpelled at p × (word x ≡ marked (codes "=")) × Spelled (beginning 2 (x + 1) a) a
    NodeIsSpelled at kind (t.Update op p a) =
        let x = target_end at (target_of p) in
        PlaceIsSpelled at p × (word x ≡ marked (update_spelling op)) × Spelled (beginning 2 (x + 1) a) a
    NodeIsSpelled at kind (t.Count p up after) = CountIsSpelled word at (count_spelling up) (λ i. PlaceIsSpelled i p) (target_end at (target_of p)) after
    NodeIsSpelled at kind (t.Comma a b) = Spelled (beginning 1 at a) a × Spelled (beginning 2 (ending 1 at a + 1) b) b
    NodeIsSpelled at kind (t.Call name xs) = (word at ≡ name) × AllAreSpelled (at + 1 + 1) xs

    pub PlaceIsSpelled : ℕ → PlaceTree → Type 0
    PlaceIsSpelled at (t.Var home) = word at ≡ home_name slots home
    PlaceIsSpelled at (t.Cell home a) = (word at ≡ home_name slots home) × Spelled (beginning 1 (at + 1 + 1) a) a

    -- arguments, between which commas stand
    pub AllAreSpelled : ℕ → Arguments → Type 0
    AllAreSpelled at NoArgument = Unit {0}
    AllAreSpelled at (Argument x xs) = Spelled (beginning 2 at x) x × AllAreSpelled (ending 2 at x + 1) xs

-- ---- ends

-- behind further arguments
abbrev pub more_end : ℕ → Arguments → ℕ
more_end at NoArgument = at
more_end at (Argument x xs) = more_end (ending 2 (at + 1) x) xs

abbrev pub list_end : ℕ → Arguments → ℕ
list_end at NoArgument = at
list_end at (Argument x xs) = more_end (ending 2 at x) xs

pub argument_end_is : (at : ℕ) (x : ExpressionTree) → argument_end at (argument_of x (derivation_of x)) ≡ ending 2 at x
argument_end_is at (Typed kind (t.Text bytes)) = refl
argument_end_is at (Typed kind n) = (assigned at (Typed kind n)).end_is

arguments_end_is : (xs : Arguments) (at : ℕ) (x : ExpressionTree) → arguments_end at
    (listed_of (argument_of x (derivation_of x)) (arguments_of xs)) ≡ more_end (ending 2 at x) xs
arguments_end_is NoArgument at x = argument_end_is at x
arguments_end_is (Argument y ys) at x =
    ap (λ k. arguments_end (k + 1) (listed_of (argument_of y (derivation_of y)) (arguments_of ys))) (argument_end_is at x)
    ∙ arguments_end_is ys (ending 2 at x + 1) y

call_end_is : (xs : Arguments) (at : ℕ) → unary_end at (call_of (arguments_of xs)) ≡ list_end (at + 1 + 1) xs + 1
call_end_is NoArgument at = refl
call_end_is (Argument x xs) at = ap (λ k. k + 1) (arguments_end_is xs (at + 1 + 1) x)

followed_end : (e : g.Expression) (at : ℕ) (b : g.Assignment) → expression_end at (followed_by e b) ≡ assignment_end (expression_end at e + 1) b
followed_end (g.One a) at b = refl
followed_end (g.More a e) at b = followed_end e (assignment_end at a + 1) b

-- ---- printed expressions

module _ (slots : List Slot) (tokens : List Spelling) (the_word : ℕ → List ℕ) (words : AreWords the_word tokens) where
  -- what stands at a place, and the end of it
  abbrev Walks : ℕ → List Piece → Type 0 → ℕ → Type 0
  Walks at ps S end = S × Stands tokens end ps

  pub as_end : (m n : ℕ) (ps : List Piece) → m ≡ n → Stands tokens n ps → Stands tokens m ps
  as_end m n ps e s = subst (λ k. Stands tokens k ps) (sym e) s

  pub word_here : (at : ℕ) (w : List ℕ) (ps : List Piece) → Stands tokens at (word w ps) → (the_word at ≡ w) × Stands tokens (at + 1) ps
  word_here at w ps s = let n = at_word tokens at ps w s in (words at _ n.here, n.behind)

  pub mark_here : (at : ℕ) (w : List ℕ) (ps : List Piece) → Stands tokens at (punctuator w ps) → (the_word at ≡ marked w) × Stands tokens (at + 1) ps
  mark_here at w ps s = let n = at_punctuator tokens at ps w s in (words at _ n.here, n.behind)

  pub kind_here : (kind : IntKind) (at : ℕ) (ps : List Piece) → Stands tokens at (kind_text kind ps) →
      TypeIsSpelled the_word at kind × Stands tokens (type_end at (type_of kind)) ps
  kind_here K.Char at ps s = word_here at (codes "char") ps s
  kind_here K.UChar at ps s =
      let a = word_here at (codes "unsigned") ((space ⨾ word (codes "char")) ps) s in
      let b = word_here (at + 1) (codes "char") ps (a.1) in
      ((a.0, b.0), b.1)
  kind_here K.Int at ps s = word_here at (codes "int") ps s
  kind_here K.UInt at ps s = word_here at (codes "unsigned") ps s
  kind_here K.Long at ps s = word_here at (codes "long") ps s
  kind_here K.ULong at ps s =
      let a = word_here at (codes "unsigned") ((space ⨾ word (codes "long")) ps) s in
      let b = word_here (at + 1) (codes "long") ps (a.1) in
      ((a.0, b.0), b.1)

  pub result_here : (result : Option IntKind) (at : ℕ) (ps : List Piece) → Stands tokens at (result_text result ps) →
      ResultIsSpelled the_word at result × Stands tokens (result_end at result) ps
  result_here None at ps s = (tt, (word_here at (codes "void") ps s).1)
  result_here (Some kind) at ps s = kind_here kind at ps s

  -- in brackets, if they stand there
  in_brackets : (b : Bool) (at : ℕ) (ps : List Piece) (s : Text) (S : ℕ → Type 0) (e : g.Expression)
      → ((i : ℕ) (qs : List Piece) → Stands tokens i (s qs) → S i × Stands tokens (expression_end i e) qs)
      → Stands tokens at ((only_if b (punctuator (codes "(")) ⨾ s ⨾ only_if b (punctuator (codes ")"))) ps) →
      S (past b at) × Stands tokens (bracketed_end b at e) ps
  in_brackets true at ps s S e f h =
      let o = mark_here at (codes "(") (s (punctuator (codes ")") ps)) h in
      let r = f (at + 1) (punctuator (codes ")") ps) (o.1) in
      (r.0, (mark_here (expression_end (at + 1) e) (codes ")") ps (r.1)).1)
  in_brackets false at ps s S e f h = f at ps h

  -- what takes no brackets
  bare : (need at : ℕ) (ps : List Piece) (S : ℕ → Type 0) (e : g.Expression) → need ≤ 14 → S at × Stands tokens (expression_end at e) ps →
      S (past (nat_lt 14 need) at) × Stands tokens (bracketed_end (nat_lt 14 need) at e) ps
  bare need at ps S e n h = subst (λ b. S (past b at) × Stands tokens (bracketed_end b at e) ps) (sym (le-ltb 14 need n)) h

  past_unary : (op : UnaryOp) (s : Text) (at : ℕ) (ps : List Piece) → Stands tokens at ((gap op s ⨾ s) ps) → Stands tokens at (s ps)
  past_unary Plus s at ps h = past_gap tokens at (s ps) (begins_with 43 s) h
  past_unary Minus s at ps h = past_gap tokens at (s ps) (begins_with 45 s) h
  past_unary _ s at ps h = h

  abbrev The : ℕ → ExpressionTree → Type 0
  The at x = Spelled slots the_word at x

  cast_end : (kind : Option IntKind) (at : ℕ) (a : ExpressionTree) (ps : List Piece) → Stands tokens (ending 14 (result_end (at + 1) kind + 1) a) ps →
      Stands tokens (unary_end at (cast_of kind (as_unary (derivation_of a)))) ps
  cast_end None at a ps s = as_end _ _ ps (tight (at + 1 + 1 + 1) a).end_is s
  cast_end (Some kind) at a ps s = as_end _ _ ps (tight (type_end (at + 1) (type_of kind) + 1) a).end_is s

  mutual
    pub spelled : (x : ExpressionTree) (need at : ℕ) (ps : List Piece) → need ≤ 14 → Stands tokens at (tree_text slots x need ps) →
        The (beginning need at x) x × Stands tokens (ending need at x) ps
    spelled (Typed kind n) need at ps h s = node_spelled n kind need at ps h s

    node_spelled : (n : NodeTree) (kind : Option IntKind) (need at : ℕ) (ps : List Piece) → need ≤ 14 →
        Stands tokens at (tree_text slots (Typed kind n) need ps)
        → The (beginning need at (Typed kind n)) (Typed kind n) × Stands tokens (ending need at (Typed kind n)) ps
    node_spelled (t.Number z) kind need at ps h s =
        let x = Typed kind (t.Number z) in
        let n = at_number tokens at ps kind z s in
        bare need at ps (λ i. The i x) (derivation_of x) h (words at _ n.here, n.behind)
    node_spelled (t.Character b) kind need at ps h s =
        let x = Typed kind (t.Character b) in
        let n = at_character tokens at ps b s in
        bare need at ps (λ i. The i x) (derivation_of x) h (words at _ n.here, n.behind)
    node_spelled (t.EnumName name z) kind need at ps h s =
        let x = Typed kind (t.EnumName name z) in
        bare need at ps (λ i. The i x) (derivation_of x) h (word_here at name ps s)
    node_spelled (t.Text bytes) kind need at ps h s =
        let x = Typed kind (t.Text bytes) in
        let n = next tokens at _ ps s in
        bare need at ps (λ i. The i x) (derivation_of x) h (words at _ n.here, n.behind)
    node_spelled (t.Array home) kind need at ps h s =
        let x = Typed kind (t.Array home) in
        bare need at ps (λ i. The i x) (derivation_of x) h (word_here at (home_name slots home) ps s)
    node_spelled (t.Read p) kind need at ps h s =
        let x = Typed kind (t.Read p) in
        bare need at ps (λ i. The i x) (derivation_of x) h (place_spelled p at ps s)
    node_spelled (t.Unary op a) kind need at ps h s =
        let x = Typed kind (t.Unary op a) in
        in_brackets (nat_lt 14 need) at ps (punctuator (unary_spelling op) ⨾ gap op (tree_text slots a 14) ⨾ tree_text slots a 14) (λ i. The i x)
        (derivation_of x)
        (λ i qs k. let m = mark_here i (unary_spelling op) ((gap op (tree_text slots a 14) ⨾ tree_text slots a 14) qs) k in
        let r = spelled a 14 (i + 1) qs (omega arith) (past_unary op (tree_text slots a 14) (i + 1) qs (m.1)) in
        ((m.0, r.0), as_end _ _ qs (tight (i + 1) a).end_is (r.1))) s
    node_spelled (t.Cast a) kind need at ps h s =
        let x = Typed kind (t.Cast a) in
        in_brackets (nat_lt 14 need) at ps (punctuator (codes "(") ⨾ result_text kind ⨾ punctuator (codes ")") ⨾ tree_text slots a 14) (λ i. The i x)
        (derivation_of x)
        (λ i qs k. let m = mark_here i (codes "(") ((result_text kind ⨾ punctuator (codes ")") ⨾ tree_text slots a 14) qs) k in
        let u = result_here kind (i + 1) ((punctuator (codes ")") ⨾ tree_text slots a 14) qs) (m.1) in
        let v = mark_here (result_end (i + 1) kind) (codes ")") (tree_text slots a 14 qs) (u.1) in
        let r = spelled a 14 (result_end (i + 1) kind + 1) qs (omega arith) (v.1) in
        ((u.0, r.0), cast_end kind i a qs (r.1))) s
    node_spelled (t.Binary op a b) kind need at ps h s =
        let x = Typed kind (t.Binary op a b) in
        let n = binary_level op in
        let low = mark_low op in
        let high = mark_high op in
        in_brackets (nat_lt n need) at ps (tree_text slots a n ⨾ spaced (binary_spelling op) ⨾ tree_text slots b (n + 1)) (λ i. The i x) (derivation_of x)
        (λ i qs k. let u = spelled a n i ((spaced (binary_spelling op) ⨾ tree_text slots b (n + 1)) qs) (omega (arith, low)) k in
        let y = ending n i a in
        let m = mark_here y (binary_spelling op) ((space ⨾ tree_text slots b (n + 1)) qs) (u.1) in
        let r = spelled b (n + 1) (y + 1) qs (omega (arith, low)) (m.1) in (
          (u.0, m.0, r.0),
          as_end _ _ qs (ap (λ e. binary_end (e + 1) (as_binary (n + 1) (derivation_of b))) (bound n i a high).end_is ∙
              (bound (n + 1) (y + 1) b (omega (arith, high))).end_is) (r.1),
        )) s
    node_spelled (t.Conditional a b c) kind need at ps h s =
        let x = Typed kind (t.Conditional a b c) in
        in_brackets (nat_lt 3 need) at ps (tree_text slots a 4 ⨾ spaced (codes "?") ⨾ tree_text slots b 1 ⨾ spaced (codes ":") ⨾ tree_text slots c 3)
        (λ i. The i x) (derivation_of x)
        (λ i qs k. let u = spelled a 4 i ((spaced (codes "?") ⨾ tree_text slots b 1 ⨾ spaced (codes ":") ⨾ tree_text slots c 3) qs) (omega arith) k in
        let y = ending 4 i a in
        let m = mark_here y (codes "?") ((space ⨾ tree_text slots b 1 ⨾ spaced (codes ":") ⨾ tree_text slots c 3) qs) (u.1) in
        let v = spelled b 1 (y + 1) ((spaced (codes ":") ⨾ tree_text slots c 3) qs) (omega arith) (m.1) in
        let z = ending 1 (y + 1) b in
        let o = mark_here z (codes ":") ((space ⨾ tree_text slots c 3) qs) (v.1) in
        let r = spelled c 3 (z + 1) qs (omega arith) (o.1) in (
          (u.0, v.0, r.0),
          as_end _ _ qs
              (ap (λ e. conditional_end (expression_end (e + 1) (derivation_of b) + 1) (as_conditional (derivation_of c))) (bound 4 i a (omega arith)).end_is
              ∙ ap (λ e. conditional_end (e + 1) (as_conditional (derivation_of c))) (opened (y + 1) b).end_is
              ∙ (chosen (z + 1) c).end_is) (r.1),
        )) s
    node_spelled (t.Assign p a) kind need at ps h s =
        let x = Typed kind (t.Assign p a) in
        in_brackets (nat_lt 2 need) at ps (place_tree_text slots p ⨾ spaced (codes "=") ⨾ tree_text slots a 2) (λ i. The i x) (derivation_of x)
        (λ i qs k. let u = place_spelled p i ((spaced (codes "=") ⨾ tree_text slots a 2) qs) k in
        let y = target_end i (target_of p) in
        let m = mark_here y (codes "=") ((space ⨾ tree_text slots a 2) qs) (u.1) in
        let r = spelled a 2 (y + 1) qs (omega arith) (m.1) in
        ((u.0, m.0, r.0), as_end _ _ qs (assigned (y + 1) a).end_is (r.1))) s
    node_spelled (t.Update op p a) kind need at ps h s =
        let x = Typed kind (t.Update op p a) in
        in_brackets (nat_lt 2 need) at ps (place_tree_text slots p ⨾ spaced (update_spelling op) ⨾ tree_text slots a 2) (λ i. The i x) (derivation_of x)
        (λ i qs k. let u = place_spelled p i ((spaced (update_spelling op) ⨾ tree_text slots a 2) qs) k in
        let y = target_end i (target_of p) in
        let m = mark_here y (update_spelling op) ((space ⨾ tree_text slots a 2) qs) (u.1) in
        let r = spelled a 2 (y + 1) qs (omega arith) (m.1) in
        ((u.0, m.0, r.0), as_end _ _ qs (assigned (y + 1) a).end_is (r.1))) s
    node_spelled (t.Count p up false) kind need at ps h s =
        let x = Typed kind (t.Count p up false) in
        in_brackets (nat_lt 14 need) at ps (punctuator (count_spelling up) ⨾ place_tree_text slots p) (λ i. The i x) (derivation_of x)
        (λ i qs k. let m = mark_here i (count_spelling up) (place_tree_text slots p qs) k in
        let r = place_spelled p (i + 1) qs (m.1) in
        ((m.0, r.0), r.1)) s
    node_spelled (t.Count p up true) kind need at ps h s =
        let x = Typed kind (t.Count p up true) in
        let r = place_spelled p at (punctuator (count_spelling up) ps) s in
        let m = mark_here (target_end at (target_of p)) (count_spelling up) ps (r.1) in
        bare need at ps (λ i. The i x) (derivation_of x) h ((r.0, m.0), m.1)
    node_spelled (t.Comma a b) kind need at ps h s =
        let x = Typed kind (t.Comma a b) in
        in_brackets (nat_lt 1 need) at ps (tree_text slots a 1 ⨾ comma ⨾ tree_text slots b 2) (λ i. The i x) (derivation_of x)
        (λ i qs k. let u = spelled a 1 i ((comma ⨾ tree_text slots b 2) qs) (omega arith) k in
        let y = ending 1 i a in
        let m = mark_here y (codes ",") ((space ⨾ tree_text slots b 2) qs) (u.1) in
        let r = spelled b 2 (y + 1) qs (omega arith) (m.1) in (
          (u.0, r.0),
          as_end _ _ qs
              (followed_end (derivation_of a) i (as_assignment (derivation_of b))
              ∙ ap (λ e. assignment_end (e + 1) (as_assignment (derivation_of b))) (opened i a).end_is
              ∙ (assigned (y + 1) b).end_is) (r.1),
        )) s
    node_spelled (t.Call name xs) kind need at ps h s =
        let x = Typed kind (t.Call name xs) in
        let w = word_here at name ((punctuator (codes "(") ⨾ listed (operands (argument_texts slots xs)) ⨾ punctuator (codes ")")) ps) s in
        let m = mark_here (at + 1) (codes "(") ((listed (operands (argument_texts slots xs)) ⨾ punctuator (codes ")")) ps) (w.1) in
        let r = call_spelled xs (at + 1 + 1) ps (m.1) in
        bare need at ps (λ i. The i x) (derivation_of x) h ((w.0, r.0), as_end _ _ ps (call_end_is xs at) (r.1))

    -- behind the bracket of a call
    call_spelled : (xs : Arguments) (at : ℕ) (ps : List Piece) → Stands tokens at ((listed (operands (argument_texts slots xs)) ⨾ punctuator (codes ")")) ps)
        → AllAreSpelled slots the_word at xs × Stands tokens (list_end at xs + 1) ps
    call_spelled NoArgument at ps s = (tt, (mark_here at (codes ")") ps s).1)
    call_spelled (Argument x xs) at ps s =
        let u = spelled x 2 at ((more (operands (argument_texts slots xs)) ⨾ punctuator (codes ")")) ps) (omega arith) s in
        let r = more_spelled xs (ending 2 at x) (punctuator (codes ")") ps) (u.1) in
        ((u.0, r.0), (mark_here (more_end (ending 2 at x) xs) (codes ")") ps (r.1)).1)

    more_spelled : (xs : Arguments) (at : ℕ) (ps : List Piece) → Stands tokens at (more (operands (argument_texts slots xs)) ps) →
        AllAreSpelled slots the_word (at + 1) xs × Stands tokens (more_end at xs) ps
    more_spelled NoArgument at ps s = (tt, s)
    more_spelled (Argument x xs) at ps s =
        let m = mark_here at (codes ",") ((space ⨾ tree_text slots x 2 ⨾ more (operands (argument_texts slots xs))) ps) s in
        let u = spelled x 2 (at + 1) (more (operands (argument_texts slots xs)) ps) (omega arith) (m.1) in
        let r = more_spelled xs (ending 2 (at + 1) x) ps (u.1) in
        ((u.0, r.0), r.1)

    place_spelled : (p : PlaceTree) (at : ℕ) (ps : List Piece) → Stands tokens at (place_tree_text slots p ps) →
        PlaceIsSpelled slots the_word at p × Stands tokens (target_end at (target_of p)) ps
    place_spelled (t.Var home) at ps s = word_here at (home_name slots home) ps s
    place_spelled (t.Cell home a) at ps s =
        let w = word_here at (home_name slots home) ((punctuator (codes "[") ⨾ tree_text slots a 1 ⨾ punctuator (codes "]")) ps) s in
        let m = mark_here (at + 1) (codes "[") ((tree_text slots a 1 ⨾ punctuator (codes "]")) ps) (w.1) in
        let r = spelled a 1 (at + 1 + 1) (punctuator (codes "]") ps) (omega arith) (m.1) in
        let e = as_end _ _ (punctuator (codes "]") ps) (opened (at + 1 + 1) a).end_is (r.1) in
        ((w.0, r.0), (mark_here (expression_end (at + 1 + 1) (derivation_of a)) (codes "]") ps e).1)
