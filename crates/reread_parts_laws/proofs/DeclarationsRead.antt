-- The printed text of a declared variable of a function reads back as the variable (ISO/IEC 9899:2011, 6.7).
use Rattle.std.proofs.Common.{◌≡◌, ◌≤◌, ◌+◌, ℕ, zero, suc, ℤ, pos, Bool, true, false, cond, not, ◌&&◌, ◌||◌, nat_lt, List, [], ◌∷◌, ◌++◌, map, length, take, Option, Some, None, is_some, refl, ap, sym, subst, ◌∙◌, arith, length-append}
use Rattle.std.specs.Prelude.{codes, option_map, slice_get, IfSome}
use Rattle.std.proofs.lemmas.Bool.{le-leb, le-ltb}
use Rattle.c_types.specs.declared.kinds.IntKind.TheVariants as K
use Rattle.c_tree.specs.declared.tree.Slot.{Slot}
use Rattle.c_tree.specs.declared.tree.Home.TheVariants as H
use Rattle.c_tree.specs.declared.tree.Item as item
use Rattle.c_tree.specs.ExpressionTrees.{ExpressionTree, expression_tree}
use Rattle.c_tree.specs.ExpressionTrees as t
use Rattle.c_tree.specs.Constants.{kind_of, HasKind, constant_value}
use Rattle.c_tree.specs.TextPieces.{Piece, Text, ◌⨾◌, space, word, punctuator, number, only_if, spaced, more, listed}
use Rattle.c_tree.specs.TextExpressions.{kind_text, operands}
use Rattle.c_tree.specs.TextPieces as p
use Rattle.c_tree.specs.TextItems.{kind_words, length_text, initialisers_text, declarator_text}
use Rattle.c_grammar.specs.ExpressionSyntax.{assignment_end, type_end}
use Rattle.c_grammar.specs.StatementSyntax.{word_end, rest_end, size_end, value_end, declarator_end}
use Rattle.c_grammar.specs.Terms.{At}
use Rattle.c_grammar.specs.Items as s
use Rattle.c_kinds.specs.declared.binding.Binding.TheVariants as binding
use Rattle.c_kinds.specs.Scopes.{Env, Faults, fault_if, is_bound}
use Rattle.c_kinds.specs.Values.{use_fault}
use Rattle.c_kinds.specs.Scopes as scopes
use Rattle.c_grammar.specs.Words.{kind_of as kind_of_words}
use Rattle.c_kinds.specs.Typing.{constant}
use Rattle.c_kinds.specs.Constants.{is_constant, constant_of}
use Rattle.c_statements.specs.declared.extents.Kinded.{Kinded}
use Rattle.c_statements.specs.declared.extents.Length.{Length}
use Rattle.c_statements.specs.declared.extents.Length.TheVariants as lengths
use Rattle.c_statements.specs.Context.{Walk, env_in}
use Rattle.c_statements.specs.Declarations.{or_placeholder, value_at, value_faults, each_faults, in_bounds, length_in, of_length, extent_of, cells_of, is_array, is_bad_value, is_bad_shape, size_faults, initial, initial_faults, shape_of, slot_of, declared, local, local_faults}
use Rattle.c_resolved_defs.specs.Names.{Names}
use Rattle.c_resolved_defs.specs.Scopes.{Scope, AVariable}
use Rattle.c_resolved_defs.specs.Within.{Each}
use Rattle.c_resolved_defs.specs.Files.{IsLength, AreInitialisers}
use Rattle.c_resolved_defs.specs.PrintableStatements.{LengthPrints, ValuesPrint}
use Rattle.print_laws.specs.Reread.{Spelling}
use Rattle.print_laws.specs.Standing.{Stands}
use Rattle.print_laws.specs.ExpressionDerivations.{type_of}
use Rattle.print_laws.specs.StatementDerivations.{assignment_of, size_of, value_of as given_of, declarator_of}
use Rattle.print_laws.proofs.Standings.{at_number}
use Rattle.reread_parts_laws.specs.WrittenExpressions.{type_words, assignment_form}
use Rattle.reread_parts_laws.specs.WrittenStatements.{further_terms, written_size, written_value, written_declarator}
use Rattle.reread_parts_laws.specs.Words.{AreWords}
use Rattle.reread_parts_laws.specs.Bindings.{IsInScope, AreSameScopes, shape_of as shape_in}
use Rattle.reread_parts_laws.specs.Places.{IsPlace, Standing}
use Rattle.reread_parts_laws.specs.GoodItems.{IsValueOf, IsVariable, with_slot}
use Rattle.reread_parts_laws.proofs.Mirrors.{expression_in, tree_text, again, texts_in}
use Rattle.reread_parts_laws.proofs.ExpressionWords.{word_here, mark_here, kind_here}
use Rattle.reread_parts_laws.proofs.Marks.{kind_is}
use Rattle.reread_parts_laws.proofs.Readings.{typed_of, has_valued, Reads, value_is, used_clear}
use Rattle.reread_parts_laws.proofs.ExpressionsRead.{number_typed}
use Rattle.reread_parts_laws.proofs.FullExpressions.{assigned_full}
use Rattle.reread_parts_laws.proofs.SameScopes.{scopes_agree, bind_same, new_unbound}

-- ---- values

module _ (env : Env) (first : ℕ) (x : ExpressionTree) where
  pub value_is_in : (form : _) → Reads env form x → HasKind (kind_of x) → value_at env (At first form) ≡ expression_in x
  value_is_in form r h = ap or_placeholder (value_is env form x r h) ∙ (has_valued x h).whole

  pub value_clear : (form : _) → Reads env form x → HasKind (kind_of x) → (vs : Faults) → value_faults env (At first form) vs ≡ vs
  value_clear form r h vs = used_clear env form x r h first vs

module _ (n : Names) (ss : List Scope) (env : Env) (tokens : List Spelling) (here : IsPlace n ss env tokens) where
  -- values behind the first, up to the `}`
  record FurtherRead (at : ℕ) (xs : List ExpressionTree) (ps : List Piece) : Type 0 where
    values : map (value_at env) (further_terms at (map assignment_of xs)) ≡ map expression_in xs
    clear : (vs : Faults) → each_faults (value_faults env) (further_terms at (map assignment_of xs)) vs ≡ vs
    behind : Stands tokens (rest_end assignment_end at (map assignment_of xs) false) ps

  further_read : (xs : List ExpressionTree) (at : ℕ) (ps : List Piece) → Each (IsValueOf n ss) xs →
      Stands tokens at (more (operands (map (tree_text n.slots) xs)) (punctuator (codes "}") ps)) → FurtherRead at xs ps
  further_read [] at ps h s = record { values = refl; clear = λ vs. refl; behind = (mark_here n.slots tokens env.word here.words at (codes "}") ps s).1 }
  further_read (x ∷ xs) at ps h s =
      let rest = more (operands (map (tree_text n.slots) xs)) (punctuator (codes "}") ps) in
      let m = mark_here n.slots tokens env.word here.words at (codes ",") (space (tree_text n.slots x 2 rest)) s in
      let u = assigned_full n ss env tokens here (at + 1) rest x ((h.0).good) (m.1) in
      let form = assignment_form (at + 1) (assignment_of x) in
      let y = assignment_end (at + 1) (assignment_of x) in
      let r = further_read xs y ps (h.1) (u.behind) in
      record {
        values = λ i. value_is_in env (at + 1) x form (u.reads) ((h.0).kind) i ∷ r.values i;
        clear = λ vs. ap (each_faults (value_faults env) (further_terms y (map assignment_of xs)))
            (value_clear env (at + 1) x form (u.reads) ((h.0).kind) vs) ∙ r.clear vs;
        behind = r.behind;
      }

  -- the initialisers of a variable, from their `=` on
  pub record ValuesRead (at : ℕ) (cells : Option ℕ) (given : Option (List ExpressionTree)) (ps : List Piece) : Type 0 where
    pub values : initial (value_at env) (written_value at (given_of cells given)) ≡ option_map (map expression_in) given
    pub clear : (vs : Faults) → initial_faults (value_faults env) (written_value at (given_of cells given)) vs ≡ vs
    pub behind : Stands tokens (value_end at (given_of cells given)) ps

  -- a number has one value, an array a list of them
  pub values_read : (cells : Option ℕ) (given : Option (List ExpressionTree)) (at : ℕ) (ps : List Piece) → ValuesPrint n.slots cells given →
      IfSome given (Each (IsValueOf n ss))
      → Stands tokens at (initialisers_text n.slots cells (option_map (map expression_in) given) ps) → ValuesRead at cells given ps
  values_read None None at ps v h s = record { values = refl; clear = λ vs. refl; behind = s }
  values_read (Some c) None at ps v h s = record { values = refl; clear = λ vs. refl; behind = s }
  values_read None (Some []) at ps v h s = absurd v
  values_read None (Some (x ∷ y ∷ xs)) at ps v h s = absurd v
  values_read (Some c) (Some []) at ps v h s = absurd v
  values_read None (Some (x ∷ [])) at ps v h s =
      let b = subst (λ l. Stands tokens at ((spaced (codes "=") ⨾ listed (operands l)) ps)) (texts_in n.slots (x ∷ [])) s in
      let m = mark_here n.slots tokens env.word here.words at (codes "=") (space (tree_text n.slots x 2 ps)) b in
      let u = assigned_full n ss env tokens here (at + 1) ps x ((h.0).good) (m.1) in
      let form = assignment_form (at + 1) (assignment_of x) in
      record {
        values = λ i. Some (value_is_in env (at + 1) x form (u.reads) ((h.0).kind) i ∷ []);
        clear = value_clear env (at + 1) x form (u.reads) ((h.0).kind);
        behind = u.behind;
      }
  values_read (Some c) (Some (x ∷ xs)) at ps v h s =
      let b = subst (λ l. Stands tokens at ((spaced (codes "=") ⨾ punctuator (codes "{") ⨾ listed (operands l) ⨾ punctuator (codes "}")) ps))
      (texts_in n.slots (x ∷ xs)) s in
      let rest = more (operands (map (tree_text n.slots) xs)) (punctuator (codes "}") ps) in
      let m = mark_here n.slots tokens env.word here.words at (codes "=") (space (punctuator (codes "{") (tree_text n.slots x 2 rest))) b in
      let o = mark_here n.slots tokens env.word here.words (at + 1) (codes "{") (tree_text n.slots x 2 rest) (m.1) in
      let u = assigned_full n ss env tokens here (at + 1 + 1) rest x ((h.0).good) (o.1) in
      let form = assignment_form (at + 1 + 1) (assignment_of x) in
      let y = assignment_end (at + 1 + 1) (assignment_of x) in
      let r = further_read xs y ps (h.1) (u.behind) in
      record {
        values = λ i. Some (value_is_in env (at + 1 + 1) x form (u.reads) ((h.0).kind) i ∷ r.values i);
        clear = λ vs. ap (each_faults (value_faults env) (further_terms y (map assignment_of xs)))
            (value_clear env (at + 1 + 1) x form (u.reads) ((h.0).kind) vs) ∙ r.clear vs;
        behind = r.behind;
      }

-- ---- constants

pub constant_is : (x : ExpressionTree) (v : ℤ) → HasKind (kind_of x) → is_constant x ≡ true → constant_value x ≡ Some v →
    constant_of (typed_of x) ≡ Some (expression_in x, v)
constant_is (t.Typed None y) v k c e = absurd k
constant_is (t.Typed (Some kind) y) v k c e =
    let x = t.Typed (Some kind) y in
    (λ i. cond (is_constant (again x i)) (option_map (λ z. (expression_in x, z)) (constant_value (again x i))) None)
    ∙ (λ i. cond (c i) (option_map (λ z. (expression_in x, z)) (e i)) None)

-- ---- lengths

-- the length of a slot
abbrev pub length_of : Option ℕ → Length
length_of None = lengths.NoLength
length_of (Some c) = lengths.Constant (Some (pos c))

bounds : (c : ℕ) → IsLength (Some c) → in_bounds (pos c) ≡ Some c
bounds c h =
    let a = h.0 in
    let b = h.1 in
    (λ i. cond (le-leb 1 c a i && le-leb c 65536 b i) (Some c) None)

pub array_is : (at : ℕ) (cells : Option ℕ) → is_array (written_size at (size_of cells)) ≡ is_some cells
array_is at None = refl
array_is at (Some c) = refl

pub extent_is : (cells : Option ℕ) (value : s.Initialiser) → IsLength cells → cells_of (extent_of (length_of cells) value) ≡ cells
extent_is None value h = refl
extent_is (Some c) value h = ap (λ o. cells_of (of_length o)) (bounds c h)

module _ (n : Names) (env : Env) (tokens : List Spelling) (words : AreWords env.word tokens) where
  pub record LengthRead (at : ℕ) (cells : Option ℕ) (ps : List Piece) : Type 0 where
    pub length_is : length_in env (written_size at (size_of cells)) ≡ length_of cells
    pub clear : (vs : Faults) → size_faults env (written_size at (size_of cells)) vs ≡ vs
    pub behind : Stands tokens (size_end at (size_of cells)) ps

  pub length_read : (cells : Option ℕ) (at : ℕ) (ps : List Piece) → LengthPrints cells → Stands tokens at (length_text cells ps) → LengthRead at cells ps
  length_read None at ps h s = record { length_is = refl; clear = λ vs. refl; behind = s }
  length_read (Some c) at ps h s =
      let x = t.Typed (Some K.Int) (t.Number (pos c)) in
      let m = mark_here n.slots tokens env.word words at (codes "[") (number (Some K.Int) (pos c) (punctuator (codes "]") ps)) s in
      let u = at_number tokens (at + 1) (punctuator (codes "]") ps) (Some K.Int) (pos c) (m.1) in
      let y : constant (env.word (at + 1)) ≡ typed_of x = number_typed (Some K.Int) (pos c) (env.word (at + 1)) (words (at + 1) _ (u.here)) h in
      let o : constant_of (constant (env.word (at + 1))) ≡ Some (expression_in x, pos c) = ap constant_of y ∙ constant_is x (pos c) tt refl refl in
      record {
        length_is = ap (λ z. lengths.Constant (option_map (λ v. v.1) z)) o;
        clear = λ vs i. fault_if (not (is_some (o i))) (at + 1) 34 (use_fault (at + 1) (y i) vs);
        behind = (mark_here n.slots tokens env.word words (at + 1 + 1) (codes "]") ps (u.behind)).1;
      }

-- ---- initialisers that fit

further_count : (xs : List ExpressionTree) (at : ℕ) → length (further_terms at (map assignment_of xs)) ≡ length xs
further_count [] at = refl
further_count (x ∷ xs) at = ap suc (further_count xs (assignment_end (at + 1) (assignment_of x)))

-- no more than there are cells, and not too many
pub well_shaped : (local : Bool) (most : ℕ) (slots : List Slot) (cells : Option ℕ) (given : Option (List ExpressionTree)) (at : ℕ) →
    (local ≡ true → most ≡ 1024) → ValuesPrint slots cells given → IsLength cells → IfSome given (AreInitialisers most cells)
    → is_bad_shape local (length_of cells) (written_value at (given_of cells given)) ≡ false
well_shaped local most slots None None at e v l h = refl
well_shaped local most slots None (Some (x ∷ [])) at e v l h = refl
well_shaped local most slots (Some c) None at e v l h = (λ i. not (is_some (bounds c l i)) || false)
well_shaped local most slots (Some c) (Some (x ∷ xs)) at e v l h =
    let y = assignment_end (at + 1 + 1) (assignment_of x) in
    let a = h.0 in
    let few : nat_lt c (suc (length (further_terms y (map assignment_of xs)))) ≡ false =
    ap (λ z. nat_lt c (suc z)) (further_count xs y) ∙ le-ltb c (suc (length xs)) a in
    (λ i. not (is_some (bounds c l i)) || is_bad_value local (of_length (bounds c l i)) (written_value at (given_of (Some c) (Some (x ∷ xs)))))
    ∙ (λ i. few i || (local && nat_lt 1024 c)) ∙ by_local local e (h.1)
  where
    by_local : (b : Bool) → (b ≡ true → most ≡ 1024) → c ≤ most → (b && nat_lt 1024 c) ≡ false
    by_local false f g = refl
    by_local true f g = let z = f refl in le-ltb 1024 c (omega (arith, z, g))
well_shaped local most slots None (Some []) at e v l h = absurd v
well_shaped local most slots None (Some (x ∷ y ∷ xs)) at e v l h = absurd v
well_shaped local most slots (Some c) (Some []) at e v l h = absurd v

-- ---- declared variables

pub take_next : (k : ℕ) (xs : List Slot) (s : Slot) → slice_get xs k ≡ Some s → take (suc k) xs ≡ take k xs ++ s ∷ []
take_next zero [] s e = cc
take_next (suc k) [] s e = cc
take_next zero (x ∷ xs) s e = let f : x ≡ s = cc in λ i. f i ∷ []
take_next (suc k) (x ∷ xs) s e = ap (λ l. x ∷ l) (take_next k xs s e)

abbrev pub kinds_of : Slot → Kinded
kinds_of s = record { kind = s.kind; constant = s.constant }

-- the words of a type, from a `const` on
pub record WordsRead (tokens : List Spelling) (word : ℕ → List ℕ) (at : ℕ) (s : Slot) (ps : List Piece) : Type 0 where
  pub kind_is_read : kind_of_words word (type_words (word_end at s.constant) (type_of s.kind)) ≡ s.kind
  pub behind : Stands tokens (type_end (word_end at s.constant) (type_of s.kind)) ps

pub words_read : (slots : List Slot) (tokens : List Spelling) (word : ℕ → List ℕ) → AreWords word tokens → (s : Slot) (at : ℕ) (ps : List Piece) →
    Stands tokens at (kind_words s ps) → WordsRead tokens word at s ps
words_read slots tokens word words s at ps h = by_const s.constant h
  where
    by_const : (b : Bool) → Stands tokens at ((only_if b (p.word (codes "const") ⨾ space) ⨾ kind_text s.kind) ps) →
        WordsRead tokens word at (record { name = s.name; kind = s.kind; cells = s.cells; constant = b }) ps
    by_const true h =
        let m = word_here slots tokens word words at (codes "const") (space (kind_text s.kind ps)) h in
        let k = kind_here slots tokens word words s.kind (at + 1) ps (m.1) in
        record { kind_is_read = kind_is word s.kind (at + 1) (k.0); behind = k.1 }
    by_const false h =
        let k = kind_here slots tokens word words s.kind at ps h in
        record { kind_is_read = kind_is word s.kind at (k.0); behind = k.1 }

module _ (n : Names) (word : ℕ → List ℕ) (tokens : List Spelling) (words : AreWords word tokens) where
  -- where expressions are read
  pub place_at : (ss : List Scope) (k : ℕ) (w : Walk) → Standing n ss k w → IsPlace n ss (env_in word w) tokens
  place_at ss k w h = record { words = words; scopes = scopes_agree n ss w.scopes h.same }

  abbrev declarator_at : ℕ → Slot → Option (List ExpressionTree) → s.Declarator
  declarator_at at s given = written_declarator at (declarator_of s given)

  pub record DeclaratorRead (ss : List Scope) (k : ℕ) (w : Walk) (at : ℕ) (s : Slot) (given : Option (List ExpressionTree)) (ps : List Piece) : Type 0 where
    pub behind : Stands tokens (declarator_end at (declarator_of s given)) ps
    pub standing : Standing n (with_slot k s ss) (suc k) (declared word (kinds_of s) (declarator_at at s given) w)
    pub local_is : local word (kinds_of s) (declarator_at at s given) w ≡ item.Local k (option_map (map expression_in) given)
    pub clear : (vs : Faults) → local_faults word (kinds_of s) (declarator_at at s given) w vs ≡ vs

  -- the walk behind the name
  walked : (ss : List Scope) (k : ℕ) (w : Walk) (at : ℕ) (s : Slot) (given : Option (List ExpressionTree)) → Standing n ss k w →
      IsVariable n ss k s given → word at ≡ s.name
      → length_in (env_in word w) (written_size (at + 1) (size_of s.cells)) ≡ length_of s.cells →
      Standing n (with_slot k s ss) (suc k) (declared word (kinds_of s) (declarator_at at s given) w)
  walked ss k w at s given here v named e =
      let d = declarator_at at s given in
      let shape : shape_of (kinds_of s) d ≡ shape_in s = λ i. record { kind = s.kind; array = array_is (at + 1) s.cells i; constant = s.constant } in
      let cells : cells_of (extent_of (length_in (env_in word w) d.size) d.value) ≡ s.cells =
      ap (λ z. cells_of (extent_of z d.value)) e ∙ extent_is s.cells d.value (v.length) in
      let b : Some (binding.Local k (shape_in s)) ≡ option_map (λ (r : Slot). binding.Local k (shape_in r)) (slice_get n.slots k) =
      ap (option_map (λ (r : Slot). binding.Local k (shape_in r))) (sym (v.slot_is)) in
      record {
        inside = inside_bound ss (here.inside);
        same = subst (λ z. AreSameScopes n (with_slot k s ss) z) (λ i. scopes.bind (sym named i) (binding.Local (sym (here.count) i) (sym shape i)) w.scopes)
            (bind_same n s.name (AVariable (H.Slot k)) (binding.Local k (shape_in s)) ss w.scopes (here.same) (here.inside) (v.new) b);
        slots_are = (λ i. (here.slots_are) i ++ (record { name = named i; kind = s.kind; cells = cells i; constant = s.constant }) ∷ []) ∙
            sym (take_next k n.slots s (v.slot_is));
        count = length-append w.slots (slot_of (env_in word w) (kinds_of s) d ∷ []) ∙ ap (λ z. z + 1) (here.count) ∙ one_more k;
      }
    where
      inside_bound : (ss : List Scope) → IsInScope ss → IsInScope (with_slot k s ss)
      inside_bound [] h = absurd h
      inside_bound (x ∷ ss) h = tt

      one_more : (k : ℕ) → k + 1 ≡ suc k
      one_more k = omega arith

  pub declarator_read : (ss : List Scope) (k : ℕ) (w : Walk) (at : ℕ) (s : Slot) (given : Option (List ExpressionTree)) (ps : List Piece) →
      Standing n ss k w → IsVariable n ss k s given
      → Stands tokens at (declarator_text n.slots s (option_map (map expression_in) given) ps) → DeclaratorRead ss k w at s given ps
  declarator_read ss k w at s given ps here v h =
      let d = declarator_at at s given in
      let es = option_map (map expression_in) given in
      let m = word_here n.slots tokens word words at s.name ((length_text s.cells ⨾ initialisers_text n.slots s.cells es) ps) h in
      let l = length_read n (env_in word w) tokens words s.cells (at + 1) (initialisers_text n.slots s.cells es ps) (v.prints.length) (m.1) in
      let after = walked ss k w at s given here v (m.0) (l.length_is) in
      let x = size_end (at + 1) (size_of s.cells) in
      let inner = declared word (kinds_of s) d w in
      let r = values_read n (with_slot k s ss) (env_in word inner) tokens (place_at (with_slot k s ss) (suc k) inner after) s.cells given x ps
      (v.prints.values) (v.values) (l.behind) in
      let shaped : is_bad_shape true (length_in (env_in word w) d.size) d.value ≡ false =
      ap (λ z. is_bad_shape true z d.value) (l.length_is) ∙ well_shaped true 1024 n.slots s.cells given x (λ e. refl) (v.prints.values)
      (v.length) (v.fits) in
      record {
        behind = r.behind;
        standing = after;
        local_is = λ i. item.Local (here.count i) (r.values i);
        clear = λ vs.
            r.clear (fault_if (is_bound (word at) w.scopes) at 21
            (fault_if (is_bad_shape true (length_in (env_in word w) d.size) d.value) at 35 (size_faults (env_in word w) d.size vs)))
            ∙ (λ i. fault_if (unbound (m.0) i) at 21 (fault_if (shaped i) at 35 (l.clear vs i)));
      }
    where
      unbound : word at ≡ s.name → is_bound (word at) w.scopes ≡ false
      unbound e = ap (λ z. is_bound z w.scopes) e ∙ new_unbound n s.name ss w.scopes (here.same) (v.new)
