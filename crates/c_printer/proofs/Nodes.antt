-- The texts of nodes, opened.
use Rattle.std.proofs.Common.{◌≡◌, ℕ, ◌+◌, ℤ, zero-le, Bool, false, nat_lt, List, Option, codes, sym, ap, ◌∙◌}
use Rattle.std.proofs.lemmas.Bool.{le-ltb}
use Rattle.c_types.specs.declared.kinds.IntKind.{IntKind}
use Rattle.c_types.specs.declared.kinds.ArithOp.{ArithOp}
use Rattle.c_tree.specs.declared.tree.Slot.{Slot}
use Rattle.c_tree.specs.declared.tree.UnaryOp.{UnaryOp}
use Rattle.c_tree.specs.declared.tree.BinaryOp.{BinaryOp}
use Rattle.c_tree.specs.declared.tree.Place.{Place}
use Rattle.c_tree.specs.declared.tree.Expression.{Expression, out-Expression, roll-out-Expression, fold-roll-Expression}
use Rattle.c_tree.specs.declared.tree.Node.{Node, Node-F, Number, Character, Read, Unary, Cast, Binary, Conditional, Assign, Update, Count, Comma, Call, roll-Node, map-Node, fold-roll-Node}
use Rattle.c_tree.specs.declared.tree.Node.TheVariants.{rolls-Number, rolls-Character, rolls-Read, rolls-Unary, rolls-Cast, rolls-Binary, rolls-Conditional, rolls-Assign, rolls-Update, rolls-Count, rolls-Comma, rolls-Call}
use Rattle.c_tree.specs.declared.tree.Node.TheOpen as N
use Rattle.c_tree.specs.TextPieces.{Text, ◌⨾◌, number, character, word, punctuator, only_if, spaced, comma}
use Rattle.c_tree.specs.TextExpressions.{Leveled, Kinded, node_step, place_step, expression_step, node_text, place_text, expression_text, expressions_text, result_text, unary_spelling, binary_spelling, update_spelling, count_spelling, binary_level, gap, prefix_or_postfix}
use Rattle.rg_ports.specs.Writing.{Progress}
use Rattle.c_printer.specs.Writing.{Prints}

-- one text after another
pub then : (a b c : Progress) (s t : Text) → Prints a b s → Prints b c t → Prints a c (s ⨾ t)
then a b c s t p q start whole rest h = q start whole rest (p start whole (t rest) h)

-- a text in another form
pub reads : (a b : Progress) (s t : Text) → s ≡ t → Prints a b s → Prints a b t
reads a b s t e p start whole rest h = p start whole rest (rw e h)

lt-zero : (n : ℕ) → nat_lt n 0 ≡ false
lt-zero n = le-ltb n 0 zero-le

pub expression_of : (slots : List Slot) (e : Expression) (need : ℕ) → node_text slots e.node e.kind need ≡ expression_text slots e need
expression_of slots e need =
    ap (λ (t : Leveled). t need) (sym (
    ap (expression_text slots) (sym (roll-out-Expression e))
    ∙ fold-roll-Expression Kinded Text Leveled (node_step slots) (place_step slots) expression_step (out-Expression e)))

-- the texts of nodes without brackets
module _ (slots : List Slot) (node : Node) (kind : Option IntKind) where
  stepped : (x : Node-F Node Place Expression) → node ≡ roll-Node x → node_step slots
      (map-Node Node Place Expression Kinded Text Leveled (node_text slots) (place_text slots) (expression_text slots) x) kind 0 ≡ node_text slots node kind 0
  stepped x e =
      ap (λ (t : Kinded). t kind 0) (sym (ap (node_text slots) e ∙ fold-roll-Node Kinded Text Leveled (node_step slots) (place_step slots) expression_step x))

  pub number_text : (n : ℤ) → node ≡ Number n → (number kind n) ≡ node_text slots node kind 0
  number_text n e = stepped (N.Number n) (e ∙ sym (rolls-Number n))

  pub character_text : (b : ℕ) → node ≡ Character b → (character b) ≡ node_text slots node kind 0
  character_text b e = stepped (N.Character b) (e ∙ sym (rolls-Character b))

  pub read_text : (p : Place) → node ≡ Read p → (place_text slots p) ≡ node_text slots node kind 0
  read_text p e = stepped (N.Read p) (e ∙ sym (rolls-Read p))

  pub unary_text : (op : UnaryOp) (x : Expression) (a : Expression) → node ≡ Unary op a → x ≡ a →
      (punctuator (unary_spelling op) ⨾ gap op (expression_text slots x 14) ⨾ expression_text slots x 14) ≡ node_text slots node kind 0
  unary_text op x a e q0 = rw (q0) (stepped (N.Unary op a) (e ∙ sym (rolls-Unary op a)))

  pub cast_text : (x : Expression) (a : Expression) → node ≡ Cast a → x ≡ a →
      (punctuator (codes "(") ⨾ result_text kind ⨾ punctuator (codes ")") ⨾ expression_text slots x 14) ≡ node_text slots node kind 0
  cast_text x a e q0 = rw (q0) (stepped (N.Cast a) (e ∙ sym (rolls-Cast a)))

  pub assign_text : (p : Place) (x : Expression) (a : Expression) → node ≡ Assign p a → x ≡ a →
      ((place_text slots p ⨾ spaced (codes "=")) ⨾ expression_text slots x 2) ≡ node_text slots node kind 0
  assign_text p x a e q0 = rw (q0) (stepped (N.Assign p a) (e ∙ sym (rolls-Assign p a)))

  pub update_text : (op : ArithOp) (p : Place) (x : Expression) (a : Expression) (operator : List ℕ) → node ≡ Update op p a → x ≡ a →
      operator ≡ update_spelling op → ((place_text slots p ⨾ spaced operator) ⨾ expression_text slots x 2) ≡ node_text slots node kind 0
  update_text op p x a operator e q0 q1 = rw (q0, q1) (stepped (N.Update op p a) (e ∙ sym (rolls-Update op p a)))

  pub count_text : (p : Place) (up : Bool) (after : Bool) → node ≡ Count p up after →
      (prefix_or_postfix after (count_spelling up) (place_text slots p) 0) ≡ node_text slots node kind 0
  count_text p up after e = stepped (N.Count p up after) (e ∙ sym (rolls-Count p up after))

  pub comma_text : (x : Expression) (y : Expression) (a : Expression) (b : Expression) → node ≡ Comma a b → x ≡ a → y ≡ b →
      (expression_text slots x 1 ⨾ comma ⨾ expression_text slots y 2) ≡ node_text slots node kind 0
  comma_text x y a b e q0 q1 = rw (q0, q1) (stepped (N.Comma a b) (e ∙ sym (rolls-Comma a b)))

  pub call_text : (f : List ℕ) (name : List ℕ) (given : List Expression) (arguments : List Expression) → node ≡ Call name arguments → f ≡ name →
      given ≡ arguments → (word f ⨾ punctuator (codes "(") ⨾ expressions_text slots given ⨾ punctuator (codes ")")) ≡ node_text slots node kind 0
  call_text f name given arguments e q0 q1 = rw (q0, q1) (stepped (N.Call name arguments) (e ∙ sym (rolls-Call name arguments)))

  pub conditional_text : (x : Expression) (y : Expression) (z : Expression) (a : Expression) (b : Expression) (c : Expression) →
      node ≡ Conditional a b c → x ≡ a → y ≡ b → z ≡ c →
      ((expression_text slots x 4 ⨾ spaced (codes "?")) ⨾ (expression_text slots y 1 ⨾ spaced (codes ":")) ⨾ expression_text slots z 3) ≡ node_text
      slots node kind 0
  conditional_text x y z a b c e q0 q1 q2 = rw (q0, q1, q2) (stepped (N.Conditional a b c) (e ∙ sym (rolls-Conditional a b c)))

  pub binary_text : (x y a b : Expression) (op : BinaryOp) (level : ℕ) (operator : List ℕ) → node ≡ Binary op a b → x ≡ a → y ≡ b →
      level ≡ binary_level op → operator ≡ binary_spelling op
      → ((expression_text slots x level ⨾ spaced operator) ⨾ expression_text slots y (level + 1)) ≡ node_text slots node kind 0
  binary_text x y a b op level operator e q0 q1 q2 q3 = rw (q0, q1, q2, q3)
      (ap (λ z. only_if z (punctuator (codes "(")) ⨾ ((expression_text slots a (binary_level op) ⨾ spaced (binary_spelling op)) ⨾ expression_text
      slots b (binary_level op + 1)) ⨾ only_if z (punctuator (codes ")"))) (sym (lt-zero (binary_level op)))
      ∙ stepped (N.Binary op a b) (e ∙ sym (rolls-Binary op a b)))
