-- What an expression means is what the walk finds it to be.
use Rattle.std.proofs.Common.{◌≡◌, ◌≢◌, inl, inr, ℕ, Bool, true, false, cond, List, [], ◌∷◌, Option, Some, None, refl, ap, sym, subst, ◌∙◌, ◌++◌, append_assoc, append-nil}
use Rattle.c_types.specs.declared.kinds.IntKind.{IntKind}
use Rattle.c_types.specs.declared.kinds.IntKind.TheVariants.{Int}
use Rattle.c_types.specs.declared.kinds.ArithOp.{ArithOp}
use Rattle.c_types.specs.Numbers.{usual_kind}
use Rattle.c_tree.specs.declared.tree.UnaryOp.{UnaryOp}
use Rattle.c_tree.specs.declared.tree.BinaryOp.{BinaryOp}
use Rattle.c_tree.specs.declared.tree.Expression.{Expression}
use Rattle.c_tree.specs.declared.tree.Home.TheVariants as home
use Rattle.c_tree.specs.declared.tree.Place as place
use Rattle.c_tree.specs.declared.tree.Node as node
use Rattle.c_tree.specs.declared.tree.Node.{Node}
use Rattle.c_lexer.specs.Marks.{mark_of}
use Rattle.c_lexer.specs.Numbers.{integer_of}
use Rattle.c_lexer.specs.declared.number.Integer.{Integer}
use Rattle.c_grammar.specs.Words.{is_character, character}
use Rattle.c_grammar.specs.DecodingSteps.{decoded}
use Rattle.c_grammar.proofs.DecodedSteps.{decoded_writes, written_decoded}
use Rattle.c_grammar.specs.Terms.{Term, Form, Terms, At, Constant, Variable, Cell, Prefix, Suffix, CastTo, CastVoid, Binary, Choice, Assign, Commas, Call, Texts, Unknown, NoTerm, Then}
use Rattle.c_kinds.specs.declared.binding.Binding.{Binding}
use Rattle.c_kinds.specs.declared.binding.Binding.TheVariants as binding
use Rattle.c_kinds.specs.declared.typed.Typed.{Typed}
use Rattle.c_kinds.specs.declared.typed.Typed.TheVariants.{Value, Void, Text, Array, Wrong}
use Rattle.c_kinds.specs.declared.typed.Valued.{Valued}
use Rattle.c_kinds.specs.declared.typed.Variable as of
use Rattle.c_kinds.specs.declared.typed.Target.{Target}
use Rattle.c_kinds.specs.Marks.{step_of, counts_up, unary_op, unary_kind, binary_op, binary_kind, update_op}
use Rattle.c_kinds.specs.Scopes.{Env, meaning}
use Rattle.c_kinds.specs.Values.{number, character_constant, of_result, value_of, dropped, expression, of_kind, target, number_target, cell_target, writable, reading, variable, unary, counting, cast, cast_void, binary, choice, stored, assignment, with_left, comma}
use Rattle.c_kinds.specs.Names.{variable_of, named}
use Rattle.c_kinds.specs.Calls.{called}
use Rattle.c_kinds.specs.Typing.{joined_texts, typed, form_typed, commas, target_of, form_target, given}
use Rattle.c_reading_defs.specs.Meanings.{IsVariable, IsNumber, IsCell, TextsWrite, IsCall, Means, FormMeans, AreCommas, one, more, MeansTarget, FormMeansTarget, AreMeant}
use Rattle.c_violation_laws.proofs.Lookups.{bound_is, is_bound}
use Rattle.c_violation_laws.proofs.CallMeanings.{types, AllRight, call_right, called_is, is_called}

-- ---- names

is_variable : (env : Env) (at : ℕ) (v : of.Variable) → IsVariable env at v → variable_of (env.word at) (meaning env at) ≡ Some v
is_variable env at v (inl h) =
    ap (variable_of (env.word at)) (is_bound (env.word at) env.scopes (binding.Global v.shape) h.0) ∙
    ap (λ x. Some (record { home = x; shape = v.shape })) (sym h.1)
is_variable env at v (inr h) =
    ap (variable_of (env.word at)) (is_bound (env.word at) env.scopes (binding.Local h.0 v.shape) h.1) ∙
    ap (λ x. Some (record { home = x; shape = v.shape })) (sym h.2)

variable_is : (env : Env) (at : ℕ) (v : of.Variable) (o : Option Binding) → meaning env at ≡ o → variable_of (env.word at) o ≡ Some v → IsVariable env at v
variable_is env at v (Some (binding.Global s)) m e =
    let f : record { home = home.Global (env.word at); shape = s } ≡ v = cc in
    subst (IsVariable env at) f (inl (bound_is (env.word at) env.scopes (binding.Global s) m, refl))
variable_is env at v (Some (binding.Local n s)) m e =
    let f : record { home = home.Slot n; shape = s } ≡ v = cc in
    subst (IsVariable env at) f (inr (n, bound_is (env.word at) env.scopes (binding.Local n s) m, refl))
variable_is env at v (Some (binding.Constant n)) m e = cc
variable_is env at v (Some (binding.Function s)) m e = cc
variable_is env at v (Some binding.Printf) m e = cc
variable_is env at v None m e = cc

-- a name is a variable's where it is read
named_variable : (at : ℕ) (name : List ℕ) (o : Option Binding) (v : of.Variable) → variable_of name o ≡ Some v → named at name o ≡ variable at v
named_variable at name (Some (binding.Global s)) v e = let f : record { home = home.Global name; shape = s } ≡ v = cc in ap (variable at) f
named_variable at name (Some (binding.Local n s)) v e = let f : record { home = home.Slot n; shape = s } ≡ v = cc in ap (variable at) f
named_variable at name (Some (binding.Constant n)) v e = cc
named_variable at name (Some (binding.Function s)) v e = cc
named_variable at name (Some binding.Printf) v e = cc
named_variable at name None v e = cc

is_named : (env : Env) (at : ℕ) (x : Typed) → FormMeans env (Variable at) x → form_typed env (Variable at) ≡ x
is_named env at x (inl h) = ap (named at (env.word at)) (is_bound (env.word at) env.scopes (binding.Constant h.0) h.1) ∙ sym h.2
is_named env at x (inr h) = named_variable at (env.word at) (meaning env at) h.0 (is_variable env at h.0 h.1) ∙ sym h.2

named_is : (env : Env) (at : ℕ) (x : Typed) (o : Option Binding) → meaning env at ≡ o → named at (env.word at) o ≡ x → x ≢ Wrong → FormMeans env (Variable at) x
named_is env at x (Some (binding.Constant n)) m e r = inl (n, bound_is (env.word at) env.scopes (binding.Constant n) m, sym e)
named_is env at x (Some (binding.Global s)) m e r =
    inr (record { home = home.Global (env.word at); shape = s }, inl (bound_is (env.word at) env.scopes (binding.Global s) m, refl), sym e)
named_is env at x (Some (binding.Local n s)) m e r =
    inr (record { home = home.Slot n; shape = s }, inr (n, bound_is (env.word at) env.scopes (binding.Local n s) m, refl), sym e)
named_is env at x (Some (binding.Function s)) m e r = absurd (r (sym e))
named_is env at x (Some binding.Printf) m e r = absurd (r (sym e))
named_is env at x None m e r = absurd (r (sym e))

-- ---- targets

number_by : (v : of.Variable) (b : Bool) → v.shape.array ≡ b → b ≡ false → number_target (Some v) ≡ Some (target (place.Var v.home) v.shape)
number_by v true e f = cc
number_by v false e f = ap (λ b. cond b None (Some (target (place.Var v.home) v.shape))) e

cell_by : (v : of.Variable) (i : Valued) (b : Bool) → v.shape.array ≡ b → b ≡ true →
    cell_target (Some v) (Some i) ≡ Some (target (place.Cell v.home (expression i)) v.shape)
cell_by v i true e f = ap (λ b. cond b (Some (target (place.Cell v.home (expression i)) v.shape)) None) e
cell_by v i false e f = cc

is_number : (env : Env) (at : ℕ) (y : Target) → IsNumber env at y → number_target (variable_of (env.word at) (meaning env at)) ≡ Some y
is_number env at y h = ap number_target (is_variable env at h.0 h.1) ∙ number_by h.0 h.0.shape.array refl h.2 ∙ ap Some (sym h.3)

is_cell : (env : Env) (at : ℕ) (i : Valued) (y : Target) → IsCell env at i y → cell_target (variable_of (env.word at) (meaning env at)) (Some i) ≡ Some y
is_cell env at i y h = ap (λ o. cell_target o (Some i)) (is_variable env at h.0 h.1) ∙ cell_by h.0 i h.0.shape.array refl h.2 ∙ ap Some (sym h.3)

number_at : (env : Env) (at : ℕ) (y : Target) (v : of.Variable) (b : Bool) → IsVariable env at v → v.shape.array ≡ b
    → cond b None (Some (target (place.Var v.home) v.shape)) ≡ Some y → IsNumber env at y
number_at env at y v true h a e = cc
number_at env at y v false h a e = let f : target (place.Var v.home) v.shape ≡ y = cc in (v, h, a, sym f)

number_is : (env : Env) (at : ℕ) (y : Target) (o : Option of.Variable) → variable_of (env.word at) (meaning env at) ≡ o → number_target o ≡ Some y →
    IsNumber env at y
number_is env at y (Some v) m e = number_at env at y v v.shape.array (variable_is env at v (meaning env at) refl m) refl e
number_is env at y None m e = cc

record CellAt (env : Env) (at : ℕ) (o : Option Valued) (y : Target) : Type 0 where
  index : Valued
  index_is : o ≡ Some index
  cell : IsCell env at index y

cell_at : (env : Env) (at : ℕ) (i : Valued) (y : Target) (v : of.Variable) (b : Bool) → IsVariable env at v → v.shape.array ≡ b
    → cond b (Some (target (place.Cell v.home (expression i)) v.shape)) None ≡ Some y → IsCell env at i y
cell_at env at i y v true h a e = let f : target (place.Cell v.home (expression i)) v.shape ≡ y = cc in (v, h, a, sym f)
cell_at env at i y v false h a e = cc

cell_is : (env : Env) (at : ℕ) (i : Option Valued) (y : Target) (o : Option of.Variable) → variable_of (env.word at) (meaning env at) ≡ o →
    cell_target o i ≡ Some y → CellAt env at i y
cell_is env at (Some i) y (Some v) m e = record {
  index = i;
  index_is = refl;
  cell = cell_at env at i y v v.shape.array
      (variable_is env at v (meaning env at) refl m) refl e;
}
cell_is env at None y (Some v) m e = cc
cell_is env at None y None m e = cc
cell_is env at (Some i) y None m e = cc

is_writable : (y : Target) (b : Bool) → y.constant ≡ b → b ≡ false → writable (Some y) ≡ Some y
is_writable y true e f = cc
is_writable y false e f = ap (λ b. cond b None (Some y)) e

-- ---- operands

pub value_right : (v : Valued) → Value v ≢ Wrong
value_right v e = cc

value_is : (x : Typed) (v : Valued) → value_of x ≡ Some v → x ≡ Value v
value_is (Value w) v e = let f : w ≡ v = cc in ap Value f
value_is _ v e = cc

dropped_right : (x : Typed) (e : Expression) → dropped x ≡ Some e → x ≢ Wrong
dropped_right (Value w) e f g = cc
dropped_right (Void w) e f g = cc
dropped_right (Text w) e f g = cc
dropped_right (Array w) e f g = cc
dropped_right Wrong e f g = cc

record Needs {A : Type 0} (o : Option A) (P : A → Type 0) : Type 0 where
  it : A
  it_is : o ≡ Some it
  holds : P it

unary_is : (op : UnaryOp) (o : Option Valued) (x : Typed) → unary op o ≡ x → x ≢ Wrong →
    Needs o (λ v. x ≡ of_kind (unary_kind op v.kind) (node.Unary op (expression v)))
unary_is op (Some v) x e r = record { it = v; it_is = refl; holds = sym e }
unary_is op None x e r = absurd (r (sym e))

cast_is : (k : IntKind) (o : Option Valued) (x : Typed) → cast k o ≡ x → x ≢ Wrong → Needs o (λ v. x ≡ of_kind k (node.Cast (expression v)))
cast_is k (Some v) x e r = record { it = v; it_is = refl; holds = sym e }
cast_is k None x e r = absurd (r (sym e))

cast_void_is : (o : Option Expression) (x : Typed) → cast_void o ≡ x → x ≢ Wrong → Needs o (λ a. x ≡ Void (node.Cast a))
cast_void_is (Some v) x e r = record { it = v; it_is = refl; holds = sym e }
cast_void_is None x e r = absurd (r (sym e))

binary_is : (op : BinaryOp) (o p : Option Valued) (x : Typed) → binary op o p ≡ x → x ≢ Wrong
    → Needs o (λ v. Needs p (λ w. x ≡ of_kind (binary_kind op v.kind w.kind) (node.Binary op (expression v) (expression w))))
binary_is op (Some v) (Some w) x e r = record { it = v; it_is = refl; holds = record { it = w; it_is = refl; holds = sym e } }
binary_is op None p x e r = absurd (r (sym e))
binary_is op (Some v) None x e r = absurd (r (sym e))

choice_is : (o p q : Option Valued) (x : Typed) → choice o p q ≡ x → x ≢ Wrong
    → Needs o (λ u. Needs p (λ v. Needs q (λ w. x ≡ of_kind (usual_kind v.kind w.kind) (node.Conditional (expression u) (expression v) (expression w)))))
choice_is (Some u) (Some v) (Some w) x e r =
    record { it = u; it_is = refl; holds = record { it = v; it_is = refl; holds = record { it = w; it_is = refl; holds = sym e } } }
choice_is None p q x e r = absurd (r (sym e))
choice_is (Some u) None q x e r = absurd (r (sym e))
choice_is (Some u) (Some v) None x e r = absurd (r (sym e))

writable_by : (t : Target) (b : Bool) {P : Target → Type 0} → t.constant ≡ b → Needs (cond b None (Some t)) P → (t.constant ≡ false) × P t
writable_by t true e n = let k : None ≡ Some n.it = n.it_is in cc
writable_by t false {P} e n = let k : t ≡ n.it = cc in (e, subst P (sym k) n.holds)

writable_is : (o : Option Target) {P : Target → Type 0} → Needs (writable o) P → Needs o (λ y. (y.constant ≡ false) × P y)
writable_is (Some t) n = record { it = t; it_is = refl; holds = writable_by t t.constant refl n }
writable_is None n = let k : None ≡ Some n.it = n.it_is in cc

counting_is : (up after : Bool) (o : Option Target) (x : Typed) → counting up after o ≡ x → x ≢ Wrong →
    Needs o (λ y. x ≡ of_kind y.kind (node.Count y.place up after))
counting_is up after (Some y) x e r = record { it = y; it_is = refl; holds = sym e }
counting_is up after None x e r = absurd (r (sym e))

reading_is : (o : Option Target) (x : Typed) → reading o ≡ x → x ≢ Wrong → Needs o (λ y. x ≡ of_kind y.kind (node.Read y.place))
reading_is (Some y) x e r = record { it = y; it_is = refl; holds = sym e }
reading_is None x e r = absurd (r (sym e))

assignment_is : (op : Option ArithOp) (o : Option Target) (p : Option Valued) (x : Typed) → assignment op o p ≡ x → x ≢ Wrong
    → Needs o (λ y. Needs p (λ v. x ≡ of_kind y.kind (stored op y (expression v))))
assignment_is op (Some y) (Some v) x e r = record { it = y; it_is = refl; holds = record { it = v; it_is = refl; holds = sym e } }
assignment_is op None p x e r = absurd (r (sym e))
assignment_is op (Some y) None x e r = absurd (r (sym e))

wrong_commas : (env : Env) (bs : Terms) → commas env Wrong bs ≡ Wrong
wrong_commas env NoTerm = refl
wrong_commas env (Then b bs) = wrong_commas env bs

comma_is : (o : Option Expression) (b : Typed) → comma o b ≢ Wrong → Needs o (λ a. Needs (dropped b) (λ e. comma o b ≡ with_left a b))
comma_is (Some a) (Value v) r = record { it = a; it_is = refl; holds = record { it = expression v; it_is = refl; holds = refl } }
comma_is (Some a) (Void n) r = record { it = a; it_is = refl; holds = record { it = _; it_is = refl; holds = refl } }
comma_is (Some a) _ r = absurd (r refl)
comma_is None b r = absurd (r refl)

-- ---- commas

-- operands from the left, behind what is joined so far
abbrev Joined : Typed → List Typed → Typed → Type 0
Joined y [] x = x ≡ y
Joined y (z ∷ zs) x = (e f : Expression) × (dropped y ≡ Some e) × (dropped z ≡ Some f) × Joined (with_left e z) zs x

abbrev AllJoined : List Typed → Typed → Type 0
AllJoined [] x = ⊥
AllJoined (y ∷ ys) x = Joined y ys x

joined_last : (y : Typed) (ys : List Typed) (x z : Typed) (e f : Expression) → Joined y ys x → dropped x ≡ Some e → dropped z ≡ Some f →
    Joined y (ys ++ z ∷ []) (with_left e z)
joined_last y [] x z e f h d g = (e, f, ap dropped (sym h) ∙ d, g, refl)
joined_last y (w ∷ ws) x z e f h d g = (h.0, h.1, h.2, h.3, joined_last (with_left h.0 w) ws x z e f h.4 d g)

all_last : (ys : List Typed) (x z : Typed) (e f : Expression) → AllJoined ys x → dropped x ≡ Some e → dropped z ≡ Some f →
    AllJoined (ys ++ z ∷ []) (with_left e z)
all_last [] x z e f h d g = absurd h
all_last (y ∷ ys) x z e f h d g = joined_last y ys x z e f h d g

commas_joined : {ys : List Typed} {x : Typed} → AreCommas ys x → AllJoined ys x
commas_joined one = refl
commas_joined (more {xs} {x} y {e} {f} h d g) = all_last xs x y e f (commas_joined h) d g

joined_commas : (front : List Typed) (y : Typed) (ys : List Typed) (x : Typed) → AreCommas front y → Joined y ys x → AreCommas (front ++ ys) x
joined_commas front y [] x a h = subst (AreCommas (front ++ [])) (sym h) (subst (λ l. AreCommas l y) (sym (append-nil front)) a)
joined_commas front y (z ∷ zs) x a h =
    subst (λ l. AreCommas l x) (append_assoc front (z ∷ []) zs) (joined_commas (front ++ z ∷ []) (with_left h.0 z) zs x (more z a h.2 h.3) h.4)

-- ---- texts

texts_are : (word : ℕ → List ℕ) (ats bytes : List ℕ) → TextsWrite word ats bytes → joined_texts word ats ≡ bytes
texts_are word [] bytes h = sym h
texts_are word (at ∷ ats) bytes h = (λ i. written_decoded h.2 i ++ texts_are word ats h.1 h.3 i) ∙ sym h.4

texts_write : (word : ℕ → List ℕ) (ats : List ℕ) → TextsWrite word ats (joined_texts word ats)
texts_write word [] = refl
texts_write word (at ∷ ats) = (decoded (word at), joined_texts word ats, decoded_writes (word at), texts_write word ats, refl)

-- ---- from the meaning

mutual
  pub is_typed : (env : Env) (t : Term) (x : Typed) → Means env t x → typed env t ≡ x
  is_typed env (At first form) x h = is_form env form x h

  is_form : (env : Env) (f : Form) (x : Typed) → FormMeans env f x → form_typed env f ≡ x
  is_form env (Constant at) x h = sym h
  is_form env (Variable at) x h = is_named env at x h
  is_form env (Cell at i) x h =
      ap (λ z. reading (cell_target (variable_of (env.word at) (meaning env at)) (value_of z))) (is_typed env i (Value h.0) h.2) ∙
      ap reading (is_cell env at h.0 h.1 h.3) ∙ sym h.4
  is_form env (Prefix m a) x (inl h) =
      ap (λ o. elim o [
        | Some up ↦ counting up false (writable (target_of env a))
        | None ↦ unary (unary_op (mark_of (env.word m)))
            (value_of (typed env a))
      ]) h.2
      ∙ ap (λ o. counting h.0 false (writable o)) (is_target env a h.1 h.3) ∙ ap (counting h.0 false) (is_writable h.1 h.1.constant refl h.4) ∙ sym h.5
  is_form env (Prefix m a) x (inr h) =
      ap (λ o. elim o [
        | Some up ↦ counting up false (writable (target_of env a))
        | None ↦ unary (unary_op (mark_of (env.word m)))
            (value_of (typed env a))
      ]) h.1
      ∙ ap (λ z. unary (unary_op (mark_of (env.word m))) (value_of z)) (is_typed env a (Value h.0) h.2) ∙ sym h.3
  is_form env (Suffix m a) x h =
      let up = counts_up (mark_of (env.word m)) in
      ap (λ o. counting up true (writable o)) (is_target env a h.0 h.1) ∙ ap (counting up true) (is_writable h.0 h.0.constant refl h.2) ∙ sym h.3
  is_form env (CastTo words a) x h = rw (is_typed env a (Value h.0) h.1) (sym h.2)
  is_form env (CastVoid a) x h = rw (is_typed env a h.0 h.2, h.3) (sym h.4)
  is_form env (Binary m a b) x h = rw (is_typed env a (Value h.0) h.2, is_typed env b (Value h.1) h.3) (sym h.4)
  is_form env (Choice a b c) x h = rw (is_typed env a (Value h.0) h.3, is_typed env b (Value h.1) h.4, is_typed env c (Value h.2) h.5) (sym h.6)
  is_form env (Assign m t a) x h =
      let op = update_op (mark_of (env.word m)) in
      ap (λ o. assignment op (writable o) (value_of (typed env a))) (is_target env t h.0 h.2)
      ∙ ap (λ o. assignment op o (value_of (typed env a))) (is_writable h.0 h.0.constant refl h.3)
      ∙ ap (λ z. assignment op (Some h.0) (value_of z)) (is_typed env a (Value h.1) h.4)
      ∙ sym h.5
  is_form env (Commas a bs) x h = ap (λ y. commas env y bs) (is_typed env a h.0 h.2) ∙ are_commas env h.0 bs h.1 x h.3 (commas_joined h.4)
  is_form env (Call at xs) x h =
      ap (λ o. called (env.word at) o (given env xs)) (is_bound (env.word at) env.scopes h.0 h.2)
      ∙ is_called (env.word at) h.0 (given env xs) h.1 x (are_given env xs h.1 h.3) h.4
  is_form env (Texts ats) x h = ap Text (texts_are env.word ats h.0 h.1) ∙ sym h.2
  is_form env Unknown x h = absurd h

  are_commas : (env : Env) (y : Typed) (bs : Terms) (ys : List Typed) (x : Typed) → AreMeant env bs ys → Joined y ys x → commas env y bs ≡ x
  are_commas env y NoTerm ys x m h = sym (subst (λ l. Joined y l x) m h)
  are_commas env y (Then b bs) ys x m h =
      let j = subst (λ l. Joined y l x) m.4 h in
      ap (λ z. commas env (comma (dropped y) z) bs) (is_typed env b m.0 m.2) ∙ ap (λ o. commas env (comma o m.0) bs) j.2 ∙
      are_commas env (with_left j.0 m.0) bs m.1 x m.3 j.4

  pub is_target : (env : Env) (t : Term) (y : Target) → MeansTarget env t y → target_of env t ≡ Some y
  is_target env (At first form) y h = is_form_target env form y h

  is_form_target : (env : Env) (f : Form) (y : Target) → FormMeansTarget env f y → form_target env f ≡ Some y
  is_form_target env (Variable at) y h = is_number env at y h
  is_form_target env (Cell at i) y h = ap (λ x. cell_target (variable_of (env.word at) (meaning env at)) (value_of x))
      (is_typed env i (Value h.0) h.1) ∙ is_cell env at h.0 y h.2
  is_form_target env _ y h = absurd h

  are_given : (env : Env) (ts : Terms) (ys : List Typed) → AreMeant env ts ys → types (given env ts) ≡ ys
  are_given env NoTerm ys h = sym h
  are_given env (Then t ts) ys h = rw (is_typed env t h.0 h.2, are_given env ts h.1 h.3) (sym h.4)

-- ---- and back

prefix_is : (env : Env) (m : ℕ) (a : Term) (x : Typed) (o : Option Bool) → step_of (mark_of (env.word m)) ≡ o
    → ((y : Target) → target_of env a ≡ Some y → MeansTarget env a y) → ((v : Valued) → typed env a ≡ Value v → Means env a (Value v))
    → elim o [
      | Some up ↦ counting up false (writable (target_of env a))
      | None ↦ unary (unary_op (mark_of (env.word m))) (value_of (typed env a))
    ] ≡ x → x ≢ Wrong → FormMeans env (Prefix m a) x
prefix_is env m a x (Some up) s tt' vv e r =
    let n = writable_is (target_of env a) (counting_is up false (writable (target_of env a)) x e r) in
    inl (up, n.it, s, tt' n.it n.it_is, n.holds.0, n.holds.1)
prefix_is env m a x None s tt' vv e r =
    let n = unary_is (unary_op (mark_of (env.word m))) (value_of (typed env a)) x e r in
    inr (n.it, s, vv n.it (value_is (typed env a) n.it n.it_is), n.holds)

call_by : (env : Env) (at : ℕ) (xs : Terms) (x : Typed) (o : Option Binding) → meaning env at ≡ o →
    (AllRight (types (given env xs)) → AreMeant env xs (types (given env xs)))
    → called (env.word at) o (given env xs) ≡ x → x ≢ Wrong → FormMeans env (Call at xs) x
call_by env at xs x None m mean e r = absurd (r (sym e))
call_by env at xs x (Some b) m mean e r =
    let c = called_is (env.word at) b (given env xs) x e r in
    (b, types (given env xs), bound_is (env.word at) env.scopes b m, mean (call_right (env.word at) b (types (given env xs)) x c), c)

mutual
  pub typed_is : (env : Env) (t : Term) (x : Typed) → typed env t ≡ x → x ≢ Wrong → Means env t x
  typed_is env (At first form) x e r = form_is env form x e r

  form_is : (env : Env) (f : Form) (x : Typed) → form_typed env f ≡ x → x ≢ Wrong → FormMeans env f x
  form_is env (Constant at) x e r = sym e
  form_is env (Variable at) x e r = named_is env at x (meaning env at) refl e r
  form_is env (Cell at i) x e r =
      let n = reading_is (cell_target (variable_of (env.word at) (meaning env at)) (value_of (typed env i))) x e r in
      let c = cell_is env at (value_of (typed env i)) n.it (variable_of (env.word at) (meaning env at)) refl n.it_is in
      (c.index, n.it, typed_is env i (Value c.index) (value_is (typed env i) c.index c.index_is) (value_right c.index), c.cell, n.holds)
  form_is env (Prefix m a) x e r = prefix_is env m a x (step_of (mark_of (env.word m))) refl (λ y f. target_is env a y f)
      (λ v f. typed_is env a (Value v) f (value_right v)) e r
  form_is env (Suffix m a) x e r =
      let n = writable_is (target_of env a) (counting_is (counts_up (mark_of (env.word m))) true (writable (target_of env a)) x e r) in
      (n.it, target_is env a n.it n.it_is, n.holds.0, n.holds.1)
  form_is env (CastTo words a) x e r =
      let n = cast_is _ (value_of (typed env a)) x e r in
      (n.it, typed_is env a (Value n.it) (value_is (typed env a) n.it n.it_is) (value_right n.it), n.holds)
  form_is env (CastVoid a) x e r =
      let n = cast_void_is (dropped (typed env a)) x e r in
      (typed env a, n.it, typed_is env a (typed env a) refl (dropped_right (typed env a) n.it n.it_is), n.it_is, n.holds)
  form_is env (Binary m a b) x e r =
      let n = binary_is (binary_op (mark_of (env.word m))) (value_of (typed env a)) (value_of (typed env b)) x e r in (
        n.it,
        n.holds.it,
        typed_is env a (Value n.it) (value_is (typed env a) n.it n.it_is) (value_right n.it),
        typed_is env b (Value n.holds.it) (value_is (typed env b) n.holds.it n.holds.it_is) (value_right n.holds.it),
        n.holds.holds,
      )
  form_is env (Choice a b c) x e r =
      let n = choice_is (value_of (typed env a)) (value_of (typed env b)) (value_of (typed env c)) x e r in
      let o = n.holds in
      let p = o.holds in (
        n.it,
        o.it,
        p.it,
        typed_is env a (Value n.it) (value_is (typed env a) n.it n.it_is) (value_right n.it),
        typed_is env b (Value o.it) (value_is (typed env b) o.it o.it_is) (value_right o.it),
        typed_is env c (Value p.it) (value_is (typed env c) p.it p.it_is) (value_right p.it),
        p.holds,
      )
  form_is env (Assign m t a) x e r =
      let n = writable_is (target_of env t) (assignment_is (update_op (mark_of (env.word m))) (writable (target_of env t)) (value_of (typed env a)) x e r) in
      let o = n.holds.1 in
      (n.it, o.it, target_is env t n.it n.it_is, n.holds.0, typed_is env a (Value o.it) (value_is (typed env a) o.it o.it_is) (value_right o.it), o.holds)
  form_is env (Commas a bs) x e r =
      let right : typed env a ≢ Wrong = λ w. r (sym e ∙ ap (λ y. commas env y bs) w ∙ wrong_commas env bs) in
      let c = commas_are env (typed env a) bs x e r in
      (typed env a, c.0, typed_is env a (typed env a) refl right, c.1, joined_commas (typed env a ∷ []) (typed env a) c.0 x one c.2)
  form_is env (Call at xs) x e r =
      call_by env at xs x (meaning env at) refl (λ rs. given_are env xs rs) e r
  form_is env (Texts ats) x e r = (joined_texts env.word ats, texts_write env.word ats, sym e)
  form_is env Unknown x e r = absurd (r (sym e))

  commas_are : (env : Env) (y : Typed) (bs : Terms) (x : Typed) → commas env y bs ≡ x → x ≢ Wrong → (ys : List Typed) × AreMeant env bs ys × Joined y ys x
  commas_are env y NoTerm x e r = ([], refl, sym e)
  commas_are env y (Then b bs) x e r =
      let right : comma (dropped y) (typed env b) ≢ Wrong = λ w. r (sym e ∙ ap (λ z. commas env z bs) w ∙ wrong_commas env bs) in
      let n = comma_is (dropped y) (typed env b) right in
      let c = commas_are env (with_left n.it (typed env b)) bs x (ap (λ z. commas env z bs) (sym n.holds.holds) ∙ e) r in
      let means = typed_is env b (typed env b) refl (dropped_right (typed env b) n.holds.it n.holds.it_is) in
      (typed env b ∷ c.0, (typed env b, c.0, means, c.1, refl), (n.it, n.holds.it, n.it_is, n.holds.it_is, c.2))

  pub target_is : (env : Env) (t : Term) (y : Target) → target_of env t ≡ Some y → MeansTarget env t y
  target_is env (At first form) y e = form_target_is env form y e

  form_target_is : (env : Env) (f : Form) (y : Target) → form_target env f ≡ Some y → FormMeansTarget env f y
  form_target_is env (Variable at) y e = number_is env at y (variable_of (env.word at) (meaning env at)) refl e
  form_target_is env (Cell at i) y e =
      let c = cell_is env at (value_of (typed env i)) y (variable_of (env.word at) (meaning env at)) refl e in
      (c.index, typed_is env i (Value c.index) (value_is (typed env i) c.index c.index_is) (value_right c.index), c.cell)
  form_target_is env _ y e = cc

  given_are : (env : Env) (ts : Terms) → AllRight (types (given env ts)) → AreMeant env ts (types (given env ts))
  given_are env NoTerm r = refl
  given_are env (Then t ts) r = (typed env t, types (given env ts), typed_is env t (typed env t) refl r.0, given_are env ts r.1, refl)

-- nothing that is wrong means anything
-- ---- nothing that is wrong is meant

wrong_value : (k : IntKind) (n : Node) → Wrong ≡ of_kind k n → ⊥
wrong_value k n e = cc

wrong_constant : (word : List ℕ) (b : Bool) (n : Option Integer) → Wrong ≡ cond b (character_constant (character word)) (number n) → ⊥
wrong_constant word true n e = cc
wrong_constant word false (Some i) e = cc
wrong_constant word false None e = cc

wrong_variable : (at : ℕ) (v : of.Variable) (b : Bool)
    → Wrong ≡ cond b (Array (record { token = at; home = v.home; kind = v.shape.kind; constant = v.shape.constant }))
    (of_kind v.shape.kind (node.Read (place.Var v.home))) → ⊥
wrong_variable at v true e = cc
wrong_variable at v false e = cc

wrong_result : (k : Option IntKind) (n : Node) → Wrong ≡ of_result k n → ⊥
wrong_result (Some k) n e = cc
wrong_result None n e = cc

wrong_call : (name : List ℕ) (b : Binding) (xs : List Typed) → IsCall name b xs Wrong → ⊥
wrong_call name (binding.Function s) xs h = wrong_result s.result _ h.2
wrong_call name binding.Printf (Text bytes ∷ xs) h = wrong_value Int _ h.4
wrong_call name binding.Printf [] h = absurd h
wrong_call name binding.Printf (Value v ∷ xs) h = absurd h
wrong_call name binding.Printf (Void v ∷ xs) h = absurd h
wrong_call name binding.Printf (Array v ∷ xs) h = absurd h
wrong_call name binding.Printf (Wrong ∷ xs) h = absurd h
wrong_call name _ xs h = absurd h

left_right : (e f : Expression) (z : Typed) → dropped z ≡ Some f → with_left e z ≢ Wrong
left_right e f (Value v) d w = cc
left_right e f (Void v) d w = cc
left_right e f (Text v) d w = cc
left_right e f (Array v) d w = cc
left_right e f Wrong d w = cc

wrong_joined : (y : Typed) (ys : List Typed) → y ≢ Wrong → Joined y ys Wrong → ⊥
wrong_joined y [] r h = r (sym h)
wrong_joined y (z ∷ zs) r h = wrong_joined (with_left h.0 z) zs (left_right h.0 h.1 z h.3) h.4

mutual
  pub wrong_not : (env : Env) (t : Term) → Means env t Wrong → ⊥
  wrong_not env (At first form) h = wrong_form env form h

  wrong_form : (env : Env) (f : Form) → FormMeans env f Wrong → ⊥
  wrong_form env (Constant at) h = wrong_constant (env.word at) (is_character (env.word at)) (integer_of (env.word at)) h
  wrong_form env (Variable at) (inl h) = wrong_value Int _ h.2
  wrong_form env (Variable at) (inr h) = wrong_variable at h.0 h.0.shape.array h.2
  wrong_form env (Cell at i) h = wrong_value h.1.kind _ h.4
  wrong_form env (Prefix m a) (inl h) = wrong_value h.1.kind _ h.5
  wrong_form env (Prefix m a) (inr h) = wrong_value _ _ h.3
  wrong_form env (Suffix m a) h = wrong_value h.0.kind _ h.3
  wrong_form env (CastTo words a) h = wrong_value _ _ h.2
  wrong_form env (CastVoid a) h = let k : Wrong ≡ Void (node.Cast h.1) = h.4 in cc
  wrong_form env (Binary m a b) h = wrong_value _ _ h.4
  wrong_form env (Choice a b c) h = wrong_value _ _ h.6
  wrong_form env (Assign m t a) h = wrong_value h.0.kind _ h.5
  wrong_form env (Commas a bs) h = wrong_joined h.0 h.1 (λ e. wrong_not env a (subst (Means env a) e h.2)) (commas_joined h.4)
  wrong_form env (Call at xs) h = wrong_call (env.word at) h.0 h.1 h.4
  wrong_form env (Texts ats) h = let k : Wrong ≡ Text h.0 = h.2 in cc
  wrong_form env Unknown h = absurd h
