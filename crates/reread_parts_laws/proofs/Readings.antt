-- What it is that a form is read as an expression of the program; names, places and commas.
use Rattle.std.proofs.Common.{◌≡◌, ◌+◌, ℕ, Bool, true, false, cond, List, Option, Some, None, refl, ap, sym, subst, ◌∙◌}
use Rattle.std.specs.Prelude.{is_some, option_map, IsSomeAnd}
use Rattle.c_types.specs.declared.kinds.IntKind.{IntKind}
use Rattle.c_tree.specs.declared.tree.Slot.{Slot}
use Rattle.c_tree.specs.declared.tree.Home.{Home}
use Rattle.c_tree.specs.declared.tree.Home.TheVariants as H
use Rattle.c_tree.specs.declared.tree.Place as place
use Rattle.c_tree.specs.declared.tree.Node as node
use Rattle.c_tree.specs.declared.tree.Node.{Node}
use Rattle.c_tree.specs.ExpressionTrees.{ExpressionTree, PlaceTree}
use Rattle.c_tree.specs.ExpressionTrees as t
use Rattle.c_tree.specs.Constants.{kind_of, HasKind}
use Rattle.c_tree.specs.TextExpressions.{home_name}
use Rattle.c_grammar.specs.Expressions as g
use Rattle.c_grammar.specs.ExpressionSyntax.{expression_end, assignment_end}
use Rattle.c_grammar.specs.Terms.{Form, At, Variable, Cell}
use Rattle.c_kinds.specs.declared.binding.Binding.TheVariants as binding
use Rattle.c_kinds.specs.declared.typed.Typed.{Typed}
use Rattle.c_kinds.specs.declared.typed.Typed.TheVariants.{Value, Array}
use Rattle.c_kinds.specs.declared.typed.Valued.{Valued}
use Rattle.c_kinds.specs.declared.typed.Variable as v
use Rattle.c_kinds.specs.Scopes.{Env, Faults, look_up, meaning}
use Rattle.c_kinds.specs.Values.{expression, of_kind, of_result, value_of, dropped, use_fault, drop_fault, number_target, cell_target, reading, variable, comma}
use Rattle.c_kinds.specs.Names.{variable_of, named, name_fault, shape_fault, target_fault}
use Rattle.c_kinds.specs.Typing.{form_typed, form_faults, form_target, form_target_faults, commas, unused_faults}
use Rattle.c_resolved_defs.specs.Names.{Names, home_of}
use Rattle.c_resolved_defs.specs.Names as names
use Rattle.c_resolved_defs.specs.Kinds.{IsNumber, IsArray}
use Rattle.c_resolved_defs.specs.Scopes.{Meaning, AVariable, HomeIsBound}
use Rattle.c_resolved_defs.specs.Scopes as resolved
use Rattle.print_laws.specs.ExpressionDerivations.{followed_by}
use Rattle.reread_parts_laws.specs.WrittenExpressions.{expression_form, expression_terms, assignment_form}
use Rattle.reread_parts_laws.specs.Bindings.{shape_of, binding_of, ScopesAgree}
use Rattle.reread_parts_laws.proofs.Mirrors.{expression_in, node_in, place_in}

-- ---- what is read

-- an expression with its kind, or one without a value
abbrev pub typed_of : ExpressionTree → Typed
typed_of (t.Typed kind n) = of_result kind (node_in n)

-- an expression that has a value
pub record HasValued (x : ExpressionTree) : Type 0 where
  pub valued : Valued
  pub typed : typed_of x ≡ Value valued
  pub whole : expression valued ≡ expression_in x
  pub kind : kind_of x ≡ Some valued.kind

pub has_valued : (x : ExpressionTree) → HasKind (kind_of x) → HasValued x
has_valued (t.Typed (Some kind) n) h = record { valued = record { kind = kind; node = node_in n }; typed = refl; whole = refl; kind = refl }
has_valued (t.Typed None n) h = absurd h

pub dropped_is : (x : ExpressionTree) → dropped (typed_of x) ≡ Some (expression_in x)
dropped_is (t.Typed (Some kind) n) = refl
dropped_is (t.Typed None n) = refl

drop_clear : (x : ExpressionTree) (first : ℕ) (vs : Faults) → drop_fault first (typed_of x) vs ≡ vs
drop_clear (t.Typed (Some kind) n) first vs = refl
drop_clear (t.Typed None n) first vs = refl

-- a form is read as an expression, without a violation
pub record Reads (env : Env) (form : Form) (x : ExpressionTree) : Type 0 where
  pub typed : form_typed env form ≡ typed_of x
  pub clear : (vs : Faults) → form_faults env form vs ≡ vs

pub reads_as : (env : Env) (form other : Form) (x : ExpressionTree) → form ≡ other → Reads env other x → Reads env form x
reads_as env form other x e r = record { typed = ap (form_typed env) e ∙ r.typed; clear = λ vs. ap (λ f. form_faults env f vs) e ∙ r.clear vs }

module _ (env : Env) (form : Form) (x : ExpressionTree) (r : Reads env form x) where
  -- where its value is used
  pub value_is : (h : HasKind (kind_of x)) → value_of (form_typed env form) ≡ Some (has_valued x h).valued
  value_is h = ap value_of (r.typed ∙ (has_valued x h).typed)

  pub used_clear : (h : HasKind (kind_of x)) (first : ℕ) (vs : Faults) → use_fault first (form_typed env form) (form_faults env form vs) ≡ vs
  used_clear h first vs = ap (λ y. use_fault first y (form_faults env form vs)) (r.typed ∙ (has_valued x h).typed) ∙ r.clear vs

  -- where it is dropped
  pub dropped_clear : (first : ℕ) (vs : Faults) → drop_fault first (form_typed env form) (form_faults env form vs) ≡ vs
  dropped_clear first vs = ap (λ y. drop_fault first y (form_faults env form vs)) (r.typed) ∙ drop_clear x first (form_faults env form vs) ∙ r.clear vs

  pub drops_is : dropped (form_typed env form) ≡ Some (expression_in x)
  drops_is = ap dropped (r.typed) ∙ dropped_is x

-- ---- what is there

pub record There (o : Option Slot) (P : Slot → Type 0) : Type 0 where
  pub slot : Slot
  pub is : o ≡ Some slot
  pub holds : P slot

pub there : (o : Option Slot) (P : Slot → Type 0) → IsSomeAnd o P → There o P
there None P h = absurd h
there (Some s) P h = record { slot = s; is = refl; holds = h }

pub holds_of : (o : Option Slot) (s : Slot) (P : Slot → Type 0) → o ≡ Some s → IsSomeAnd o P → P s
holds_of o s P e h = subst (λ x. IsSomeAnd x P) e h

-- ---- names

module _ (n : Names) (ss : List resolved.Scope) (env : Env) (agree : ScopesAgree n ss env.scopes) where
  pub meaning_is : (at : ℕ) (m : List ℕ) (b : Meaning) → env.word at ≡ m → resolved.look_up ss m ≡ Some b → meaning env at ≡ binding_of n m b
  meaning_is at m b w l = ap (look_up env.scopes) w ∙ agree m b l

  abbrev variable_in : Home → Slot → v.Variable
  variable_in h s = record { home = h; shape = shape_of s }

  -- a name is that of a variable
  pub record NamesVariable (at : ℕ) (h : Home) (s : Slot) : Type 0 where
    pub variable_is : variable_of (env.word at) (meaning env at) ≡ Some (variable_in h s)
    pub named_is : named at (env.word at) (meaning env at) ≡ variable at (variable_in h s)
    pub clear : (vs : Faults) → name_fault at (meaning env at) vs ≡ vs
    pub target_clear : (writes indexed : Bool) (vs : Faults) → target_fault writes indexed at (meaning env at) vs ≡ shape_fault writes indexed at
        (shape_of s) vs

  pub names_variable : (at : ℕ) (h : Home) (s : Slot) → env.word at ≡ home_name n.slots h → HomeIsBound n.slots ss h → names.variable n h ≡ Some s →
      NamesVariable at h s
  names_variable at (H.Slot k) s w b e =
      let m : meaning env at ≡ Some (binding.Local k (shape_of s)) = meaning_is at (home_name n.slots (H.Slot k)) (AVariable (H.Slot k)) w b ∙
      ap (option_map (λ (r : Slot). binding.Local k (shape_of r))) e in
      record {
        variable_is = ap (variable_of (env.word at)) m;
        named_is = ap (named at (env.word at)) m;
        clear = λ vs. ap (λ o. name_fault at o vs) m;
        target_clear = λ writes indexed vs. ap (λ o. target_fault writes indexed at o vs) m;
      }
  names_variable at (H.Global g) s w b e =
      let m : meaning env at ≡ Some (binding.Global (shape_of s)) = meaning_is at g (AVariable (H.Global g)) w b ∙
      ap (option_map (λ (r : Slot). binding.Global (shape_of r))) e in
      record {
        variable_is = λ i. variable_of (w i) (m i);
        named_is = λ i. named at (w i) (m i);
        clear = λ vs. ap (λ o. name_fault at o vs) m;
        target_clear = λ writes indexed vs. ap (λ o. target_fault writes indexed at o vs) m;
      }

  -- ---- places

  -- a form is read as a place, of a slot
  pub record ReadsPlace (form : Form) (kind : Option IntKind) (p : PlaceTree) : Type 0 where
    pub slot : Slot
    pub is : names.variable n (home_of p) ≡ Some slot
    pub kind_is : kind ≡ Some slot.kind
    pub target_is : form_target env form ≡ Some (record { place = place_in p; kind = slot.kind; constant = slot.constant })
    pub typed : form_typed env form ≡ of_kind slot.kind (node.Read (place_in p))
    pub clear : (vs : Faults) → form_faults env form vs ≡ vs
    pub target_clear : slot.constant ≡ false → (vs : Faults) → form_target_faults env form vs ≡ vs

  pub var_reads : (at : ℕ) (h : Home) (kind : Option IntKind) → env.word at ≡ home_name n.slots h → HomeIsBound n.slots ss h
      → IsSomeAnd (names.variable n h) (λ s. IsNumber s × (kind ≡ Some s.kind)) → ReadsPlace (Variable at) kind (t.Var h)
  var_reads at h kind w b a =
      let y = there (names.variable n h) (λ s. IsNumber s × (kind ≡ Some s.kind)) a in
      let s = y.slot in
      let c = y.holds in
      let v = names_variable at h s w b (y.is) in
      let number : is_some s.cells ≡ false = ap is_some (c.0) in
      record {
        slot = s;
        is = y.is;
        kind_is = c.1;
        target_is = ap number_target (v.variable_is) ∙
            (λ i. cond (number i) None (Some (record { place = place.Var h; kind = s.kind; constant = s.constant })));
        typed = v.named_is ∙ (λ i. cond (number i) (Array (record { token = at; home = h; kind = s.kind; constant = s.constant }))
            (of_kind s.kind (node.Read (place.Var h))));
        clear = v.clear;
        target_clear = λ k vs. v.target_clear true false vs ∙ (λ i. shape_fault true false at (record { kind = s.kind; array = number i; constant = k i }) vs);
      }

  pub cell_reads : (at : ℕ) (h : Home) (kind : Option IntKind) (first : ℕ) (form : Form) (x : ExpressionTree) → env.word at ≡ home_name n.slots h →
      HomeIsBound n.slots ss h
      → IsSomeAnd (names.variable n h) (λ s. IsArray s × (kind ≡ Some s.kind)) → HasKind (kind_of x) → Reads env form x →
      ReadsPlace (Cell at (At first form)) kind (t.Cell h x)
  cell_reads at h kind first form x w b a k r =
      let y = there (names.variable n h) (λ s. IsArray s × (kind ≡ Some s.kind)) a in
      let s = y.slot in
      let c = y.holds in
      let v = names_variable at h s w b (y.is) in
      let u = has_valued x k in
      let array : is_some s.cells ≡ true = c.0 in
      let target : form_target env (Cell at (At first form)) ≡ Some (record { place = place.Cell h (expression_in x); kind = s.kind; constant = s.constant })
      = (λ i. cell_target (v.variable_is i) (value_is env form x r k i)) ∙
      (λ i. cond (array i) (Some (record { place = place.Cell h (u.whole i); kind = s.kind; constant = s.constant })) None) in
      record {
        slot = s;
        is = y.is;
        kind_is = c.1;
        target_is = target;
        typed = ap reading target;
        clear = λ vs. ap (target_fault false true at (meaning env at)) (used_clear env form x r k first vs) ∙ v.target_clear false true vs ∙
            (λ i. shape_fault false true at (record { kind = s.kind; array = array i; constant = s.constant }) vs);
        target_clear = λ z vs.
            ap (target_fault true true at (meaning env at)) (used_clear env form x r k first vs) ∙ v.target_clear true true vs
            ∙ (λ i. shape_fault true true at (record { kind = s.kind; array = array i; constant = z i }) vs);
      }

-- ---- commas

module _ (env : Env) where
  typed_behind : (e : g.Expression) (at : ℕ) (b : g.Assignment) (y : Typed)
      → commas env y (expression_terms at (followed_by e b)) ≡ comma (dropped (commas env y (expression_terms at e)))
      (form_typed env (assignment_form (expression_end at e + 1) b))
  typed_behind (g.One a) at b y = refl
  typed_behind (g.More a e) at b y = typed_behind e (assignment_end at a + 1) b (comma (dropped y) (form_typed env (assignment_form at a)))

  pub followed_typed : (e : g.Expression) (at : ℕ) (b : g.Assignment)
      → form_typed env (expression_form at (followed_by e b)) ≡ comma (dropped (form_typed env (expression_form at e)))
      (form_typed env (assignment_form (expression_end at e + 1) b))
  followed_typed (g.One a) at b = refl
  followed_typed (g.More a e) at b = typed_behind e (assignment_end at a + 1) b (form_typed env (assignment_form at a))

  abbrev dropping : ℕ → Form → Faults → Faults
  dropping first form vs = drop_fault first (form_typed env form) (form_faults env form vs)

  faults_behind : (e : g.Expression) (at : ℕ) (b : g.Assignment) (vs : Faults)
      → unused_faults env (expression_terms at (followed_by e b)) vs ≡ dropping (expression_end at e + 1)
      (assignment_form (expression_end at e + 1) b) (unused_faults env (expression_terms at e) vs)
  faults_behind (g.One a) at b vs = refl
  faults_behind (g.More a e) at b vs = faults_behind e (assignment_end at a + 1) b (dropping at (assignment_form at a) vs)

  -- the violations of what stands in front of a comma
  abbrev in_front : ℕ → g.Expression → Faults → Faults
  in_front at (g.One a) vs = dropping at (assignment_form at a) vs
  in_front at (g.More a e) vs = form_faults env (expression_form at (g.More a e)) vs

  followed_faults : (e : g.Expression) (at : ℕ) (b : g.Assignment) (vs : Faults)
      → form_faults env (expression_form at (followed_by e b)) vs ≡ dropping (expression_end at e + 1) (assignment_form (expression_end at e + 1) b)
      (in_front at e vs)
  followed_faults (g.One a) at b vs = refl
  followed_faults (g.More a e) at b vs = faults_behind e (assignment_end at a + 1) b (dropping at (assignment_form at a) vs)

  front_clear : (e : g.Expression) (at : ℕ) (x : ExpressionTree) → Reads env (expression_form at e) x → (vs : Faults) → in_front at e vs ≡ vs
  front_clear (g.One a) at x r vs = dropped_clear env (assignment_form at a) x r at vs
  front_clear (g.More a e) at x r vs = r.clear vs

  left_is : (x : ExpressionTree) (y : ExpressionTree) → comma (Some (expression_in x)) (typed_of y) ≡ of_result (kind_of y)
      (node.Comma (expression_in x) (expression_in y))
  left_is x (t.Typed (Some kind) n) = refl
  left_is x (t.Typed None n) = refl

  pub comma_reads : (e : g.Expression) (at : ℕ) (b : g.Assignment) (kind : Option IntKind) (x y : ExpressionTree) →
      Reads env (expression_form at e) x → Reads env (assignment_form (expression_end at e + 1) b) y
      → kind ≡ kind_of y → Reads env (expression_form at (followed_by e b)) (t.Typed kind (t.Comma x y))
  comma_reads e at b kind x y r u k =
      let behind = expression_end at e + 1 in
      record {
        typed = followed_typed e at b ∙ (λ i. comma (drops_is env (expression_form at e) x r i) (u.typed i)) ∙ left_is x y ∙
            (λ i. of_result (sym k i) (node.Comma (expression_in x) (expression_in y)));
        clear = λ vs. followed_faults e at b vs ∙ ap (dropping behind (assignment_form behind b)) (front_clear e at x r vs) ∙
            dropped_clear env (assignment_form behind b) y u behind vs;
      }
