-- The cases of a switch are the entries that were compared: constants without a trap, in text order.
use Rattle.std.proofs.Common.{ℕ, Bool, true, false, not, cond, List, [], ◌∷◌, ◌++◌, append_assoc, map, length, Option, Some, None, is_some, append_assoc, true≢false, arith, length-append, ◌≡◌, refl, sym, ap, subst, ◌∙◌}
use Rattle.std.specs.Prelude.{ℤ, ◌+◌, ◌≤◌}
use Rattle.c_tree.specs.declared.tree.Item as item
use Rattle.c_tree.specs.declared.tree.Expression.{Expression}
use Rattle.c_tree.specs.ExpressionTrees.{ExpressionTree, expression_tree}
use Rattle.c_tree.specs.Trees.{Tree, Forest, SectionTree, Nil, join, expression_trees, tree_of, trees_of, section_tree, sections, sections_of}
use Rattle.c_tree.specs.Trees as tree
use Rattle.c_tree.proofs.TreeLaws.{tree-Local, tree-Mark, tree-Arrival, tree-Note, trees-none, trees-more, trees-append}
use Rattle.c_grammar.specs.Terms.{Term}
use Rattle.c_grammar.specs.Items.{Declarator, Label, Named, Case, Default}
use Rattle.c_kinds.specs.Scopes.{fault_if}
use Rattle.c_kinds.specs.Typing.{typed, constant_faults}
use Rattle.c_statements.specs.declared.extents.Kinded.{Kinded}
use Rattle.c_statements.specs.declared.anchors.Anchor.{Anchor}
use Rattle.c_statements.specs.declared.anchors.Anchor.TheVariants.{Before}
use Rattle.c_statements.specs.Context.{Context, Walk, env_at, env_in, notes_at, number_in}
use Rattle.c_statements.specs.Declarations.{declared, local, locals, initial, value_at, constant_at}
use Rattle.c_statements.specs.Labels.{mark, labels_items, section_marks, section_cases, has_default, label_faults, labels_faults}
use Rattle.c_resolved_defs.specs.Within.{Each}
use Rattle.c_resolving_laws.proofs.Lists.{each_append}
use Rattle.c_resolving_laws.proofs.Empty.{constant_empty}
use Rattle.c_resolving_laws.proofs.Parts.{parted, labels_parts}
use Rattle.c_tree.specs.Constants.{constant_value}
use Rattle.c_kinds.specs.Constants.{constant_of}
use Rattle.c_kinds.specs.Scopes.{Env}
use Rattle.c_kinds.specs.Values.{expression}
use Rattle.c_kinds.specs.declared.typed.Typed as kinds
use Rattle.c_kinds.specs.declared.typed.Typed.TheVariants as T
use Rattle.c_statements.specs.declared.entries.Entry.{Entry}
use Rattle.c_statements.specs.declared.entries.Entry.TheVariants.{Value, Other}
use Rattle.c_statements.specs.Cases as the_cases
use Rattle.c_statements.specs.Cases.{label_entry, label_entries}
use Rattle.c_statements.specs.Declarations.{constant_or_placeholder}
use Rattle.c_resolved_defs.specs.Switches.{arrivals, arrivals_of, section_labels, cases_among, defaults_among, IsConstantValue}
use Rattle.c_resolving_laws.specs.Read.{label_cases}
use Rattle.c_resolving_laws.proofs.Arrays.{constant_there}
use Rattle.c_resolving_laws.proofs.Uses.{value_found}
use Rattle.c_resolving_laws.proofs.Values.{value_tree, value_rolls}
use Rattle.std.proofs.lemmas.List.{append-nil}

-- ---- entries

abbrev pub vals : List Entry → List ℤ
vals [] = []
vals (Value at v ∷ es) = v ∷ vals es
vals (Other at ∷ es) = vals es

abbrev pub others : List Entry → ℕ
others [] = 0
others (Value at v ∷ es) = others es
others (Other at ∷ es) = 1 + others es

vals-append : (a b : List Entry) → vals (a ++ b) ≡ vals a ++ vals b
vals-append [] b = refl
vals-append (Value at v ∷ a) b = ap (λ l. v ∷ l) (vals-append a b)
vals-append (Other at ∷ a) b = vals-append a b

others-append : (a b : List Entry) → others (a ++ b) ≡ others a + others b
others-append [] b = omega arith
others-append (Value at v ∷ a) b = others-append a b
others-append (Other at ∷ a) b = let h = others-append a b in omega arith

-- ---- labels of the tree

pub cases-append : (a b : List (Option ExpressionTree)) → cases_among (a ++ b) ≡ cases_among a ++ cases_among b
cases-append [] b = refl
cases-append (Some e ∷ a) b = ap (λ l. e ∷ l) (cases-append a b)
cases-append (None ∷ a) b = cases-append a b

pub defaults-append : (a b : List (Option ExpressionTree)) → defaults_among (a ++ b) ≡ defaults_among a + defaults_among b
defaults-append [] b = omega arith
defaults-append (Some e ∷ a) b = defaults-append a b
defaults-append (None ∷ a) b = let h = defaults-append a b in omega arith

pub arrivals-join : (a b : Forest) → arrivals (join a b) ≡ arrivals a ++ arrivals b
arrivals-join Nil b = refl
arrivals-join (tree.Then x a) b = ap (λ l. arrivals_of x ++ l) (arrivals-join a b) ∙ sym (append_assoc (arrivals_of x) (arrivals a) (arrivals b))

pub own_cases : (cs : List ExpressionTree) (d : Bool) → cases_among (section_labels cs d) ≡ cs
own_cases [] true = refl
own_cases [] false = refl
own_cases (c ∷ cs) d = ap (λ l. c ∷ l) (own_cases cs d)

pub own_defaults : (cs : List ExpressionTree) (d : Bool) → defaults_among (section_labels cs d) ≡ cond d 1 0
own_defaults [] true = refl
own_defaults [] false = refl
own_defaults (c ∷ cs) d = own_defaults cs d

-- ---- what is added to the entries, and which labels of the tree that is

pub record Adds (found es : List Entry) (cs : List ExpressionTree) (d k : ℕ) : Type 0 where
  pub more : List ℤ
  pub count : ℕ
  pub values : vals es ≡ vals found ++ more
  pub rest : others es ≡ others found + count
  pub same : map constant_value cs ≡ map Some more
  pub constant : Each IsConstantValue cs
  pub defaults : d ≤ count
  pub few : length cs ≤ k

pub adds_none : (found : List Entry) → Adds found found [] 0 0
adds_none found = record {
  more = [];
  count = 0;
  values = sym (append-nil (vals found));
  rest = omega arith;
  same = refl;
  constant = tt;
  defaults = omega arith;
  few = omega arith;
}

map_both : {A B : Type 0} (g : A → B) (xs ys : List A) → map g (xs ++ ys) ≡ map g xs ++ map g ys
map_both g [] ys = refl
map_both g (x ∷ xs) ys = ap (λ l. g x ∷ l) (map_both g xs ys)

pub adds_both : (a b c : List Entry) (cs ds : List ExpressionTree) (d e k l : ℕ) → Adds a b cs d k → Adds b c ds e l → Adds a c (cs ++ ds) (d + e) (k + l)
adds_both a b c cs ds d e k l x y = record {
  more = x.more ++ y.more;
  count = x.count + y.count;
  values = y.values ∙ (ap (λ z. z ++ y.more) x.values ∙ append_assoc (vals a) x.more y.more);
  rest = let h = x.rest in let i = y.rest in omega arith;
  same = map_both constant_value cs ds ∙ ((λ i. x.same i ++ y.same i) ∙ sym (map_both Some x.more y.more));
  constant = each_append IsConstantValue cs ds x.constant y.constant;
  defaults = let h = x.defaults in let i = y.defaults in omega arith;
  few = let h = x.few in let i = y.few in let j = length-append cs ds in omega arith;
}

pub adds_as : (a b : List Entry) (cs ds : List ExpressionTree) (d e k l : ℕ) → cs ≡ ds → e ≤ d → k ≤ l → Adds a b cs d k → Adds a b ds e l
adds_as a b cs ds d e k l p q r x = record {
  more = x.more;
  count = x.count;
  values = x.values;
  rest = x.rest;
  same = ap (map constant_value) (sym p) ∙ x.same;
  constant = subst (Each IsConstantValue) p x.constant;
  defaults = let h = x.defaults in omega arith;
  few = let h = x.few in let i = ap length p in omega arith;
}

some_constant : (found : List Entry) (at : ℕ) (e : ExpressionTree) (z : ℤ) → IsConstantValue e → constant_value e ≡ Some z →
    Adds found (found ++ Value at z ∷ []) (e ∷ []) 0 1
some_constant found at e z h v = record {
  more = z ∷ [];
  count = 0;
  values = vals-append found (Value at z ∷ []);
  rest = others-append found (Value at z ∷ []);
  same = ap (λ o. o ∷ []) v;
  constant = (h, tt);
  defaults = omega arith;
  few = omega arith;
}

one_default : (found : List Entry) (at : ℕ) → Adds found (found ++ Other at ∷ []) [] 1 0
one_default found at = record {
  more = [];
  count = 1;
  values = vals-append found (Other at ∷ []);
  rest = others-append found (Other at ∷ []);
  same = refl;
  constant = tt;
  defaults = omega arith;
  few = omega arith;
}

-- ---- constants

record GivenConstant (env : Env) (t : Term) : Type 0 where
  number : ℤ
  e : Expression
  given : constant_of (typed env t) ≡ Some (e, number)
  constant : IsConstantValue (expression_tree (constant_at env t))
  value : constant_value (expression_tree (constant_at env t)) ≡ Some number

given_constant : (env : Env) (t : Term) → constant_faults env t [] ≡ [] → GivenConstant env t
given_constant env t h = by (typed env t) refl (constant_there env t h)
  where
    by : (x : kinds.Typed) → typed env t ≡ x → is_some (constant_of (typed env t)) ≡ true → GivenConstant env t
    by (T.Value v) q k =
        let c = value_found (expression v) (value_tree v) (value_rolls v) (sym (ap (λ x. is_some (constant_of x)) q) ∙ k) in
        let given = ap constant_of q ∙ c.1 in
        let at = ap (λ e. expression_tree e) (ap constant_or_placeholder given) ∙ value_rolls v in
        record {
          number = c.0;
          e = expression v;
          given = given;
          constant = subst IsConstantValue (sym at) (record { kind = tt; constant = c.2; untrapped = ap is_some c.3 });
          value = ap constant_value at ∙ c.3;
        }
    by (T.Void a) q k = absurd (true≢false (sym k ∙ ap (λ x. is_some (constant_of x)) q))
    by (T.Text bytes) q k = absurd (true≢false (sym k ∙ ap (λ x. is_some (constant_of x)) q))
    by (T.Array a) q k = absurd (true≢false (sym k ∙ ap (λ x. is_some (constant_of x)) q))
    by T.Wrong q k = absurd (true≢false (sym k ∙ ap (λ x. is_some (constant_of x)) q))

module _ (ctx : Context) where
  -- ---- lists of items

  abbrev pub C : List item.Item → List ExpressionTree
  C xs = cases_among (arrivals (trees_of xs))

  abbrev pub D : List item.Item → ℕ
  D xs = defaults_among (arrivals (trees_of xs))

  abbrev pub AddsItems : List Entry → List Entry → List item.Item → ℕ → Type 0
  AddsItems found es xs k = Adds found es (C xs) (D xs) k

  abbrev AddsTree : List Entry → List Entry → Tree → ℕ → Type 0
  AddsTree found es t k = Adds found es (cases_among (arrivals_of t)) (defaults_among (arrivals_of t)) k

  pub none_of : (found : List Entry) → AddsItems found found [] 0
  none_of found = subst (λ a. Adds found found (cases_among (arrivals a)) (defaults_among (arrivals a)) 0) (sym trees-none) (adds_none found)

  pub both_of : (a b c : List Entry) (xs ys : List item.Item) (k l : ℕ) → AddsItems a b xs k → AddsItems b c ys l → AddsItems a c (xs ++ ys) (k + l)
  both_of a b c xs ys k l x y =
      let j = ap arrivals (trees-append xs ys) ∙ arrivals-join (trees_of xs) (trees_of ys) in
      subst (λ ls. Adds a c (cases_among ls) (defaults_among ls) (k + l)) (sym j)
      (adds_as a c (C xs ++ C ys) (cases_among (arrivals (trees_of xs) ++ arrivals (trees_of ys))) (D xs + D ys)
      (defaults_among (arrivals (trees_of xs) ++ arrivals (trees_of ys))) (k + l) (k + l)
      (sym (cases-append (arrivals (trees_of xs)) (arrivals (trees_of ys))))
      (let h = defaults-append (arrivals (trees_of xs)) (arrivals (trees_of ys)) in omega arith) (omega arith)
      (adds_both a b c (C xs) (C ys) (D xs) (D ys) k l x y))

  pub one_of : (a b : List Entry) (x : item.Item) (t : Tree) (k : ℕ) → tree_of x ≡ t → AddsTree a b t k → AddsItems a b (x ∷ []) k
  one_of a b x t k e h =
      let j = ap arrivals (trees-more x []) ∙ (ap (λ l. arrivals_of (tree_of x) ++ l) (ap arrivals trees-none) ∙
      (append-nil (arrivals_of (tree_of x)) ∙ ap arrivals_of e)) in
      subst (λ ls. Adds a b (cases_among ls) (defaults_among ls) k) (sym j) h

  -- an item without labels of the switch
  pub still : (found : List Entry) (x : item.Item) (t : Tree) → tree_of x ≡ t → arrivals_of t ≡ [] → AddsItems found found (x ∷ []) 0
  still found x t e h = one_of found found x t 0 e (subst (λ ls. Adds found found (cases_among ls) (defaults_among ls) 0) (sym h) (adds_none found))

  pub front : (a b : List Entry) (xs ys : List item.Item) (k : ℕ) → AddsItems a a xs 0 → AddsItems a b ys k → AddsItems a b (xs ++ ys) k
  front a b xs ys k x y = adds_as a b (C (xs ++ ys)) (C (xs ++ ys)) (D (xs ++ ys)) (D (xs ++ ys)) (0 + k) k refl (omega arith) (omega arith)
      (both_of a a b xs ys 0 k x y)

  pub back : (a b : List Entry) (xs ys : List item.Item) (k : ℕ) → AddsItems a b xs k → AddsItems b b ys 0 → AddsItems a b (xs ++ ys) k
  back a b xs ys k x y = adds_as a b (C (xs ++ ys)) (C (xs ++ ys)) (D (xs ++ ys)) (D (xs ++ ys)) (k + 0) k refl (omega arith) (omega arith)
      (both_of a b b xs ys k 0 x y)

  pub more_of : (a b : List Entry) (xs : List item.Item) (k l : ℕ) → k ≤ l → AddsItems a b xs k → AddsItems a b xs l
  more_of a b xs k l h x = adds_as a b (C xs) (C xs) (D xs) (D xs) k l refl (omega arith) h x

  note_list : (found : List Entry) (bs : List (List ℕ)) → AddsItems found found (map item.Note bs) 0
  note_list found [] = none_of found
  note_list found (b ∷ bs) = front found found (item.Note b ∷ []) (map item.Note bs) 0 (still found (item.Note b) (tree.Note b) (tree-Note b) refl)
      (note_list found bs)

  pub notes_of : (found : List Entry) (a : Anchor) → AddsItems found found (notes_at ctx a) 0
  notes_of found a = note_list found (ctx.notes a)

  pub behind_notes : (a b : List Entry) (x : Anchor) (xs : List item.Item) (k : ℕ) → AddsItems a b xs k → AddsItems a b (notes_at ctx x ++ xs) k
  behind_notes a b x xs k h = front a b (notes_at ctx x) xs k (notes_of a x) h

  pub mark_of : (found : List Entry) (at : ℕ) → AddsItems found found (mark ctx at) 0
  mark_of found at = let l = number_in ctx.labels (ctx.word at) in behind_notes found found (Before at) (item.Mark l ∷ []) 0
      (still found (item.Mark l) (tree.Mark l) (tree-Mark l) refl)

  pub marks_of : (found : List Entry) (ls : List Label) → AddsItems found found (section_marks ctx ls) 0
  marks_of found [] = none_of found
  marks_of found (Named at after ∷ ls) = front found found (mark ctx at) (section_marks ctx ls) 0 (mark_of found at) (marks_of found ls)
  marks_of found (Case at after t ∷ ls) = marks_of found ls
  marks_of found (Default at after ∷ ls) = marks_of found ls

  pub locals_of : (found : List Entry) (k : Kinded) (ds : List Declarator) (w : Walk) → AddsItems found found (locals ctx.word k ds w) 0
  locals_of found k [] w = none_of found
  locals_of found k (d ∷ ds) w =
      let v = declared ctx.word k d w in
      front found found (local ctx.word k d w ∷ []) (locals ctx.word k ds v) 0
      (still found (local ctx.word k d w) _ (tree-Local (length w.slots) (initial (value_at (env_in ctx.word v)) d.value)) refl) (locals_of found k ds v)

  -- the constant of a case label
  case_clean : (w : Walk) (switch : Bool) (at after : ℕ) (t : Term) → label_faults (env_at ctx w) switch (Case at after t) [] ≡ [] →
      GivenConstant (env_at ctx w) t
  case_clean w switch at after t e = given_constant (env_at ctx w) t
      (parted (constant_faults (env_at ctx w) t) (fault_if (not switch) at 29) (constant_empty (env_at ctx w) t) e).1

  case_entry : (w : Walk) (at after : ℕ) (t : Term) (found : List Entry) (c : GivenConstant (env_at ctx w) t) →
      label_entry (env_at ctx w) (Case at after t) found ≡ found ++ Value at c.number ∷ []
  case_entry w at after t found c = ap (λ (o : Option (Expression × ℤ)). the_cases.case_entry at o found) c.given

  -- labels as items, and as entries
  pub labels_of : (w : Walk) (switch : Bool) (ls : List Label) (found : List Entry) → labels_faults (env_at ctx w) switch ls [] ≡ [] →
      AddsItems found (label_entries (env_at ctx w) ls found) (labels_items ctx (env_at ctx w) ls) (label_cases ls)
  labels_of w switch [] found e = none_of found
  labels_of w switch (Named at after ∷ ls) found e =
      let p = labels_parts (env_at ctx w) switch (Named at after) ls e in
      front found (label_entries (env_at ctx w) ls found) (mark ctx at) (labels_items ctx (env_at ctx w) ls) (label_cases ls) (mark_of found at)
      (labels_of w switch ls found p.1)
  labels_of w switch (Case at after t ∷ ls) found e =
      let env = env_at ctx w in
      let p = labels_parts env switch (Case at after t) ls e in
      let c = case_clean w switch at after t p.0 in
      let next = label_entry env (Case at after t) found in
      let x = item.Arrival (Some (constant_at env t)) in
      both_of found next (label_entries env ls next) (notes_at ctx (Before at) ++ x ∷ []) (labels_items ctx env ls) 1 (label_cases ls)
      (behind_notes found next (Before at) (x ∷ []) 1 (one_of found next x _ 1 (tree-Arrival (Some (constant_at env t)))
      (subst (λ es. Adds found es (expression_tree (constant_at env t) ∷ []) 0 1) (sym (case_entry w at after t found c))
      (some_constant found at _ c.number c.constant c.value))))
      (labels_of w switch ls next p.1)
  labels_of w switch (Default at after ∷ ls) found e =
      let env = env_at ctx w in
      let p = labels_parts env switch (Default at after) ls e in
      let next = found ++ Other at ∷ [] in
      more_of found (label_entries env ls next) _ (0 + label_cases ls) (label_cases ls) (omega arith)
      (both_of found next (label_entries env ls next) (notes_at ctx (Before at) ++ item.Arrival None ∷ []) (labels_items ctx env ls) 0 (label_cases ls)
      (behind_notes found next (Before at) (item.Arrival None ∷ []) 0
      (one_of found next (item.Arrival None) (tree.Arrival None) 0 (tree-Arrival None) (one_default found at))) (labels_of w switch ls next p.1))

  -- of a section
  pub section_of_labels : (w : Walk) (switch : Bool) (ls : List Label) (found : List Entry) → labels_faults (env_at ctx w) switch ls [] ≡ []
      → Adds found (label_entries (env_at ctx w) ls found) (expression_trees (section_cases (env_at ctx w) ls)) (cond (has_default ls) 1 0) (label_cases ls)
  section_of_labels w switch [] found e = adds_none found
  section_of_labels w switch (Named at after ∷ ls) found e = section_of_labels w switch ls found (labels_parts (env_at ctx w) switch (Named at after) ls e).1
  section_of_labels w switch (Case at after t ∷ ls) found e =
      let env = env_at ctx w in
      let p = labels_parts env switch (Case at after t) ls e in
      let c = case_clean w switch at after t p.0 in
      let next = label_entry env (Case at after t) found in
      adds_as found (label_entries env ls next) _ _ (0 + cond (has_default ls) 1 0) (cond (has_default ls) 1 0) (1 + label_cases ls)
      (1 + label_cases ls) refl (omega arith) (omega arith)
      (adds_both found next (label_entries env ls next) (expression_tree (constant_at env t) ∷ []) (expression_trees (section_cases env ls)) 0
      (cond (has_default ls) 1 0) 1 (label_cases ls)
      (subst (λ es. Adds found es (expression_tree (constant_at env t) ∷ []) 0 1) (sym (case_entry w at after t found c))
      (some_constant found at _ c.number c.constant c.value)) (section_of_labels w switch ls next p.1))
  section_of_labels w switch (Default at after ∷ ls) found e =
      let env = env_at ctx w in
      let p = labels_parts env switch (Default at after) ls e in
      let next = found ++ Other at ∷ [] in
      adds_as found (label_entries env ls next) _ _ (1 + cond (has_default ls) 1 0) 1 (0 + label_cases ls) (label_cases ls) refl (omega arith) (omega arith)
      (adds_both found next (label_entries env ls next) [] (expression_trees (section_cases env ls)) 1 (cond (has_default ls) 1 0) 0 (label_cases ls)
      (one_default found at) (section_of_labels w switch ls next p.1))
