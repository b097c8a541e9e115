-- Violations are only ever put in front of others: where none is left, there was none before.
use Rattle.std.proofs.Common.{ℕ, Bool, true, false, cond, not, ◌&&◌, ◌||◌, ◌==◌, List, [], ◌∷◌, length, Option, Some, None, is_some, option_map, ◌≡◌}
use Rattle.c_types.specs.declared.kinds.IntKind.{IntKind}
use Rattle.c_lexer.specs.Marks.{mark_of}
use Rattle.c_grammar.specs.Terms.{Term, Form, Terms, At, Constant, Variable, Cell, Prefix, Suffix, CastTo, CastVoid, Binary, Choice, Assign, Commas, Call, NoTerm, first_of}
use Rattle.c_grammar.specs.Terms as terms
use Rattle.c_grammar.specs.Items.{Size, NoSize, Unsized, Sized, Initialiser, NoValue, OneValue, ValueList, Declarator, Label, Named, Case, Default, Start, NoStart, StartValue, StartNames, Item, Declares, States, Plain, From, Statement, Null, Evaluate, If, IfElse, While, DoWhile, For, Switch, Block, Goto, Break, Continue, Return, Unread, Body, Braces, Lone, Items, NoItem, stated_first}
use Rattle.c_grammar.specs.Items as items
use Rattle.c_kinds.specs.declared.typed.Typed as typed
use Rattle.c_kinds.specs.declared.typed.Typed.TheVariants as T
use Rattle.c_kinds.specs.declared.typed.Given.{Given}
use Rattle.c_kinds.specs.declared.binding.Want.{Want}
use Rattle.c_kinds.specs.declared.binding.Want.TheVariants as want
use Rattle.c_kinds.specs.declared.binding.Shape.{Shape}
use Rattle.c_kinds.specs.declared.binding.Binding.{Binding}
use Rattle.c_kinds.specs.declared.binding.Binding.TheVariants as B
use Rattle.c_kinds.specs.Calls.{same_kind, same_truth, text_of, argument_fault, argument_faults, text_faults, wanted_faults, printing_faults, format_faults, call_faults}
use Rattle.c_kinds.specs.Constants.{constant_of}
use Rattle.c_kinds.specs.Formats.{wanted}
use Rattle.c_kinds.specs.Marks.{is_wide, step_of}
use Rattle.c_kinds.specs.Names.{name_fault, shape_fault, target_fault}
use Rattle.c_kinds.specs.Scopes.{Env, Faults, fault, fault_if, meaning, is_bound}
use Rattle.c_kinds.specs.Typing.{typed, given, faults, form_faults, unused_faults, target_faults, form_target_faults, given_faults, used, unused, constant_faults}
use Rattle.c_kinds.specs.Values.{use_fault, drop_fault, value_of}
use Rattle.c_statements.specs.declared.entries.Entry.{Entry}
use Rattle.c_statements.specs.declared.entries.Entry.TheVariants.{Value, Other}
use Rattle.c_statements.specs.declared.extents.Kinded.{Kinded}
use Rattle.c_types.specs.Numbers.{promoted, converted}
use Rattle.std.specs.Prelude.{ℤ}
use Rattle.c_statements.specs.Cases.{is_among, with_value, entry_faults, default_faults, switch_faults, body_entries}
use Rattle.c_statements.specs.Context.{Context, Walk, env_at, env_in, enter, Around, in_loop, in_switch, has_label}
use Rattle.c_statements.specs.Declarations.{kinded, declared, is_bad_array, size_faults, initial_faults, each_faults, value_faults, local_faults, locals_faults}
use Rattle.c_statements.specs.Labels.{has_case, label_faults, labels_faults}
use Rattle.c_statements.specs.Statements.{declared_by, behind_start, behind_item, behind_plain, behind_body}
use Rattle.c_statements.specs.Violations.{dropped_faults, optional_faults, declaration_faults, start_faults, return_faults, is_null, item_faults, plain_faults, statement_faults, body_faults, list_faults, switch_body_faults, outside_faults, outside_fault}
use Rattle.c_resolving_laws.proofs.Lists.{none_left, clean_if}

if_empty : (b : Bool) (at reason : ℕ) (vs : Faults) → fault_if b at reason vs ≡ [] → vs ≡ []
if_empty b at reason vs e = (clean_if b at reason vs e).0

-- ---- expressions

pub use_empty : (first : ℕ) (x : typed.Typed) (vs : Faults) → use_fault first x vs ≡ [] → vs ≡ []
use_empty first (T.Value v) vs e = e
use_empty first (T.Void a) vs e = absurd (none_left _ vs e)
use_empty first (T.Text bytes) vs e = absurd (none_left _ vs e)
use_empty first (T.Array a) vs e = absurd (none_left _ vs e)
use_empty first T.Wrong vs e = e

pub drop_empty : (first : ℕ) (x : typed.Typed) (vs : Faults) → drop_fault first x vs ≡ [] → vs ≡ []
drop_empty first (T.Value v) vs e = e
drop_empty first (T.Void a) vs e = e
drop_empty first (T.Text bytes) vs e = absurd (none_left _ vs e)
drop_empty first (T.Array a) vs e = absurd (none_left _ vs e)
drop_empty first T.Wrong vs e = e

pub argument_empty : (w : Want) (first : ℕ) (x : typed.Typed) (vs : Faults) → argument_fault w first x vs ≡ [] → vs ≡ []
argument_empty (want.Number kind constant) first (T.Value v) vs e = e
argument_empty (want.Number kind constant) first (T.Void a) vs e = absurd (none_left _ vs e)
argument_empty (want.Number kind constant) first (T.Text bytes) vs e = absurd (none_left _ vs e)
argument_empty (want.Number kind constant) first (T.Array a) vs e = absurd (none_left _ vs e)
argument_empty (want.Number kind constant) first T.Wrong vs e = e
argument_empty (want.Array kind constant external) first (T.Value v) vs e = absurd (none_left _ vs e)
argument_empty (want.Array kind constant external) first (T.Void a) vs e = absurd (none_left _ vs e)
argument_empty (want.Array kind constant external) first (T.Text bytes) vs e = absurd (none_left _ vs e)
argument_empty (want.Array kind constant external) first (T.Array a) vs e =
    (clean_if (not (same_kind kind a.kind)) first 22 vs (clean_if (a.constant && not constant) a.token 26 _ (clean_if external first 38 _ e).0).0).0
argument_empty (want.Array kind constant external) first T.Wrong vs e = e
argument_empty (want.Sized wide) first (T.Value v) vs e = (clean_if (not (same_truth wide (is_wide v.kind))) first 40 vs e).0
argument_empty (want.Sized wide) first (T.Void a) vs e = absurd (none_left _ vs e)
argument_empty (want.Sized wide) first (T.Text bytes) vs e = absurd (none_left _ vs e)
argument_empty (want.Sized wide) first (T.Array a) vs e = absurd (none_left _ vs e)
argument_empty (want.Sized wide) first T.Wrong vs e = e

pub arguments_empty : (ws : List Want) (gs : List Given) (vs : Faults) → argument_faults ws gs vs ≡ [] → vs ≡ []
arguments_empty [] gs vs e = e
arguments_empty (w ∷ ws) [] vs e = e
arguments_empty (w ∷ ws) (g ∷ gs) vs e = argument_empty w g.first g.typed vs (arguments_empty ws gs (argument_fault w g.first g.typed vs) e)

pub wanted_empty : (at reason : ℕ) (ws : List Want) (gs : List Given) (vs : Faults) → wanted_faults at reason ws gs vs ≡ [] → vs ≡ []
wanted_empty at reason ws gs vs e = by (length ws == length gs) e
  where
    by : (b : Bool) → cond b (argument_faults ws gs vs) (fault at reason (text_faults gs vs)) ≡ [] → vs ≡ []
    by true e = arguments_empty ws gs vs e
    by false e = absurd (none_left _ _ e)

pub printing_empty : (at : ℕ) (o : Option (List Want)) (gs : List Given) (vs : Faults) → printing_faults at o gs vs ≡ [] → vs ≡ []
printing_empty at None gs vs e = absurd (none_left _ _ e)
printing_empty at (Some ws) gs vs e = wanted_empty at 40 ws gs vs e

pub format_empty : (at : ℕ) (o : Option (List ℕ)) (gs : List Given) (vs : Faults) → format_faults at o gs vs ≡ [] → vs ≡ []
format_empty at None gs vs e = absurd (none_left _ _ e)
format_empty at (Some bytes) gs vs e = printing_empty at (wanted bytes) gs vs e

pub given_empty : (at : ℕ) (o : Option Binding) (gs : List Given) (vs : Faults) → call_faults at o gs vs ≡ [] → vs ≡ []
given_empty at None gs vs e = absurd (none_left _ _ e)
given_empty at (Some (B.Function s)) gs vs e = wanted_empty at 23 s.wants gs vs e
given_empty at (Some B.Printf) [] vs e = absurd (none_left _ _ e)
given_empty at (Some B.Printf) (g ∷ gs) vs e = format_empty at (text_of g.typed) gs vs e
given_empty at (Some (B.Constant v)) gs vs e = absurd (none_left _ _ e)
given_empty at (Some (B.Global shape)) gs vs e = absurd (none_left _ _ e)
given_empty at (Some (B.Local k shape)) gs vs e = absurd (none_left _ _ e)

name_empty : (at : ℕ) (o : Option Binding) (vs : Faults) → name_fault at o vs ≡ [] → vs ≡ []
name_empty at None vs e = absurd (none_left _ vs e)
name_empty at (Some (B.Constant v)) vs e = e
name_empty at (Some (B.Global shape)) vs e = e
name_empty at (Some (B.Local k shape)) vs e = e
name_empty at (Some (B.Function s)) vs e = absurd (none_left _ vs e)
name_empty at (Some B.Printf) vs e = absurd (none_left _ vs e)

shape_empty : (writes indexed : Bool) (at : ℕ) (shape : Shape) (vs : Faults) → shape_fault writes indexed at shape vs ≡ [] → vs ≡ []
shape_empty writes indexed at shape vs e = by shape.array indexed e
  where
    by : (a i : Bool) → cond a (cond i (fault_if (writes && shape.constant) at 26 vs) (fault at 22 vs))
        (cond i (fault at 22 vs) (fault_if (writes && shape.constant) at 26 vs)) ≡ [] → vs ≡ []
    by true true e = if_empty (writes && shape.constant) at 26 vs e
    by true false e = absurd (none_left _ vs e)
    by false true e = absurd (none_left _ vs e)
    by false false e = if_empty (writes && shape.constant) at 26 vs e

target_empty : (writes indexed : Bool) (at : ℕ) (o : Option Binding) (vs : Faults) → target_fault writes indexed at o vs ≡ [] → vs ≡ []
target_empty writes indexed at None vs e = absurd (none_left _ vs e)
target_empty writes indexed at (Some (B.Constant v)) vs e = absurd (none_left _ vs e)
target_empty writes indexed at (Some (B.Global shape)) vs e = shape_empty writes indexed at shape vs e
target_empty writes indexed at (Some (B.Local k shape)) vs e = shape_empty writes indexed at shape vs e
target_empty writes indexed at (Some (B.Function s)) vs e = absurd (none_left _ vs e)
target_empty writes indexed at (Some B.Printf) vs e = absurd (none_left _ vs e)

module _ (env : Env) where
  used_empty : (t : Term) (vs : Faults) → used env t vs ≡ [] → vs ≡ []
  used_empty t vs e = use_empty (first_of t) (typed env t) vs e

  unused_empty : (t : Term) (vs : Faults) → unused env t vs ≡ [] → vs ≡ []
  unused_empty t vs e = drop_empty (first_of t) (typed env t) vs e

  prefix_empty : (o : Option Bool) (a : Term) (vs : Faults) → (target_faults env a vs ≡ [] → vs ≡ []) → (used env a (faults env a vs) ≡ [] → vs ≡ [])
      → ◌≡◌ {A = Faults} (elim o [ Some up ↦ target_faults env a vs | None ↦ used env a (faults env a vs) ]) [] → vs ≡ []
  prefix_empty (Some up) a vs f g e = f e
  prefix_empty None a vs f g e = g e

  mutual
    pub faults_empty : (t : Term) (vs : Faults) → faults env t vs ≡ [] → vs ≡ []
    faults_empty (At first form) vs e = form_empty form vs e

    form_empty : (f : Form) (vs : Faults) → form_faults env f vs ≡ [] → vs ≡ []
    form_empty (Constant at) vs e = e
    form_empty (Variable at) vs e = name_empty at (meaning env at) vs e
    form_empty (Cell at i) vs e = faults_empty i vs
        (used_empty i (faults env i vs) (target_empty false true at (meaning env at) (used env i (faults env i vs)) e))
    form_empty (Prefix m a) vs e = prefix_empty (step_of (mark_of (env.word m))) a vs (targets_empty a vs)
        (λ k. faults_empty a vs (used_empty a (faults env a vs) k)) e
    form_empty (Suffix m a) vs e = targets_empty a vs e
    form_empty (CastTo words a) vs e = faults_empty a vs (used_empty a (faults env a vs) e)
    form_empty (CastVoid a) vs e = faults_empty a vs (unused_empty a (faults env a vs) e)
    form_empty (Binary m a b) vs e =
        let va = used env a (faults env a vs) in
        faults_empty a vs (used_empty a (faults env a vs) (faults_empty b va (used_empty b (faults env b va) e)))
    form_empty (Choice a b c) vs e =
        let va = used env a (faults env a vs) in
        let vb = used env b (faults env b va) in
        faults_empty a vs (used_empty a (faults env a vs)
        (faults_empty b va (used_empty b (faults env b va) (faults_empty c vb (used_empty c (faults env c vb) e)))))
    form_empty (Assign m t a) vs e = targets_empty t vs (faults_empty a (target_faults env t vs) (used_empty a (faults env a (target_faults env t vs)) e))
    form_empty (Commas a bs) vs e = faults_empty a vs (unused_empty a (faults env a vs) (commas_empty bs (unused env a (faults env a vs)) e))
    form_empty (Call at xs) vs e = givens_empty xs vs (given_empty at (meaning env at) (given env xs) (given_faults env xs vs) e)
    form_empty _ vs e = e

    commas_empty : (bs : Terms) (vs : Faults) → unused_faults env bs vs ≡ [] → vs ≡ []
    commas_empty NoTerm vs e = e
    commas_empty (terms.Then b bs) vs e = faults_empty b vs (unused_empty b (faults env b vs) (commas_empty bs (unused env b (faults env b vs)) e))

    targets_empty : (t : Term) (vs : Faults) → target_faults env t vs ≡ [] → vs ≡ []
    targets_empty (At first form) vs e = form_target_empty form vs e

    form_target_empty : (f : Form) (vs : Faults) → form_target_faults env f vs ≡ [] → vs ≡ []
    form_target_empty (Variable at) vs e = target_empty true false at (meaning env at) vs e
    form_target_empty (Cell at i) vs e = faults_empty i vs
        (used_empty i (faults env i vs) (target_empty true true at (meaning env at) (used env i (faults env i vs)) e))
    form_target_empty _ vs e = e

    givens_empty : (xs : Terms) (vs : Faults) → given_faults env xs vs ≡ [] → vs ≡ []
    givens_empty NoTerm vs e = e
    givens_empty (terms.Then x xs) vs e = faults_empty x vs (givens_empty xs (faults env x vs) e)

  pub constant_empty : (t : Term) (vs : Faults) → constant_faults env t vs ≡ [] → vs ≡ []
  constant_empty t vs e = faults_empty t vs
      (used_empty t (faults env t vs) (if_empty (not (is_some (constant_of (typed env t)))) (first_of t) 34 (used env t (faults env t vs)) e))

  pub value_empty : (t : Term) (vs : Faults) → value_faults env t vs ≡ [] → vs ≡ []
  value_empty t vs e = faults_empty t vs (used_empty t (faults env t vs) e)

  pub dropped_empty : (t : Term) (vs : Faults) → dropped_faults env t vs ≡ [] → vs ≡ []
  dropped_empty t vs e = faults_empty t vs (unused_empty t (faults env t vs) e)

  pub size_empty : (s : Size) (vs : Faults) → size_faults env s vs ≡ [] → vs ≡ []
  size_empty NoSize vs e = e
  size_empty Unsized vs e = e
  size_empty (Sized t) vs e = constant_empty t vs e

  pub label_empty : (switch : Bool) (l : Label) (vs : Faults) → label_faults env switch l vs ≡ [] → vs ≡ []
  label_empty switch (Named at after) vs e = e
  label_empty switch (Case at after t) vs e = if_empty (not switch) at 29 vs (constant_empty t (fault_if (not switch) at 29 vs) e)
  label_empty switch (Default at after) vs e = if_empty (not switch) at 29 vs e

  pub labels_empty : (switch : Bool) (ls : List Label) (vs : Faults) → labels_faults env switch ls vs ≡ [] → vs ≡ []
  labels_empty switch [] vs e = e
  labels_empty switch (l ∷ ls) vs e = label_empty switch l vs (labels_empty switch ls (label_faults env switch l vs) e)

  pub return_empty : (k : Option IntKind) (at : ℕ) (t : Option Term) (vs : Faults) → return_faults k env at t vs ≡ [] → vs ≡ []
  return_empty (Some k) at (Some t) vs e = value_empty t vs e
  return_empty (Some k) at None vs e = absurd (none_left _ vs e)
  return_empty None at (Some t) vs e = absurd (none_left _ _ e)
  return_empty None at None vs e = e

-- ---- a violation of each part

-- no violation in front of none
abbrev pub Empties : (Faults → Faults) → Type 0
Empties k = (vs : Faults) → k vs ≡ [] → vs ≡ []

pub optional_empty : (k : Term → Faults → Faults) → ((t : Term) → Empties (k t)) → (o : Option Term) → Empties (optional_faults k o)
optional_empty k f None vs e = e
optional_empty k f (Some t) vs e = f t vs e

pub each_empty : (k : Term → Faults → Faults) → ((t : Term) → Empties (k t)) → (ts : List Term) → Empties (each_faults k ts)
each_empty k f [] vs e = e
each_empty k f (t ∷ ts) vs e = f t vs (each_empty k f ts (k t vs) e)

pub initial_empty : (k : Term → Faults → Faults) → ((t : Term) → Empties (k t)) → (i : Initialiser) → Empties (initial_faults k i)
initial_empty k f NoValue vs e = e
initial_empty k f (OneValue t) vs e = f t vs e
initial_empty k f (ValueList ts) vs e = each_empty k f ts vs e

pub local_empty : (word : ℕ → List ℕ) (k : Kinded) (d : Declarator) (w : Walk) → Empties (local_faults word k d w)
local_empty word k d w vs e =
    let inner = env_in word (declared word k d w) in
    let env = env_in word w in
    size_empty env d.size vs
    (if_empty (is_bad_array true env d) d.name 35 (size_faults env d.size vs)
    (if_empty (is_bound (word d.name) w.scopes) d.name 21 (fault_if (is_bad_array true env d) d.name 35 (size_faults env d.size vs))
    (initial_empty (value_faults inner) (value_empty inner) d.value _ e)))

pub locals_empty : (word : ℕ → List ℕ) (k : Kinded) (ds : List Declarator) (w : Walk) → Empties (locals_faults word k ds w)
locals_empty word k [] w vs e = e
locals_empty word k (d ∷ ds) w vs e = local_empty word k d w vs (locals_empty word k ds (declared word k d w) (local_faults word k d w vs) e)

pub entries_empty : (kind : IntKind) (seen : List ℤ) (default : Bool) (es : List Entry) → Empties (entry_faults kind seen default es)
entries_empty kind seen default [] vs e = e
entries_empty kind seen default (Value at v ∷ es) vs e =
    if_empty (is_among (converted kind v) seen) at 30 vs (entries_empty kind (with_value (converted kind v) seen) default es
    (fault_if (is_among (converted kind v) seen) at 30 vs) e)
entries_empty kind seen default (Other at ∷ es) vs e = if_empty default at 31 vs (entries_empty kind seen true es (fault_if default at 31 vs) e)

pub defaults_empty : (default : Bool) (es : List Entry) → Empties (default_faults default es)
defaults_empty default [] vs e = e
defaults_empty default (Value at v ∷ es) vs e = defaults_empty default es vs e
defaults_empty default (Other at ∷ es) vs e = if_empty default at 31 vs (defaults_empty true es (fault_if default at 31 vs) e)

pub switch_empty : (kind : Option IntKind) (es : List Entry) → Empties (switch_faults kind es)
switch_empty (Some kind) es vs e = entries_empty (promoted kind) [] false es vs e
switch_empty None es vs e = defaults_empty false es vs e

-- ---- statements

-- by whether a statement begins a section
outside_by : (b : Bool) (x y v : Faults) → (x ≡ [] → v ≡ []) → (y ≡ [] → v ≡ []) → ◌≡◌ {A = Faults} (elim b [ true ↦ x | false ↦ y ]) [] → v ≡ []
outside_by true x y v f g e = f e
outside_by false x y v f g e = g e

module _ (ctx : Context) where
  pub start_empty : (start : Start) (w : Walk) → Empties (start_faults ctx start w)
  start_empty NoStart w vs e = e
  start_empty (StartValue t) w vs e = dropped_empty (env_at ctx w) t vs e
  start_empty (StartNames d) w vs e = locals_empty ctx.word (kinded ctx.word d) d.names w vs e

  mutual
    pub item_empty : (around : Around) (x : Item) (w : Walk) → Empties (item_faults ctx around x w)
    item_empty around (Declares first after d) w vs e = locals_empty ctx.word (kinded ctx.word d) d.names w vs e
    item_empty around (States ls p) w vs e = labels_empty (env_at ctx w) around.switch ls vs
        (plain_empty around p w (labels_faults (env_at ctx w) around.switch ls vs) e)

    pub plain_empty : (around : Around) (p : Plain) (w : Walk) → Empties (plain_faults ctx around p w)
    plain_empty around (From first after s) w vs e = statement_empty around first s w vs e

    pub statement_empty : (around : Around) (first : ℕ) (s : Statement) (w : Walk) → Empties (statement_faults ctx around first s w)
    statement_empty around first Null w vs e = e
    statement_empty around first (Evaluate t) w vs e = dropped_empty (env_at ctx w) t vs e
    statement_empty around first (If t b) w vs e = value_empty (env_at ctx w) t vs (body_empty around b w (value_faults (env_at ctx w) t vs) e)
    statement_empty around first (IfElse t b c) w vs e =
        let v = value_faults (env_at ctx w) t vs in
        value_empty (env_at ctx w) t vs (body_empty around b w v (body_empty around c (behind_body ctx b w) (body_faults ctx around b w v) e))
    statement_empty around first (While t b) w vs e = value_empty (env_at ctx w) t vs (body_empty (in_loop around) b w (value_faults (env_at ctx w) t vs) e)
    statement_empty around first (DoWhile b t) w vs e = body_empty (in_loop around) b w vs
        (value_empty (env_at ctx w) t (body_faults ctx (in_loop around) b w vs) e)
    statement_empty around first (For start t u b) w vs e =
        let inner = behind_start ctx start (enter w) in
        let env = env_at ctx inner in
        let v = start_faults ctx start (enter w) vs in
        let x = optional_faults (value_faults env) t v in
        start_empty start (enter w) vs
        (optional_empty (value_faults env) (value_empty env) t v
        (optional_empty (dropped_faults env) (dropped_empty env) u x
        (body_empty (in_loop around) b inner (optional_faults (dropped_faults env) u x) e)))
    statement_empty around first (Switch t b) w vs e =
        let v = value_faults (env_at ctx w) t vs in
        value_empty (env_at ctx w) t vs
        (switch_body_empty (in_switch around) b w v
        (switch_empty (option_map (λ v. v.kind) (value_of (typed (env_at ctx w) t))) (body_entries ctx b w [])
        (switch_body_faults ctx (in_switch around) b w v) e))
    statement_empty around first (Block b) w vs e = body_empty around b w vs e
    statement_empty around first (Goto at) w vs e = if_empty (not (has_label ctx.labels (ctx.word at))) at 33 vs e
    statement_empty around first Break w vs e = if_empty (not (around.loop || around.switch)) first 27 vs e
    statement_empty around first Continue w vs e = if_empty (not around.loop) first 28 vs e
    statement_empty around first (Return t) w vs e = return_empty (env_at ctx w) ctx.result first t vs e
    statement_empty around first Unread w vs e = e

    pub body_empty : (around : Around) (b : Body) (w : Walk) → Empties (body_faults ctx around b w)
    body_empty around (Braces first after xs) w vs e = list_empty around xs (enter w) vs e
    body_empty around (Lone first after x) w vs e = item_empty around x (enter w) vs e

    pub list_empty : (around : Around) (xs : Items) (w : Walk) → Empties (list_faults ctx around xs w)
    list_empty around NoItem w vs e = e
    list_empty around (items.Then x xs) w vs e = item_empty around x w vs (list_empty around xs (behind_item ctx x w) (item_faults ctx around x w vs) e)

    pub switch_body_empty : (around : Around) (b : Body) (w : Walk) → Empties (switch_body_faults ctx around b w)
    switch_body_empty around (Braces first after xs) w vs e = outside_empty around xs (enter w) vs e
    switch_body_empty around (Lone first after x) w vs e = outside_item_empty around x (enter w) vs e

    pub outside_empty : (around : Around) (xs : Items) (w : Walk) → Empties (outside_faults ctx around xs w)
    outside_empty around NoItem w vs e = e
    outside_empty around (items.Then (Declares first after d) xs) w vs e =
        absurd (none_left _ _ (outside_empty around xs (declared_by ctx d w) (fault first 29 (declaration_faults ctx d w vs)) e))
    outside_empty around (items.Then (States ls p) xs) w vs e =
        let v = labels_faults (env_at ctx w) around.switch ls vs in
        let x = plain_faults ctx around p w v in
        labels_empty (env_at ctx w) around.switch ls vs
        (plain_empty around p w v
        (outside_by (has_case ls) (list_faults ctx around xs (behind_plain ctx p w) x)
        (outside_faults ctx around xs (behind_plain ctx p w) (fault_if (not (is_null ls p)) (stated_first ls p) 29 x)) x
        (list_empty around xs (behind_plain ctx p w) x)
        (λ k. if_empty (not (is_null ls p)) (stated_first ls p) 29 x
        (outside_empty around xs (behind_plain ctx p w) (fault_if (not (is_null ls p)) (stated_first ls p) 29 x) k)) e))

    pub outside_item_empty : (around : Around) (x : Item) (w : Walk) → Empties (outside_fault ctx around x w)
    outside_item_empty around (Declares first after d) w vs e = absurd (none_left _ _ e)
    outside_item_empty around (States ls p) w vs e =
        let v = labels_faults (env_at ctx w) around.switch ls vs in
        labels_empty (env_at ctx w) around.switch ls vs
        (plain_empty around p w v (if_empty (not (has_case ls || is_null ls p)) (stated_first ls p) 29 (plain_faults ctx around p w v) e))
