-- The violations of statements (ISO/IEC 9899:2011, 6.8), in front of those that were found before.
use Rattle.std.specs.Prelude.{ℕ, true, false, not, ◌||◌, [], Option, Some, None, option_map}
use Rattle.c_types.specs.declared.kinds.IntKind.{IntKind}
use Rattle.c_grammar.specs.Terms.{Term}
use Rattle.c_grammar.specs.Items.{Declaration, Start, NoStart, StartValue, StartNames, Item, Declares, States, Plain, From, Statement, Null, Evaluate, If, IfElse, While, DoWhile, For, Switch, Block, Goto, Break, Continue, Return, Unread, Body, Braces, Lone, Items, NoItem, Then, stated_first}
use Rattle.c_kinds.specs.Scopes.{Env, Faults, fault, fault_if}
use Rattle.c_kinds.specs.Values.{value_of}
use Rattle.c_kinds.specs.Typing.{typed, faults, unused}
use Rattle.c_statements.specs.Context.{Context, Walk, env_at, enter, Around, in_loop, in_switch, has_label}
use Rattle.c_statements.specs.Declarations.{kinded, locals_faults, value_faults}
use Rattle.c_statements.specs.Labels.{has_case, labels_faults}
use Rattle.c_statements.specs.Statements.{declared_by, behind_start, behind_item, behind_plain, behind_body}
pub use Rattle.c_statements.specs.Statements.{is_null}
use Rattle.c_statements.specs.Cases.{body_entries, switch_faults}

-- an expression of which a value is dropped
abbrev pub dropped_faults : Env → Term → Faults → Faults
dropped_faults env t vs = unused env t (faults env t vs)

abbrev pub optional_faults : (Term → Faults → Faults) → Option Term → Faults → Faults
optional_faults k None vs = vs
optional_faults k (Some t) vs = k t vs

abbrev pub declaration_faults : Context → Declaration → Walk → Faults → Faults
declaration_faults ctx d w vs = locals_faults ctx.word (kinded ctx.word d) d.names w vs

abbrev pub start_faults : Context → Start → Walk → Faults → Faults
start_faults ctx NoStart w vs = vs
start_faults ctx (StartValue t) w vs = dropped_faults (env_at ctx w) t vs
start_faults ctx (StartNames d) w vs = declaration_faults ctx d w vs

-- a value in a void function, and none in another
abbrev pub return_faults : Option IntKind → Env → ℕ → Option Term → Faults → Faults
return_faults (Some k) env at (Some t) vs = value_faults env t vs
return_faults (Some k) env at None vs = fault at 25 vs
return_faults None env at (Some t) vs = fault at 25 (faults env t vs)
return_faults None env at None vs = vs

abbrev mutual
  pub item_faults : Context → Around → Item → Walk → Faults → Faults
  item_faults ctx around (Declares first after d) w vs = declaration_faults ctx d w vs
  item_faults ctx around (States ls p) w vs = plain_faults ctx around p w (labels_faults (env_at ctx w) around.switch ls vs)

  pub plain_faults : Context → Around → Plain → Walk → Faults → Faults
  plain_faults ctx around (From first after s) w vs = statement_faults ctx around first s w vs

  pub statement_faults : Context → Around → ℕ → Statement → Walk → Faults → Faults
  statement_faults ctx around first Null w vs = vs
  statement_faults ctx around first (Evaluate t) w vs = dropped_faults (env_at ctx w) t vs
  statement_faults ctx around first (If t b) w vs = body_faults ctx around b w (value_faults (env_at ctx w) t vs)
  statement_faults ctx around first (IfElse t b c) w vs =
      body_faults ctx around c (behind_body ctx b w) (body_faults ctx around b w (value_faults (env_at ctx w) t vs))
  statement_faults ctx around first (While t b) w vs = body_faults ctx (in_loop around) b w (value_faults (env_at ctx w) t vs)
  statement_faults ctx around first (DoWhile b t) w vs = value_faults (env_at ctx w) t (body_faults ctx (in_loop around) b w vs)
  statement_faults ctx around first (For start t u b) w vs =
      let inner = behind_start ctx start (enter w) in
      let env = env_at ctx inner in
      body_faults ctx (in_loop around) b inner
      (optional_faults (dropped_faults env) u (optional_faults (value_faults env) t (start_faults ctx start (enter w) vs)))
  statement_faults ctx around first (Switch t b) w vs =
      switch_faults (option_map (λ v. v.kind) (value_of (typed (env_at ctx w) t))) (body_entries ctx b w [])
      (switch_body_faults ctx (in_switch around) b w (value_faults (env_at ctx w) t vs))
  statement_faults ctx around first (Block b) w vs = body_faults ctx around b w vs
  statement_faults ctx around first (Goto at) w vs = fault_if (not (has_label ctx.labels (ctx.word at))) at 33 vs
  statement_faults ctx around first Break w vs = fault_if (not (around.loop || around.switch)) first 27 vs
  statement_faults ctx around first Continue w vs = fault_if (not around.loop) first 28 vs
  statement_faults ctx around first (Return t) w vs = return_faults ctx.result (env_at ctx w) first t vs
  statement_faults ctx around first Unread w vs = vs

  pub body_faults : Context → Around → Body → Walk → Faults → Faults
  body_faults ctx around (Braces first after xs) w vs = list_faults ctx around xs (enter w) vs
  body_faults ctx around (Lone first after x) w vs = item_faults ctx around x (enter w) vs

  pub list_faults : Context → Around → Items → Walk → Faults → Faults
  list_faults ctx around NoItem w vs = vs
  list_faults ctx around (Then x xs) w vs = list_faults ctx around xs (behind_item ctx x w) (item_faults ctx around x w vs)

  -- the items in front of the first section are outside of the switch
  pub switch_body_faults : Context → Around → Body → Walk → Faults → Faults
  switch_body_faults ctx around (Braces first after xs) w vs = outside_faults ctx around xs (enter w) vs
  switch_body_faults ctx around (Lone first after x) w vs = outside_fault ctx around x (enter w) vs

  pub outside_faults : Context → Around → Items → Walk → Faults → Faults
  outside_faults ctx around NoItem w vs = vs
  outside_faults ctx around (Then (Declares first after d) xs) w vs = outside_faults ctx around xs (declared_by ctx d w)
      (fault first 29 (declaration_faults ctx d w vs))
  outside_faults ctx around (Then (States ls p) xs) w vs = elim (has_case ls) [
    | true ↦ list_faults ctx around xs (behind_plain ctx p w) (plain_faults ctx around p w (labels_faults (env_at ctx w) around.switch ls vs))
    | false ↦ outside_faults ctx around xs (behind_plain ctx p w)
        (fault_if (not (is_null ls p)) (stated_first ls p) 29 (plain_faults ctx around p w (labels_faults (env_at ctx w) around.switch ls vs)))
  ]

  pub outside_fault : Context → Around → Item → Walk → Faults → Faults
  outside_fault ctx around (Declares first after d) w vs = fault first 29 (declaration_faults ctx d w vs)
  outside_fault ctx around (States ls p) w vs =
      fault_if (not (has_case ls || is_null ls p)) (stated_first ls p) 29 (plain_faults ctx around p w (labels_faults (env_at ctx w) around.switch ls vs))
