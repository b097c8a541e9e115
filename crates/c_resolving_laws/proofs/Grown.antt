-- The slots behind a statement are those before it and those that it declares.
use Rattle.std.proofs.Common.{ℕ, Bool, true, false, List, [], ◌∷◌, ◌++◌, append_assoc, ◌≡◌, refl, sym, ap, ◌∙◌}
use Rattle.std.proofs.lemmas.List.{append-nil}
use Rattle.c_tree.specs.declared.tree.Slot.{Slot}
use Rattle.c_grammar.specs.Items.{Declarator, Declaration, Label, Start, NoStart, StartValue, StartNames, Item, Declares, States, Plain, From, Statement, Null, Evaluate, If, IfElse, While, DoWhile, For, Switch, Block, Goto, Break, Continue, Return, Unread, Body, Braces, Lone, Items, NoItem}
use Rattle.c_grammar.specs.Items as items
use Rattle.c_statements.specs.declared.extents.Kinded.{Kinded}
use Rattle.c_statements.specs.Context.{Context, Walk, env_in, enter, Around, in_loop, in_switch}
use Rattle.c_statements.specs.Declarations.{kinded, declared, all_declared, slot_of, local_faults, locals_faults}
use Rattle.c_statements.specs.Labels.{has_case}
use Rattle.c_statements.specs.Statements.{behind_start, behind_item, behind_plain, behind_statement, behind_body, behind_items}
use Rattle.c_statements.specs.Violations.{start_faults, item_faults, plain_faults, statement_faults, body_faults, list_faults, switch_body_faults, outside_faults, outside_fault}
use Rattle.c_resolved_defs.specs.Within.{Each}
use Rattle.c_resolving_laws.proofs.Lists.{none_left, each_append}
use Rattle.c_resolving_laws.specs.Read.{IsReadDeclarator, IsReadStart, IsReadItem, IsReadPlain, IsReadStatement, IsReadBody, AreReadItems}
use Rattle.c_resolving_laws.proofs.Parts.{locals_parts, states_parts, list_parts, if_parts, if_else_parts, while_parts, do_parts, for_parts, switch_parts, Outside, outside_declares, outside_parts, outside_one}

-- more slots, for each of which the fact holds
pub record Grown (Q : Slot → Type 0) (before after : List Slot) : Type 0 where
  pub more : List Slot
  pub whole : after ≡ before ++ more
  pub good : Each Q more

pub not_grown : (Q : Slot → Type 0) (before : List Slot) → Grown Q before before
not_grown Q before = record { more = []; whole = sym (append-nil before); good = tt }

pub grown_twice : (Q : Slot → Type 0) (a b c : List Slot) → Grown Q a b → Grown Q b c → Grown Q a c
grown_twice Q a b c g h =
    record {
      more = g.more ++ h.more;
      whole = h.whole ∙ (ap (λ x. x ++ h.more) g.whole ∙ append_assoc a g.more h.more);
      good = each_append Q g.more h.more g.good h.good;
    }

module _ (ctx : Context) (Q : Slot → Type 0)
    (declares : (k : Kinded) (d : Declarator) (w : Walk) → IsReadDeclarator ctx.word d → local_faults ctx.word k d w [] ≡ [] →
    Q (slot_of (env_in ctx.word w) k d)) where
  abbrev Grows : Walk → Walk → Type 0
  Grows v w = Grown Q v.slots w.slots

  pub locals_grow : (k : Kinded) (ds : List Declarator) (w : Walk) → Each (IsReadDeclarator ctx.word) ds → locals_faults ctx.word k ds w [] ≡ [] →
      Grows w (all_declared ctx.word k ds w)
  locals_grow k [] w r e = not_grown Q w.slots
  locals_grow k (d ∷ ds) w r e =
      let p = locals_parts ctx.word k d ds w e in
      grown_twice Q w.slots (w.slots ++ slot_of (env_in ctx.word w) k d ∷ []) (all_declared ctx.word k (d ∷ ds) w).slots
      (record { more = slot_of (env_in ctx.word w) k d ∷ []; whole = refl; good = (declares k d w r.0 p.0, tt) })
      (locals_grow k ds (declared ctx.word k d w) r.1 p.1)

  pub start_grows : (start : Start) (w : Walk) → IsReadStart ctx.word start → start_faults ctx start w [] ≡ [] → Grows w (behind_start ctx start w)
  start_grows NoStart w r e = not_grown Q w.slots
  start_grows (StartValue t) w r e = not_grown Q w.slots
  start_grows (StartNames d) w r e = locals_grow (kinded ctx.word d) d.names w r e

  -- the items behind one in front of the first section
  later_grow : (around : Around) (b : Bool) (ls : List Label) (p : Plain) (xs : Items) (w : Walk) → let v = behind_plain ctx p w in
      (list_faults ctx around xs v [] ≡ [] → Grows v (behind_items ctx xs v)) → (outside_faults ctx around xs v [] ≡ [] → Grows v (behind_items ctx xs v))
      → Outside ctx around w b ls p xs → Grows v (behind_items ctx xs v)
  later_grow around true ls p xs w f g h = f h
  later_grow around false ls p xs w f g h = g h.1

  mutual
    pub item_grows : (around : Around) (x : Item) (w : Walk) → IsReadItem ctx.word x → item_faults ctx around x w [] ≡ [] → Grows w (behind_item ctx x w)
    item_grows around (Declares first after d) w r e = locals_grow (kinded ctx.word d) d.names w r e
    item_grows around (States ls p) w r e = plain_grows around p w r.1 (states_parts ctx around w ls p e).1

    pub plain_grows : (around : Around) (p : Plain) (w : Walk) → IsReadPlain ctx.word p → plain_faults ctx around p w [] ≡ [] → Grows w (behind_plain ctx p w)
    plain_grows around (From first after s) w r e = statement_grows around first s w r e

    statement_grows : (around : Around) (first : ℕ) (s : Statement) (w : Walk) → IsReadStatement ctx.word s →
        statement_faults ctx around first s w [] ≡ [] → Grows w (behind_statement ctx s w)
    statement_grows around first Null w r e = not_grown Q w.slots
    statement_grows around first (Evaluate t) w r e = not_grown Q w.slots
    statement_grows around first (If t b) w r e = body_grows around b w r.1 (if_parts ctx around w first t b e).1
    statement_grows around first (IfElse t b c) w r e =
        let p = if_else_parts ctx around w first t b c e in
        let v = behind_body ctx b w in
        grown_twice Q w.slots v.slots (behind_body ctx c v).slots (body_grows around b w r.1 p.1) (body_grows around c v r.2 p.2)
    statement_grows around first (While t b) w r e = body_grows (in_loop around) b w r.1 (while_parts ctx around w first t b e).1
    statement_grows around first (DoWhile b t) w r e = body_grows (in_loop around) b w r.0 (do_parts ctx around w first b t e).1
    statement_grows around first (For start t u b) w r e =
        let p = for_parts ctx around w first start t u b e in
        let inner = behind_start ctx start (enter w) in
        grown_twice Q w.slots inner.slots (behind_body ctx b inner).slots (start_grows start (enter w) r.0 p.0) (body_grows (in_loop around) b inner r.3 p.3)
    statement_grows around first (Switch t b) w r e = switch_grows (in_switch around) b w r.1 (switch_parts ctx around w first t b e).1
    statement_grows around first (Block b) w r e = body_grows around b w r e
    statement_grows around first (Goto at) w r e = not_grown Q w.slots
    statement_grows around first Break w r e = not_grown Q w.slots
    statement_grows around first Continue w r e = not_grown Q w.slots
    statement_grows around first (Return t) w r e = not_grown Q w.slots
    statement_grows around first Unread w r e = absurd r

    pub body_grows : (around : Around) (b : Body) (w : Walk) → IsReadBody ctx.word b → body_faults ctx around b w [] ≡ [] → Grows w (behind_body ctx b w)
    body_grows around (Braces first after xs) w r e = list_grows around xs (enter w) r e
    body_grows around (Lone first after x) w r e = item_grows around x (enter w) r e

    pub list_grows : (around : Around) (xs : Items) (w : Walk) → AreReadItems ctx.word xs → list_faults ctx around xs w [] ≡ [] →
        Grows w (behind_items ctx xs w)
    list_grows around NoItem w r e = not_grown Q w.slots
    list_grows around (items.Then x xs) w r e =
        let p = list_parts ctx around w x xs e in
        let v = behind_item ctx x w in
        grown_twice Q w.slots v.slots (behind_items ctx xs v).slots (item_grows around x w r.0 p.0) (list_grows around xs v r.1 p.1)

    pub switch_grows : (around : Around) (b : Body) (w : Walk) → IsReadBody ctx.word b → switch_body_faults ctx around b w [] ≡ [] →
        Grows w (behind_body ctx b w)
    switch_grows around (Braces first after xs) w r e = outside_grows around xs (enter w) r e
    switch_grows around (Lone first after x) w r e = outside_one_grows around x (enter w) r e

    pub outside_grows : (around : Around) (xs : Items) (w : Walk) → AreReadItems ctx.word xs → outside_faults ctx around xs w [] ≡ [] →
        Grows w (behind_items ctx xs w)
    outside_grows around NoItem w r e = not_grown Q w.slots
    outside_grows around (items.Then (Declares first after d) xs) w r e = absurd (outside_declares ctx around w first after d xs e)
    outside_grows around (items.Then (States ls p) xs) w r e =
        let q = outside_parts ctx around w ls p xs e in
        let v = behind_plain ctx p w in
        grown_twice Q w.slots v.slots (behind_items ctx xs v).slots (plain_grows around p w r.0.1 (states_parts ctx around w ls p q.0).1)
        (later_grow around (has_case ls) ls p xs w (list_grows around xs v r.1) (outside_grows around xs v r.1) q.1)

    outside_one_grows : (around : Around) (x : Item) (w : Walk) → IsReadItem ctx.word x → outside_fault ctx around x w [] ≡ [] → Grows w (behind_item ctx x w)
    outside_one_grows around (Declares first after d) w r e = absurd (none_left _ _ e)
    outside_one_grows around (States ls p) w r e = plain_grows around p w r.1 (states_parts ctx around w ls p (outside_one ctx around w ls p e).0).1
