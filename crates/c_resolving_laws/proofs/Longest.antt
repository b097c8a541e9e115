-- No name of a label or of a variable of a body is longer than its longest.
use Rattle.std.proofs.Common.{ℕ, ◌≤◌, List, [], ◌∷◌, ◌++◌, length, max, refl, arith}
use Rattle.c_tree.specs.declared.tree.Slot.{Slot}
use Rattle.c_grammar.specs.Items.{Declarator, Label, Named, Case, Default, Start, NoStart, StartValue, StartNames, Item, Declares, States, Plain, From, Statement, Null, Evaluate, If, IfElse, While, DoWhile, For, Switch, Block, Body, Braces, Lone, Items, NoItem}
use Rattle.c_grammar.specs.Items as items
use Rattle.c_statements.specs.declared.extents.Kinded.{Kinded}
use Rattle.c_statements.specs.Context.{Context, Walk, env_in, enter}
use Rattle.c_statements.specs.Declarations.{kinded, declared, all_declared, slot_of}
use Rattle.c_statements.specs.Labels.{named_in, item_labels, plain_labels, statement_labels, body_labels, list_labels}
use Rattle.c_statements.specs.Measures.{longest_declared, longest_label, start_longest, item_longest, plain_longest, statement_longest, body_longest, list_longest}
use Rattle.c_statements.specs.Statements.{behind_start, behind_item, behind_plain, behind_statement, behind_body, behind_items}
use Rattle.c_resolved_defs.specs.Within.{Each}
use Rattle.c_resolving_laws.proofs.Grown.{Grown, not_grown, grown_twice}

pub max_left : (a b c : ℕ) → max a b ≤ c → a ≤ c
max_left a b c h = omega arith

pub max_right : (a b c : ℕ) → max a b ≤ c → b ≤ c
max_right a b c h = omega arith

module _ (ctx : Context) (L : ℕ) where
  -- ---- labels

  abbrev Short : ℕ → Type 0
  Short at = length (ctx.word at) ≤ L

  named_short : (ls : List Label) (rest : List ℕ) → longest_label ctx.word ls ≤ L → Each Short rest → Each Short (named_in ls rest)
  named_short [] rest h r = r
  named_short (Named at after ∷ ls) rest h r = (
    max_left (length (ctx.word at)) (longest_label ctx.word ls) L h,
    named_short ls rest
        (max_right (length (ctx.word at)) (longest_label ctx.word ls) L h) r,
  )
  named_short (Case at after t ∷ ls) rest h r = named_short ls rest (max_right 0 (longest_label ctx.word ls) L h) r
  named_short (Default at after ∷ ls) rest h r = named_short ls rest (max_right 0 (longest_label ctx.word ls) L h) r

  mutual
    pub item_names : (x : Item) (rest : List ℕ) → item_longest ctx.word x ≤ L → Each Short rest → Each Short (item_labels x rest)
    item_names (Declares first after d) rest h r = r
    item_names (States ls p) rest h r = named_short ls (plain_labels p rest) (max_left (longest_label ctx.word ls) (plain_longest ctx.word p) L h)
        (plain_names p rest (max_right (longest_label ctx.word ls) (plain_longest ctx.word p) L h) r)

    plain_names : (p : Plain) (rest : List ℕ) → plain_longest ctx.word p ≤ L → Each Short rest → Each Short (plain_labels p rest)
    plain_names (From first after s) rest h r = statement_names s rest h r

    statement_names : (s : Statement) (rest : List ℕ) → statement_longest ctx.word s ≤ L → Each Short rest → Each Short (statement_labels s rest)
    statement_names Null rest h r = r
    statement_names (Evaluate t) rest h r = r
    statement_names (If t b) rest h r = body_names b rest h r
    statement_names (IfElse t b c) rest h r = body_names b (body_labels c rest) (max_left (body_longest ctx.word b) (body_longest ctx.word c) L h)
        (body_names c rest (max_right (body_longest ctx.word b) (body_longest ctx.word c) L h) r)
    statement_names (While t b) rest h r = body_names b rest h r
    statement_names (DoWhile b t) rest h r = body_names b rest h r
    statement_names (For start t u b) rest h r = body_names b rest (max_right (start_longest ctx.word start) (body_longest ctx.word b) L h) r
    statement_names (Switch t b) rest h r = body_names b rest h r
    statement_names (Block b) rest h r = body_names b rest h r
    statement_names _ rest h r = r

    pub body_names : (b : Body) (rest : List ℕ) → body_longest ctx.word b ≤ L → Each Short rest → Each Short (body_labels b rest)
    body_names (Braces first after xs) rest h r = list_names xs rest h r
    body_names (Lone first after x) rest h r = item_names x rest h r

    list_names : (xs : Items) (rest : List ℕ) → list_longest ctx.word xs ≤ L → Each Short rest → Each Short (list_labels xs rest)
    list_names NoItem rest h r = r
    list_names (items.Then x xs) rest h r = item_names x (list_labels xs rest) (max_left (item_longest ctx.word x) (list_longest ctx.word xs) L h)
        (list_names xs rest (max_right (item_longest ctx.word x) (list_longest ctx.word xs) L h) r)

  -- ---- variables

  abbrev pub ShortName : Slot → Type 0
  ShortName s = length s.name ≤ L

  abbrev Grows : Walk → Walk → Type 0
  Grows v w = Grown ShortName v.slots w.slots

  locals_short : (k : Kinded) (ds : List Declarator) (w : Walk) → longest_declared ctx.word ds ≤ L → Grows w (all_declared ctx.word k ds w)
  locals_short k [] w h = not_grown ShortName w.slots
  locals_short k (d ∷ ds) w h =
      grown_twice ShortName w.slots (w.slots ++ slot_of (env_in ctx.word w) k d ∷ []) (all_declared ctx.word k (d ∷ ds) w).slots
      (record {
        more = slot_of (env_in ctx.word w) k d ∷ [];
        whole = refl;
        good = (max_left (length (ctx.word d.name)) (longest_declared ctx.word ds) L h, tt);
      })
      (locals_short k ds (declared ctx.word k d w) (max_right (length (ctx.word d.name)) (longest_declared ctx.word ds) L h))

  start_short : (start : Start) (w : Walk) → start_longest ctx.word start ≤ L → Grows w (behind_start ctx start w)
  start_short NoStart w h = not_grown ShortName w.slots
  start_short (StartValue t) w h = not_grown ShortName w.slots
  start_short (StartNames d) w h = locals_short (kinded ctx.word d) d.names w h

  mutual
    pub item_slots : (x : Item) (w : Walk) → item_longest ctx.word x ≤ L → Grows w (behind_item ctx x w)
    item_slots (Declares first after d) w h = locals_short (kinded ctx.word d) d.names w h
    item_slots (States ls p) w h = plain_slots p w (max_right (longest_label ctx.word ls) (plain_longest ctx.word p) L h)

    plain_slots : (p : Plain) (w : Walk) → plain_longest ctx.word p ≤ L → Grows w (behind_plain ctx p w)
    plain_slots (From first after s) w h = statement_slots s w h

    statement_slots : (s : Statement) (w : Walk) → statement_longest ctx.word s ≤ L → Grows w (behind_statement ctx s w)
    statement_slots Null w h = not_grown ShortName w.slots
    statement_slots (Evaluate t) w h = not_grown ShortName w.slots
    statement_slots (If t b) w h = body_slots b w h
    statement_slots (IfElse t b c) w h =
        let v = behind_body ctx b w in
        grown_twice ShortName w.slots v.slots (behind_body ctx c v).slots
        (body_slots b w (max_left (body_longest ctx.word b) (body_longest ctx.word c) L h))
        (body_slots c v (max_right (body_longest ctx.word b) (body_longest ctx.word c) L h))
    statement_slots (While t b) w h = body_slots b w h
    statement_slots (DoWhile b t) w h = body_slots b w h
    statement_slots (For start t u b) w h =
        let v = behind_start ctx start (enter w) in
        grown_twice ShortName w.slots v.slots (behind_body ctx b v).slots
        (start_short start (enter w) (max_left (start_longest ctx.word start) (body_longest ctx.word b) L h))
        (body_slots b v (max_right (start_longest ctx.word start) (body_longest ctx.word b) L h))
    statement_slots (Switch t b) w h = body_slots b w h
    statement_slots (Block b) w h = body_slots b w h
    statement_slots _ w h = not_grown ShortName w.slots

    body_slots : (b : Body) (w : Walk) → body_longest ctx.word b ≤ L → Grows w (behind_body ctx b w)
    body_slots (Braces first after xs) w h = list_slots xs (enter w) h
    body_slots (Lone first after x) w h = item_slots x (enter w) h

    pub list_slots : (xs : Items) (w : Walk) → list_longest ctx.word xs ≤ L → Grows w (behind_items ctx xs w)
    list_slots NoItem w h = not_grown ShortName w.slots
    list_slots (items.Then x xs) w h =
        let v = behind_item ctx x w in
        grown_twice ShortName w.slots v.slots (behind_items ctx xs v).slots
        (item_slots x w (max_left (item_longest ctx.word x) (list_longest ctx.word xs) L h))
        (list_slots xs v (max_right (item_longest ctx.word x) (list_longest ctx.word xs) L h))
