-- The slots of a walk are those that are declared in front of its place.
use Rattle.std.proofs.Common.{◌≡◌, ℕ, List, [], ◌∷◌, ◌++◌, map, ap, sym, ◌∙◌, append_assoc, append-nil}
use Rattle.c_tree.specs.declared.tree.Slot.{Slot}
use Rattle.c_grammar.specs.Items.{Declarator, Start, NoStart, StartValue, StartNames, Item, Declares, States, Plain, From, Statement, If, IfElse, While, DoWhile, For, Switch, Block, Body, Braces, Lone, Items, NoItem, Then}
use Rattle.c_grammar.specs.Tops.{Parameter}
use Rattle.c_statements.specs.declared.extents.Kinded.{Kinded}
use Rattle.c_statements.specs.Context.{Context, Walk, env_in, enter}
use Rattle.c_statements.specs.Declarations.{kinded, slot_of, declared, all_declared}
use Rattle.c_statements.specs.Functions.{parameter_slot, bind_parameter, bind_parameters}
use Rattle.c_statements.specs.Statements.{behind_item, behind_plain, behind_statement, behind_body, behind_items}
use Rattle.c_statements.specs.Statements as walked
use Rattle.c_kinds.specs.Typing.{typed}
use Rattle.c_reading_defs.specs.Labels.{InFunction}
use Rattle.c_reading_defs.specs.Variables.{name_tokens, start_variables, item_variables, plain_variables, statement_variables, body_variables, list_variables}
use Rattle.c_reading_defs.specs.Scopes.{scopes_at}
use Rattle.c_reading_defs.specs.Places.{Place, variable, item_identifiers, list_identifiers, start_identifiers, within, within_for}
use Rattle.c_reading_defs.specs.Slots.{slots_of_names, slots_of_start, slots_in, slots_of_plain, slots_of_statement, slots_of_body, slots_of_list}
use Rattle.c_violation_laws.proofs.Rising.{Apart}
use Rattle.c_violation_laws.proofs.Marks.{each_marks, term_marks, option_marks, declarator_marks, label_marks, start_marks, item_marks, plain_marks, statement_marks, body_marks, list_marks}
use Rattle.c_violation_laws.proofs.Standing.{Stands, StandsIn, in_function, numbered_grouped, stands_first, stands_behind, stands_before, stands_stated, stands_braces, stands_lone, stands_for, stands_name_here, stands_name, stands_body, stands_start, stands_item, stands_rest}
use Rattle.c_violation_laws.proofs.Items.{slot_same}

-- some, and then others
joined : (a b c : List Slot) (d e : List Slot) → b ≡ a ++ d → c ≡ b ++ e → c ≡ a ++ (d ++ e)
joined a b c d e f g = g ∙ ap (λ l. l ++ e) f ∙ append_assoc a d e

names_slots : (f : InFunction) (apart : Apart f.variables) (k : Kinded) (ds : List Declarator) (w : Walk) (p : Place) (rest : List ℕ)
    → StandsIn f.variables w p (map (variable f k) ds) (each_marks declarator_marks ds) (name_tokens ds ++ rest) →
    (all_declared f.word k ds w).slots ≡ w.slots ++ slots_of_names typed f k ds p
names_slots f apart k [] w p rest h = sym (append-nil w.slots)
names_slots f apart k (d ∷ ds) w p rest h =
    names_slots f apart k ds (declared f.word k d w) p rest (stands_name f apart k d ds w p rest h)
    ∙ append_assoc w.slots (slot_of (env_in f.word w) k d ∷ []) (slots_of_names typed f k ds p)
    ∙ ap (λ s. w.slots ++ s ∷ slots_of_names typed f k ds p) (slot_same f.word w (scopes_at p.scopes d.name) (stands_name_here f apart k d ds w p rest h) k d)

pub parameters_slots : (word : ℕ → List ℕ) (xs : List Parameter) (w : Walk) → (bind_parameters word xs w).slots ≡ w.slots ++ map (parameter_slot word) xs
parameters_slots word [] w = sym (append-nil w.slots)
parameters_slots word (x ∷ xs) w = parameters_slots word xs (bind_parameter word x w) ∙
    append_assoc w.slots (parameter_slot word x ∷ []) (map (parameter_slot word) xs)

module _ (c : Context) (labels : List (List ℕ)) (vs : List ℕ) (apart : Apart vs) where
  abbrev f : InFunction
  f = in_function c labels vs

  start_slots : (s : Start) (w : Walk) (p : Place) (rest : List ℕ) → StandsIn vs w p (start_identifiers f s) (start_marks s)
      (start_variables s ++ rest) → (walked.behind_start c s w).slots ≡ w.slots ++ slots_of_start typed f s p
  start_slots NoStart w p rest h = sym (append-nil w.slots)
  start_slots (StartValue t) w p rest h = sym (append-nil w.slots)
  start_slots (StartNames d) w p rest h = names_slots f apart (kinded c.word d) d.names w p rest h

  mutual
    pub item_slots : (x : Item) (w : Walk) (p : Place) (rest : List ℕ) →
        StandsIn vs w p (item_identifiers f x) (item_marks x) (item_variables x ++ rest) → (behind_item c x w).slots ≡ w.slots ++ slots_in typed f x p
    item_slots (Declares first after d) w p rest h = names_slots f apart (kinded c.word d) d.names w p rest h
    item_slots (States ls s) w p rest h =
        let more = plain_variables s ++ rest in
        plain_slots s w p rest (stands_behind vs w p (each_marks label_marks ls) (plain_marks s) more
        (stands_stated vs w p (each_marks label_marks ls ++ plain_marks s) more h))

    plain_slots : (s : Plain) (w : Walk) (p : Place) (rest : List ℕ) → Stands vs w p (plain_marks s) (plain_variables s ++ rest) →
        (behind_plain c s w).slots ≡ w.slots ++ slots_of_plain typed f s p
    plain_slots (From first after s) w p rest h = statement_slots s w p rest h

    statement_slots : (s : Statement) (w : Walk) (p : Place) (rest : List ℕ) → Stands vs w p (statement_marks s) (statement_variables s ++ rest) →
        (behind_statement c s w).slots ≡ w.slots ++ slots_of_statement typed f s p
    statement_slots (If t b) w p rest h = body_slots b w p rest (stands_behind vs w p (term_marks t) (body_marks b) (body_variables b ++ rest) h)
    statement_slots (IfElse t b d) w p rest h =
        let all = (body_variables b ++ body_variables d) ++ rest in
        let more = body_variables d ++ rest in
        let g = stands_behind vs w p (term_marks t) (body_marks b ++ body_marks d) all h in
        let first = stands_first vs w p (body_marks b) (body_marks d) (body_variables b ++ more) all g
        (numbered_grouped vs w (body_variables b) (body_variables d) rest g.numbered) in
        let second = stands_body c labels vs apart b w p (body_marks d) (body_variables d) rest g in
        joined w.slots (behind_body c b w).slots (behind_body c d (behind_body c b w)).slots (slots_of_body typed f b p) (slots_of_body typed f d p)
        (body_slots b w p more first) (body_slots d (behind_body c b w) p rest second)
    statement_slots (While t b) w p rest h = body_slots b w p rest (stands_behind vs w p (term_marks t) (body_marks b) (body_variables b ++ rest) h)
    statement_slots (DoWhile b t) w p rest h = body_slots b w p rest (stands_before vs w p (body_marks b) (term_marks t) (body_variables b ++ rest) h)
    statement_slots (For start t u b) w p rest h =
        let v = walked.behind_start c start (enter w) in
        let q = within_for f start p in
        let more = body_variables b ++ rest in
        let ms = option_marks t ++ (option_marks u ++ body_marks b) in
        let k = stands_for f vs w p start ms (body_variables b) rest h in
        let g = stands_start c labels vs apart start w p ms (body_variables b) rest h in
        let inner = stands_behind vs v q (option_marks u) (body_marks b) more (stands_behind vs v q (option_marks t) (option_marks u ++ body_marks b) more g) in
        joined w.slots v.slots (behind_body c b v).slots (slots_of_start typed f start q) (slots_of_body typed f b q)
        (start_slots start (enter w) q more k) (body_slots b v q rest inner)
    statement_slots (Switch t b) w p rest h = body_slots b w p rest (stands_behind vs w p (term_marks t) (body_marks b) (body_variables b ++ rest) h)
    statement_slots (Block b) w p rest h = body_slots b w p rest h
    statement_slots _ w p rest h = sym (append-nil w.slots)

    body_slots : (b : Body) (w : Walk) (p : Place) (rest : List ℕ) → Stands vs w p (body_marks b) (body_variables b ++ rest) →
        (behind_body c b w).slots ≡ w.slots ++ slots_of_body typed f b p
    body_slots (Braces first after xs) w p rest h = list_slots xs (enter w) (within f (Braces first after xs) p) rest
        (stands_braces f vs w p first after xs (list_variables xs ++ rest) h)
    body_slots (Lone first after x) w p rest h = item_slots x (enter w) (within f (Lone first after x) p) rest
        (stands_lone f vs w p first after x (item_variables x ++ rest) h)

    pub list_slots : (xs : Items) (w : Walk) (p : Place) (rest : List ℕ) →
        StandsIn vs w p (list_identifiers f xs) (list_marks xs) (list_variables xs ++ rest) →
        (behind_items c xs w).slots ≡ w.slots ++ slots_of_list typed f xs p
    list_slots NoItem w p rest h = sym (append-nil w.slots)
    list_slots (Then x xs) w p rest h =
        let v = behind_item c x w in
        joined w.slots v.slots (behind_items c xs v).slots (slots_in typed f x p) (slots_of_list typed f xs p)
        (item_slots x w p (list_variables xs ++ rest) (stands_item c labels vs apart x xs w p rest h))
        (list_slots xs v p rest (stands_rest c labels vs apart x xs w p rest h))
