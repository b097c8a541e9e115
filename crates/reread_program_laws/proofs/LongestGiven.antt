-- The longest name of a body is one of its labels or of the variables that it declares.
use Rattle.std.proofs.Common.{◌≡◌, ◌≤◌, ℕ, Bool, true, false, cond, List, [], ◌∷◌, ◌++◌, map, length, drop, max, Option, Some, None, is_some, refl, ap, sym, subst, ◌∙◌, arith, append_assoc, bytes_eq}
use Rattle.std.proofs.lemmas.List.{append-nil}
use Rattle.c_tree.specs.declared.tree.Slot.{Slot}
use Rattle.c_tree.specs.declared.tree.Function as tree
use Rattle.c_grammar.specs.Items.{Declarator, Label, Named, Case, Default, Start, NoStart, StartValue, StartNames, Item, Declares, States, Plain, From, Statement, If, IfElse, While, DoWhile, For, Switch, Block, Body, Braces, Lone, Items, NoItem, Then}
use Rattle.c_grammar.specs.Tops.{Function}
use Rattle.c_kinds.specs.Scopes.{Names, Scope, found, with_entry}
use Rattle.c_statements.specs.declared.anchors.Anchor.{Anchor}
use Rattle.c_statements.specs.declared.extents.Kinded.{Kinded}
use Rattle.c_statements.specs.Context.{Context, Walk, env_in, enter, has_label}
use Rattle.c_statements.specs.Declarations.{kinded, declared, all_declared, slot_of}
use Rattle.c_statements.specs.Functions.{parameter_slot, behind_body as behind_list, context, inside, labels_within, behind_within, function_of}
use Rattle.c_statements.specs.Labels.{named_in, item_labels, plain_labels, statement_labels, body_labels, list_labels, with_number, distinct_from}
use Rattle.c_statements.specs.Measures.{longest_declared, longest_label, start_longest, item_longest, plain_longest, statement_longest, body_longest, list_longest}
use Rattle.c_statements.specs.Statements.{behind_start, behind_item, behind_plain, behind_statement, behind_body, behind_items}
use Rattle.c_resolved_defs.specs.Limits.{IsShort}
use Rattle.c_resolved_defs.specs.Within.{Each}
use Rattle.c_kinds.proofs.Entries.{found_entry, same_names}
use Rattle.c_resolving_laws.proofs.FunctionTrees.{inside_slots, drop_all}

each_both : (P : Slot → Type 0) (xs ys : List Slot) → Each P (xs ++ ys) → Each P xs × Each P ys
each_both P [] ys h = (tt, h)
each_both P (x ∷ xs) ys h = let r = each_both P xs ys h.1 in ((h.0, r.0), r.1)

both_most : (a b c : ℕ) → a ≤ c → b ≤ c → max a b ≤ c
both_most a b c h k = omega (arith, h, k)

module _ (ctx : Context) where
  abbrev pub Short : ℕ → ℕ → Type 0
  Short L at = length (ctx.word at) ≤ L

  abbrev pub ShortName : ℕ → Slot → Type 0
  ShortName L s = length s.name ≤ L

  -- more slots, and labels in front of others: where none of their names is longer than L, this number isn't greater
  pub record Bound (before after : List Slot) (labels rest : List ℕ) (n : ℕ) : Type 0 where
    pub more : List Slot
    pub whole : after ≡ before ++ more
    pub within : (L : ℕ) → Each (ShortName L) more → Each (Short L) labels → (n ≤ L) × Each (Short L) rest

  none : (before : List Slot) (rest : List ℕ) → Bound before before rest rest 0
  none before rest = record { more = []; whole = sym (append-nil before); within = λ L m l. (omega arith, l) }

  both : (a b d : List Slot) (l r s : List ℕ) (n m : ℕ) → Bound a b l r n → Bound b d r s m → Bound a d l s (max n m)
  both a b d l r s n m x y =
      record {
        more = x.more ++ y.more;
        whole = y.whole ∙ ap (λ z. z ++ y.more) x.whole ∙ append_assoc a x.more y.more;
        within = λ L h k.
            let e = each_both (ShortName L) x.more y.more h in
            let p = x.within L (e.0) k in
            let q = y.within L (e.1) (p.1) in
            (both_most n m L (p.0) (q.0), q.1);
      }

  labelled : (ls : List Label) (rest : List ℕ) (L : ℕ) → Each (Short L) (named_in ls rest) → (longest_label ctx.word ls ≤ L) × Each (Short L) rest
  labelled [] rest L h = (omega arith, h)
  labelled (Named at after ∷ ls) rest L h = let r = labelled ls rest L h.1 in (both_most (length (ctx.word at)) (longest_label ctx.word ls) L h.0 r.0, r.1)
  labelled (Case at after t ∷ ls) rest L h = let r = labelled ls rest L h in (both_most 0 (longest_label ctx.word ls) L (omega arith) r.0, r.1)
  labelled (Default at after ∷ ls) rest L h = let r = labelled ls rest L h in (both_most 0 (longest_label ctx.word ls) L (omega arith) r.0, r.1)

  with_labels : (ls : List Label) (before after : List Slot) (labels rest : List ℕ) (n : ℕ) → Bound before after labels rest n →
      Bound before after (named_in ls labels) rest (max (longest_label ctx.word ls) n)
  with_labels ls before after labels rest n x =
      record {
        more = x.more;
        whole = x.whole;
        within = λ L h k. let p = labelled ls labels L k in let q = x.within L h (p.1) in (both_most (longest_label ctx.word ls) n L (p.0) (q.0), q.1);
      }

  locals : (k : Kinded) (ds : List Declarator) (w : Walk) (rest : List ℕ) →
      Bound w.slots (all_declared ctx.word k ds w).slots rest rest (longest_declared ctx.word ds)
  locals k [] w rest = none w.slots rest
  locals k (d ∷ ds) w rest =
      let s = slot_of (env_in ctx.word w) k d in
      both w.slots (w.slots ++ s ∷ []) (all_declared ctx.word k (d ∷ ds) w).slots rest rest rest (length (ctx.word d.name)) (longest_declared ctx.word ds)
      (record { more = s ∷ []; whole = refl; within = λ L h k. (h.0, k) }) (locals k ds (declared ctx.word k d w) rest)

  starts : (x : Start) (w : Walk) (rest : List ℕ) → Bound w.slots (behind_start ctx x w).slots rest rest (start_longest ctx.word x)
  starts NoStart w rest = none w.slots rest
  starts (StartValue t) w rest = none w.slots rest
  starts (StartNames d) w rest = locals (kinded ctx.word d) d.names w rest

  mutual
    item_bound : (x : Item) (w : Walk) (rest : List ℕ) → Bound w.slots (behind_item ctx x w).slots (item_labels x rest) rest (item_longest ctx.word x)
    item_bound (Declares first after d) w rest = locals (kinded ctx.word d) d.names w rest
    item_bound (States ls p) w rest = with_labels ls w.slots (behind_plain ctx p w).slots (plain_labels p rest) rest (plain_longest ctx.word p)
        (plain_bound p w rest)

    plain_bound : (p : Plain) (w : Walk) (rest : List ℕ) → Bound w.slots (behind_plain ctx p w).slots (plain_labels p rest) rest (plain_longest ctx.word p)
    plain_bound (From first after s) w rest = statement_bound s w rest

    statement_bound : (s : Statement) (w : Walk) (rest : List ℕ) → Bound w.slots (behind_statement ctx s w).slots (statement_labels s rest) rest
        (statement_longest ctx.word s)
    statement_bound (If t b) w rest = body_bound b w rest
    statement_bound (IfElse t b d) w rest =
        let v = behind_body ctx b w in
        both w.slots v.slots (behind_body ctx d v).slots (body_labels b (body_labels d rest)) (body_labels d rest) rest (body_longest ctx.word b)
        (body_longest ctx.word d) (body_bound b w (body_labels d rest)) (body_bound d v rest)
    statement_bound (While t b) w rest = body_bound b w rest
    statement_bound (DoWhile b t) w rest = body_bound b w rest
    statement_bound (For start t u b) w rest =
        let v = behind_start ctx start (enter w) in
        both w.slots v.slots (behind_body ctx b v).slots (body_labels b rest) (body_labels b rest) rest (start_longest ctx.word start)
        (body_longest ctx.word b) (starts start (enter w) (body_labels b rest)) (body_bound b v rest)
    statement_bound (Switch t b) w rest = body_bound b w rest
    statement_bound (Block b) w rest = body_bound b w rest
    statement_bound _ w rest = none w.slots rest

    body_bound : (b : Body) (w : Walk) (rest : List ℕ) → Bound w.slots (behind_body ctx b w).slots (body_labels b rest) rest (body_longest ctx.word b)
    body_bound (Braces first after xs) w rest = list_bound xs (enter w) rest
    body_bound (Lone first after x) w rest = item_bound x (enter w) rest

    list_bound : (xs : Items) (w : Walk) (rest : List ℕ) → Bound w.slots (behind_items ctx xs w).slots (list_labels xs rest) rest (list_longest ctx.word xs)
    list_bound NoItem w rest = none w.slots rest
    list_bound (Then x xs) w rest =
        let v = behind_item ctx x w in
        both w.slots v.slots (behind_items ctx xs v).slots (item_labels x (list_labels xs rest)) (list_labels xs rest) rest (item_longest ctx.word x)
        (list_longest ctx.word xs) (item_bound x w (list_labels xs rest)) (list_bound xs v rest)

  -- the list of a function, which is in the scope of its parameters
  function_bound : (b : Body) (w : Walk) → Bound w.slots (behind_list ctx b w).slots (body_labels b []) [] (body_longest ctx.word b)
  function_bound (Braces first after xs) w = list_bound xs w []
  function_bound (Lone first after x) w = item_bound x w []

-- ---- names that are kept once

abbrev AllKnown : (List ℕ → Type 0) → Names ℕ → Type 0
AllKnown P known = (n : List ℕ) → has_label known n ≡ true → P n

kept_once : (P : List ℕ → Type 0) (ns : List (List ℕ)) (known : Names ℕ) → AllKnown P known → Each P (distinct_from known ns) → Each P ns
kept_once P [] known k h = tt
kept_once P (n ∷ ns) known k h = by (has_label known n) refl h (kept_once P ns)
  where
    later : (b : Bool) → P n → AllKnown P (cond b known (with_entry n (length known) known))
    later true p m e = k m e
    later false p m e = either (bytes_eq m n) refl (subst (λ o. is_some o ≡ true) (found_entry m n (length known) known) e)
      where
        either : (b : Bool) → bytes_eq m n ≡ b → is_some (cond b (Some (length known)) (found m known)) ≡ true → P m
        either true i q = subst P (sym (same_names m n i)) p
        either false i q = k m q

    by : (b : Bool) → has_label known n ≡ b → Each P (cond b (distinct_from (with_number n known) ns) (n ∷ distinct_from (with_number n known) ns)) →
        ((known : Names ℕ) → AllKnown P known → Each P (distinct_from known ns) → Each P ns) → P n × Each P ns
    by true e h r = (k n e, r (with_number n known) (later (has_label known n) (k n e)) h)
    by false e h r = (h.0, r (with_number n known) (later (has_label known n) (h.0)) h.1)

each_word : (word : ℕ → List ℕ) (ats : List ℕ) → Each IsShort (map word ats) → Each (λ at. length (word at) ≤ 63) ats
each_word word [] h = tt
each_word word (at ∷ ats) h = (h.0, each_word word ats h.1)

-- of what is read as a function whose names are short
pub longest_short : (word : ℕ → List ℕ) (notes : Anchor → List (List ℕ)) (x : Function) (scopes : List Scope) (f : tree.Function) (b : Body) →
    x.body ≡ Some b → function_of word notes x scopes ≡ f → Each IsShort f.labels → Each (λ (s : Slot). IsShort s.name) (drop f.params f.slots)
    → body_longest word b ≤ 63
longest_short word notes x scopes f b e i l v = by x.body e (ap (λ (g : tree.Function). g.labels) i) (ap (λ (g : tree.Function). drop g.params g.slots) i)
  where
    by : (o : Option Body) → o ≡ Some b → labels_within word o ≡ f.labels →
        drop (length x.parameters) (behind_within word notes x o (inside word x scopes)).slots ≡ drop f.params f.slots → body_longest word b ≤ 63
    by None e p q = cc
    by (Some d) e p q =
        let ctx = context word notes x d in
        let w = inside word x scopes in
        let g = function_bound ctx d w in
        let whole = g.whole ∙ ap (λ z. z ++ g.more) (inside_slots word x scopes) in
        let more : g.more ≡ drop f.params f.slots = sym (ap (drop (length x.parameters)) whole ∙ drop_all (parameter_slot word) x.parameters g.more) ∙ q in
        let names = kept_once IsShort (map word (body_labels d [])) [] (λ n h. cc) (subst (Each IsShort) (sym p) l) in
        let r = g.within 63 (subst (Each (λ (s : Slot). IsShort s.name)) (sym more) v) (each_word word (body_labels d []) names) in
        subst (λ z. body_longest word z ≤ 63) (the_some d b e) (r.0)
      where
        the_some : (d b : Body) → Some d ≡ Some b → d ≡ b
        the_some d b e = cc
