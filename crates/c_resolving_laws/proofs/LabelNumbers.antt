-- The labels of a body have their numbers in text order.
use Rattle.std.proofs.Common.{ℕ, suc, ◌+◌, ◌<◌, ◌≢◌, Bool, true, false, cond, List, [], ◌∷◌, ◌++◌, append_assoc, map, length, Option, Some, None, is_some, ◌≡◌, refl, sym, ap, subst, ◌∙◌, true≢false, arith, bytes_eq}
use Rattle.std.specs.declared.cmp.Ordering.{Ordering}
use Rattle.std.specs.declared.cmp.Ordering.TheVariants.{Less, Equal, Greater}
use Rattle.std.specs.Ordering.{match_ordering, is_eq}
use Rattle.std.proofs.lemmas.Map.Text.{is_eq-slice_cmp}
use Rattle.c_types.specs.Words.{name_cmp}
use Rattle.c_tree.specs.Trees.{trees_of}
use Rattle.c_tree.proofs.TreeLaws.{tree-Local, trees-none, trees-more}
use Rattle.c_grammar.specs.Items.{Declarator, Label, Named, Case, Default, Start, NoStart, StartValue, StartNames, Item, Declares, States, Plain, From, Statement, Null, Evaluate, If, IfElse, While, DoWhile, For, Switch, Block, Body, Braces, Lone, Items, NoItem}
use Rattle.c_grammar.specs.Items as items
use Rattle.c_kinds.specs.Scopes.{Names, found, with_entry}
use Rattle.c_statements.specs.declared.extents.Kinded.{Kinded}
use Rattle.c_statements.specs.Context.{Context, Walk, env_in, enter, has_label, number_in}
use Rattle.c_statements.specs.Declarations.{kinded, declared, local, locals, initial, value_at}
use Rattle.c_statements.specs.Labels.{named_in, item_labels, plain_labels, statement_labels, body_labels, list_labels, with_number, numbers_from, new_name, distinct_from, twice_from}
use Rattle.c_statements.specs.Statements.{behind_start, behind_item, behind_body}
use Rattle.c_resolved_defs.specs.Form.{gathered, gathered_of, marked_label}
use Rattle.c_resolved_defs.specs.Form as Form
use Rattle.c_resolved_defs.specs.Within.{Each, AllDiffer}
use Rattle.c_kinds.proofs.Entries.{same_names, names_same, found_entry}
use Rattle.c_resolving_laws.proofs.FileParts.{twice_parts}
use Rattle.c_resolving_laws.proofs.Gathered.{Gathers, of_labels, of_start, of_item, of_plain, of_statement, of_body, of_list}
use Rattle.c_resolving_laws.proofs.Lists.{each_map}

pub marks_gather : Gathers marked_label
marks_gather = record { note = λ bs. refl; breaks = refl; arrives = λ e. refl; evaluates = λ e. refl; returns = λ e. refl; continues = refl; gotos = λ l. refl }

-- ---- the labels of the tree are those of the text

module _ (ctx : Context) where
  abbrev pub number_at : ℕ → ℕ
  number_at at = number_in ctx.labels (ctx.word at)

  abbrev Lists : List ℕ → List ℕ → List ℕ → Type 0
  Lists all xs rest = map number_at all ≡ xs ++ map number_at rest

  abbrev m : Gathers marked_label
  m = marks_gather

  labels_list : (ls : List Label) (rest : List ℕ) → Lists (named_in ls rest) (of_labels ctx marked_label m ls) rest
  labels_list [] rest = refl
  labels_list (Named at after ∷ ls) rest = ap (λ l. number_at at ∷ l) (labels_list ls rest)
  labels_list (Case at after t ∷ ls) rest = labels_list ls rest
  labels_list (Default at after ∷ ls) rest = labels_list ls rest

  locals_none : (k : Kinded) (ds : List Declarator) (w : Walk) → gathered marked_label (trees_of (locals ctx.word k ds w)) ≡ []
  locals_none k [] w = ap (gathered marked_label) trees-none
  locals_none k (d ∷ ds) w =
      let v = declared ctx.word k d w in
      ap (gathered marked_label) (trees-more (local ctx.word k d w) (locals ctx.word k ds v))
      ∙ (ap (λ t. gathered_of marked_label t ++ gathered marked_label (trees_of (locals ctx.word k ds v)))
      (tree-Local (length w.slots) (initial (value_at (env_in ctx.word v)) d.value)) ∙ locals_none k ds v)

  start_none : (start : Start) (w : Walk) → of_start ctx marked_label m start w ≡ []
  start_none NoStart w = refl
  start_none (StartValue t) w = refl
  start_none (StartNames d) w = locals_none (kinded ctx.word d) d.names w

  two : (all some rest xs ys : List ℕ) → Lists all xs some → Lists some ys rest → Lists all (xs ++ ys) rest
  two all some rest xs ys h k = h ∙ (ap (λ l. xs ++ l) k ∙ sym (append_assoc xs ys (map number_at rest)))

  mutual
    pub item_list : (x : Item) (w : Walk) (rest : List ℕ) → Lists (item_labels x rest) (of_item ctx marked_label m x w) rest
    item_list (Declares first after d) w rest = sym (ap (λ l. l ++ map number_at rest) (locals_none (kinded ctx.word d) d.names w))
    item_list (States ls p) w rest = two (item_labels (States ls p) rest) (plain_labels p rest) rest (of_labels ctx marked_label m ls)
        (of_plain ctx marked_label m p w) (labels_list ls (plain_labels p rest)) (plain_list p w rest)

    plain_list : (p : Plain) (w : Walk) (rest : List ℕ) → Lists (plain_labels p rest) (of_plain ctx marked_label m p w) rest
    plain_list (From first after s) w rest = statement_list s w rest

    statement_list : (s : Statement) (w : Walk) (rest : List ℕ) → Lists (statement_labels s rest) (of_statement ctx marked_label m s w) rest
    statement_list Null w rest = refl
    statement_list (Evaluate t) w rest = refl
    statement_list (If t b) w rest = body_list b w rest
    statement_list (IfElse t b c) w rest = two _ (body_labels c rest) rest (of_body ctx marked_label m b w)
        (of_body ctx marked_label m c (behind_body ctx b w)) (body_list b w (body_labels c rest)) (body_list c (behind_body ctx b w) rest)
    statement_list (While t b) w rest = body_list b w rest
    statement_list (DoWhile b t) w rest = body_list b w rest
    statement_list (For start t u b) w rest =
        let v = behind_start ctx start (enter w) in
        body_list b v rest ∙ sym (ap (λ l. (l ++ of_body ctx marked_label m b v) ++ map number_at rest) (start_none start (enter w)))
    statement_list (Switch t b) w rest = body_list b w rest
    statement_list (Block b) w rest = body_list b w rest
    statement_list _ w rest = refl

    body_list : (b : Body) (w : Walk) (rest : List ℕ) → Lists (body_labels b rest) (of_body ctx marked_label m b w) rest
    body_list (Braces first after xs) w rest = list_list xs (enter w) rest
    body_list (Lone first after x) w rest = item_list x (enter w) rest

    pub list_list : (xs : Items) (w : Walk) (rest : List ℕ) → Lists (list_labels xs rest) (of_list ctx marked_label m xs w) rest
    list_list NoItem w rest = refl
    list_list (items.Then x xs) w rest = two _ (list_labels xs rest) rest (of_item ctx marked_label m x w)
        (of_list ctx marked_label m xs (behind_item ctx x w)) (item_list x w (list_labels xs rest)) (list_list xs (behind_item ctx x w) rest)

-- ---- numbers of names that differ

longer_at : (n : ℕ) (a : List ℕ) (e : List ℕ × ℕ) (es : Names ℕ) (o : Ordering) → is_eq o ≡ bytes_eq a e.0 → bytes_eq a e.0 ≡ false →
    length (with_entry a n es) ≡ suc (length es)
    → length (match_ordering o ((a, n) ∷ e ∷ es) ((e.0, n) ∷ es) (e ∷ with_entry a n es)) ≡ suc (suc (length es))
longer_at n a e es Less i f h = refl
longer_at n a e es Equal i f h = absurd (true≢false (i ∙ f))
longer_at n a e es Greater i f h = ap suc h

not_first : (b : Bool) (n : ℕ) (o : Option ℕ) → is_some (cond b (Some n) o) ≡ false → (b ≡ false) × (is_some o ≡ false)
not_first true n o e = absurd (true≢false e)
not_first false n o e = (refl, e)

pub longer : (a : List ℕ) (n : ℕ) (es : Names ℕ) → has_label es a ≡ false → length (with_entry a n es) ≡ suc (length es)
longer a n [] e = refl
longer a n (x ∷ es) e = let p = not_first (bytes_eq a x.0) x.1 (found a es) e in
    longer_at n a x es (name_cmp a x.0) (is_eq-slice_cmp a x.0) p.0 (longer a n es p.1)

-- a new name gets the next number
numbered : (a : List ℕ) (known : Names ℕ) → has_label known a ≡ false → with_number a known ≡ with_entry a (length known) known
numbered a known e = ap (λ b. cond b known (with_entry a (length known) known)) e

abbrev pub Keeps : Names ℕ → Names ℕ → Type 0
Keeps a b = (q : List ℕ) (n : ℕ) → found q a ≡ Some n → found q b ≡ Some n

number_keeps : (a : List ℕ) (known : Names ℕ) → has_label known a ≡ false → Keeps known (with_number a known)
number_keeps a known e q n h = ap (found q) (numbered a known e) ∙ (found_entry q a (length known) known ∙ other (bytes_eq q a) refl)
  where
    other : (t : Bool) → bytes_eq q a ≡ t → cond t (Some (length known)) (found q known) ≡ Some n
    other true i = absurd (true≢false (sym (ap is_some h) ∙ (ap (λ w. is_some (found w known)) (same_names q a i) ∙ e)))
    other false i = h

new_found : (a : List ℕ) (known : Names ℕ) → has_label known a ≡ false → found a (with_number a known) ≡ Some (length known)
new_found a known e = ap (found a) (numbered a known e) ∙ (found_entry a a (length known) known ∙
    ap (λ t. cond t (Some (length known)) (found a known)) (names_same a a refl))

-- each number is below the count
abbrev pub Below : Names ℕ → Type 0
Below known = (q : List ℕ) (n : ℕ) → found q known ≡ Some n → n < length known

below_next : (a : List ℕ) (known : Names ℕ) → has_label known a ≡ false → Below known → Below (with_number a known)
below_next a known e b q n h =
    let l = ap length (numbered a known e) ∙ longer a (length known) known e in
    subst (λ k. n < k) (sym l) (by (bytes_eq q a) (sym (found_entry q a (length known) known) ∙ (ap (found q) (sym (numbered a known e)) ∙ h)))
  where
    value : Option ℕ → ℕ
    value None = 0
    value (Some n) = n

    by : (t : Bool) → cond t (Some (length known)) (found q known) ≡ Some n → n < suc (length known)
    by true i = let j : length known ≡ n = ap value i in omega arith
    by false i = let k = b q n i in omega arith

pub some_number : (o : Option ℕ) (n k : ℕ) → o ≡ Some n → ◌≡◌ {A = ℕ} (elim o [ Some n ↦ n | None ↦ k ]) n
some_number o n k e = ap (λ (o : Option ℕ). elim o [ Some n ↦ n | None ↦ k ]) e

-- what names without a repeated one are given
pub record Numbered (known last : Names ℕ) (word : ℕ → List ℕ) (ats : List ℕ) : Type 0 where
  pub keeps : Keeps known last
  pub below : Below known → Below last
  pub count : length last ≡ length known + length ats
  pub numbers : map (λ at. number_in last (word at)) ats ≡ Form.numbers_from (length known) (length ats)
  pub names : distinct_from known (map word ats) ≡ map word ats
  pub new : Each (λ y. has_label known y ≡ false) (map word ats)
  pub differ : AllDiffer (map word ats)

still_new : (a q : List ℕ) (known : Names ℕ) → has_label known a ≡ false → has_label (with_number a known) q ≡ false → (has_label known q ≡ false) × (q ≢ a)
still_new a q known e h = by (bytes_eq q a) refl (sym (ap is_some (ap (found q) (numbered a known e) ∙ found_entry q a (length known) known)) ∙ h)
  where
    by : (t : Bool) → bytes_eq q a ≡ t → is_some (cond t (Some (length known)) (found q known)) ≡ false → (has_label known q ≡ false) × (q ≢ a)
    by true i k = absurd (true≢false k)
    by false i k = (k, λ s. true≢false (sym (names_same q a s) ∙ i))

pub numbered_all : (known : Names ℕ) (word : ℕ → List ℕ) (ats : List ℕ) → twice_from known word ats [] ≡ [] →
    Numbered known (numbers_from known (map word ats)) word ats
numbered_all known word [] e = record { keeps = λ q n h. h; below = λ b. b; count = omega arith; numbers = refl; names = refl; new = tt; differ = tt }
numbered_all known word (at ∷ ats) e =
    let p = twice_parts known word at ats e in
    let a = word at in
    let next = with_number a known in
    let r = numbered_all next word ats p.1 in
    let l = ap length (numbered a known p.0) ∙ longer a (length known) known p.0 in
    record {
      keeps = λ q n h. r.keeps q n (number_keeps a known p.0 q n h);
      below = λ b. r.below (below_next a known p.0 b);
      count = r.count ∙ (ap (λ k. k + length ats) l ∙ shift (length known) (length ats));
      numbers = λ i. some_number (found a (numbers_from next (map word ats))) (length known) (length (numbers_from next (map word ats)))
          (r.keeps a (length known) (new_found a known p.0)) i ∷ (r.numbers ∙ ap (λ k. Form.numbers_from k (length ats)) l) i;
      names = ap (λ b. new_name b a (distinct_from next (map word ats))) p.0 ∙ ap (λ l. a ∷ l) r.names;
      new = (p.0, each_map (λ y. has_label next y ≡ false) (λ y. has_label known y ≡ false) (λ y h. (still_new a y known p.0 h).0) (map word ats) r.new);
      differ = (each_map (λ y. has_label next y ≡ false) (λ y. y ≢ a) (λ y h. (still_new a y known p.0 h).1) (map word ats) r.new, r.differ);
    }
  where
    shift : (a b : ℕ) → suc a + b ≡ a + suc b
    shift a b = omega arith
