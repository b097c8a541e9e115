-- The items of a walk are those that are written at its place.
use Rattle.std.proofs.Common.{◌≡◌, ◌≤◌, ℕ, Bool, true, false, cond, ◌||◌, List, [], ◌∷◌, ◌++◌, map, Option, Some, None, refl, ap, sym, ◌∙◌, append_assoc, append-nil, arith}
use Rattle.std.specs.Prelude.{option_map}
use Rattle.c_tree.specs.declared.tree.Item as item
use Rattle.c_tree.specs.declared.tree.Section.{Section}
use Rattle.c_tree.specs.declared.tree.Selector as selector
use Rattle.c_tree.specs.declared.tree.Test as test
use Rattle.c_grammar.specs.Terms.{Term, first_of}
use Rattle.c_grammar.specs.Items.{Size, NoSize, Unsized, Sized, Initialiser, NoValue, OneValue, ValueList, Declarator, Declaration, Label, Named, Case, Default, Start, NoStart, StartValue, StartNames, Declares, States, Plain, From, Statement, Null, Evaluate, If, IfElse, While, DoWhile, For, Switch, Block, Goto, Break, Continue, Return, Unread, Body, Braces, Lone, Items, NoItem, Then, first_label}
use Rattle.c_grammar.specs.Items as items
use Rattle.c_tree.specs.declared.tree.Expression.{Expression}
use Rattle.c_kinds.specs.Scopes.{Scope, Env}
use Rattle.c_kinds.specs.Values.{value_of, dropped}
use Rattle.c_kinds.specs.Constants.{constant_of}
use Rattle.c_kinds.specs.Typing.{typed}
use Rattle.c_statements.specs.declared.extents.Kinded.{Kinded}
use Rattle.c_statements.specs.declared.extents.Length.TheVariants.{Constant}
use Rattle.c_statements.specs.declared.anchors.Anchor.TheVariants.{Before, AtEnd, AtSection}
use Rattle.c_statements.specs.Context.{Context, Walk, env_in, env_at, enter, number_in}
use Rattle.c_statements.specs.Declarations.{or_placeholder, constant_or_placeholder, value_at, constant_at, kinded, shape_of, slot, slot_of, cells_of, extent_of, length_in, initial, declared}
use Rattle.c_statements.specs.Declarations as walked_names
use Rattle.c_statements.specs.Labels.{has_case, has_default, label_items, labels_items, label_cases, section_cases}
use Rattle.c_statements.specs.Labels as labelled
use Rattle.c_statements.specs.Sections.{Reading, extended, closed, ended, front}
use Rattle.c_statements.specs.Statements.{or_dropped, dropped_at, test_at, is_null, begins, begun, sections_of, a_switch, behind_item, behind_plain, behind_body, declared_by}
use Rattle.c_statements.specs.Statements as walked
use Rattle.c_reading_defs.specs.Labels.{InFunction, notes_at, label_number}
use Rattle.c_reading_defs.specs.Written.{section_marks}
use Rattle.c_reading_defs.specs.Written as written
use Rattle.c_reading_defs.specs.Variables.{name_tokens, start_variables, item_variables, plain_variables, statement_variables, body_variables, list_variables}
use Rattle.c_reading_defs.specs.Scopes.{scopes_at}
use Rattle.c_reading_defs.specs.Places.{Place, names, variable, declared as declares, item_identifiers, list_identifiers, start_identifiers, within, within_for}
use Rattle.c_reading_defs.specs.Items.{local, declares_items, start_items, item_items, plain_items, statement_items, body_items, list_items, switch_sections, outside_items, outside_item}
use Rattle.c_violation_laws.proofs.AlikeTerms.{typed_alike}
use Rattle.c_violation_laws.proofs.Rising.{Rising, rising_ends, Apart}
use Rattle.c_violation_laws.proofs.Marks.{each_marks, term_marks, option_marks, value_marks, declarator_marks, declaration_marks, label_marks, start_marks, item_marks, plain_marks, statement_marks, body_marks, list_marks}
use Rattle.c_violation_laws.proofs.Standing.{AreMaps, Stands, StandsIn, in_function, numbered_grouped, number_here, stands_at, stands_first, stands_behind, stands_before, stands_stated, LabelSees, LabelsSee, labels_see, OptionSees, option_sees, stands_braces, stands_lone, stands_for, stands_values, stands_name, stands_body, stands_start, stands_item, stands_rest}
use Rattle.c_violation_laws.proofs.Parted.{Parted, preceded, headed, part, parts, parts_sections, part_alone}

-- ---- expressions

module _ (word : ℕ → List ℕ) (w : Walk) (ss : List Scope) (m : AreMaps w.scopes ss) where
  abbrev theirs : Env
  theirs = record { word = word; scopes = ss }

  typed_same : (t : Term) → typed (env_in word w) t ≡ typed theirs t
  typed_same t = typed_alike word w.scopes ss m t

  pub value_same : (t : Term) → value_at (env_in word w) t ≡ or_placeholder (value_of (typed theirs t))
  value_same t = λ i. or_placeholder (value_of (typed_same t i))

  pub dropped_same : (t : Term) → dropped_at (env_in word w) t ≡ or_dropped (dropped (typed theirs t))
  dropped_same t = λ i. or_dropped (dropped (typed_same t i))

  pub constant_same : (t : Term) → constant_at (env_in word w) t ≡ constant_or_placeholder (constant_of (typed theirs t))
  constant_same t = λ i. constant_or_placeholder (constant_of (typed_same t i))

  length_same : (size : Size) → length_in (env_in word w) size ≡ written.length_in typed theirs size
  length_same NoSize = refl
  length_same Unsized = refl
  length_same (Sized t) = λ i. Constant (option_map (λ c. c.1) (constant_of (typed_same t i)))

  pub slot_same : (k : Kinded) (d : Declarator) → slot_of (env_in word w) k d ≡ written.slot_of typed theirs k d
  slot_same k d = λ i. slot (word d.name) (shape_of k d) (cells_of (extent_of (length_same d.size i) d.value))

-- those of an initialiser, which begin from one token to another
module _ (lo hi : ℕ) (g k : Term → Expression) (same : (t : Term) → lo ≤ first_of t → first_of t ≤ hi → g t ≡ k t) where
  values_same : (from : ℕ) (ts : List Term) → lo ≤ from → Rising from (each_marks term_marks ts) hi → map g ts ≡ map k ts
  values_same from [] l r = refl
  values_same from (t ∷ ts) l r =
      let first = r.0 in
      let e = same t (omega (arith, l, first)) (rising_ends (first_of t) (each_marks term_marks ts) hi r.1) in
      let es = values_same (first_of t) ts (omega (arith, l, first)) r.1 in
      λ i. e i ∷ es i

  pub initial_same : (v : Initialiser) → Rising lo (value_marks v) hi → initial g v ≡ initial k v
  initial_same NoValue r = refl
  initial_same (OneValue t) r = ap (λ e. Some (e ∷ [])) (same t r.0 r.1)
  initial_same (ValueList ts) r = ap Some (values_same lo ts (omega arith) r)

-- ---- declarations

module _ (f : InFunction) (apart : Apart f.variables) where
  pub locals_same : (k : Kinded) (ds : List Declarator) (w : Walk) (p : Place) (rest : List ℕ) →
      StandsIn f.variables w p (map (variable f k) ds) (each_marks declarator_marks ds) (name_tokens ds ++ rest)
      → walked_names.locals f.word k ds w ≡ map (local typed f p) ds
  locals_same k [] w p rest h = refl
  locals_same k (d ∷ ds) w p rest h =
      let v = declared f.word k d w in
      let values = stands_values f apart k d ds w p rest h in
      let number = number_here f.variables apart d.name w (name_tokens ds ++ rest) h.numbered in
      let given = initial_same values.lo values.hi (λ t. value_at (env_in f.word v) t) (λ t. written.value_at typed (names f p) t)
      (λ t l m. value_same f.word v (scopes_at p.scopes (first_of t)) (values.sees (first_of t) l m) t) d.value values.order in
      let others = locals_same k ds v p rest (stands_name f apart k d ds w p rest h) in
      λ i. item.Local (number i) (given i) ∷ others i

-- ---- labels

module _ (c : Context) (labels : List (List ℕ)) (numbers : (name : List ℕ) → number_in c.labels name ≡ label_number labels name) (vs : List ℕ)
    (apart : Apart vs) where
  -- the same with these labels and variables
  abbrev numbered : InFunction
  numbered = in_function c labels vs

  marks_same : (ls : List Label) → labelled.section_marks c ls ≡ section_marks numbered ls
  marks_same [] = refl
  marks_same (Named at after ∷ ls) = λ i. (notes_at numbered (Before at) ++ item.Mark (numbers (c.word at) i) ∷ []) ++ marks_same ls i
  marks_same (Case at after t ∷ ls) = marks_same ls
  marks_same (Default at after ∷ ls) = marks_same ls

  module _ (w : Walk) (p : Place) where
    label_same : (l : Label) → LabelSees w p l → label_items c (env_at c w) l ≡ written.label_items typed numbered (names numbered p) l
    label_same (Named at after) m = λ i. notes_at numbered (Before at) ++ item.Mark (numbers (c.word at) i) ∷ []
    label_same (Case at after t) m = λ i. notes_at numbered (Before at) ++
        item.Arrival (Some (constant_same c.word w (scopes_at p.scopes (first_of t)) m t i)) ∷ []
    label_same (Default at after) m = refl

    labels_same : (ls : List Label) → LabelsSee w p ls → labels_items c (env_at c w) ls ≡ written.labels_items typed numbered (names numbered p) ls
    labels_same [] m = refl
    labels_same (l ∷ ls) m = λ i. label_same l m.0 i ++ labels_same ls m.1 i

    case_same : (l : Label) → LabelSees w p l → label_cases (env_at c w) l ≡ written.label_cases typed (names numbered p) l
    case_same (Named at after) m = refl
    case_same (Case at after t) m = λ i. constant_same c.word w (scopes_at p.scopes (first_of t)) m t i ∷ []
    case_same (Default at after) m = refl

    cases_same : (ls : List Label) → LabelsSee w p ls → section_cases (env_at c w) ls ≡ written.section_cases typed (names numbered p) ls
    cases_same [] m = refl
    cases_same (l ∷ ls) m = λ i. case_same l m.0 i ++ cases_same ls m.1 i

    value_is : (t : Term) → AreMaps w.scopes (scopes_at p.scopes (first_of t)) → value_at (env_at c w) t ≡ written.value_at typed (names numbered p) t
    value_is t m = value_same c.word w (scopes_at p.scopes (first_of t)) m t

    dropped_is : (t : Term) → AreMaps w.scopes (scopes_at p.scopes (first_of t)) → dropped_at (env_at c w) t ≡ written.dropped_at typed (names numbered p) t
    dropped_is t m = dropped_same c.word w (scopes_at p.scopes (first_of t)) m t

    test_is : (t : Term) → AreMaps w.scopes (scopes_at p.scopes (first_of t)) → test_at (env_at c w) t ≡ written.test_at typed (names numbered p) t
    test_is t m = λ i. test.Source (value_is t m i)

    value_given : (o : Option Term) → OptionSees w p o → option_map (value_at (env_at c w)) o ≡ option_map (written.value_at typed (names numbered p)) o
    value_given None m = refl
    value_given (Some t) m = ap Some (value_is t m)

    dropped_given : (o : Option Term) → OptionSees w p o → option_map (dropped_at (env_at c w)) o ≡ option_map (written.dropped_at typed (names numbered p)) o
    dropped_given None m = refl
    dropped_given (Some t) m = ap Some (dropped_is t m)

  module _ (w : Walk) (p : Place) (rest : List ℕ) where
    declares_same : (first : ℕ) (d : Declaration) → StandsIn vs w p (declares numbered d) (declaration_marks d) (name_tokens d.names ++ rest)
        → notes_at numbered (Before first) ++ walked.declaration_items c d w ≡ declares_items typed numbered first d p
    declares_same first d h = λ i. notes_at numbered (Before first) ++ locals_same numbered apart (kinded c.word d) d.names w p rest h i

    start_same : (s : Start) → StandsIn vs w p (start_identifiers numbered s) (start_marks s) (start_variables s ++ rest) →
        walked.start_items c s w ≡ start_items typed numbered s p
    start_same NoStart h = refl
    start_same (StartValue t) h = λ i. item.Evaluate (dropped_is w p t (stands_at vs w p t [] rest (stands_stated vs w p (term_marks t) rest h)) i) ∷ []
    start_same (StartNames d) h = locals_same numbered apart (kinded c.word d) d.names w p rest h

  -- ---- sections

  abbrev Sectioned : Option Reading → Parted → List Section
  Sectioned r rest = closed (extended r rest.outside) ++ map ended rest.sections

  extended_twice : (r : Option Reading) (xs ys : List item.Item) → extended (extended r xs) ys ≡ extended r (xs ++ ys)
  extended_twice (Some s) xs ys = λ i. Some (record { cases = s.cases; default = s.default; list = append_assoc s.list xs ys i })
  extended_twice None xs ys = refl

  extended_by_none : (r : Option Reading) → extended r [] ≡ r
  extended_by_none (Some s) = λ i. Some (record { cases = s.cases; default = s.default; list = append-nil s.list i })
  extended_by_none None = refl

  more_items : (r : Option Reading) (xs ys : List item.Item) (rest : Parted) (later : List Section) → xs ≡ ys →
      later ≡ Sectioned (extended r xs) rest → later ≡ Sectioned r (preceded ys rest)
  more_items r xs ys rest later e f =
      f ∙ ap (λ s. closed s ++ map ended rest.sections) (extended_twice r xs rest.outside) ∙
      ap (λ l. closed (extended r (l ++ rest.outside)) ++ map ended rest.sections) e

  -- a section with these labels, which begins with these items
  abbrev read_at : Place → List Label → List item.Item → Option Reading
  read_at p ls xs = Some (record {
    cases = written.section_cases typed (names numbered p) ls;
    default = has_default ls;
    list = notes_at numbered (AtSection (first_label ls)) ++ section_marks numbered ls ++ xs;
  })

  ended_section : (w : Walk) (p : Place) (ls : List Label) (h : LabelsSee w p ls) (xs ys : List item.Item) → xs ≡ ys →
      begun c (env_at c w) ls xs ≡ read_at p ls ys
  ended_section w p ls h xs ys e =
      λ i. Some (record {
        cases = cases_same w p ls h i;
        default = has_default ls;
        list = notes_at numbered (AtSection (first_label ls)) ++ marks_same ls i ++ e i;
      })

  one_section : (w : Walk) (p : Place) (r : Option Reading) (ls : List Label) (h : LabelsSee w p ls) (xs ys : List item.Item) (rest : Parted)
      (later : List Section) → xs ≡ ys
      → later ≡ Sectioned (begun c (env_at c w) ls xs) rest → closed r ++ later ≡ Sectioned r (headed typed numbered p ls ys rest)
  one_section w p r ls h xs ys rest later e f =
      ap (λ l. closed r ++ l) (f ∙ ap (λ s. Sectioned s rest) (ended_section w p ls h xs ys e)) ∙
      ap (λ s. closed s ++ map ended (headed typed numbered p ls ys rest).sections) (sym (extended_by_none r))

  -- a labelled item, or another
  by_case : (w : Walk) (p : Place) (r : Option Reading) (ls : List Label) (h : LabelsSee w p ls) (xs ys : List item.Item) (rest : Parted)
      (first other : List Section) (t : Bool) → xs ≡ ys
      → first ≡ Sectioned (begun c (env_at c w) ls xs) rest
      → other ≡ Sectioned (extended r (labels_items c (env_at c w) ls ++ xs)) rest
      → elim t [ true ↦ closed r ++ first | false ↦ other ]
      ≡ Sectioned r (cond t (headed typed numbered p ls ys rest) (preceded (written.labels_items typed numbered (names numbered p) ls ++ ys) rest))
  by_case w p r ls h xs ys rest first other true e f g = one_section w p r ls h xs ys rest first e f
  by_case w p r ls h xs ys rest first other false e f g =
      more_items r (labels_items c (env_at c w) ls ++ xs) (written.labels_items typed numbered (names numbered p) ls ++ ys) rest other
      (λ i. labels_same w p ls h i ++ e i) g

  -- a switch that is one item
  by_case_alone : (w : Walk) (p : Place) (ls : List Label) (h : LabelsSee w p ls) (xs ys notes : List item.Item) (t : Bool) → xs ≡ ys
      → elim t [ true ↦ sections_of (begun c (env_at c w) ls xs) notes | false ↦ sections_of (extended None (labels_items c (env_at c w) ls ++ xs)) notes ]
      ≡ map ended (cond t (headed typed numbered p ls ys (record { outside = notes; sections = [] }))
      (preceded (written.labels_items typed numbered (names numbered p) ls ++ ys) (record { outside = notes; sections = [] }))).sections
  by_case_alone w p ls h xs ys notes true e = λ i. sections_of (ended_section w p ls h xs ys e i) notes
  by_case_alone w p ls h xs ys notes false e = refl

  -- ---- items

  mutual
    pub item_same : (x : items.Item) (w : Walk) (p : Place) (rest : List ℕ) →
        StandsIn vs w p (item_identifiers numbered x) (item_marks x) (item_variables x ++ rest) → walked.item_items c x w ≡ item_items typed numbered x p
    item_same (Declares first after d) w p rest h = declares_same w p rest first d h
    item_same (States ls s) w p rest h =
        let g = stands_stated vs w p (each_marks label_marks ls ++ plain_marks s) (plain_variables s ++ rest) h in
        let k = stands_behind vs w p (each_marks label_marks ls) (plain_marks s) (plain_variables s ++ rest) g in
        λ i. labels_same w p ls (labels_see vs w p ls (plain_marks s) (plain_variables s ++ rest) g) i ++ plain_same s w p rest k i

    plain_same : (s : Plain) (w : Walk) (p : Place) (rest : List ℕ) → Stands vs w p (plain_marks s) (plain_variables s ++ rest) →
        walked.plain_items c s w ≡ plain_items typed numbered s p
    plain_same (From first after s) w p rest h = λ i. notes_at numbered (Before first) ++ statement_same s w p rest h i

    statement_same : (s : Statement) (w : Walk) (p : Place) (rest : List ℕ) → Stands vs w p (statement_marks s) (statement_variables s ++ rest) →
        walked.statement_items c s w ≡ statement_items typed numbered s p
    statement_same Null w p rest h = refl
    statement_same (Evaluate t) w p rest h = λ i. item.Evaluate (dropped_is w p t (stands_at vs w p t [] rest h) i) ∷ []
    statement_same (If t b) w p rest h =
        let more = body_variables b ++ rest in
        λ i. item.If (test_is w p t (stands_at vs w p t (body_marks b) more h) i)
        (body_same b w p rest (stands_behind vs w p (term_marks t) (body_marks b) more h) i) [] ∷ []
    statement_same (IfElse t b d) w p rest h =
        let all = (body_variables b ++ body_variables d) ++ rest in
        let g = stands_behind vs w p (term_marks t) (body_marks b ++ body_marks d) all h in
        let more = body_variables d ++ rest in
        let first = stands_first vs w p (body_marks b) (body_marks d) (body_variables b ++ more) all g
        (numbered_grouped vs w (body_variables b) (body_variables d) rest g.numbered) in
        let second = stands_body c labels vs apart b w p (body_marks d) (body_variables d) rest g in
        λ i. item.If (test_is w p t (stands_at vs w p t (body_marks b ++ body_marks d) all h) i) (body_same b w p more first i)
        (body_same d (behind_body c b w) p rest second i) ∷ []
    statement_same (While t b) w p rest h =
        let more = body_variables b ++ rest in
        λ i. item.While (test_is w p t (stands_at vs w p t (body_marks b) more h) i)
        (body_same b w p rest (stands_behind vs w p (term_marks t) (body_marks b) more h) i) ∷ []
    statement_same (DoWhile b t) w p rest h =
        let more = body_variables b ++ rest in
        λ i. item.Do (body_same b w p rest (stands_before vs w p (body_marks b) (term_marks t) more h) i)
        (test_is w p t (stands_at vs w p t [] more (stands_behind vs w p (body_marks b) (term_marks t) more h)) i) ∷ []
    statement_same (For start t u b) w p rest h =
        let inner = walked.behind_start c start (enter w) in
        let place = within_for numbered start p in
        let more = body_variables b ++ rest in
        let k = stands_for numbered vs w p start (option_marks t ++ (option_marks u ++ body_marks b)) (body_variables b) rest h in
        let g = stands_start c labels vs apart start w p (option_marks t ++ (option_marks u ++ body_marks b)) (body_variables b) rest h in
        let test = option_sees vs inner place t more (stands_before vs inner place (option_marks t) (option_marks u ++ body_marks b) more g) in
        let g1 = stands_behind vs inner place (option_marks t) (option_marks u ++ body_marks b) more g in
        let step = option_sees vs inner place u more (stands_before vs inner place (option_marks u) (body_marks b) more g1) in
        let g2 = stands_behind vs inner place (option_marks u) (body_marks b) more g1 in
        λ i. item.For (start_same (enter w) place more start k i) (value_given inner place t test i) (dropped_given inner place u step i)
        (body_same b inner place rest g2 i) ∷ []
    statement_same (Switch t b) w p rest h =
        let more = body_variables b ++ rest in
        let g = stands_behind vs w p (term_marks t) (body_marks b) more h in
        (λ i. a_switch (value_is w p t (stands_at vs w p t (body_marks b) more h) i) (switch_same b w p rest g i))
    statement_same (Block b) w p rest h = λ i. item.Block (body_same b w p rest h i) ∷ []
    statement_same (Goto at) w p rest h = λ i. item.Goto (numbers (c.word at) i) ∷ []
    statement_same Break w p rest h = refl
    statement_same Continue w p rest h = refl
    statement_same (Return t) w p rest h = λ i. item.Return (value_given w p t (option_sees vs w p t rest h) i) ∷ []
    statement_same Unread w p rest h = refl

    body_same : (b : Body) (w : Walk) (p : Place) (rest : List ℕ) → Stands vs w p (body_marks b) (body_variables b ++ rest) →
        walked.body_items c b w ≡ body_items typed numbered b p
    body_same (Braces first after xs) w p rest h =
        let g = stands_braces numbered vs w p first after xs (list_variables xs ++ rest) h in
        λ i. list_same xs (enter w) (within numbered (Braces first after xs) p) rest g i ++ notes_at numbered (AtEnd first)
    body_same (Lone first after x) w p rest h =
        let g = stands_lone numbered vs w p first after x (item_variables x ++ rest) h in
        λ i. item_same x (enter w) (within numbered (Lone first after x) p) rest g i ++ notes_at numbered (AtEnd first)

    pub list_same : (xs : Items) (w : Walk) (p : Place) (rest : List ℕ) →
        StandsIn vs w p (list_identifiers numbered xs) (list_marks xs) (list_variables xs ++ rest) → walked.list_items c xs w ≡ list_items typed numbered xs p
    list_same NoItem w p rest h = refl
    list_same (Then x xs) w p rest h =
        λ i. item_same x w p (list_variables xs ++ rest) (stands_item c labels vs apart x xs w p rest h) i ++
        list_same xs (behind_item c x w) p rest (stands_rest c labels vs apart x xs w p rest h) i

    switch_same : (b : Body) (w : Walk) (p : Place) (rest : List ℕ) → Stands vs w p (body_marks b) (body_variables b ++ rest) →
        walked.switch_sections c b w ≡ switch_sections typed numbered b p
    switch_same (Braces first after xs) w p rest h =
        let g = stands_braces numbered vs w p first after xs (list_variables xs ++ rest) h in
        let q = within numbered (Braces first after xs) p in
        let notes = notes_at numbered (AtEnd first) in
        (λ i. front (outside_same xs (enter w) q rest g i) ++ sections_same None xs notes (enter w) q rest g i)
        ∙ ap (λ l. front (outside_items typed numbered xs q) ++ map ended l) (parts_sections typed numbered q xs notes)
    switch_same (Lone first after x) w p rest h =
        let g = stands_lone numbered vs w p first after x (item_variables x ++ rest) h in
        let q = within numbered (Lone first after x) p in
        let notes = notes_at numbered (AtEnd first) in
        (λ i. front (outside_item_same x (enter w) q rest g i) ++ alone_same x notes (enter w) q rest g i)
        ∙ ap (λ l. front (outside_item typed numbered x q) ++ map ended l) (part_alone typed numbered q x notes)

    outside_same : (xs : Items) (w : Walk) (p : Place) (rest : List ℕ) →
        StandsIn vs w p (list_identifiers numbered xs) (list_marks xs) (list_variables xs ++ rest) →
        walked.outside_items c xs w ≡ outside_items typed numbered xs p
    outside_same NoItem w p rest h = refl
    outside_same (Then x xs) w p rest h =
        λ i. cond (begins x) [] (outside_item_same x w p (list_variables xs ++ rest) (stands_item c labels vs apart x xs w p rest h) i
        ++ outside_same xs (behind_item c x w) p rest (stands_rest c labels vs apart x xs w p rest h) i)

    outside_item_same : (x : items.Item) (w : Walk) (p : Place) (rest : List ℕ) →
        StandsIn vs w p (item_identifiers numbered x) (item_marks x) (item_variables x ++ rest) → walked.outside_item c x w ≡ outside_item typed numbered x p
    outside_item_same (Declares first after d) w p rest h = declares_same w p rest first d h
    outside_item_same (States ls s) w p rest h =
        let g = stands_stated vs w p (each_marks label_marks ls ++ plain_marks s) (plain_variables s ++ rest) h in
        let k = stands_behind vs w p (each_marks label_marks ls) (plain_marks s) (plain_variables s ++ rest) g in
        λ i. cond (has_case ls || is_null ls s) [] (labels_same w p ls (labels_see vs w p ls (plain_marks s) (plain_variables s ++ rest) g) i ++
        plain_same s w p rest k i)

    sections_same : (r : Option Reading) (xs : Items) (notes : List item.Item) (w : Walk) (p : Place) (rest : List ℕ) →
        StandsIn vs w p (list_identifiers numbered xs) (list_marks xs) (list_variables xs ++ rest)
        → walked.sections_from c r xs notes w ≡ Sectioned r (parts typed numbered xs notes p)
    sections_same (Some s) NoItem notes w p rest h = refl
    sections_same None NoItem notes w p rest h = refl
    sections_same r (Then (Declares first after d) xs) notes w p rest h =
        let x = notes_at numbered (Before first) ++ walked.declaration_items c d w in
        let one = Declares first after d in
        more_items r x (declares_items typed numbered first d p) (parts typed numbered xs notes p)
        (walked.sections_from c (extended r x) xs notes (declared_by c d w))
        (declares_same w p (list_variables xs ++ rest) first d (stands_item c labels vs apart one xs w p rest h))
        (sections_same (extended r x) xs notes (declared_by c d w) p rest (stands_rest c labels vs apart one xs w p rest h))
    sections_same r (Then (States ls s) xs) notes w p rest h =
        let more = list_variables xs ++ rest in
        let own = stands_item c labels vs apart (States ls s) xs w p rest h in
        let stated = stands_stated vs w p (each_marks label_marks ls ++ plain_marks s) (plain_variables s ++ more) own in
        let k = stands_behind vs w p (each_marks label_marks ls) (plain_marks s) (plain_variables s ++ more) stated in
        let g = stands_rest c labels vs apart (States ls s) xs w p rest h in
        let v = behind_plain c s w in
        let x = walked.plain_items c s w in
        let l = labels_items c (env_at c w) ls ++ x in
        by_case w p r ls (labels_see vs w p ls (plain_marks s) (plain_variables s ++ more) stated) x (plain_items typed numbered s p)
        (parts typed numbered xs notes p)
        (walked.sections_from c (begun c (env_at c w) ls x) xs notes v) (walked.sections_from c (extended r l) xs notes v) (has_case ls)
        (plain_same s w p more k) (sections_same (begun c (env_at c w) ls x) xs notes v p rest g) (sections_same (extended r l) xs notes v p rest g)

    alone_same : (x : items.Item) (notes : List item.Item) (w : Walk) (p : Place) (rest : List ℕ) →
        StandsIn vs w p (item_identifiers numbered x) (item_marks x) (item_variables x ++ rest)
        → walked.sections_at c None x notes w ≡ map ended (part typed numbered x (record { outside = notes; sections = [] }) p).sections
    alone_same (Declares first after d) notes w p rest h = refl
    alone_same (States ls s) notes w p rest h =
        let g = stands_stated vs w p (each_marks label_marks ls ++ plain_marks s) (plain_variables s ++ rest) h in
        let k = stands_behind vs w p (each_marks label_marks ls) (plain_marks s) (plain_variables s ++ rest) g in
        by_case_alone w p ls (labels_see vs w p ls (plain_marks s) (plain_variables s ++ rest) g) (walked.plain_items c s w)
        (plain_items typed numbered s p) notes (has_case ls) (plain_same s w p rest k)
