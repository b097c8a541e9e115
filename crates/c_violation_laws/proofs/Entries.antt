-- The case and default labels of a switch, and what a walk finds at them.
use Rattle.std.proofs.Common.{◌≡◌, ◌⊎◌, inl, inr, ℕ, Bool, true, false, ◌||◌, List, [], ◌∷◌, ◌++◌, Option, Some, None, refl, sym, ap, subst, ◌∙◌, append_assoc, arith, true≢false}
use Rattle.std.proofs.lemmas.Bool.{or_cases, or_left, or_right}
use Rattle.std.specs.Prelude.{ℤ, ◌<ℤ◌}
use Rattle.std.specs.Cmp.{int_ranks}
use Rattle.std.specs.declared.cmp.Ordering.{Ordering}
use Rattle.std.specs.declared.cmp.Ordering.TheVariants.{Less, Equal, Greater}
use Rattle.std.specs.Ordering.{int_cmp, is_eq, match_ordering, MatchOrdering}
use Rattle.std.proofs.lemmas.Int.{ints}
use Rattle.c_types.specs.declared.kinds.IntKind.{IntKind}
use Rattle.c_types.specs.Numbers.{promoted, converted}
use Rattle.c_tree.specs.declared.tree.Expression.{Expression}
use Rattle.c_grammar.specs.Items.{Label, Named, Case, Default, Item, Declares, States, Plain, From, Statement, If, IfElse, While, DoWhile, For, Block, Body, Braces, Lone, Items, NoItem, Then}
use Rattle.c_kinds.specs.declared.typed.Fault.{Fault}
use Rattle.c_kinds.specs.Constants.{constant_of}
use Rattle.c_kinds.specs.Scopes.{fault_if}
use Rattle.c_kinds.specs.Typing.{typed}
use Rattle.c_statements.specs.declared.entries.Entry.{Entry}
use Rattle.c_statements.specs.declared.entries.Entry.TheVariants.{Value, Other}
use Rattle.c_statements.specs.Context.{Context, Walk, env_at, enter}
use Rattle.c_statements.specs.Statements.{behind_start, behind_item, behind_body}
use Rattle.c_statements.specs.Cases as walked
use Rattle.c_statements.specs.Cases.{is_among, with_value, entry_faults, default_faults, switch_faults}
use Rattle.c_violation_laws.proofs.Behind.{Behind, finds_behind}
use Rattle.c_reading_defs.specs.Labels.{InFunction}
use Rattle.c_reading_defs.specs.Variables.{item_variables, plain_variables, statement_variables, body_variables, list_variables}
use Rattle.c_grammar.specs.Terms.{first_of}
use Rattle.c_reading_defs.specs.Scopes.{scopes_at}
use Rattle.c_reading_defs.specs.Places.{Place, item_identifiers, list_identifiers, within}
use Rattle.c_reading_defs.specs.Places as places
use Rattle.c_reading_defs.specs.Switches.{case_entry, label_entries, item_entries, plain_entries, statement_entries, body_entries, list_entries, HasCase, HasDefault, EntryBreaks, EntriesBreak}
use Rattle.c_reading_defs.specs.Violations.{broken}
use Rattle.c_violation_laws.specs.Finds.{Finds}
use Rattle.c_violation_laws.proofs.Finding.{finds_none, finds_both, finds_same, finds_if}
use Rattle.c_violation_laws.proofs.Rising.{Apart}
use Rattle.c_violation_laws.proofs.Marks.{each_marks, term_marks, option_marks, label_marks, item_marks, plain_marks, statement_marks, body_marks, list_marks}
use Rattle.c_violation_laws.proofs.Standing.{Stands, StandsIn, in_function, numbered_grouped, stands_first, stands_behind, stands_before, stands_stated, LabelsSee, labels_see, stands_braces, stands_lone, stands_body, stands_start, stands_item, stands_rest}
use Rattle.c_violation_laws.proofs.AlikeTerms.{typed_alike}

-- ---- they are those by places

append_none : (es : List Entry) → es ≡ es ++ []
append_none [] = refl
append_none (e ∷ es) = ap (λ x. e ∷ x) (append_none es)

module _ (ctx : Context) (names : List (List ℕ)) (vs : List ℕ) (apart : Apart vs) where
  abbrev f : InFunction
  f = in_function ctx names vs

  labelled : (w : Walk) (p : Place) (ls : List Label) → LabelsSee w p ls → (found : List Entry) →
      walked.label_entries (env_at ctx w) ls found ≡ found ++ label_entries typed (places.names f p) ls
  labelled w p [] s found = append_none found
  labelled w p (Named at after ∷ ls) s found = labelled w p ls s.1 found
  labelled w p (Default at after ∷ ls) s found = labelled w p ls s.1 (found ++ Other at ∷ []) ∙ append_assoc found (Other at ∷ [])
      (label_entries typed (places.names f p) ls)
  labelled w p (Case at after t ∷ ls) s found =
      ap (λ x. walked.label_entries (env_at ctx w) ls (walked.case_entry at (constant_of x) found))
      (typed_alike ctx.word w.scopes (scopes_at p.scopes (first_of t)) s.0 t)
      ∙ by (constant_of (typed (places.names f p t) t)) (λ l. labelled w p ls s.1 l)
    where
      by : (o : Option (Expression × ℤ)) → ((l : List Entry) → walked.label_entries (env_at ctx w) ls l ≡ l ++ label_entries typed (places.names f p) ls)
          → walked.label_entries (env_at ctx w) ls (walked.case_entry at o found) ≡ found ++ (case_entry at o ++ label_entries typed (places.names f p) ls)
      by (Some c) k = k (found ++ Value at c.1 ∷ []) ∙ append_assoc found (Value at c.1 ∷ []) (label_entries typed (places.names f p) ls)
      by None k = k found

  mutual
    item : (x : Item) (w : Walk) (p : Place) (rest : List ℕ) → StandsIn vs w p (item_identifiers f x) (item_marks x) (item_variables x ++ rest) →
        (found : List Entry) → walked.item_entries ctx x w found ≡ found ++ item_entries typed f p x
    item (Declares first after d) w p rest s found = append_none found
    item (States ls x) w p rest s found =
        let more = plain_variables x ++ rest in
        let g = stands_stated vs w p (each_marks label_marks ls ++ plain_marks x) more s in
        plain x w p rest (stands_behind vs w p (each_marks label_marks ls) (plain_marks x) more g) (walked.label_entries (env_at ctx w) ls found)
        ∙ ap (λ l. l ++ plain_entries typed f p x) (labelled w p ls (labels_see vs w p ls (plain_marks x) more g) found)
        ∙ append_assoc found (label_entries typed (places.names f p) ls) (plain_entries typed f p x)

    plain : (x : Plain) (w : Walk) (p : Place) (rest : List ℕ) → Stands vs w p (plain_marks x) (plain_variables x ++ rest) → (found : List Entry) →
        walked.plain_entries ctx x w found ≡ found ++ plain_entries typed f p x
    plain (From first after x) w p rest s found = statement x w p rest s found

    statement : (x : Statement) (w : Walk) (p : Place) (rest : List ℕ) → Stands vs w p (statement_marks x) (statement_variables x ++ rest) →
        (found : List Entry) → walked.statement_entries ctx x w found ≡ found ++ statement_entries typed f p x
    statement (If t b) w p rest s found = body b w p rest (stands_behind vs w p (term_marks t) (body_marks b) (body_variables b ++ rest) s) found
    statement (IfElse t b c) w p rest s found =
        let all = (body_variables b ++ body_variables c) ++ rest in
        let more = body_variables c ++ rest in
        let g = stands_behind vs w p (term_marks t) (body_marks b ++ body_marks c) all s in
        let first = stands_first vs w p (body_marks b) (body_marks c) (body_variables b ++ more) all g
        (numbered_grouped vs w (body_variables b) (body_variables c) rest g.numbered) in
        let second = stands_body ctx names vs apart b w p (body_marks c) (body_variables c) rest g in
        body c (behind_body ctx b w) p rest second (walked.body_entries ctx b w found)
        ∙ ap (λ l. l ++ body_entries typed f p c) (body b w p more first found)
        ∙ append_assoc found (body_entries typed f p b) (body_entries typed f p c)
    statement (While t b) w p rest s found = body b w p rest (stands_behind vs w p (term_marks t) (body_marks b) (body_variables b ++ rest) s) found
    statement (DoWhile b t) w p rest s found = body b w p rest (stands_before vs w p (body_marks b) (term_marks t) (body_variables b ++ rest) s) found
    statement (For start t u b) w p rest s found =
        let v = behind_start ctx start (enter w) in
        let q = places.within_for f start p in
        let more = body_variables b ++ rest in
        let ms = option_marks t ++ (option_marks u ++ body_marks b) in
        let g = stands_start ctx names vs apart start w p ms (body_variables b) rest s in
        body b v q rest (stands_behind vs v q (option_marks u) (body_marks b) more
        (stands_behind vs v q (option_marks t) (option_marks u ++ body_marks b) more g)) found
    statement (Block b) w p rest s found = body b w p rest s found
    statement _ w p rest s found = append_none found

    pub body : (b : Body) (w : Walk) (p : Place) (rest : List ℕ) → Stands vs w p (body_marks b) (body_variables b ++ rest) → (found : List Entry) →
        walked.body_entries ctx b w found ≡ found ++ body_entries typed f p b
    body (Braces first after xs) w p rest s found = list xs (enter w) (within f (Braces first after xs) p) rest
        (stands_braces f vs w p first after xs (list_variables xs ++ rest) s) found
    body (Lone first after x) w p rest s found = item x (enter w) (within f (Lone first after x) p) rest
        (stands_lone f vs w p first after x (item_variables x ++ rest) s) found

    list : (xs : Items) (w : Walk) (p : Place) (rest : List ℕ) → StandsIn vs w p (list_identifiers f xs) (list_marks xs) (list_variables xs ++ rest) →
        (found : List Entry) → walked.list_entries ctx xs w found ≡ found ++ list_entries typed f p xs
    list NoItem w p rest s found = append_none found
    list (Then x xs) w p rest s found =
        list xs (behind_item ctx x w) p rest (stands_rest ctx names vs apart x xs w p rest s) (walked.item_entries ctx x w found)
        ∙ ap (λ l. l ++ list_entries typed f p xs) (item x w p (list_variables xs ++ rest) (stands_item ctx names vs apart x xs w p rest s) found)
        ∙ append_assoc found (item_entries typed f p x) (list_entries typed f p xs)

-- ---- numbers that were seen

itself : (q : ℤ) → is_eq (int_cmp q q) ≡ true
itself q = by (int_cmp q q) (int_ranks q q)
  where
    by : (o : Ordering) → MatchOrdering o (q <ℤ q) (q ≡ q) (q <ℤ q) → is_eq o ≡ true
    by Less m = grind (arith, ints)
    by Equal m = refl
    by Greater m = grind (arith, ints)

equal_is : (v x : ℤ) (o : Ordering) → MatchOrdering o (v <ℤ x) (v ≡ x) (x <ℤ v) → is_eq o ≡ true → v ≡ x
equal_is v x Equal m e = m
equal_is v x _ m e = absurd (true≢false (sym e))

is_equal : (q v : ℤ) → is_eq (int_cmp q v) ≡ true → q ≡ v
is_equal q v e = equal_is q v (int_cmp q v) (int_ranks q v) e

equal_same : (q v : ℤ) → q ≡ v → is_eq (int_cmp q v) ≡ true
equal_same q v e = subst (λ z. is_eq (int_cmp q z) ≡ true) e (itself q)

turned : (a b c : Bool) → (a || (b || c)) ≡ (b || (a || c))
turned true true c = refl
turned true false c = refl
turned false true c = refl
turned false false c = refl

doubled : (a c : Bool) → (a || c) ≡ (a || (a || c))
doubled true c = refl
doubled false c = refl

-- a number is among these and one more
among_more : (q v : ℤ) (seen : List ℤ) → is_among q (with_value v seen) ≡ (is_eq (int_cmp q v) || is_among q seen)
among_more q v [] = refl
among_more q v (x ∷ xs) = by (int_cmp v x) refl (among_more q v xs)
  where
    by : (o : Ordering) → int_cmp v x ≡ o → is_among q (with_value v xs) ≡ (is_eq (int_cmp q v) || is_among q xs) →
        is_among q (match_ordering o (v ∷ x ∷ xs) (x ∷ xs) (x ∷ with_value v xs)) ≡ (is_eq (int_cmp q v) || is_among q (x ∷ xs))
    by Less i r = refl
    by Equal i r =
        let same : v ≡ x = is_equal v x (ap is_eq i) in
        doubled (is_eq (int_cmp q x)) (is_among q xs) ∙ ap (λ z. is_eq (int_cmp q z) || is_among q (x ∷ xs)) (sym same)
    by Greater i r = ap (λ b. is_eq (int_cmp q x) || b) r ∙ turned (is_eq (int_cmp q x)) (is_eq (int_cmp q v)) (is_among q xs)

-- ---- what is found at them

module _ (kind : IntKind) where
  abbrev K : ℤ → ℤ
  K n = converted (promoted kind) n

  -- the numbers of the cases among these labels, and whether there is a default
  record Seen (before : List Entry) (seen : List ℤ) (default : Bool) : Type 0 where
    cases : (n : ℤ) → is_among (K n) seen ≡ true → HasCase (promoted kind) n before
    back : (n : ℤ) → HasCase (promoted kind) n before → is_among (K n) seen ≡ true
    other : default ≡ true → HasDefault before
    other_back : HasDefault before → default ≡ true

  case_more : (n : ℤ) (before : List Entry) (e : Entry) → HasCase (promoted kind) n (before ++ e ∷ []) →
      HasCase (promoted kind) n before ⊎ HasCase (promoted kind) n (e ∷ [])
  case_more n [] e h = inr h
  case_more n (Value at m ∷ es) e (inl p) = inl (inl p)
  case_more n (Value at m ∷ es) e (inr h) = elim (case_more n es e h) [ inl a ↦ inl (inr a) | inr b ↦ inr b ]
  case_more n (Other at ∷ es) e h = case_more n es e h

  more_case : (n : ℤ) (before : List Entry) (e : Entry) → HasCase (promoted kind) n before ⊎ HasCase (promoted kind) n (e ∷ []) →
      HasCase (promoted kind) n (before ++ e ∷ [])
  more_case n [] e (inl h) = absurd h
  more_case n [] e (inr h) = h
  more_case n (Value at m ∷ es) e (inl (inl p)) = inl p
  more_case n (Value at m ∷ es) e (inl (inr h)) = inr (more_case n es e (inl h))
  more_case n (Value at m ∷ es) e (inr h) = inr (more_case n es e (inr h))
  more_case n (Other at ∷ es) e h = more_case n es e h

default_more : (before : List Entry) (e : Entry) → HasDefault (before ++ e ∷ []) → HasDefault before ⊎ HasDefault (e ∷ [])
default_more [] e h = inr h
default_more (Value at m ∷ es) e h = default_more es e h
default_more (Other at ∷ es) e h = inl tt

more_default : (before : List Entry) (e : Entry) → HasDefault before ⊎ HasDefault (e ∷ []) → HasDefault (before ++ e ∷ [])
more_default [] e (inl h) = absurd h
more_default [] e (inr h) = h
more_default (Value at m ∷ es) e h = more_default es e h
more_default (Other at ∷ es) e h = tt

module _ (kind : IntKind) where
  seen_value : (before : List Entry) (seen : List ℤ) (default : Bool) (at : ℕ) (m : ℤ) → Seen kind before seen default →
      Seen kind (before ++ Value at m ∷ []) (with_value (K kind m) seen) default
  seen_value before seen default at m s = record {
    cases = λ n e. more_case kind n before (Value at m)
        (elim (or_cases (is_eq (int_cmp (K kind n) (K kind m))) (is_among (K kind n) seen) (sym (among_more (K kind n) (K kind m) seen) ∙ e)) [
          | inl g ↦ inr (inl (is_equal (K kind n) (K kind m) g))
          | inr g ↦ inl (s.cases n g)
        ]);
    back = λ n h. among_more (K kind n) (K kind m) seen ∙ elim (case_more kind n before (Value at m) h) [
      | inl a ↦ or_right (is_eq (int_cmp (K kind n) (K kind m))) (is_among (K kind n) seen) (s.back n a)
      | inr b ↦ or_left (is_eq (int_cmp (K kind n) (K kind m))) (is_among (K kind n) seen)
          (elim b [ inl g ↦ equal_same (K kind n) (K kind m) g | inr g ↦ absurd g ])
    ];
    other = λ e. more_default before (Value at m) (inl (s.other e));
    other_back = λ h. elim (default_more before (Value at m) h) [ inl a ↦ s.other_back a | inr b ↦ absurd b ];
  }

  seen_other : (before : List Entry) (seen : List ℤ) (default : Bool) (at : ℕ) → Seen kind before seen default → Seen kind (before ++ Other at ∷ []) seen true
  seen_other before seen default at s = record {
    cases = λ n e. more_case kind n before (Other at) (inl (s.cases n e));
    back = λ n h. elim (case_more kind n before (Other at) h) [ inl a ↦ s.back n a | inr b ↦ absurd b ];
    other = λ e. more_default before (Other at) (inr tt);
    other_back = λ h. refl;
  }

  some_kind : (j : IntKind) → Some kind ≡ Some j → kind ≡ j
  some_kind j e = cc

  entries : (es before : List Entry) (seen : List ℤ) (default : Bool) → Seen kind before seen default
      → Finds (entry_faults (promoted kind) seen default es) (λ v. Behind (λ b e. EntryBreaks (Some kind) b e v) before es)
  entries [] before seen default s = finds_none
  entries (Value at n ∷ es) before seen default s =
      finds_both (fault_if (is_among (K kind n) seen) at 30) (entry_faults (promoted kind) (with_value (K kind n) seen) default es) _ _
      (finds_same (fault_if (is_among (K kind n) seen) at 30) _ (λ v. EntryBreaks (Some kind) before (Value at n) v) (finds_if (is_among (K kind n) seen) at 30)
      (λ v p. subst (EntryBreaks (Some kind) before (Value at n)) (sym p.1) (EntryBreaks.equal_cases kind refl (s.cases n p.0))) fro)
      (entries es (before ++ Value at n ∷ []) (with_value (K kind n) seen) default (seen_value before seen default at n s))
    where
      fro : (v : Fault) → EntryBreaks (Some kind) before (Value at n) v → (is_among (K kind n) seen ≡ true) × (v ≡ broken at 30)
      fro v (EntryBreaks.equal_cases j e h) = (s.back n (subst (λ k. HasCase (promoted k) n before) (sym (some_kind j e)) h), refl)
  entries (Other at ∷ es) before seen default s =
      finds_both (fault_if default at 31) (entry_faults (promoted kind) seen true es) _ _
      (finds_same (fault_if default at 31) _ (λ v. EntryBreaks (Some kind) before (Other at) v) (finds_if default at 31)
      (λ v p. subst (EntryBreaks (Some kind) before (Other at)) (sym p.1) (EntryBreaks.second_default (s.other p.0))) fro)
      (entries es (before ++ Other at ∷ []) seen true (seen_other before seen default at s))
    where
      fro : (v : Fault) → EntryBreaks (Some kind) before (Other at) v → (default ≡ true) × (v ≡ broken at 31)
      fro v (EntryBreaks.second_default h) = (s.other_back h, refl)

  seen_none : Seen kind [] [] false
  seen_none = record { cases = λ n e. true≢false (sym e); back = λ n h. absurd h; other = λ e. true≢false (sym e); other_back = λ h. absurd h }

-- of a selector without a value, defaults alone
defaults : (es before : List Entry) (default : Bool) → (default ≡ true → HasDefault before) → (HasDefault before → default ≡ true)
    → Finds (default_faults default es) (λ v. Behind (λ b e. EntryBreaks None b e v) before es)
defaults [] before default f g = finds_none
defaults (Value at n ∷ es) before default f g =
    finds_both (λ vs. vs) (default_faults default es) _ _ (finds_same (λ vs. vs) (λ v. ⊥) (λ v. EntryBreaks None before (Value at n) v) finds_none
    (λ v h. absurd h) fro)
    (defaults es (before ++ Value at n ∷ []) default (λ e. more_default before (Value at n) (inl (f e)))
    (λ h. elim (default_more before (Value at n) h) [ inl a ↦ g a | inr b ↦ absurd b ]))
  where
    no_kind : (j : IntKind) → None ≡ Some j → ⊥
    no_kind j e = cc

    fro : (v : Fault) → EntryBreaks None before (Value at n) v → ⊥
    fro v (EntryBreaks.equal_cases j e h) = no_kind j e
defaults (Other at ∷ es) before default f g =
    finds_both (fault_if default at 31) (default_faults true es) _ _
    (finds_same (fault_if default at 31) _ (λ v. EntryBreaks None before (Other at) v) (finds_if default at 31)
    (λ v p. subst (EntryBreaks None before (Other at)) (sym p.1) (EntryBreaks.second_default (f p.0))) fro)
    (defaults es (before ++ Other at ∷ []) true (λ e. more_default before (Other at) (inr tt)) (λ h. refl))
  where
    fro : (v : Fault) → EntryBreaks None before (Other at) v → (default ≡ true) × (v ≡ broken at 31)
    fro v (EntryBreaks.second_default h) = (g h, refl)

pub switch_entries : (selector : Option IntKind) (es : List Entry) → Finds (switch_faults selector es) (λ v. EntriesBreak selector es v)
switch_entries (Some kind) es = finds_behind (switch_faults (Some kind) es) (λ v b e. EntryBreaks (Some kind) b e v) es
    (entries kind es [] [] false (seen_none kind))
switch_entries None es = finds_behind (switch_faults None es) (λ v b e. EntryBreaks None b e v) es
    (defaults es [] false (λ e. absurd (true≢false (sym e))) (λ h. absurd h))
