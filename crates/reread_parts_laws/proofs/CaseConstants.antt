-- The cases of a resolved switch are constants where its text is read, and none of them stands twice.
use Rattle.std.proofs.Common.{◌≡◌, ◌+◌, ◌≤◌, ◌&&◌, ℕ, suc, ℤ, pos, Bool, true, false, not, List, [], ◌∷◌, ◌++◌, map, Option, Some, None, is_some, refl, ap, subst, ◌∙◌, arith, append_assoc}
use Rattle.std.specs.Prelude.{option_map, IsSome, ◌≢◌, unwrap_or}
use Rattle.std.specs.declared.cmp.Ordering.{Ordering}
use Rattle.std.specs.declared.cmp.Ordering.TheVariants.{Less, Equal, Greater}
use Rattle.std.specs.Ordering.{match_ordering, MatchOrdering, is_eq, eq_by_cmp, int_cmp}
use Rattle.std.specs.Cmp.{int_ranks}
use Rattle.std.proofs.lemmas.Bool.{or_parts, or_from}
use Rattle.c_types.specs.declared.kinds.IntKind.{IntKind}
use Rattle.c_types.specs.Numbers.{converted}
use Rattle.c_tree.specs.ExpressionTrees.{ExpressionTree, NodeTree}
use Rattle.c_tree.specs.ExpressionTrees as t
use Rattle.c_tree.specs.Constants.{HasKind, IsConstant, IsConstantNode, constant_value}
use Rattle.c_tree.specs.Cases.{case_number}
use Rattle.c_grammar.specs.ExpressionSyntax.{conditional_end}
use Rattle.c_grammar.specs.Terms.{At}
use Rattle.c_kinds.specs.Scopes.{Env, Faults, fault_if}
use Rattle.c_kinds.specs.Typing.{form_typed, constant_faults}
use Rattle.c_kinds.specs.Constants.{is_constant, is_constant_node, constant_of}
use Rattle.c_statements.specs.declared.entries.Entry.{Entry}
use Rattle.c_statements.specs.declared.entries.Entry.TheVariants.{Value, Other}
use Rattle.c_statements.specs.Declarations.{constant_or_placeholder}
use Rattle.c_statements.specs.Cases.{label_entries, is_among, with_value, entry_faults, case_entry}
use Rattle.c_statements.specs.Labels.{labels_faults}
use Rattle.c_resolved_defs.specs.Within.{Each, AllDiffer}
use Rattle.c_resolved_defs.specs.Switches.{IsConstantValue, AreLabels, section_labels, cases_among, defaults_among}
use Rattle.print_laws.specs.StatementDerivations.{conditional_of}
use Rattle.reread_parts_laws.specs.WrittenExpressions.{conditional_form}
use Rattle.reread_parts_laws.proofs.Mirrors.{expression_in}
use Rattle.reread_parts_laws.proofs.Readings.{Reads, used_clear}
use Rattle.reread_parts_laws.proofs.DeclarationsRead.{constant_is}
use Rattle.reread_parts_laws.proofs.SectionSources.{section_list, case_constants}

-- ---- constant expressions

mutual
  pub constant_same : (x : ExpressionTree) → IsConstant x → is_constant x ≡ true
  constant_same (t.Typed kind n) h = node_same kind n h

  node_same : (kind : Option IntKind) (n : NodeTree) → IsConstantNode kind n → is_constant_node kind n ≡ true
  node_same kind (t.Number n) h = refl
  node_same kind (t.Character b) h = refl
  node_same kind (t.EnumName m n) h = refl
  node_same kind (t.Unary op a) h = constant_same a h
  node_same kind (t.Cast a) h = λ i. has_kind kind (h.0) i && constant_same a (h.1) i
    where
      has_kind : (o : Option IntKind) → HasKind o → is_some o ≡ true
      has_kind None h = absurd h
      has_kind (Some k) h = refl
  node_same kind (t.Binary op a b) h = λ i. constant_same a (h.0) i && constant_same b (h.1) i
  node_same kind (t.Conditional a b c) h = λ i. constant_same a (h.0) i && constant_same b (h.1) i && constant_same c (h.2) i
  node_same kind _ h = absurd h

-- the value of a constant
abbrev pub worth : ExpressionTree → ℤ
worth x = unwrap_or (constant_value x) (pos 0)

worth_is : (x : ExpressionTree) → IsSome (constant_value x) → constant_value x ≡ Some (worth x)
worth_is x h = by_value (constant_value x) h
  where
    by_value : (o : Option ℤ) → IsSome o → o ≡ Some (unwrap_or o (pos 0))
    by_value None h = cc
    by_value (Some v) h = refl

pub constant_here : (env : Env) (form : _) (x : ExpressionTree) → Reads env form x → IsConstantValue x →
    constant_of (form_typed env form) ≡ Some (expression_in x, worth x)
constant_here env form x r h = ap constant_of (r.typed) ∙ constant_is x (worth x) (h.kind) (constant_same x (h.constant)) (worth_is x (h.untrapped))

-- and it breaks no rule
pub constant_clear : (env : Env) (first : ℕ) (form : _) (x : ExpressionTree) → Reads env form x → IsConstantValue x → (vs : Faults) →
    constant_faults env (At first form) vs ≡ vs
constant_clear env first form x r h vs = λ i. fault_if (not (is_some (constant_here env form x r h i))) first 34 (used_clear env form x r (h.kind) first vs i)

-- ---- the cases of a section

module _ (env : Env) where
  -- each is read
  abbrev pub CasesRead : ℕ → List ExpressionTree → Type 0
  CasesRead at [] = Unit {0}
  CasesRead at (x ∷ xs) = Reads env (conditional_form (at + 1) (conditional_of x)) x × IsConstantValue x ×
      CasesRead (conditional_end (at + 1) (conditional_of x) + 1) xs

  pub constants_are : (xs : List ExpressionTree) (at : ℕ) → CasesRead at xs → (ctx : _) → case_constants ctx env at xs ≡ map expression_in xs
  constants_are [] at h ctx = refl
  constants_are (x ∷ xs) at h ctx =
      let y = conditional_end (at + 1) (conditional_of x) + 1 in
      λ i. ap constant_or_placeholder (constant_here env (conditional_form (at + 1) (conditional_of x)) x (h.0) (h.1)) i ∷ constants_are xs y (h.2) ctx i

  -- no violation but in a place outside of a switch
  pub cases_clear : (xs : List ExpressionTree) (at : ℕ) (default : Bool) → CasesRead at xs → (vs : Faults) →
      labels_faults env true (section_list at xs default []) vs ≡ vs
  cases_clear [] at false h vs = refl
  cases_clear [] at true h vs = refl
  cases_clear (x ∷ xs) at default h vs =
      let y = conditional_end (at + 1) (conditional_of x) + 1 in
      let form = conditional_form (at + 1) (conditional_of x) in
      ap (λ l. labels_faults env true (section_list y xs default []) l)
      (constant_clear env (at + 1) form x (h.0) (h.1) vs)
      ∙ cases_clear xs y default (h.2) vs

  -- their entries
  abbrev pub default_entry : ℕ → Bool → List Entry
  default_entry at false = []
  default_entry at true = Other at ∷ []

  abbrev pub section_entries : ℕ → List ExpressionTree → Bool → List Entry
  section_entries at [] default = default_entry at default
  section_entries at (x ∷ xs) default = Value at (worth x) ∷ section_entries (conditional_end (at + 1) (conditional_of x) + 1) xs default

  nothing_behind : (xs : List Entry) → xs ≡ xs ++ []
  nothing_behind [] = refl
  nothing_behind (x ∷ xs) = ap (λ l. x ∷ l) (nothing_behind xs)

  pub entries_are : (xs : List ExpressionTree) (at : ℕ) (default : Bool) (found : List Entry) → CasesRead at xs →
      label_entries env (section_list at xs default []) found ≡ found ++ section_entries at xs default
  entries_are [] at false found h = nothing_behind found
  entries_are [] at true found h = refl
  entries_are (x ∷ xs) at default found h =
      let y = conditional_end (at + 1) (conditional_of x) + 1 in
      let form = conditional_form (at + 1) (conditional_of x) in
      ap (label_entries env (section_list y xs default [])) (λ i. case_entry at (constant_here env form x (h.0) (h.1) i) found)
      ∙ entries_are xs y default (found ++ Value at (worth x) ∷ []) (h.2) ∙ append_assoc found (Value at (worth x) ∷ []) (section_entries y xs default)

-- ---- entries and labels

abbrev pub Match : List (Option ExpressionTree) → List Entry → Type 0
Match [] [] = Unit {0}
Match (Some x ∷ ls) (Value at v ∷ es) = (constant_value x ≡ Some v) × Match ls es
Match (None ∷ ls) (Other at ∷ es) = Match ls es
Match _ _ = ⊥

pub match_both : (ls ms : List (Option ExpressionTree)) (es fs : List Entry) → Match ls es → Match ms fs → Match (ls ++ ms) (es ++ fs)
match_both [] ms [] fs h k = k
match_both (Some x ∷ ls) ms (Value at v ∷ es) fs h k = (h.0, match_both ls ms es fs (h.1) k)
match_both (None ∷ ls) ms (Other at ∷ es) fs h k = match_both ls ms es fs h k
match_both [] ms (e ∷ es) fs h k = absurd h
match_both (Some x ∷ ls) ms [] fs h k = absurd h
match_both (Some x ∷ ls) ms (Other at ∷ es) fs h k = absurd h
match_both (None ∷ ls) ms [] fs h k = absurd h
match_both (None ∷ ls) ms (Value at v ∷ es) fs h k = absurd h

pub section_match : (env : Env) (xs : List ExpressionTree) (at : ℕ) (default : Bool) → CasesRead env at xs →
    Match (section_labels xs default) (section_entries env at xs default)
section_match env [] at false h = tt
section_match env [] at true h = tt
section_match env (x ∷ xs) at default h = (worth_is x (h.1.untrapped), section_match env xs (conditional_end (at + 1) (conditional_of x) + 1) default (h.2))

-- ---- distinct numbers

apart : (u v : ℤ) → (u ≡ v → ⊥) → eq_by_cmp int_cmp u v ≡ false
apart u v h = by_order _ _ (int_cmp u v) (int_ranks u v)
  where
    by_order : (A C : Type 0) (o : Ordering) → MatchOrdering o A (u ≡ v) C → is_eq o ≡ false
    by_order A C Less m = refl
    by_order A C Equal m = absurd (h m)
    by_order A C Greater m = refl

not_among : (u v : ℤ) (seen : List ℤ) → (u ≡ v → ⊥) → is_among u seen ≡ false → is_among u (with_value v seen) ≡ false
not_among u v [] h k = or_from (eq_by_cmp int_cmp u v) false (apart u v h) refl
not_among u v (x ∷ seen) h k =
    by_order (int_cmp v x) (not_among u v seen h ((or_parts (eq_by_cmp int_cmp u x) (is_among u seen) k).1))
  where
    by_order : (o : Ordering) → is_among u (with_value v seen) ≡ false → is_among u (match_ordering o (v ∷ x ∷ seen) (x ∷ seen) (x ∷ with_value v seen)) ≡ false
    by_order Less later = or_from (eq_by_cmp int_cmp u v) (is_among u (x ∷ seen)) (apart u v h) k
    by_order Equal later = k
    by_order Greater later = or_from (eq_by_cmp int_cmp u x) (is_among u (with_value v seen)) ((or_parts (eq_by_cmp int_cmp u x) (is_among u seen) k).0) later

module _ (kind : IntKind) where
  abbrev NotSeen : List ℤ → Option ℤ → Type 0
  NotSeen seen None = Unit {0}
  NotSeen seen (Some u) = is_among u seen ≡ false

  still_unseen : (seen : List ℤ) (u : ℤ) (o : Option ℤ) → (o ≡ Some u → ⊥) → NotSeen seen o → NotSeen (with_value u seen) o
  still_unseen seen u None h k = tt
  still_unseen seen u (Some v) h k = not_among v u seen (λ e. h (ap Some e)) k

  unseen : (seen : List ℤ) (u : ℤ) (os : List (Option ℤ)) → Each (λ o. o ≢ Some u) os → Each (NotSeen seen) os → Each (NotSeen (with_value u seen)) os
  unseen seen u [] h k = tt
  unseen seen u (o ∷ os) h k = (still_unseen seen u o (h.0) (k.0), unseen seen u os (h.1) (k.1))

  one_default : (default : Bool) (n : ℕ) → (default ≡ true → suc n ≡ 0) → default ≡ false
  one_default false n h = refl
  one_default true n h = let e = h refl in absurd (omega (arith, e))

  fine : (ls : List (Option ExpressionTree)) (es : List Entry) (seen : List ℤ) (default : Bool) (vs : Faults) → Match ls es →
      AllDiffer (map (case_number kind) (cases_among ls)) → Each (NotSeen seen) (map (case_number kind) (cases_among ls))
      → (default ≡ true → defaults_among ls ≡ 0) → defaults_among ls ≤ 1 → entry_faults kind seen default es vs ≡ vs
  fine [] [] seen default vs m d n o p = refl
  fine (Some x ∷ ls) (Value at v ∷ es) seen default vs m d n o p =
      let u = converted kind v in
      let e : case_number kind x ≡ Some u = ap (option_map (converted kind)) (m.0) in
      let here : is_among u seen ≡ false = subst (NotSeen seen) e (n.0) in
      let later = unseen seen u (map (case_number kind) (cases_among ls))
      (subst (λ q. Each (λ o. o ≢ q) (map (case_number kind) (cases_among ls))) e (d.0)) (n.1) in
      ap (λ b. entry_faults kind (with_value u seen) default es (fault_if b at 30 vs)) here ∙ fine ls es (with_value u seen) default vs (m.1) (d.1) later o p
  fine (None ∷ ls) (Other at ∷ es) seen default vs m d n o p =
      let e : default ≡ false = one_default default (defaults_among ls) o in
      ap (λ b. entry_faults kind seen true es (fault_if b at 31 vs)) e ∙ fine ls es seen true vs m d n (λ q. omega (arith, p)) (omega (arith, p))
  fine [] (e ∷ es) seen default vs m d n o p = absurd m
  fine (Some x ∷ ls) [] seen default vs m d n o p = absurd m
  fine (Some x ∷ ls) (Other at ∷ es) seen default vs m d n o p = absurd m
  fine (None ∷ ls) [] seen default vs m d n o p = absurd m
  fine (None ∷ ls) (Value at v ∷ es) seen default vs m d n o p = absurd m

  none_seen : (os : List (Option ℤ)) → Each (NotSeen []) os
  none_seen [] = tt
  none_seen (None ∷ os) = (tt, none_seen os)
  none_seen (Some u ∷ os) = (refl, none_seen os)

  -- no violation among the entries of a switch
  pub entries_clear : (ls : List (Option ExpressionTree)) (es : List Entry) → Match ls es → AreLabels kind ls → (vs : Faults) →
      entry_faults kind [] false es vs ≡ vs
  entries_clear ls es m h vs = fine ls es [] false vs m (h.distinct) (none_seen (map (case_number kind) (cases_among ls))) (λ e. cc) (h.single)
