-- Numbers that differ, and the labels among sections of the tree.
use Rattle.std.proofs.Common.{ℕ, Bool, true, false, not, cond, ◌&&◌, ◌||◌, List, [], ◌∷◌, ◌++◌, append_assoc, map, append_assoc, true≢false, arith, ◌≡◌, refl, sym, ap, ◌∙◌}
use Rattle.std.specs.Prelude.{ℤ, ◌+◌, ◌≤◌}
use Rattle.c_tree.specs.ExpressionTrees.{ExpressionTree}
use Rattle.c_tree.specs.Trees.{Forest, SectionTree, Nil, sections}
use Rattle.c_tree.specs.Trees as tree
use Rattle.c_tree.proofs.KeptLemmas.{at_most_one}
use Rattle.c_types.specs.declared.kinds.IntKind.{IntKind}
use Rattle.c_kinds.specs.Scopes.{fault_if}
use Rattle.c_resolved_defs.specs.Form.{ends_with_break}
use Rattle.c_resolved_defs.specs.Within.{Each}
use Rattle.c_resolving_laws.proofs.Lists.{clean_if, each_map}
use Rattle.c_resolving_laws.proofs.Parts.{parted}
use Rattle.c_resolving_laws.proofs.SectionTrees.{later_break, section_of, ended_tree, has_entry, without_end, passes, with_entries, passed_trees}
use Rattle.c_statements.specs.declared.entries.Entry.{Entry}
use Rattle.c_statements.specs.declared.entries.Entry.TheVariants.{Value, Other}
use Rattle.c_resolved_defs.specs.Switches.{arrivals, arrivals_of, section_labels, switch_labels, cases_among, defaults_among}
use Rattle.std.specs.Prelude.{◌<ℤ◌, ◌≢◌}
use Rattle.std.specs.Cmp.{int_ranks}
use Rattle.std.specs.declared.cmp.Ordering.{Ordering}
use Rattle.std.specs.declared.cmp.Ordering.TheVariants.{Less, Equal, Greater}
use Rattle.std.specs.Ordering.{int_cmp, is_eq, match_ordering, MatchOrdering}
use Rattle.std.proofs.lemmas.Int.{ints}
use Rattle.c_types.specs.Numbers.{converted}
use Rattle.c_statements.specs.Cases.{is_among, with_value, entry_faults}
use Rattle.c_resolved_defs.specs.Within.{AllDiffer}
use Rattle.c_resolving_laws.proofs.Empty.{entries_empty}
use Rattle.c_resolving_laws.proofs.Lists.{each_map, or_left, or_right}
use Rattle.c_resolving_laws.proofs.Entries.{vals, others, cases-append, defaults-append, own_cases, own_defaults}

-- ---- numbers that differ

pub not_itself : (q : ℤ) → is_eq (int_cmp q q) ≡ false → ⊥
not_itself q e = by (int_cmp q q) (int_ranks q q) e
  where
    by : (o : Ordering) → MatchOrdering o (q <ℤ q) (q ≡ q) (q <ℤ q) → is_eq o ≡ false → ⊥
    by Less m e = grind (arith, ints)
    by Equal m e = true≢false e
    by Greater m e = grind (arith, ints)

pub differs : (q v : ℤ) → is_eq (int_cmp q v) ≡ false → q ≢ v
differs q v e s = not_itself q (ap (λ w. is_eq (int_cmp q w)) s ∙ e)

pub equal_is : (v x : ℤ) (o : Ordering) → MatchOrdering o (v <ℤ x) (v ≡ x) (x <ℤ v) → o ≡ Equal → v ≡ x
equal_is v x Equal m e = m
equal_is v x _ m e = absurd (true≢false (sym (ap is_eq e)))

-- a number that is not among these and one more
pub apart : (q v : ℤ) (seen : List ℤ) → is_among q (with_value v seen) ≡ false → (is_among q seen ≡ false) × (q ≢ v)
apart q v [] e = (refl, differs q v (or_left (is_eq (int_cmp q v)) false e))
apart q v (x ∷ xs) e = by (int_cmp v x) refl e (apart q v xs)
  where
    by : (o : Ordering) → int_cmp v x ≡ o → is_among q (match_ordering o (v ∷ x ∷ xs) (x ∷ xs) (x ∷ with_value v xs)) ≡ false →
        (is_among q (with_value v xs) ≡ false → (is_among q xs ≡ false) × (q ≢ v)) → (is_among q (x ∷ xs) ≡ false) × (q ≢ v)
    by Less i e r = (or_right (is_eq (int_cmp q v)) (is_among q (x ∷ xs)) e, differs q v (or_left (is_eq (int_cmp q v)) (is_among q (x ∷ xs)) e))
    by Equal i e r = (e, λ s. differs q x (or_left (is_eq (int_cmp q x)) (is_among q xs) e) (s ∙ equal_is v x (int_cmp v x) (int_ranks v x) i))
    by Greater i e r =
        let p = r (or_right (is_eq (int_cmp q x)) (is_among q (with_value v xs)) e) in
        (neither (is_eq (int_cmp q x)) (is_among q xs) (or_left (is_eq (int_cmp q x)) (is_among q (with_value v xs)) e) p.0, p.1)
      where
        neither : (a b : Bool) → a ≡ false → b ≡ false → (a || b) ≡ false
        neither true b e f = absurd (true≢false e)
        neither false b e f = f

-- 1 for a default
abbrev pub flag : Bool → ℕ
flag b = cond b 1 0

-- what entries without a violation are
pub record Compared (K : IntKind) (seen : List ℤ) (default : Bool) (es : List Entry) : Type 0 where
  pub single : others es + cond default 1 0 ≤ 1
  pub new : Each (λ n. is_among n seen ≡ false) (map (converted K) (vals es))
  pub differ : AllDiffer (map (converted K) (vals es))

pub compared : (K : IntKind) (seen : List ℤ) (default : Bool) (es : List Entry) → entry_faults K seen default es [] ≡ [] → Compared K seen default es
compared K seen default [] e = record { single = let h = at_most_one default in omega arith; new = tt; differ = tt }
compared K seen default (Value at v ∷ es) e =
    let n = converted K v in
    let p = parted (entry_faults K (with_value n seen) default es) (fault_if (is_among n seen) at 30) (entries_empty K (with_value n seen) default es) e in
    let c = clean_if (is_among n seen) at 30 [] p.0 in
    let r = compared K (with_value n seen) default es p.1 in
    record {
      single = r.single;
      new = (
        c.1,
        each_map (λ q. is_among q (with_value n seen) ≡ false) (λ q. is_among q seen ≡ false) (λ q h. (apart q n seen h).0)
            (map (converted K) (vals es)) r.new,
      );
      differ = (
        each_map (λ q. is_among q (with_value n seen) ≡ false) (λ q. q ≢ n) (λ q h. (apart q n seen h).1) (map (converted K) (vals es)) r.new,
        r.differ,
      );
    }
compared K seen default (Other at ∷ es) e =
    let p = parted (entry_faults K seen true es) (fault_if default at 31) (entries_empty K seen true es) e in
    let c = clean_if default at 31 [] p.0 in
    let r = compared K seen true es p.1 in
    record { single = let h = r.single in let i : flag default ≡ 0 = ap flag c.1 in omega arith; new = r.new; differ = r.differ }

-- ---- sections of the tree

abbrev pub CS : List SectionTree → List ExpressionTree
CS ts = cases_among (switch_labels (sections ts))

abbrev pub DS : List SectionTree → ℕ
DS ts = defaults_among (switch_labels (sections ts))

abbrev pub CL : Forest → List ExpressionTree
CL a = cases_among (arrivals a)

abbrev pub DL : Forest → ℕ
DL a = defaults_among (arrivals a)

pub cs_cons : (s : SectionTree) (ts : List SectionTree) → CS (s ∷ ts) ≡ s.cases ++ (CL s.list ++ CS ts)
cs_cons s ts =
    cases-append (section_labels s.cases s.default) (arrivals s.list ++ switch_labels (sections ts))
    ∙ (λ i. own_cases s.cases s.default i ++ cases-append (arrivals s.list) (switch_labels (sections ts)) i)

pub ds_cons : (s : SectionTree) (ts : List SectionTree) → DS (s ∷ ts) ≡ cond s.default 1 0 + (DL s.list + DS ts)
ds_cons s ts =
    defaults-append (section_labels s.cases s.default) (arrivals s.list ++ switch_labels (sections ts))
    ∙ (λ i. own_defaults s.cases s.default i + defaults-append (arrivals s.list) (switch_labels (sections ts)) i)

pub either_default : (a b : Bool) → cond (a || b) 1 0 ≤ cond a 1 0 + cond b 1 0
either_default true true = omega arith
either_default true false = omega arith
either_default false true = omega arith
either_default false false = omega arith

-- what sections have, behind these cases and a default
pub record Passes (cs : List ExpressionTree) (d : Bool) (old new : List SectionTree) : Type 0 where
  pub cases : CS new ≡ cs ++ CS old
  pub defaults : DS new ≤ cond d 1 0 + DS old

pub front_section : (cs : List ExpressionTree) (d : Bool) (s : SectionTree) (ts more : List SectionTree) → CS more ≡ CS ts → DS more ≤ DS ts →
    Passes cs d (s ∷ ts) (with_entries cs d s ∷ more)
front_section cs d s ts more e l = record {
  cases = cs_cons (with_entries cs d s) more ∙ (ap (λ x. (cs ++ s.cases) ++ (CL s.list ++ x)) e ∙
      (append_assoc cs s.cases (CL s.list ++ CS ts) ∙ ap (λ x. cs ++ x) (sym (cs_cons s ts))));
  defaults = let a = ds_cons (with_entries cs d s) more in let b = ds_cons s ts in let c = either_default d s.default in omega arith;
}

pub empty_section : (cs : List ExpressionTree) (d : Bool) (s : SectionTree) (ts new : List SectionTree) → passes s ≡ true →
    Passes (cs ++ s.cases) (d || s.default) ts new → Passes cs d (s ∷ ts) new
empty_section cs d s ts new e p = record {
  cases = p.cases ∙ (append_assoc cs s.cases (CS ts) ∙ ap (λ x. cs ++ x)
      (sym (cs_cons s ts ∙ ap (λ x. s.cases ++ (x ++ CS ts)) (ap cases_among (none s.list s.ends e)))));
  defaults = let a = ds_cons s ts in let b = ap defaults_among (none s.list s.ends e) in let c = either_default d s.default in let h = p.defaults in
      omega arith;
}
  where
    none : (a : Forest) (ends : Bool) → ◌≡◌ {A = Bool} (elim a [ Nil ↦ not ends | tree.Then x xs ↦ false ]) true → arrivals a ≡ []
    none Nil ends e = refl
    none (tree.Then x a) ends e = absurd (true≢false (sym e))

pub passed_by : (cs : List ExpressionTree) (d : Bool) (s : SectionTree) (ts : List SectionTree) (b : Bool) → passes s ≡ b →
    ((es : List ExpressionTree) (e : Bool) → Passes es e ts (passed_trees es e ts))
    → Passes cs d (s ∷ ts) (elim b [ true ↦ passed_trees (cs ++ s.cases) (d || s.default) ts | false ↦ with_entries cs d s ∷ passed_trees [] false ts ])
passed_by cs d s ts true e f = empty_section cs d s ts (passed_trees (cs ++ s.cases) (d || s.default) ts) e (f (cs ++ s.cases) (d || s.default))
passed_by cs d s ts false e f = let r = f [] false in front_section cs d s ts (passed_trees [] false ts) r.cases (let h = r.defaults in omega arith)

pub passed_labels : (cs : List ExpressionTree) (d : Bool) (s : SectionTree) (ts : List SectionTree) → Passes cs d (s ∷ ts) (passed_trees cs d (s ∷ ts))
passed_labels cs d s [] = front_section cs d s [] [] refl (omega arith)
passed_labels cs d s (t ∷ ts) = passed_by cs d s (t ∷ ts) (passes s) refl (λ es e. passed_labels es e t ts)

pub cut_arrivals : (a : Forest) → ends_with_break a ≡ true → arrivals (without_end a) ≡ arrivals a
cut_arrivals Nil e = refl
cut_arrivals (tree.Then tree.Break Nil) e = refl
cut_arrivals (tree.Then x (tree.Then y a)) e = ap (λ l. arrivals_of x ++ l) (cut_arrivals (tree.Then y a) (sym (later_break x y a) ∙ e))
cut_arrivals (tree.Then x Nil) e = absurd (true≢false (sym e))

-- a section that is finished
pub record Finished (cs : List ExpressionTree) (d : Bool) (a : Forest) (s : SectionTree) : Type 0 where
  pub cases : s.cases ≡ cs
  pub default : s.default ≡ d
  pub list : arrivals s.list ≡ arrivals a

pub finished : (cs : List ExpressionTree) (d : Bool) (a : Forest) → Finished cs d a (ended_tree cs d a)
finished cs d a = by (has_entry cs d) (ends_with_break a) refl
  where
    by : (b e : Bool) → ends_with_break a ≡ e → Finished cs d a (cond (b && e) (section_of cs d (without_end a) true) (section_of cs d a false))
    by true true e = record { cases = refl; default = refl; list = cut_arrivals a e }
    by true false e = record { cases = refl; default = refl; list = refl }
    by false f e = record { cases = refl; default = refl; list = refl }
