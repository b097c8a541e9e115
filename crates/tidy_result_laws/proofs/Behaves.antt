-- A file behaves as it does after its changes, and once its sections have their plain form.
use mathlib.Core.Path.{ap₂}
use Rattle.std.proofs.Common.{ℕ, zero, suc, ◌+◌, Bool, true, cond, ◌&&◌, List, [], ◌∷◌, length, Option, Some, None, option_map, bytes_eq, inl, inr, ◌≡◌, refl, sym, ap, ◌∙◌, subst, arith}
use Rattle.std.specs.Prelude.{is_some, Contains}
use Rattle.std.specs.Option.{option_map_or}
use Rattle.std.proofs.lemmas.List.Elements.{All-from_recursion}
use Rattle.c_tree.specs.declared.tree.Function.{Function}
use Rattle.c_tree.specs.declared.tree.Item.{Item}
use Rattle.c_tree.specs.declared.tree.Program.{Program}
use Rattle.c_tree.specs.declared.tree.Top.{Top}
use Rattle.c_tree.specs.declared.tree.Top.TheVariants as T
use Rattle.c_tree.specs.Trees.{Nil, trees_of}
use Rattle.c_tree.specs.Everywhere.{Everywhere}
use Rattle.c_tree.specs.InRange.{body_of}
use Rattle.jump_meaning.specs.Code.{FunctionTree, Code, function_tree, undeclared, function_in, first_of, cell_count, initial_variable, global_named, global_cells, code_of}
use Rattle.jump_meaning.proofs.Covering.{same_runs_refl, same_runs_trans}
use Rattle.struct_meaning.specs.Runs.{structural_run, IsCodeStructured}
use Rattle.struct_meaning.specs.Structured.{IsStructured, IsTopStructured}
use Rattle.struct_meaning.proofs.Programs.{code_structured}
use Rattle.plain_laws.specs.Tidied.{tidy, tidy_function, tidy_code}
use Rattle.plain_laws.proofs.TidyTrees.{tidied_trees}
use Rattle.plain_laws.proofs.PlainLookup.{map_choice}
use Rattle.whole_laws.specs.Rewritten.{IsNoFunction}
use Rattle.c_resolved_defs.specs.Within.{Each}
use Rattle.tidy_laws.specs.Changes.{changes_of}
use Rattle.tidy_laws.proofs.Reach.{fewer as slots_fewer, first_among}
use Rattle.tidy_laws.specs.TidyBehaviourLaws.{IsChanged, IsChangedTop, AreChangedTops, BehaveAlike}
use Rattle.tidy_laws.proofs.TheLaws.{tidy_law}
use Rattle.tidy_laws.specs.Ends.{IsChangedFirst, AreChangedFirst, AreChangedTimes, variables_in, variables}
use Rattle.whole_laws.proofs.PlainTops.{IsUnmovedForm}
use Rattle.whole_laws.proofs.SameTops.{unmoved_declared, unmoved_slots, unmoved_params}
use Rattle.tidy_result_laws.proofs.Loose.{IsLoose, TopIsLoose, IsLooseFile}
use Rattle.tidy_result_laws.proofs.Files.{Over, o_none, o_function, o_other}
use Rattle.tidy_result_laws.proofs.ChangedFiles.{IsStep, first_over, loose_step}
use Rattle.tidy_result_laws.proofs.Kinded.{loose_kinds}
use Rattle.whole_laws.proofs.Unlabelled.{unlabelled_same}
use Rattle.tidy_result_laws.proofs.Sections.{IsSectioned}

abbrev file : List Top → Program
file ts = record { tops = ts }

-- ---- one behaviour and another

alike_self : (p : Code) → BehaveAlike p p
alike_self p = record {
  entries = λ m arguments. ((λ e. e), (λ e. e));
  runs = λ m arguments e input answers. same_runs_refl (structural_run p m arguments input answers);
}

pub alike_trans : (p q r : Code) → BehaveAlike p q → BehaveAlike q r → BehaveAlike p r
alike_trans p q r h k = record {
  entries = λ m arguments. ((λ e. (k.entries m arguments).0 ((h.entries m arguments).0 e)), (λ e. (h.entries m arguments).1 ((k.entries m arguments).1 e)));
  runs = λ m arguments e input answers.
      same_runs_trans (structural_run p m arguments input answers) (structural_run q m arguments input answers) (structural_run r m arguments input answers)
      (h.runs m arguments e input answers) (k.runs m arguments ((h.entries m arguments).0 e) input answers);
}

-- ---- changes

contained : (f h : Function) (s : IsChangedFirst f h) → Contains (changes_of (function_tree f)) s.first
contained f h s = subst (λ cs. Contains cs s.first) (sym s.changes) (first_among s.first s.later)

step_changed : (f h : Function) → IsStep f h → IsChanged (function_tree f) (function_tree h)
step_changed f h (inl e) = inl (ap function_tree e)
step_changed f h (inr s) = inr (s.first, contained f h s, s.tree)

steps_changed : {ts us : List Top} → Over IsStep ts us → AreChangedTops ts us
steps_changed o_none = tt
steps_changed (o_function {f = f} {h = h} d r o) = (record { name = d.name; body = d.body; tree = step_changed f h r }, steps_changed o)
steps_changed (o_other t n o) = (by_top t n, steps_changed o)
  where
    by_top : (t : Top) → IsNoFunction t → IsChangedTop t t
    by_top (T.Function f) n = absurd n
    by_top _ n = refl

pub alike_times : (n : ℕ) (ts us : List Top) → IsLooseFile ts → AreChangedTimes n ts us → BehaveAlike (code_of (file ts)) (code_of (file us))
alike_times zero ts us l e = subst (λ vs. BehaveAlike (code_of (file ts)) (code_of (file vs))) (sym e) (alike_self (code_of (file ts)))
alike_times (suc n) ts us l c =
    let vs = c.0 in
    alike_trans (code_of (file ts)) (code_of (file vs)) (code_of (file us))
    (tidy_law.changes (code_of (file ts)) (code_of (file vs)) (loose_kinds (file ts) l)
    (tidy_law.programs (file ts) (file vs) (steps_changed (first_over ts ts vs l.tops c.1))))
    (alike_times n vs us (loose_step ts vs l c.1) c.2)

-- ---- sections

loose_structured : (all ts : List Top) → Each (TopIsLoose all) ts → Each IsTopStructured ts
loose_structured all [] l = tt
loose_structured all (T.Function f ∷ ts) l = (l.0.structured, loose_structured all ts l.1)
loose_structured all (T.Include b ∷ ts) l = (tt, loose_structured all ts l.1)
loose_structured all (T.Enum xs ∷ ts) l = (tt, loose_structured all ts l.1)
loose_structured all (T.Global g ∷ ts) l = (tt, loose_structured all ts l.1)
loose_structured all (T.Note b ∷ ts) l = (tt, loose_structured all ts l.1)

unmoved_tree : (all : List Top) (f h : Function) → IsUnmovedForm f h → IsLoose all f → function_tree h ≡ tidy_function (function_tree f)
unmoved_tree all f h m l =
    let w = m.is_left in
    let is_body : body_of f ≡ trees_of w.old = ap (λ b. option_map_or trees_of b Nil) w.old_body in
    let same = unlabelled_same (trees_of w.old) (subst (Everywhere IsStructured) is_body l.structured) in
    let new : option_map trees_of h.body ≡ option_map tidy (option_map trees_of f.body) =
    ap (λ (k : Function). option_map trees_of k.body) m.plain ∙ ap Some (tidied_trees w.new ∙ ap tidy (w.trees ∙ same)) ∙
    sym (ap (λ b. option_map tidy (option_map trees_of b)) w.old_body) in
    let d = unmoved_declared f h m in
    (λ i. record { result = d.result i; params = unmoved_params f h m i; slots = unmoved_slots f h m i; body = new i })

section_tree : (all : List Top) (f h : Function) → IsSectioned f h → IsLoose all f → function_tree h ≡ tidy_function (function_tree f)
section_tree all f h (inl e) l = ap function_tree e.1 ∙ (λ i. record { result = f.result; params = f.params; slots = f.slots; body = nothing f.body e.0 i })
  where
    nothing : (o : Option (List Item)) → o ≡ None → option_map trees_of o ≡ option_map tidy (option_map trees_of o)
    nothing None e = refl
    nothing (Some xs) e = cc
section_tree all f h (inr m) l = unmoved_tree all f h m l

found : (r : Bool → Bool) (m : List ℕ) (all : List Top) {ts us : List Top} → Over IsSectioned ts us → Each (TopIsLoose all) ts →
    function_in (λ f. r (is_some f.body)) m us ≡ option_map tidy_function (function_in (λ f. r (is_some f.body)) m ts)
found r m all o_none l = refl
found r m all (o_function {f = f} {h = h} {ts = ts} {us = us} d s o) l =
    (λ i. cond (bytes_eq (d.name i) m && r (d.body i)) (Some (section_tree all f h s l.0 i)) (found r m all o l.1 i))
    ∙ sym (map_choice tidy_function (bytes_eq f.name m && r (is_some f.body)) (Some (function_tree f)) (function_in (λ f. r (is_some f.body)) m ts))
found r m all (o_other t {ts = ts} {us = us} n o) l = by_top t n (found r m all o l.1)
  where
    by_top : (t : Top) → IsNoFunction t → function_in (λ f. r (is_some f.body)) m us ≡ option_map tidy_function (function_in (λ f. r (is_some f.body)) m ts)
        → function_in (λ f. r (is_some f.body)) m (t ∷ us) ≡ option_map tidy_function (function_in (λ f. r (is_some f.body)) m (t ∷ ts))
    by_top (T.Function f) n e = absurd n
    by_top _ n e = e

first_mapped : (o q : Option FunctionTree) → first_of (option_map tidy_function o) (option_map tidy_function q) undeclared ≡ tidy_function
    (first_of o q undeclared)
first_mapped (Some f) q = refl
first_mapped None (Some f) = refl
first_mapped None None = refl

module _ (R : Function → Function → Type 0) where
  global_same : (m : List ℕ) {ts us : List Top} → Over R ts us → global_named m us ≡ global_named m ts
  global_same m o_none = refl
  global_same m (o_function d r o) = global_same m o
  global_same m (o_other t {ts = ts} {us = us} n o) = by_top t n (global_same m o)
    where
      by_top : (t : Top) → IsNoFunction t → global_named m us ≡ global_named m ts → global_named m (t ∷ us) ≡ global_named m (t ∷ ts)
      by_top (T.Function f) n e = absurd n
      by_top (T.Include b) n e = e
      by_top (T.Enum xs) n e = e
      by_top (T.Global g) n e = ap (cond (bytes_eq g.slot.name m) (initial_variable g)) e
      by_top (T.Note b) n e = e

  cells_same : {ts us : List Top} → Over R ts us → global_cells us ≡ global_cells ts
  cells_same o_none = refl
  cells_same (o_function d r o) = cells_same o
  cells_same (o_other t {ts = ts} {us = us} n o) = by_top t n (cells_same o)
    where
      by_top : (t : Top) → IsNoFunction t → global_cells us ≡ global_cells ts → global_cells (t ∷ us) ≡ global_cells (t ∷ ts)
      by_top (T.Function f) n e = absurd n
      by_top (T.Include b) n e = e
      by_top (T.Enum xs) n e = e
      by_top (T.Global g) n e = ap (λ c. cell_count g.slot + c) e
      by_top (T.Note b) n e = e

code_same : (all : List Top) {ts us : List Top} → Over IsSectioned ts us → Each (TopIsLoose all) ts → code_of (file us) ≡ tidy_code (code_of (file ts))
code_same all {ts} {us} o l = (λ i. record {
  functions = λ m. (ap₂ (λ a b. first_of a b undeclared) (found (λ b. b) m all o l) (found (λ b. true) m all o l) ∙
      first_mapped (function_in (λ f. is_some f.body) m ts) (function_in (λ f. true) m ts)) i;
  globals = λ m. global_same IsSectioned m o i;
  cells = cells_same IsSectioned o i;
})

pub alike_sections : (ts us : List Top) → IsLooseFile ts → Over IsSectioned ts us → BehaveAlike (code_of (file ts)) (code_of (file us))
alike_sections ts us l o =
    let structured : IsCodeStructured (code_of (file ts)) = code_structured (file ts) (All-from_recursion IsTopStructured ts (loose_structured ts ts l.tops)) in
    subst (BehaveAlike (code_of (file ts))) (sym (code_same ts o l.tops))
    (tidy_law.sections 0 (λ i. code_of (file ts)) (λ i b. absurd (omega (arith, b))) (λ i b. absurd (omega (arith, b))) structured)

-- ---- variables

step_fewer : (f h : Function) → IsChangedFirst f h → suc (length h.slots) ≡ length f.slots
step_fewer f h s = ap (λ (t : FunctionTree). suc (length t.slots)) s.tree ∙ slots_fewer (function_tree f) s.first (contained f h s)

first_fewer : (ts us : List Top) → AreChangedFirst ts us → suc (variables us) ≡ variables ts
first_fewer (T.Function f ∷ ts) (T.Function h ∷ us) (inl c) = let e = step_fewer f h c.0 in let k = ap variables c.1 in omega (arith, e, k)
first_fewer (T.Function f ∷ ts) (T.Include b ∷ us) (inl c) = absurd c.0
first_fewer (T.Function f ∷ ts) (T.Enum xs ∷ us) (inl c) = absurd c.0
first_fewer (T.Function f ∷ ts) (T.Global g ∷ us) (inl c) = absurd c.0
first_fewer (T.Function f ∷ ts) (T.Note b ∷ us) (inl c) = absurd c.0
first_fewer (T.Include b ∷ ts) (y ∷ us) (inl c) = absurd c.0
first_fewer (T.Enum xs ∷ ts) (y ∷ us) (inl c) = absurd c.0
first_fewer (T.Global g ∷ ts) (y ∷ us) (inl c) = absurd c.0
first_fewer (T.Note b ∷ ts) (y ∷ us) (inl c) = absurd c.0
first_fewer (x ∷ ts) (y ∷ us) (inr c) = let e = ap variables_in c.1 in let k = first_fewer ts us c.2 in omega (arith, e, k)
first_fewer [] us h = absurd h
first_fewer (x ∷ ts) [] h = absurd h

pub times_fewer : (n : ℕ) (ts us : List Top) → AreChangedTimes n ts us → n + variables us ≡ variables ts
times_fewer zero ts us e = let k = ap variables e in omega (arith, k)
times_fewer (suc n) ts us c = let e = first_fewer ts c.0 c.1 in let k = times_fewer n c.0 us c.2 in omega (arith, e, k)

section_slots : (f h : Function) → IsSectioned f h → h.slots ≡ f.slots
section_slots f h (inl e) = ap (λ (k : Function). k.slots) e.1
section_slots f h (inr m) = unmoved_slots f h m

pub sections_as_many : {ts us : List Top} → Over IsSectioned ts us → variables us ≡ variables ts
sections_as_many o_none = refl
sections_as_many (o_function {f = f} {h = h} d s o) = (λ i. length (section_slots f h s i) + sections_as_many o i)
sections_as_many (o_other t n o) = ap (λ k. variables_in t + k) (sections_as_many o)
