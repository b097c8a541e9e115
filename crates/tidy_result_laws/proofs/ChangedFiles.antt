-- A file after changes of its functions.
use Rattle.std.proofs.Common.{◌≡◌, ℕ, zero, suc, List, [], ◌∷◌, ◌⊎◌, inl, inr, refl, sym, subst}
use Rattle.c_tree.specs.declared.tree.Function.{Function}
use Rattle.c_tree.specs.declared.tree.Top.{Top}
use Rattle.c_tree.specs.declared.tree.Top.TheVariants as T
use Rattle.c_resolved_defs.specs.Scopes.{at_start}
use Rattle.c_resolved_defs.specs.Within.{Each}
use Rattle.tidy_laws.specs.Ends.{IsChangedFirst, AreChangedFirst, AreChangedTimes}
use Rattle.whole_laws.proofs.SameFile.{SameFile, declarations_over, main_over}
use Rattle.whole_laws.proofs.SameTops.{self_declared}
use Rattle.tidy_result_laws.proofs.FileScopes.{below_start}
use Rattle.tidy_result_laws.proofs.Loose.{IsLoose, TopIsLoose, IsLooseFile}
use Rattle.tidy_result_laws.proofs.ChangedFunctions.{changed_declared, loose_kept, items_spelled, depth_kept, items_bound}
use Rattle.tidy_result_laws.proofs.Files.{Over, o_none, o_function, o_other, over_same, KeepsBound, tops_bound, KeepsSpelling, tops_spelled, loose_over, other_over}

-- a function as it was, or after its first change
abbrev pub IsStep : Function → Function → Type 0
IsStep f h = (h ≡ f) ⊎ IsChangedFirst f h

over_self : (ts : List Top) → Over IsStep ts ts
over_self [] = o_none
over_self (T.Function f ∷ ts) = o_function (self_declared f) (inl refl) (over_self ts)
over_self (T.Include b ∷ ts) = o_other (T.Include b) tt (over_self ts)
over_self (T.Enum xs ∷ ts) = o_other (T.Enum xs) tt (over_self ts)
over_self (T.Global g ∷ ts) = o_other (T.Global g) tt (over_self ts)
over_self (T.Note b ∷ ts) = o_other (T.Note b) tt (over_self ts)

module _ (all : List Top) where
  pub first_over : (ts us : List Top) → Each (TopIsLoose all) ts → AreChangedFirst ts us → Over IsStep ts us
  first_over (T.Function f ∷ ts) (T.Function h ∷ us) l (inl c) = o_function (changed_declared all f h c.0 l.0) (inr c.0)
      (subst (Over IsStep ts) (sym c.1) (over_self ts))
  first_over (T.Function f ∷ ts) (T.Include b ∷ us) l (inl c) = absurd c.0
  first_over (T.Function f ∷ ts) (T.Enum xs ∷ us) l (inl c) = absurd c.0
  first_over (T.Function f ∷ ts) (T.Global g ∷ us) l (inl c) = absurd c.0
  first_over (T.Function f ∷ ts) (T.Note b ∷ us) l (inl c) = absurd c.0
  first_over (T.Function f ∷ ts) (y ∷ us) l (inr c) = subst (λ z. Over IsStep (T.Function f ∷ ts) (z ∷ us)) (sym c.1)
      (o_function (self_declared f) (inl refl) (first_over ts us l.1 c.2))
  first_over (T.Include b ∷ ts) (y ∷ us) l (inl c) = absurd c.0
  first_over (T.Enum xs ∷ ts) (y ∷ us) l (inl c) = absurd c.0
  first_over (T.Global g ∷ ts) (y ∷ us) l (inl c) = absurd c.0
  first_over (T.Note b ∷ ts) (y ∷ us) l (inl c) = absurd c.0
  first_over (T.Include b ∷ ts) (y ∷ us) l (inr c) = subst (λ z. Over IsStep (T.Include b ∷ ts) (z ∷ us)) (sym c.1)
      (o_other (T.Include b) tt (first_over ts us l.1 c.2))
  first_over (T.Enum xs ∷ ts) (y ∷ us) l (inr c) = subst (λ z. Over IsStep (T.Enum xs ∷ ts) (z ∷ us)) (sym c.1)
      (o_other (T.Enum xs) tt (first_over ts us l.1 c.2))
  first_over (T.Global g ∷ ts) (y ∷ us) l (inr c) = subst (λ z. Over IsStep (T.Global g ∷ ts) (z ∷ us)) (sym c.1)
      (o_other (T.Global g) tt (first_over ts us l.1 c.2))
  first_over (T.Note b ∷ ts) (y ∷ us) l (inr c) = subst (λ z. Over IsStep (T.Note b ∷ ts) (z ∷ us)) (sym c.1) (o_other (T.Note b) tt (first_over ts us l.1 c.2))
  first_over [] us l h = absurd h
  first_over (x ∷ ts) [] l h = absurd h

  -- ---- a function

  step_bound : (f h : Function) → IsStep f h → IsLoose all f → KeepsBound f h
  step_bound f h (inl e) l = subst (KeepsBound f) (sym e) (λ ss z b. b)
  step_bound f h (inr s) l = items_bound all f h s l

  step_spelled : (f h : Function) → IsStep f h → IsLoose all f → KeepsSpelling f h
  step_spelled f h (inl e) l = subst (KeepsSpelling f) (sym e) (record { labels = l.labels; items = λ k. k; depth = λ d. d })
  step_spelled f h (inr s) l = record { labels = (loose_kept all f h s l).labels; items = items_spelled all f h s l; depth = depth_kept all f h s l }

  step_loose : (f h : Function) → IsStep f h → IsLoose all f → IsLoose all h
  step_loose f h (inl e) l = subst (IsLoose all) (sym e) l
  step_loose f h (inr s) l = loose_kept all f h s l

  step_tops : (us : List Top) (same : SameFile all us) {ts vs : List Top} → Over IsStep ts vs → Each (TopIsLoose all) ts → Each (TopIsLoose us) vs
  step_tops us same o_none l = tt
  step_tops us same (o_function {f = f} {h = h} d r o) l = (loose_over all us same h (step_loose f h r l.0), step_tops us same o l.1)
  step_tops us same (o_other t n o) l = (other_over all us same t n l.0, step_tops us same o l.1)

-- ---- files

pub loose_step : (ts us : List Top) → IsLooseFile ts → AreChangedFirst ts us → IsLooseFile us
loose_step ts us l c =
    let o = first_over ts ts us l.tops c in
    let same = over_same IsStep o in
    record {
      spelled = tops_spelled IsStep ts (step_spelled ts) o l.tops l.spelled;
      bound = tops_bound IsStep ts (step_bound ts) at_start (below_start 0) o l.tops l.bound;
      declarations = declarations_over same l.declarations;
      main = main_over same l.main;
      tops = step_tops ts us same o l.tops;
    }

pub loose_times : (n : ℕ) (ts us : List Top) → IsLooseFile ts → AreChangedTimes n ts us → IsLooseFile us
loose_times zero ts us l e = subst IsLooseFile (sym e) l
loose_times (suc n) ts us l c = loose_times n c.0 us (loose_step ts c.0 l c.1) c.2
