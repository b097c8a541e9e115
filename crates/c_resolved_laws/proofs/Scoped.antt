-- Resolved without regard to the measures of flat forms; and the scope of a function whose variables have names of their own.
use Rattle.std.proofs.Common.{ℕ, Bool, true, false, cond, List, [], ◌∷◌, Option, Some, ◌≡◌, refl, sym, ap, subst, ◌≢◌, bytes_eq}
use Rattle.std.proofs.lemmas.Slice.Eq.{bytes_eq-Decides}
use Rattle.c_tree.specs.declared.tree.Function.{Function}
use Rattle.c_tree.specs.declared.tree.Top.{Top}
use Rattle.c_tree.specs.declared.tree.Top.TheVariants as T
use Rattle.c_tree.specs.declared.tree.Program.{Program}
use Rattle.c_resolved_defs.specs.Within.{Each}
use Rattle.std.specs.Option.{option_or}
use Rattle.c_resolved_defs.specs.Scopes.{Meaning, Scope, found, bind, look_up}
use Rattle.c_resolved_defs.specs.Limits.{FlatCounts, no_counts}
use Rattle.c_resolved_defs.specs.Resolved.{IsResolvedFunction, IsResolvedTop, IsResolvedWith}

-- ---- without the measures of flat forms

function_uncounted : (counts : FlatCounts) (ts : List Top) (f : Function) → IsResolvedFunction counts ts f → IsResolvedFunction no_counts ts f
function_uncounted counts ts f r = record {
  form = r.form;
  kinds = r.kinds;
  returns = r.returns;
  cases = r.cases;
  consts = r.consts;
  lengths = r.lengths;
  initialised = r.initialised;
  untangled = tt;
}

tops_uncounted : (counts : FlatCounts) (all ts : List Top) → Each (IsResolvedTop counts all) ts → Each (IsResolvedTop no_counts all) ts
tops_uncounted counts all [] h = tt
tops_uncounted counts all (T.Function f ∷ ts) h = (function_uncounted counts all f h.0, tops_uncounted counts all ts h.1)
tops_uncounted counts all (T.Include bytes ∷ ts) h = (tt, tops_uncounted counts all ts h.1)
tops_uncounted counts all (T.Enum xs ∷ ts) h = (h.0, tops_uncounted counts all ts h.1)
tops_uncounted counts all (T.Global g ∷ ts) h = (h.0, tops_uncounted counts all ts h.1)
tops_uncounted counts all (T.Note bytes ∷ ts) h = (tt, tops_uncounted counts all ts h.1)

pub resolved_uncounted : (counts : FlatCounts) (p : Program) → IsResolvedWith counts p → IsResolvedWith no_counts p
resolved_uncounted counts p r = record {
  spelled = r.spelled;
  bound = r.bound;
  declarations = r.declarations;
  main = r.main;
  tops = tops_uncounted counts p.tops p.tops r.tops;
}

-- ---- names that are bound in a scope

pub same_name : (m : List ℕ) → bytes_eq m m ≡ true
same_name m = (bytes_eq-Decides m m).1 refl

pub other_name : (m n : List ℕ) → m ≢ n → bytes_eq m n ≡ false
other_name m n h = refuted (bytes_eq m n) (λ e. h ((bytes_eq-Decides m n).0 e))
  where
    refuted : (b : Bool) → (b ≡ true → ⊥) → b ≡ false
    refuted true f = absurd (f refl)
    refuted false f = refl

-- a name that was just bound is found
pub bound_is_found : (m : List ℕ) (b : Meaning) (s : Scope) (ss : List Scope) → look_up (bind m b (s ∷ ss)) m ≡ Some b
bound_is_found m b s ss = subst (λ t. look_up_after t ≡ Some b) (sym (same_name m)) refl
  where
    look_up_after : Bool → Option Meaning
    look_up_after t = option_or (cond t (Some b) (found m s)) (look_up ss m)

-- and every other name is what it was
pub others_stay : (m n : List ℕ) (b : Meaning) (s : Scope) (ss : List Scope) → n ≢ m → look_up (bind m b (s ∷ ss)) n ≡ look_up (s ∷ ss) n
others_stay m n b s ss h = ap (λ t. option_or (cond t (Some b) (found n s)) (look_up ss n)) (other_name n m h)
