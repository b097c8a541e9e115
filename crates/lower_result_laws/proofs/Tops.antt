-- What a resolved program is lowered to behaves as it does.
use Rattle.std.proofs.Common.{◌≡◌, ℕ, List, Option, Some, None, refl, sym, ap, subst}
use Rattle.c_copies.specs.Names.{names, file_names}
use Rattle.c_tree.specs.declared.tree.Item.{Item}
use Rattle.c_tree.specs.declared.tree.Function.{Function}
use Rattle.c_tree.specs.declared.tree.Top.{Top}
use Rattle.c_tree.specs.declared.tree.Top.TheVariants as T
use Rattle.c_tree.specs.declared.tree.Program.{Program}
use Rattle.jump_meaning.specs.Runs.{BehaveTheSame}
use Rattle.flat_names.specs.FlatNames.{with_known}
use Rattle.lower_laws.specs.Functions.{IsLowered}
use Rattle.lower_laws.specs.Rewritten.{RewrittenTop, rt_same, rt_by, RewrittenTops, rs_none, rs_more}
use Rattle.lower_laws.proofs.LoweredPrograms.{lowered_laws}
use Rattle.c_resolved_defs.specs.Limits.{FlatCounts}
use Rattle.c_resolved_defs.specs.Resolved.{IsResolvedFunction, IsResolvedTop, IsResolvedWith}
use Rattle.c_resolved_defs.specs.Within.{Each}
use Rattle.c_resolved_laws.proofs.Ranged.{resolved_ranged, resolved_unflat}
use Rattle.lower_laws.specs.Lowering.{IsBodyLowered, IsLoweredBeside, IsLoweredFunction, IsTopLowered, LoweredTops, lt_none, lt_more, IsLoweredProgram}
use Rattle.lower_result_laws.proofs.Lowered.{is_lowered}

-- ---- by the body of a function

module _ (used taken : List (List ℕ)) (f h : Function) where
  abbrev Lowers : Option (List Item) → Type 0
  Lowers o = elim o [ None ↦ h ≡ f | Some body ↦ IsBodyLowered used taken f body h ]

  by_body : (X : Type 0) → (f.body ≡ None → h ≡ f → X) → ((body : List Item) → f.body ≡ Some body → IsBodyLowered used taken f body h → X) →
      (o : Option (List Item)) → f.body ≡ o → Lowers o → X
  by_body X none some None e w = none e w
  by_body X none some (Some body) e w = some body e w

  -- a prototype stays; a function with a body is lowered
  pub either : (X : Type 0) → (f.body ≡ None → h ≡ f → X) → ((body : List Item) → f.body ≡ Some body → IsBodyLowered used taken f body h → X) →
      IsLoweredBeside used taken f h → X
  either X none some w = by_body X none some f.body refl w

-- ---- functions

module _ (counts : FlatCounts) (ts : List Top) (names file : List (List ℕ)) where
  function_rewritten : (f h : Function) → IsResolvedFunction counts ts f → IsLoweredFunction names file f h →
      RewrittenTop IsLowered (T.Function f) (T.Function h)
  function_rewritten f h r w =
      either (with_known names) (with_known file) f h (RewrittenTop IsLowered (T.Function f) (T.Function h)) (λ e i. rt_same (ap T.Function (sym i)))
      (λ body e i. subst (λ k. RewrittenTop IsLowered (T.Function f) (T.Function k)) (sym i.whole)
      (rt_by refl (is_lowered counts ts f r (with_known names) (with_known file) body e i.new i.trees))) w

  top_rewritten : (t u : Top) → IsResolvedTop counts ts t → IsTopLowered names file t u → RewrittenTop IsLowered t u
  top_rewritten (T.Function f) (T.Function h) r w = function_rewritten f h r w.0
  top_rewritten (T.Include bytes) u r w = rt_same (sym w)
  top_rewritten (T.Enum xs) u r w = rt_same (sym w)
  top_rewritten (T.Global g) u r w = rt_same (sym w)
  top_rewritten (T.Note bytes) u r w = rt_same (sym w)
  top_rewritten (T.Function f) _ r w = absurd w

  tops_rewritten : {us vs : List Top} → Each (IsResolvedTop counts ts) us → LoweredTops names file us vs → RewrittenTops IsLowered us vs
  tops_rewritten r lt_none = rs_none
  tops_rewritten r (lt_more {t = t} {u = u} w ws) = rs_more (top_rewritten t u r.0 w) (tops_rewritten r.1 ws)

pub rewritten : (counts : FlatCounts) (p q : Program) → IsResolvedWith counts p → IsLoweredProgram p q → RewrittenTops IsLowered p.tops q.tops
rewritten counts p q r w = tops_rewritten counts p.tops (names p) (file_names p) r.tops w.tops

pub behaves : (counts : FlatCounts) (p q : Program) → IsResolvedWith counts p → IsLoweredProgram p q → BehaveTheSame p q
behaves counts p q r w = lowered_laws.programs p q (resolved_ranged counts p r) (resolved_unflat counts p r) (rewritten counts p q r w)
