-- What the tops of a resolved program are flattened to are flat forms.
use Rattle.std.proofs.Common.{ℕ, List}
use Rattle.c_tree.specs.declared.tree.Top.{Top}
use Rattle.c_tree.specs.declared.tree.Program.{Program}
use Rattle.c_resolved_defs.specs.Limits.{FlatCounts}
use Rattle.c_resolved_defs.specs.Resolved.{IsResolvedTop, IsResolvedWith}
use Rattle.c_resolved_defs.specs.Within.{Each}
use Rattle.flat_names.specs.FlatNames.{with_known}
use Rattle.whole_laws.specs.Rewritten.{FlatTop, ft_other, FlatTops, ft_none, ft_more}
use Rattle.flat_function.proofs.Forms.{flattened}
use Rattle.restructure_laws.specs.Flattened.{FlattenedTop, fd_function, fd_other, FlattenedTops, fd_none, fd_more}

module _ (names file : List (List ℕ)) (counts : FlatCounts) (all : List Top) where
  flat_top : {t u : Top} → FlattenedTop names file t u → IsResolvedTop counts all t → FlatTop t u
  flat_top (fd_function {f = f} {g = g} w held) r = flattened (with_known names) (with_known file) f g r.form.unflat r.form.parameters w
  flat_top (fd_other t n) r = ft_other t n

  flat_all : {ts us : List Top} → FlattenedTops names file ts us → Each (IsResolvedTop counts all) ts → FlatTops ts us
  flat_all fd_none r = ft_none
  flat_all (fd_more w ws) r = ft_more (flat_top w r.0) (flat_all ws r.1)

pub flat_tops : (names file : List (List ℕ)) (counts : FlatCounts) (p : Program) (us : List Top) → IsResolvedWith counts p →
    FlattenedTops names file p.tops us → FlatTops p.tops us
flat_tops names file counts p us r w = flat_all names file counts p.tops w r.tops
