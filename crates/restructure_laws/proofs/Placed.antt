-- What stands at one place of a source, of its flat forms and after all moves.
use Rattle.std.proofs.Common.{◌≡◌, ℕ, true, false, true≢false, cond, List, [], ◌∷◌, ◌++◌, Option, Some, None, sym, ap, ◌∙◌}
use Rattle.c_tree.specs.declared.tree.Function.{Function}
use Rattle.c_tree.specs.declared.tree.Program.{Program}
use Rattle.c_tree.specs.declared.tree.Top.{Top}
use Rattle.c_tree.specs.declared.tree.Top.TheVariants as T
use Rattle.c_tree.specs.InRange.{body_of}
use Rattle.c_resolved_defs.specs.Limits.{FlatCounts}
use Rattle.c_resolved_defs.specs.Resolved.{IsResolvedFunction, IsResolvedTop, IsResolvedWith}
use Rattle.c_resolved_defs.specs.Within.{Each}
use Rattle.flat_laws.specs.Parts.{has_jumps}
use Rattle.report_moves.specs.declared.moves.Move.{Move}
use Rattle.move_order_laws.specs.Moved.{IsMoved, MovedTop, mt_moved, mt_other, MovedTops, mt_none, mt_more}
use Rattle.plain_laws.specs.Plain.{tidied, with_guard_variables, plain_body, plain_function}
use Rattle.whole_laws.specs.Rewritten.{IsFlatForm, IsUnlabelledForm, IsNoFunction, FlatTop, ft_flat, ft_unlabelled, ft_declared, ft_other, FlatTops, ft_none, ft_more, IsRewritten}
use Rattle.whole_laws.proofs.Source.{IsSourceFunction, source_function}

-- a function of a resolved program
pub record IsKnown (counts : FlatCounts) (tops : List Top) (f : Function) : Type 0 where
  pub resolved : IsResolvedFunction counts tops f
  pub source : IsSourceFunction f

pub data Placed (counts : FlatCounts) (tops : List Top) : Top → Top → Top → List Move → Type 0 where
  is_moved : {f g k : Function} {ms : List Move} → IsKnown counts tops f → has_jumps (body_of f) ≡ true → IsFlatForm f g → IsMoved g k ms →
      Placed counts tops (T.Function f) (T.Function g) (T.Function k) ms
  is_left : {f g : Function} → IsKnown counts tops f → has_jumps (body_of f) ≡ false → IsUnlabelledForm f g →
      Placed counts tops (T.Function f) (T.Function g) (T.Function g) []
  is_declared : (f : Function) → IsKnown counts tops f → f.body ≡ None → Placed counts tops (T.Function f) (T.Function f) (T.Function f) []
  is_other : (t : Top) → IsNoFunction t → Placed counts tops t t t []

pub data AllPlaced (counts : FlatCounts) (tops : List Top) : List Top → List Top → List Top → List Move → Type 0 where
  none_placed : AllPlaced counts tops [] [] [] []
  more_placed : {t u v : Top} {ts us vs : List Top} {ms ns : List Move} → Placed counts tops t u v ms → AllPlaced counts tops ts us vs ns →
      AllPlaced counts tops (t ∷ ts) (u ∷ us) (v ∷ vs) (ms ++ ns)

none_is_some : {A : Type 0} (o : Option A) (a : A) → o ≡ None → o ≡ Some a → ⊥
none_is_some o a e i = let q : None ≡ Some a = sym e ∙ i in cc

module _ (counts : FlatCounts) (p : Program) (r : IsResolvedWith counts p) where
  known : (f : Function) → IsResolvedFunction counts p.tops f → IsKnown counts p.tops f
  known f g = record { resolved = g; source = source_function counts p r f g }

  placed_top : {t u v : Top} {ms : List Move} → IsResolvedTop counts p.tops t → FlatTop t u → MovedTop u v ms → Placed counts p.tops t u v ms
  placed_top g (ft_flat {f = f} jumps w) (mt_moved flat m) = is_moved (known f g) jumps w m
  placed_top g (ft_flat jumps w) (mt_other t unflat) = absurd (true≢false (sym w.flat ∙ unflat))
  placed_top g (ft_unlabelled free w) (mt_moved flat m) = absurd (true≢false (sym flat ∙ w.flat))
  placed_top g (ft_unlabelled {f = f} free w) (mt_other t unflat) = is_left (known f g) free w
  placed_top g (ft_declared f e) (mt_moved flat m) = absurd (none_is_some f.body m.body e m.body_is)
  placed_top g (ft_declared f e) (mt_other t unflat) = is_declared f (known f g) e
  placed_top g (ft_other t n) (mt_moved flat m) = absurd n
  placed_top g (ft_other t n) (mt_other s unflat) = is_other t n

  placed_tops : {ts us vs : List Top} {ms : List Move} → Each (IsResolvedTop counts p.tops) ts → FlatTops ts us → MovedTops us vs ms →
      AllPlaced counts p.tops ts us vs ms
  placed_tops g ft_none mt_none = none_placed
  placed_tops g (ft_more w s) (mt_more m t) = more_placed (placed_top g.0 w m) (placed_tops g.1 s t)

  pub placed : (q : Program) (ms : List Move) (w : IsRewritten p q ms) → AllPlaced counts p.tops p.tops w.flat.tops q.tops ms
  placed q ms w = placed_tops r.tops w.flattened w.moved

-- ---- the plain form of what isn't moved

pub plain_left : (ns : List (List ℕ)) (f g : Function) (w : IsUnlabelledForm f g) → plain_function ns g ≡ record g { body = Some (tidied w.new) }
plain_left ns f g w = ap (plain_body ns g) w.new_body ∙ ap (λ b. cond b (with_guard_variables ns g w.new) (record g { body = Some (tidied w.new) })) w.flat
