-- The plain form of what lawful moves make is resolved, where it is within the limits of a text.
use Rattle.std.proofs.Common.{◌≡◌, ℕ, Bool, true, false, true≢false, cond, List, map, Option, option_map, All, refl, sym, ap, subst, ◌∙◌}
use Rattle.std.specs.List.{AllByRecursion}
use Rattle.std.proofs.lemmas.List.Elements.{recursion_from_All}
use Rattle.c_tree.specs.declared.tree.Item.{Item}
use Rattle.c_tree.specs.declared.tree.Function.{Function}
use Rattle.c_tree.specs.declared.tree.Top.{Top}
use Rattle.c_tree.specs.declared.tree.Top.TheVariants as T
use Rattle.c_tree.specs.declared.tree.Program.{Program}
use Rattle.c_tree.proofs.MoveLemmas.{some_same}
use Rattle.guard_vars.specs.Conversion.{converted, converted_list}
use Rattle.move_laws.specs.Bodies.{with_body}
use Rattle.jump_meaning.specs.Code.{Code, code_of}
use Rattle.plain_laws.specs.Laws.{IsTopReady}
use Rattle.plain_laws.specs.Plain.{plain_top, plain_with}
use Rattle.plain_laws.proofs.TheLaws.{plain_laws}
use Rattle.c_resolved_laws.specs.Counts.{flat_counts, IsResolved}
use Rattle.report_moves.specs.declared.moves.Move.{Move}
use Rattle.whole_laws.specs.Rewritten.{IsNoFunction, FlatTop, ft_flat, ft_unlabelled, ft_declared, ft_other, FlatTops, ft_none, ft_more}
use Rattle.whole_laws.specs.WholeLaws.{IsTopNamed}
use Rattle.whole_laws.proofs.Source.{resolved_source}
use Rattle.print_limits.specs.Limits.{FunctionIsWithin, TopIsWithin, IsWithinLimits}
use Rattle.restructure_laws.specs.Replayed.{converted_top, converted_tops, IsTopLeapless, IsReplayed}
use Rattle.restructure_laws.proofs.Replays.{ready}
use Rattle.whole_laws.specs.Names.{HasOwnNames}
use Rattle.whole_laws.specs.PlainResolvedLaws.{IsTopOwn}
use Rattle.whole_laws.proofs.PlainTops.{IsOwnTop, PlainTop, pt_moved, pt_unmoved, pt_declared, pt_other, PlainTops, pt_none, pt_more, moved_form, unmoved_form, no_body, other_plain, none_is_some}
use Rattle.whole_laws.proofs.Resolved.{plain_tops_resolved, own_names}
use Rattle.whole_laws.proofs.Rewrites.{Rewrites, unchanged}
use Rattle.restructure_laws.proofs.Later.{LaterTop, same_top, rewritten_top, LaterTops, no_more, one_more, moves_later}

-- ---- tops that are converted

pub flat_converted : (g : Function) → g.flat ≡ true → converted_top (T.Function g) ≡ T.Function (converted g)
flat_converted g e = ap (λ b. T.Function (cond b (converted g) g)) e

pub unflat_converted : (g : Function) → g.flat ≡ false → converted_top (T.Function g) ≡ T.Function g
unflat_converted g e = ap (λ b. T.Function (cond b (converted g) g)) e

pub other_converted : (t : Top) → IsNoFunction t → converted_top t ≡ t
other_converted (T.Function f) n = absurd n
other_converted _ n = refl

-- ---- one function

-- its own names, and that it is short
abbrev pub Own : List Top → Function → Function → Type 0
Own ts f h = HasOwnNames ts h × FunctionIsWithin h

module _ (ts : List Top) (c : Code) (names : Function → List (List ℕ)) where
  of_flat : {f g : Function} {v : Top} → FlatTop (T.Function f) (T.Function g) → g.flat ≡ true → LaterTop (T.Function (converted g)) v →
      IsTopReady c names v → IsOwnTop (HasOwnNames ts) names v → TopIsWithin (plain_top names v)
      → PlainTop (Own ts) (T.Function f) (plain_top names v)
  of_flat (ft_flat {f = f} {g = g} jumps w) flat (same_top t) n o l =
      let same : converted g ≡ with_body (converted g) (converted_list w.new) =
      ap (λ (b : Option (List Item)). record (converted g) { body = b }) (ap (option_map converted_list) w.new_body) in
      pt_moved (moved_form (HasOwnNames ts) c names f g (converted g) w.new (converted_list w.new) jumps w w.new_body
      (unchanged (converted_list w.new)) same n) (o flat, l)
  of_flat (ft_flat {f = f} {g = g} jumps w) flat (rewritten_top {g = k} r) n o l =
      let old_same : r.old ≡ converted_list w.new = some_same (sym r.old_body ∙ ap (option_map converted_list) w.new_body) in
      pt_moved (moved_form (HasOwnNames ts) c names f g k w.new r.new jumps w w.new_body (subst (λ xs. Rewrites xs r.new) old_same r.rewritten)
      r.result n) (o (ap (λ (j : Function). j.flat) r.result ∙ flat), l)
  of_flat (ft_unlabelled free w) flat t n o l = absurd (true≢false (sym flat ∙ w.flat))
  of_flat (ft_declared f e) flat (same_top t) n o l =
      let same : converted f ≡ f = ap (λ (b : Option (List Item)). record f { body = b }) (ap (option_map converted_list) e ∙ sym e) in
      subst (λ (k : Function). PlainTop (Own ts) (T.Function f) (plain_top names (T.Function k))) (sym same)
      (subst (λ k. PlainTop (Own ts) (T.Function f) (T.Function k)) (sym (no_body (names f) f e)) (pt_declared f e))
  of_flat (ft_declared f e) flat (rewritten_top r) n o l = absurd (none_is_some (converted f).body r.old (ap (option_map converted_list) e) r.old_body)
  of_flat (ft_other t q) flat r n o l = absurd q

  of_unflat : {f g : Function} {v : Top} → FlatTop (T.Function f) (T.Function g) → g.flat ≡ false → LaterTop (T.Function g) v →
      PlainTop (Own ts) (T.Function f) (plain_top names v)
  of_unflat t unflat (rewritten_top r) = absurd (true≢false (sym r.flat ∙ unflat))
  of_unflat (ft_flat jumps w) unflat (same_top t) = absurd (true≢false (sym w.flat ∙ unflat))
  of_unflat (ft_unlabelled {f = f} {g = g} free w) unflat (same_top t) = pt_unmoved (unmoved_form (HasOwnNames ts) c names f g free w)
  of_unflat (ft_declared f e) unflat (same_top t) = subst (λ k. PlainTop (Own ts) (T.Function f) (T.Function k)) (sym (no_body (names f) f e)) (pt_declared f e)
  of_unflat (ft_other t q) unflat (same_top u) = absurd q

  of_function : (f g : Function) {v : Top} → FlatTop (T.Function f) (T.Function g) → LaterTop (converted_top (T.Function g)) v →
      IsTopReady c names v → IsOwnTop (HasOwnNames ts) names v → TopIsWithin (plain_top names v)
      → PlainTop (Own ts) (T.Function f) (plain_top names v)
  of_function f g {v = v} t r n o l = by g.flat refl where
    by : (b : Bool) → g.flat ≡ b → PlainTop (Own ts) (T.Function f) (plain_top names v)
    by true e = of_flat t e (subst (λ u. LaterTop u v) (flat_converted g e) r) n o l
    by false e = of_unflat t e (subst (λ u. LaterTop u v) (unflat_converted g e) r)

  of_other : (t : Top) {v : Top} → IsNoFunction t → LaterTop t v → PlainTop (Own ts) t (plain_top names v)
  of_other t q (same_top u) = subst (PlainTop (Own ts) t) (sym (other_plain names t q)) (pt_other t q)
  of_other t q (rewritten_top r) = absurd q

  of_top : {t u v : Top} → FlatTop t u → LaterTop (converted_top u) v → IsTopReady c names v → IsOwnTop (HasOwnNames ts) names v →
      TopIsWithin (plain_top names v) → PlainTop (Own ts) t (plain_top names v)
  of_top (ft_flat {f = f} {g = g} jumps w) r n o l = of_function f g (ft_flat jumps w) r n o l
  of_top (ft_unlabelled {f = f} {g = g} free w) r n o l = of_function f g (ft_unlabelled free w) r n o l
  of_top (ft_declared f e) r n o l = of_function f f (ft_declared f e) r n o l
  of_top {v = v} (ft_other t q) r n o l = of_other t q (subst (λ u. LaterTop u v) (other_converted t q) r)

  of_tops : {us vs ws : List Top} → FlatTops us vs → LaterTops (converted_tops vs) ws → AllByRecursion (IsTopReady c names) ws →
      AllByRecursion (IsOwnTop (HasOwnNames ts) names) ws → AllByRecursion TopIsWithin (map (plain_top names) ws)
      → PlainTops (Own ts) us (map (plain_top names) ws)
  of_tops ft_none no_more n o l = pt_none
  of_tops (ft_more w s) (one_more a r) n o l = pt_more (of_top w a n.0 o.0 l.0) (of_tops s r n.1 o.1 l.1)

-- ---- a program

pub plain_resolved : (names : Function → List (List ℕ)) (p q : Program) (ms : List Move) → IsResolved p → IsReplayed p q ms →
    All IsTopLeapless q.tops → All (IsTopNamed names) q.tops → All (IsTopOwn p.tops names) q.tops
    → IsWithinLimits (plain_with names q) → IsResolved (plain_with names q)
plain_resolved names p q ms r w n named own within =
    let is_ready = ready names p q ms (resolved_source flat_counts p r) w n named in
    let tops = of_tops p.tops (code_of q) names w.flattened (moves_later w.moved) (recursion_from_All (IsTopReady (code_of q) names) q.tops is_ready)
    (own_names p.tops names q.tops own)
    (recursion_from_All TopIsWithin (map (plain_top names) q.tops) within) in
    plain_tops_resolved (Own p.tops) p (plain_with names q) r (λ f h o. o.0) (λ f h o g. record { counted = o.1.counted; depth = o.1.depth }) tops
    (plain_laws.ranged names q is_ready)
