-- What a resolved program is made by lawful moves.
use Rattle.std.proofs.Common.{◌≡◌, ℕ, ◌+◌, Bool, true, false, true≢false, cond, List, [], ◌∷◌, Option, Some, None, option_map, All, refl, sym, ap, subst, ◌∙◌, arith}
use Rattle.std.specs.Prelude.{sum_by}
use Rattle.std.specs.List.{AllByRecursion}
use Rattle.std.specs.Option.{option_map_or}
use Rattle.std.proofs.lemmas.List.Sums.{sum_by-append}
use Rattle.std.proofs.lemmas.List.Elements.{All-from_recursion, recursion_from_All}
use Rattle.c_tree.specs.declared.tree.Item.{Item}
use Rattle.c_tree.specs.declared.tree.Function.{Function}
use Rattle.c_tree.specs.declared.tree.Top.{Top}
use Rattle.c_tree.specs.declared.tree.Top.TheVariants as T
use Rattle.c_tree.specs.declared.tree.Program.{Program}
use Rattle.c_tree.specs.InRange.{body_of}
use Rattle.c_tree.specs.Jumps.{is_jump_free, body_holds, is_jump_free_program}
use Rattle.c_tree.specs.Trees.{Nil, trees_of}
use Rattle.c_tree.specs.Everywhere.{Everywhere}
use Rattle.c_tree.specs.WellMade.{IsConverted, IsWellMade}
use Rattle.c_tree.proofs.WellMoved.{everywhere_map, everywhere_both}
use Rattle.jump_meaning.specs.Code.{code_of}
use Rattle.jump_meaning.specs.Runs.{BehaveTheSame}
use Rattle.jump_meaning.specs.Steady.{IsSteady}
use Rattle.jump_meaning.proofs.RunFacts.{same_trans}
use Rattle.guard_vars.specs.Conversion.{converted, converted_list}
use Rattle.move_order_laws.proofs.ConvertedTrees.{converted_trees}
use Rattle.move_order_laws.specs.MoveBodyLaws.{gotos}
use Rattle.move_order_laws.proofs.Depth.{depth_laws}
use Rattle.move_order_laws.specs.MoveFunctionCounts.{joined, jumps_of, jumps}
use Rattle.move_order_laws.specs.Leaps.{leaps}
use Rattle.plain_laws.specs.Plain.{plain_with}
use Rattle.plain_laws.specs.Laws.{IsNoLeap, IsTopFinished, IsFinished, IsProgramReady}
use Rattle.plain_laws.proofs.TheLaws.{plain_laws}
use Rattle.whole_laws.specs.WholeKindsLaws.{IsKindedTop, IsKindedProgram}
use Rattle.report_moves.specs.declared.moves.Move.{Move}
use Rattle.whole_laws.specs.Rewritten.{FlatTop, ft_flat, ft_unlabelled, ft_declared, ft_other, FlatTops, ft_none, ft_more}
use Rattle.whole_laws.specs.WholeLaws.{IsTopNamed, IsRight}
use Rattle.whole_laws.proofs.Source.{IsSourceTop, IsSource}
use Rattle.whole_laws.proofs.Chains.{program, chain_steady, chain_kinds, IsConvertible, AreConvertible}
use Rattle.whole_laws.proofs.FlatPrograms.{flat_program}
use Rattle.whole_laws.proofs.Flattened.{body_is}
use Rattle.whole_laws.proofs.Free.{IsFree, free_body}
use Rattle.whole_laws.proofs.Ended.{no_leap, IsEndedFunction, IsEnded, IsPlainTop, plain_top, free_item, flat_free, unflat_free}
use Rattle.restructure_laws.specs.Lawful as L
use Rattle.restructure_laws.specs.Lawful.{OneMoved, Moves, none, more}
use Rattle.restructure_laws.specs.Replayed.{converted_top, converted_tops, IsTopWellMade, IsTopLeapless, top_leaps, IsReplayed}
use Rattle.restructure_laws.proofs.Joined.{joins}
use Rattle.restructure_laws.proofs.Tops.{AreWellMade, all_made, moves_chain, chain_both, conversions}
use Rattle.whole_laws.proofs.Whole.{free_tops, finished_tops, both_runs}

-- ---- well made

converted_made : (f : Function) (a : List Item) → f.flat ≡ true → f.body ≡ Some a → IsConvertible (T.Function f) → (b : Bool) → f.flat ≡ b →
    IsTopWellMade (T.Function (cond b (converted f) f))
converted_made f a e i w true k = λ flat. subst IsWellMade (sym (body_is (converted f) (converted_list a) (ap (λ o. option_map converted_list o) i))) (w e a i)
converted_made f a e i w false k = absurd (true≢false (sym e ∙ k))

unflat_made : (f : Function) → f.flat ≡ false → (b : Bool) → f.flat ≡ b → IsTopWellMade (T.Function (cond b (converted f) f))
unflat_made f e true k = absurd (true≢false (sym k ∙ e))
unflat_made f e false k = λ flat. absurd (true≢false (sym flat ∙ e))

converted_top_made : {t u : Top} → IsSourceTop t → IsConvertible u → FlatTop t u → IsTopWellMade (converted_top u)
converted_top_made s w (ft_flat {f = f} {g = g} j h) = converted_made g h.new h.flat h.new_body w g.flat refl
converted_top_made s w (ft_unlabelled {f = f} {g = g} j h) = unflat_made g h.flat g.flat refl
converted_top_made s w (ft_declared f n) = unflat_made f s.unflat f.flat refl
converted_top_made s w (ft_other (T.Function f) n) = absurd n
converted_top_made s w (ft_other (T.Include b) n) = tt
converted_top_made s w (ft_other (T.Enum es) n) = tt
converted_top_made s w (ft_other (T.Global g) n) = tt
converted_top_made s w (ft_other (T.Note b) n) = tt

converted_tops_made : {ts us : List Top} → AllByRecursion IsSourceTop ts → AreConvertible us → FlatTops ts us → AreWellMade (converted_tops us)
converted_tops_made s w ft_none = tt
converted_tops_made s w (ft_more h r) = (converted_top_made s.0 w.0 h, converted_tops_made s.1 w.1 r)

-- ---- plain, where not flat

abbrev ArePlain : List Top → Type 0
ArePlain ts = AllByRecursion IsPlainTop ts

plain_flat : {ts us : List Top} → AllByRecursion IsSourceTop ts → FlatTops ts us → ArePlain us
plain_flat s ft_none = tt
plain_flat s (ft_more w r) = (plain_top s.0 w, plain_flat s.1 r)

plain_by : (f : Function) → IsPlainTop (T.Function f) → (b : Bool) → f.flat ≡ b → IsPlainTop (T.Function (cond b (converted f) f))
plain_by f h true e = λ k. absurd (true≢false (sym e ∙ k))
plain_by f h false e = h

plain_one : (t : Top) → IsPlainTop t → IsPlainTop (converted_top t)
plain_one (T.Function f) h = plain_by f h f.flat refl
plain_one _ h = tt

plain_converted : (ts : List Top) → ArePlain ts → ArePlain (converted_tops ts)
plain_converted [] h = tt
plain_converted (t ∷ ts) h = (plain_one t h.0, plain_converted ts h.1)

still_plain : {m : Move} {ts us : List Top} → ArePlain ts → OneMoved m ts us → ArePlain us
still_plain p (L.this_function {f = f} {g = g} ts h) = ((λ e. absurd (true≢false (sym h.flat ∙ (sym (ap (λ (z : Function). z.flat) h.result) ∙ e)))), p.1)
still_plain p (L.later_function t o h) = (p.0, still_plain p.1 h)

plain_end : {ts us : List Top} {ms : List Move} → ArePlain ts → Moves ts ms us → ArePlain us
plain_end p none = p
plain_end p (more h r) = plain_end (still_plain p h) r

-- ---- the end of each function

body_free : (f : Function) (o : Option (List Item)) → f.body ≡ o → Everywhere IsFree (body_of f) → body_holds is_jump_free f.body ≡ true
body_free f None e h = subst (λ o. body_holds is_jump_free o ≡ true) (sym e) refl
body_free f (Some a) e h = subst (λ o. body_holds is_jump_free o ≡ true) (sym e) (free_body a (subst (Everywhere IsFree) (body_is f a e) h))

ended_by : (f : Function) (b : Bool) → f.flat ≡ b → IsTopWellMade (T.Function f) → IsTopLeapless (T.Function f) → IsPlainTop (T.Function f) → IsEndedFunction f
ended_by f true e w n p =
    let made = w e in
    let leapless = no_leap (body_of f) (n e) in
    let free = everywhere_map (λ x. IsConverted x × IsNoLeap x) IsFree free_item (body_of f)
    (everywhere_both IsConverted IsNoLeap (body_of f) made.converted leapless) in
    record { made = w; leapless = λ e. leapless; free = flat_free f e (body_free f f.body refl free) }
ended_by f false e w n p = record { made = w; leapless = λ k. absurd (true≢false (sym k ∙ e)); free = unflat_free f e (p e) }

ended_top : (t : Top) → IsTopWellMade t → IsTopLeapless t → IsPlainTop t → IsEnded t
ended_top (T.Function f) w n p = ended_by f f.flat refl w n p
ended_top _ w n p = tt

ended_tops : (ts : List Top) → AreWellMade ts → AllByRecursion IsTopLeapless ts → ArePlain ts → AllByRecursion IsEnded ts
ended_tops [] w n p = tt
ended_tops (t ∷ ts) w n p = (ended_top t w.0 n.0 p.0, ended_tops ts w.1 n.1 p.1)

-- ---- a program

pub record IsKept (p q : Program) : Type 0 where
  pub steady : IsSteady q
  pub same : BehaveTheSame p q
  pub kinded : IsKindedProgram q
  pub made : AreWellMade q.tops
  pub unflat : ArePlain q.tops

pub start_made : (p : Program) (us : List Top) → IsSource p → FlatTops p.tops us → AreWellMade (converted_tops us)
start_made p us s w =
    let f = flat_program p (program us) s w in
    converted_tops_made (recursion_from_All IsSourceTop p.tops s.tops) f.convertible w

pub kept : (p q : Program) (ms : List Move) → IsSource p → IsReplayed p q ms → IsKept p q
kept p q ms s w =
    let f = flat_program p w.flat s w.flattened in
    let made = start_made p w.flat.tops s w.flattened in
    let c = chain_both (conversions w.flat.tops f.convertible) (moves_chain made w.moved) in
    let r = chain_steady c f.steady in
    let plain = plain_converted w.flat.tops (plain_flat (recursion_from_All IsSourceTop p.tops s.tops) w.flattened) in
    record {
      steady = r.0;
      same = record { codes = same_trans (code_of p) (code_of w.flat) (code_of q) f.same.codes r.1.codes };
      kinded = chain_kinds c f.kinded;
      made = all_made made w.moved;
      unflat = plain_end plain w.moved;
    }

ended : (p q : Program) (ms : List Move) → IsSource p → IsReplayed p q ms → All IsTopLeapless q.tops → AllByRecursion IsEnded q.tops
ended p q ms s w n = let k = kept p q ms s w in ended_tops q.tops k.made (recursion_from_All IsTopLeapless q.tops n) k.unflat

pub jump_free : (p q : Program) (ms : List Move) → IsSource p → IsReplayed p q ms → All IsTopLeapless q.tops → is_jump_free_program q ≡ true
jump_free p q ms s w n = free_tops q.tops (ended p q ms s w n)

-- ---- the plain form

-- what is reached is ready for its plain form
pub ready : (names : Function → List (List ℕ)) (p q : Program) (ms : List Move) → IsSource p → IsReplayed p q ms → All IsTopLeapless q.tops →
    All (IsTopNamed names) q.tops → IsProgramReady names q
ready names p q ms s w n m =
    let k = kept p q ms s w in
    let c = code_of q in
    let finished : IsFinished names q = All-from_recursion (IsTopFinished c names) q.tops
    (finished_tops c names q.tops (ended p q ms s w n) (recursion_from_All (IsKindedTop c) q.tops k.kinded) (recursion_from_All (IsTopNamed names) q.tops m)) in
    plain_laws.of_steady names q k.steady finished

pub whole : (names : Function → List (List ℕ)) (p q : Program) (ms : List Move) → IsSource p → IsReplayed p q ms → All IsTopLeapless q.tops →
    All (IsTopNamed names) q.tops → IsRight names p q
whole names p q ms s w n m =
    let k = kept p q ms s w in
    let is_ready = ready names p q ms s w n m in
    let free = jump_free p q ms s w n in
    record {
      steady = k.steady;
      same = k.same;
      ranged = plain_laws.ranged names q is_ready;
      plain = plain_laws.plain names q free;
      runs = both_runs p q (plain_with names q) k.same (plain_laws.meanings names q is_ready free);
    }

-- ---- the joins

leapless_by : (f : Function) (b : Bool) → f.flat ≡ b → IsTopLeapless (T.Function f) → cond b (leaps (body_of f)) 0 ≡ 0
leapless_by f true e n = n e
leapless_by f false e n = refl

leapless_top : (t : Top) → IsTopLeapless t → top_leaps t ≡ 0
leapless_top (T.Function f) n = leapless_by f f.flat refl n
leapless_top _ n = refl

leapless_tops : (ts : List Top) → AllByRecursion IsTopLeapless ts → sum_by top_leaps ts ≡ 0
leapless_tops [] n = refl
leapless_tops (t ∷ ts) n =
    let a = sum_by-append top_leaps (t ∷ []) ts in
    let b = leapless_top t n.0 in
    let c = leapless_tops ts n.1 in
    omega (arith, a, b, c)

jumps_by : (f : Function) (b : Bool) → f.flat ≡ b → top_leaps (T.Function (cond b (converted f) f)) ≡ cond b (gotos (body_of f) + leaps (body_of f)) 0
jumps_by f true e = ap (λ b. cond b (leaps (body_of (converted f))) 0) e ∙ body f.body refl where
  body : (o : Option (List Item)) → f.body ≡ o → leaps (body_of (converted f)) ≡ gotos (body_of f) + leaps (body_of f)
  body None i =
      let x : body_of f ≡ Nil = ap (λ o. option_map_or trees_of o Nil) i in
      let y : body_of (converted f) ≡ Nil = ap (λ o. option_map_or trees_of (option_map converted_list o) Nil) i in
      ap leaps y ∙ sym (ap (λ z. gotos z + leaps z) x)
  body (Some a) i =
      let x = body_is f a i in
      let y = body_is (converted f) (converted_list a) (ap (λ o. option_map converted_list o) i) in
      ap leaps y ∙ ap leaps (converted_trees a) ∙ depth_laws.jumps (trees_of a) ∙ sym (ap (λ z. gotos z + leaps z) x)
jumps_by f false e = ap (λ b. cond b (leaps (body_of f)) 0) e

jumps_top : (t : Top) → top_leaps (converted_top t) ≡ jumps_of t
jumps_top (T.Function f) = jumps_by f f.flat refl
jumps_top _ = refl

jumps_tops : (ts : List Top) → sum_by top_leaps (converted_tops ts) ≡ jumps ts
jumps_tops [] = refl
jumps_tops (t ∷ ts) =
    let a = sum_by-append top_leaps (converted_top t ∷ []) (converted_tops ts) in
    let b = sum_by-append jumps_of (t ∷ []) ts in
    let c = jumps_top t in
    let d = jumps_tops ts in
    omega (arith, a, b, c, d)

pub all_joined : (p q : Program) (ms : List Move) (w : IsReplayed p q ms) → All IsTopLeapless q.tops → joined ms ≡ jumps w.flat.tops
all_joined p q ms w n =
    let a = joins w.moved in
    let b = leapless_tops q.tops (recursion_from_All IsTopLeapless q.tops n) in
    let c = jumps_tops w.flat.tops in
    omega (arith, a, b, c)
