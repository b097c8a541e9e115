use Rattle.std.proofs.Common.{◌≡◌, Some, true, false, refl, subst, ap}
use Rattle.jump_meaning.specs.Code.{function_tree}
use Rattle.c_tree.specs.Trees.{trees_of}
use Rattle.break_recovery.specs.Ends.{with_body, IsBodyChanged}
use Rattle.break_recovery.proofs.Numbered.{went}
use Rattle.break_recovery.proofs.Outermost.{fewer_counted, none_counted}
use Rattle.break_recovery.proofs.functions.change_once.Goals as goal

apart : false ≡ true → ⊥
apart e = cc

false_true : {P : Type 0} → false ≡ true → P
false_true e = absurd (apart e)

pub returns-in-Some : goal.returns-in-Some
returns-in-Some c =
    let g = c.in-Some.slot in
    let a = c.args.list.now in
    let b = c.change_list_of.new.list in
    record {
      went = λ f s.
          let h = function_tree (with_body f a) in
          went c.args.gone.now c.mark.new.gone c.args.counts.now c.forget.new.counts (with_body f a) g (Some b) c.mark.ensures c.forget.ensures
          (λ t. subst (λ it. IsBodyChanged h it (Some (trees_of b))) c.in-Some.is (c.in_ok-change.ensures.made h t (s h t) refl));
      start = λ w f t s h u.
          let k = function_tree (with_body f a) in
          c.in_ok-change.ensures.start g c.in-Some.is k h t (fewer_counted k h c.args.counts.now c.forget.new.counts g c.forget.ensures t u)
          (none_counted h c.args.counts.now c.forget.new.counts g c.forget.ensures u) (s k t);
      first = λ f t s d. let h = function_tree (with_body f a) in c.in_ok-change.ensures.first h t (s h t) d;
    }

pub returns-in-None : goal.returns-in-None
returns-in-None c =
    let a = c.args.list.now in
    let b = c.change_list_of.new.list in
    record {
      went = λ f s.
          let h = function_tree (with_body f a) in (
            (λ t. subst (λ it. IsBodyChanged h it (Some (trees_of b))) c.in-None.is (c.in_ok-change.ensures.made h t (s h t) refl)),
            ap (with_body f) (c.in_ok-change.ensures.kept c.in-None.is),
            refl,
            refl,
          );
      start = λ w. false_true w;
      first = λ f t s d. let h = function_tree (with_body f a) in c.in_ok-change.ensures.first h t (s h t) d;
    }
