use Rattle.std.proofs.Common.{sym, ap, subst, ◌∙◌}
use Rattle.c_tree.specs.Trees.{trees_of}
use Rattle.tidy_loops.specs.Slots.{counts_of}
use Rattle.break_recovery.specs.Places.{IsFoundAt}
use Rattle.break_recovery.proofs.NothingBefore.{none_next, none_some}
use Rattle.break_recovery.proofs.Ways.{way_goes_on}
use Rattle.break_recovery.proofs.Outermost.{found_changed, found_goes_on, one_slot}
use Rattle.break_recovery.specs.Fronts.{DeclaresFirst}
use Rattle.break_recovery.proofs.FrontLaws.{first_found}
use Rattle.break_recovery.proofs.Undeclared.{body_changed, body_settled}
use Rattle.break_recovery.proofs.functions.change_list_of.Goals as goal

pub returns-in-Some : goal.returns-in-Some
returns-in-Some c =
    let a = trees_of c.args.list.now in
    let b = trees_of c.change_from.new.list in
    let g = c.in-Some.slot in
    let k = c.in-Some.place in
    record {
      made = λ f h q e. body_changed f g a b (trees_of c.undeclare-gone.new.list) e
          (found_changed f g k a b (subst (λ it. IsFoundAt f 2 it a b) c.in-Some.is (c.in_ok-change.ensures.made f h q))) c.undeclare-gone.ensures.gone;
      kept = λ e. none_some g (sym e);
      first = λ f h q d. first_found f 1 g k a b (trees_of c.undeclare-gone.new.list)
          (subst (λ it. IsFoundAt f 2 it a b) c.in-Some.is (c.in_ok-change.ensures.made f h q)) c.undeclare-gone.ensures.gone d;
      start = λ x e f h t l z q.
          let r = c.behind_change.result in (
            found_goes_on f h l g k a b (trees_of c.undeclare-gone.new.list) c.undeclare-gone.result r.doubt r.from
                (subst (λ it. IsFoundAt f 2 it a b) c.in-Some.is (c.in_ok-change.ensures.made f t q)) c.undeclare-gone.ensures.place
                c.behind_change.ensures.goes_on,
            way_goes_on c.change_from.new.sure h 2 c.change_from.new.way c.keep_way.new.way k c.undeclare-gone.result r.from b
                (trees_of c.undeclare-gone.new.list) c.undeclare-gone.ensures.place c.behind_change.ensures.way c.keep_way.ensures
                (c.in_ok-change.ensures.way (g, k) c.in-Some.is f h t l (ap (counts_of h) (one_slot g x e) ∙ z) q),
          );
    }

pub returns-in-None : goal.returns-in-None
returns-in-None c =
    let a = trees_of c.args.list.now in
    let b = trees_of c.change_from.new.list in
    record {
      made = λ f h q e. body_settled f a e (sym (none_next f 1 a (subst (λ it. IsFoundAt f 2 it a b) c.in-None.is (c.in_ok-change.ensures.made f h q))));
      kept = λ e. c.in_ok-change.ensures.kept c.in-None.is;
      first = λ f h q d. subst (λ xs. DeclaresFirst (trees_of xs)) (sym (c.in_ok-change.ensures.kept c.in-None.is)) d;
      start = λ g e. none_some g e;
    }
