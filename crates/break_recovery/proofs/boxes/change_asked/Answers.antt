use Rattle.std.proofs.Common.{◌≡◌, None, length, take, drop, reverse, sym, ap, subst, ◌∙◌, arith}
use Rattle.c_tree.specs.Trees.{trees_of, join}
use Rattle.jump_meaning.specs.Code.{FunctionTree}
use Rattle.tidy_loops.specs.Slots.{Tells}
use Rattle.tidy_loops.proofs.Results.{if_ok_more}
use Rattle.break_recovery.specs.Next.{put, next_at, next_here}
use Rattle.break_recovery.specs.Ways.{IsWayAt}
use Rattle.break_recovery.proofs.WaysSearched.{no_way}
use Rattle.break_recovery.proofs.Steps.{an_entry, no_answer, a_slot, an_answer, here_found, no_here}
use Rattle.tidy_loops.specs.Slots.{count_in}
use Rattle.break_recovery.specs.Within.{AreApart}
use Rattle.break_recovery.proofs.boxes.change_asked.Goals as goal

pub returns-then-is_some : goal.returns-then-is_some
returns-then-is_some c =
    let xs = c.args.list.now in
    let x = an_entry xs c.args.at c.requires.place in
    let n = sym c.is_some.ensures ∙ c.if-is_some.true in
    record {
      made = λ f h p. here_found xs c.args.at x.0 f c.args.level _ c.requires.place x.1 (c.in_ok-here.ensures.made f h)
          (a_slot c.in_ok-here.here (trees_of c.change_here.new.list) n);
      kept = an_answer c.in_ok-here.here n;
      way = λ g r f h d l z p. no_way c.args.sure.now h c.args.level (reverse c.new.result) (trees_of (drop c.args.at c.change_here.new.list))
          (ap reverse c.new.ensures);
    }

pub change_within-requires : goal.change_within-requires
change_within-requires c =
    let q = c.in_ok-here.ensures.kept (no_answer c.in_ok-here.here (sym c.is_some.ensures ∙ c.if-is_some.false)) in
    record {
      place = omega (arith, c.requires.place, ap length q);
      within = subst (λ zs. AreApart (count_in c.args.counts.now) (trees_of zs)) (sym q) c.requires.within;
    }

pub returns : goal.returns
returns c =
    let xs = c.args.list.now in
    let ys = c.change_here.new.list in
    let at = c.args.at in
    let n = c.args.level in
    let s = c.in_ok-here.here in
    let o = sym c.is_some.ensures ∙ c.if-is_some.false in
    let q = c.in_ok-here.ensures.kept (no_answer s o) in
    let u : (f : FunctionTree) → Tells c.args.counts.now f → next_here f n (trees_of (drop at ys)) ≡ None = λ f h.
    ap (λ zs. next_here f n (trees_of (drop at zs))) q ∙ no_here xs at f n s (trees_of ys) (c.in_ok-here.ensures.made f h) o in
    let v : (f : FunctionTree) → IsWayAt c.args.sure.now f n (reverse c.args.way.now) (trees_of (drop at xs)) →
    IsWayAt c.args.sure.now f n (reverse c.args.way.now) (trees_of (drop at ys)) = λ f p.
    subst (λ zs. IsWayAt c.args.sure.now f n (reverse c.args.way.now) (trees_of (drop at zs))) (sym q) p in
    record {
      made = if_ok_more c.change_within.result _ _
          (λ it k f h p. k f h (u f h) (v f p) ∙ ap (λ zs. put (join (trees_of (take at zs))) (next_at f n (trees_of (drop at zs)))) q)
          c.change_within.ensures.made;
      kept = if_ok_more c.change_within.result _ _ (λ it k e. k e ∙ q) c.change_within.ensures.kept;
      way = if_ok_more c.change_within.result _ _ (λ it k g e f h d l z p. k g e f h d l z (u f d, v f p)) c.change_within.ensures.way;
    }
