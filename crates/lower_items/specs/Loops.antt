-- What stands around the list of a loop.
use Rattle.std.specs.Prelude.{ℕ, ◌+◌, ◌*◌, true, Option, Some, None}
use Rattle.c_tree.specs.Changed.{one}
use Rattle.c_tree.specs.Exits.{breaks, continues}
use Rattle.c_tree.specs.ExpressionTrees.{ExpressionTree}
use Rattle.c_tree.specs.TestTrees.{TestTree, Source}
use Rattle.c_tree.specs.Trees.{Forest, Then, Goto, Mark, trees_of, join}
use Rattle.flat_laws.specs.Pieces.{Aim, Becomes, Absent, mark_of, third_items}
use Rattle.flat_laws.specs.FlatForm.{aim}
use Rattle.lower_laws.specs.Straight.{jump_if}
use Rattle.lower_items.specs.declared.loops.Loop as L
use Rattle.flat_items.specs.Plans.{aim_of}

-- the items before the list, the label right behind it, the items behind that, and what exits become
pub record Frame : Type 0 where
  pub opening : Forest
  pub next : Aim
  pub closing : Forest
  pub breaks : Aim
  pub continues : Aim

abbrev pub frame_of : L.Loop → Frame
frame_of x = record {
  opening = trees_of x.opening;
  next = aim_of x.next;
  closing = trees_of x.closing;
  breaks = aim_of x.scope.breaks;
  continues = aim_of x.scope.continues;
}

-- the loop with this list
abbrev pub framed : Frame → Forest → Forest
framed f a = join f.opening (join a (join (mark_of f.next) (join f.closing (mark_of f.breaks))))

-- ---- the loops, of which this is number k

-- the start of a loop that tests first
abbrev pub tested : ℕ → TestTree → Forest
tested k t = Then (Mark (7 * k + 5)) (Then (jump_if t (7 * k + 6)) (Then (Goto (7 * k + 1)) (one (Mark (7 * k + 6)))))

abbrev pub while_frame : ℕ → TestTree → Frame
while_frame k t = record {
  opening = tested k t;
  next = Absent;
  closing = one (Goto (7 * k + 5));
  breaks = Becomes (7 * k + 1);
  continues = Becomes (7 * k + 5);
}

-- what its `continue`s become where they do not lead to the start
abbrev pub continues_at : ℕ → Forest → Aim
continues_at k a = aim true (continues a) (7 * k + 2)

abbrev pub breaks_at : ℕ → Forest → Aim
breaks_at k a = aim true (breaks a) (7 * k + 1)

abbrev pub do_frame : ℕ → Forest → TestTree → Frame
do_frame k a t = record {
  opening = one (Mark (7 * k + 6));
  next = continues_at k a;
  closing = one (jump_if t (7 * k + 6));
  breaks = breaks_at k a;
  continues = continues_at k a;
}

-- the start of a `for`, and what its `break`s become
abbrev pub for_start : ℕ → Option ExpressionTree → Forest
for_start k (Some t) = tested k (Source t)
for_start k None = one (Mark (7 * k + 5))

abbrev pub for_breaks : ℕ → Option ExpressionTree → Forest → Aim
for_breaks k (Some t) a = Becomes (7 * k + 1)
for_breaks k None a = breaks_at k a

abbrev pub for_frame : ℕ → Option ExpressionTree → Option ExpressionTree → Forest → Frame
for_frame k t u a = record {
  opening = for_start k t;
  next = continues_at k a;
  closing = join (third_items u) (one (Goto (7 * k + 5)));
  breaks = for_breaks k t a;
  continues = continues_at k a;
}
