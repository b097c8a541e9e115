-- What the tasks of the machine are in the meaning.
use Rattle.std.specs.Prelude.{List, [], ◌∷◌}
use Rattle.c_tree.specs.declared.tree.Expression.{Expression}
use Rattle.c_tree.specs.ExpressionTrees.{ExpressionTree, Typed, Conditional, expression_tree, place_tree}
use Rattle.c_tree.specs.TestTrees.{On, test_tree, selector_tree}
use Rattle.c_tree.specs.Trees.{Tree, Nil, If, While, Do, For, Switch, tree_of, trees_of, sections_of, expression_trees}
use Rattle.jump_meaning.specs.Effects.{Op, Computes, Finds, Drops, Indexes, Loads, Fetches, AppliesUnary, AppliesBinary, Converts, LeavesNothing, Ands, Ors, Judges, Decides, Stores, Counts, Calls, Ends, Sets, Clears}
use Rattle.jump_meaning.specs.Step.{switch_kind}
use Rattle.jump_meaning.specs.Tasks as T
use Rattle.jump_meaning.specs.Tasks.{Runs, Works, Asks, AsksSelector, Arms, EndsSection, Branches, Turns, Loops, Heads, Enters, WhileLoop, DoLoop, ForLoop, items, works, tail_tasks}
use Rattle.step_tasks.specs.declared.work.Stage.TheVariants as Stages
use Rattle.step_tasks.specs.declared.work.Use.TheVariants as Uses
use Rattle.step_tasks.specs.declared.work.Task.{Task}
use Rattle.step_tasks.specs.declared.work.Task.TheVariants as My
use Rattle.step_tasks.specs.declared.work.Work.{Work}
use Rattle.step_tasks.specs.declared.work.Work.TheVariants as Several

-- the task for which a construct stands; of any other item, with which no task is made, an arbitrary one
abbrev pub branch_of : Tree → T.Task
branch_of (If t a b) = Branches a b
branch_of x = Runs x

abbrev pub turn_of : Tree → T.Task
turn_of (While t a) = Turns (WhileLoop t a)
turn_of (Do a t) = Turns (DoLoop a t)
turn_of (For first t u a) = Turns (ForLoop t u a)
turn_of x = Runs x

abbrev pub loop_of : Tree → T.Task
loop_of (While t a) = Loops (WhileLoop t a)
loop_of (Do a t) = Loops (DoLoop a t)
loop_of (For first t u a) = Loops (ForLoop t u a)
loop_of _ = Loops (DoLoop Nil (On 0))

abbrev pub head_of : Tree → T.Task
head_of (For first t u a) = Heads t u a
head_of x = Runs x

abbrev pub enter_of : Tree → T.Task
enter_of (Switch s c) = Enters (switch_kind s) c
enter_of x = Runs x

abbrev pub decide_of : ExpressionTree → Op
decide_of (Typed kind (Conditional a b c)) = Decides b c kind
decide_of _ = Judges

abbrev pub task_of : Task → T.Task
task_of (My.Of Stages.Run x) = Runs (tree_of x.now)
task_of (My.Of Stages.Branch x) = branch_of (tree_of x.now)
task_of (My.Of Stages.Turn x) = turn_of (tree_of x.now)
task_of (My.Of Stages.Loop x) = loop_of (tree_of x.now)
task_of (My.Of Stages.Head x) = head_of (tree_of x.now)
task_of (My.Of Stages.Enter x) = enter_of (tree_of x.now)
task_of My.EndSection = EndsSection
task_of My.Out = T.Out
task_of (My.Ask t) = Asks (test_tree t.now)
task_of (My.AskSelector s) = AsksSelector (selector_tree s.now)
task_of (My.Arm l) = Arms l
task_of (My.With Uses.Compute e) = Works (Computes (expression_tree e.now))
task_of (My.Find p) = Works (Finds (place_tree p.now))
task_of My.DropValue = Works Drops
task_of (My.Index h) = Works (Indexes h.now)
task_of My.Load = Works Loads
task_of My.Fetch = Works Fetches
task_of (My.Unary op k) = Works (AppliesUnary op k)
task_of (My.Binary op j k) = Works (AppliesBinary op j k)
task_of (My.Convert k) = Works (Converts k)
task_of My.LeaveNothing = Works LeavesNothing
task_of (My.With Uses.And b) = Works (Ands (expression_tree b.now))
task_of (My.With Uses.Or b) = Works (Ors (expression_tree b.now))
task_of My.Judge = Works Judges
task_of (My.With Uses.Decide e) = Works (decide_of (expression_tree e.now))
task_of My.Store = Works Stores
task_of (My.Count up after) = Works (Counts up after)
task_of (My.Call m n) = Works (Calls m.now n)
task_of (My.End b) = Works (Ends b)
task_of (My.Set x i es) = Works (Sets x i (expression_trees es.now))
task_of (My.Clear x n) = Works (Clears x n)

-- the expressions, one after the other, before other tasks
abbrev pub computes : List Expression → List T.Task → List T.Task
computes [] k = k
computes (e ∷ es) k = Works (Computes (expression_tree e)) ∷ computes es k

-- what is to be done before other tasks
abbrev pub work_of : Work → List T.Task → List T.Task
work_of (Several.One t) k = task_of t ∷ k
work_of (Several.Items xs) k = items (trees_of xs.now) k
work_of (Several.Tail cs) k = tail_tasks (sections_of cs.now) k
work_of (Several.Arguments es) k = computes es.now k

-- the tasks, the next first
abbrev pub tasks_of : List Work → List T.Task
tasks_of [] = []
tasks_of (w ∷ ws) = work_of w (tasks_of ws)
