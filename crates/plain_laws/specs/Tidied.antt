-- The sections of switches in their plain form, on plain trees: a section without end whose last item is `break`
-- gets its end in that place, and one with an empty list and no end, other than the last, gives its cases and
-- its default to the next.
use Rattle.std.specs.Prelude.{Bool, true, false, not, ◌&&◌, ◌||◌, cond, List, ◌++◌, option_map}
use Rattle.c_tree.specs.ExpressionTrees.{ExpressionTree}
use Rattle.c_tree.specs.Trees.{Tree, Forest, Nil, Then, Sections, NoSection, Section, If, While, Do, For, Switch, Block, Break}
use Rattle.jump_meaning.specs.Code.{FunctionTree, Code}

-- whether an item is `break`
abbrev pub is_break : Tree → Bool
is_break Break = true
is_break _ = false

-- whether the last item of a list is `break`
abbrev pub last_break : Forest → Bool
last_break Nil = false
last_break (Then x Nil) = is_break x
last_break (Then x (Then y ys)) = last_break (Then y ys)

-- a list without its last item
abbrev pub without_last : Forest → Forest
without_last Nil = Nil
without_last (Then x Nil) = Nil
without_last (Then x (Then y ys)) = Then x (without_last (Then y ys))

-- a section before others, which gets its cases and its default where it is empty and has no end
abbrev pub give : List ExpressionTree → Bool → Forest → Bool → Sections → Sections
give cases default Nil false (Section cases' default' a ends c) = Section (cases ++ cases') (default || default') a ends c
give cases default a ends c = Section cases default a ends c

-- a section that is put before others, as `give` does, once a last `break` has become its end
abbrev pub put_section : List ExpressionTree → Bool → Forest → Bool → Sections → Sections
put_section cases default a ends c = cond (not ends && last_break a) (give cases default (without_last a) true c) (give cases default a ends c)

abbrev mutual
  -- a list whose switches have their sections so, at any depth
  pub tidy : Forest → Forest
  tidy Nil = Nil
  tidy (Then x xs) = Then (tidy_item x) (tidy xs)

  -- an item
  pub tidy_item : Tree → Tree
  tidy_item (If t a b) = If t (tidy a) (tidy b)
  tidy_item (While t a) = While t (tidy a)
  tidy_item (Do a t) = Do (tidy a) t
  tidy_item (For first t u a) = For (tidy first) t u (tidy a)
  tidy_item (Switch s c) = Switch s (tidy_sections c)
  tidy_item (Block a) = Block (tidy a)
  tidy_item x = x

  -- the sections of a switch
  pub tidy_sections : Sections → Sections
  tidy_sections NoSection = NoSection
  tidy_sections (Section cases default a ends c) = put_section cases default (tidy a) ends (tidy_sections c)

-- a function with a body of this form
abbrev pub tidy_function : FunctionTree → FunctionTree
tidy_function f = record { result = f.result; params = f.params; slots = f.slots; body = option_map tidy f.body }

-- a program, each function of it so
abbrev pub tidy_code : Code → Code
tidy_code p = record { functions = λ m. tidy_function (p.functions m); globals = p.globals; cells = p.cells }
