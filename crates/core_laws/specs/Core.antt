-- The core of a body: the goto program that lies under it. While all guards are reset, made tests, Leaps and
-- Lands do nothing, and an Arm whose way lands is a goto.
use Rattle.std.specs.Prelude.{ℕ, zero, suc, ◌+◌, pos, Bool, true, false, Some, None, option_map}
use Rattle.c_types.specs.declared.kinds.IntKind.TheVariants.{Int}
use Rattle.c_tree.specs.ExpressionTrees.{ExpressionTree, Typed, Number}
use Rattle.c_tree.specs.TestTrees.{Source, Selects}
use Rattle.c_tree.specs.Trees.{Tree, Forest, Nil, Then, Sections, NoSection, Section, If, While, Do, For, Switch, Block, Goto, Mark, Arm, Leap, Land, join}
use Rattle.c_tree.specs.Cases.{selector_source}
use Rattle.c_tree.specs.Changed.{one}
use Rattle.c_tree.specs.Exits.{breaks, continues}
use Rattle.jump_meaning.specs.Code.{FunctionTree, Code}
use Rattle.jump_meaning.specs.Step.{no_guards}
use Rattle.core_laws.specs.Ways.{Peeled, Ask, Known, peel, Way, Lands, Past, Lost, Follow, lost, before, after_while, after_do, after_section}

-- 1 or 0 as an expression
abbrev pub constant : Bool → ExpressionTree
constant true = Typed (Some Int) (Number (pos 1))
constant false = Typed (Some Int) (Number (pos 0))

-- the source expression of a test, or the constant that it is while all guards are reset
abbrev pub source_of : Peeled → ExpressionTree
source_of (Ask e) = e
source_of (Known b) = constant b

-- an Arm is a goto where its way comes to its label, and stays an Arm elsewhere
abbrev pub jump_if : Way → ℕ → Tree
jump_if Lands l = Goto l
jump_if Past l = Arm l None
jump_if Lost l = Arm l None

-- an `if` whose lists have the cores a and b; one whose test is made is the list that it takes, unless the
-- other one has labels to jump to
abbrev pub core_if : Peeled → Forest → Forest → Forest
core_if (Ask e) a b = one (If (Source e) a b)
core_if (Known true) a Nil = a
core_if (Known true) a (Then y b) = one (If (Source (constant true)) a (Then y b))
core_if (Known false) Nil b = b
core_if (Known false) (Then y a) b = one (If (Source (constant false)) (Then y a) b)

-- a `do` whose list has the core a, and n exits bound to it; a made one without exits is its list
abbrev pub core_do : Peeled → ℕ → Forest → Forest
core_do (Ask e) n a = one (Do a (Source e))
core_do (Known true) n a = one (Do a (Source (constant true)))
core_do (Known false) zero a = a
core_do (Known false) (suc n) a = one (Do a (Source (constant false)))

abbrev mutual
  -- of a list, where w follows it
  pub core : Forest → Follow → Forest
  core Nil w = Nil
  core (Then x xs) w = join (core_of x (before xs w)) (core xs w)

  -- of an item, where w follows it
  pub core_of : Tree → Follow → Forest
  core_of (If t a b) w = core_if (peel no_guards t) (core a w) (core b w)
  core_of (While t a) w = one (While (Source (source_of (peel no_guards t))) (core a (after_while t a w)))
  core_of (Do a t) w = core_do (peel no_guards t) (breaks a + continues a) (core a (after_do a t w))
  core_of (For first t u a) w = one (For (core first lost) t u (core a lost))
  core_of (Switch s c) w = one (Switch (Selects (selector_source s)) (core_sections c w))
  core_of (Block a) w = one (Block (core a w))
  core_of (Arm l None) w = one (jump_if (w l) l)
  core_of (Arm l (Some e)) w = one (If (Source e) (one (jump_if (w l) l)) Nil)
  core_of (Leap l) w = Nil
  core_of (Land l) w = one (Mark l)
  core_of x w = one x

  -- of sections, where w follows their switch
  pub core_sections : Sections → Follow → Sections
  core_sections NoSection w = NoSection
  core_sections (Section cases default a ends c) w = Section cases default (core a (after_section ends c w)) ends (core_sections c w)

-- of a whole body
abbrev pub body_core : Forest → Forest
body_core xs = core xs lost

-- of a function
abbrev pub core_function : FunctionTree → FunctionTree
core_function f = record { result = f.result; params = f.params; slots = f.slots; body = option_map body_core f.body }

-- of a program
abbrev pub core_code : Code → Code
core_code p = record { functions = λ m. core_function (p.functions m); globals = p.globals; cells = p.cells }
