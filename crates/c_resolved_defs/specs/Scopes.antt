-- Names are bound as C has scopes: each name of the tree, printed at its place, is bound to what the tree has there,
-- and no name is declared twice in a scope (ISO/IEC 9899:2011, 6.2.1).
use Rattle.std.specs.Prelude.{ℕ, zero, suc, ◌≡◌, ℤ, false, cond, List, [], ◌∷◌, map, Option, Some, None, IfSome}
use Rattle.std.specs.Option.{option_or}
use Rattle.std.specs.Str.{bytes_eq}
use Rattle.c_types.specs.Words.{is_known, known_functions}
use Rattle.c_tree.specs.declared.tree.Slot.{Slot}
use Rattle.c_tree.specs.declared.tree.Home.{Home}
use Rattle.c_tree.specs.declared.tree.Home.TheVariants as H
use Rattle.c_tree.specs.declared.tree.EnumItem.{EnumItem}
use Rattle.c_tree.specs.declared.tree.Expression.{Expression}
use Rattle.c_tree.specs.declared.tree.Function.{Function}
use Rattle.c_tree.specs.declared.tree.Item.{Item}
use Rattle.c_tree.specs.declared.tree.Top.{Top}
use Rattle.c_tree.specs.declared.tree.Top.TheVariants as T
use Rattle.c_tree.specs.ExpressionTrees.{ExpressionTree, Typed, EnumName, Array, Read, Assign, Update, Count, Call, expression_tree}
use Rattle.c_tree.specs.Trees.{Tree, Forest, Nil, Then, Sections, NoSection, Section, If, While, Do, For, Switch, Block, Local, trees_of, expression_trees}
use Rattle.c_tree.specs.Cases.{selector_source}
use Rattle.c_tree.specs.TextExpressions.{slot_name, home_name}
use Rattle.c_resolved_defs.specs.Within.{Each, Within, TestExpression, ItemExpressions}
use Rattle.c_resolved_defs.specs.Names.{home_of}

-- what a name is bound to
pub data Meaning : Type 0 where
  AConstant : ℤ → Meaning
  AVariable : Home → Meaning
  AFunction : Meaning

-- names, the last declared first
abbrev pub Scope : Type 0
Scope = List (List ℕ × Meaning)

abbrev pub found : List ℕ → Scope → Option Meaning
found m [] = None
found m (e ∷ es) = cond (bytes_eq m e.0) (Some e.1) (found m es)

-- by the scopes around a place, the nearest first
abbrev pub look_up : List Scope → List ℕ → Option Meaning
look_up [] m = None
look_up (s ∷ ss) m = option_or (found m s) (look_up ss m)

-- in the nearest scope
abbrev pub bind : List ℕ → Meaning → List Scope → List Scope
bind m b [] = ((m, b) ∷ []) ∷ []
bind m b (s ∷ ss) = ((m, b) ∷ s) ∷ ss

-- which hasn't the name yet
abbrev pub IsNew : List ℕ → List Scope → Type 0
IsNew m [] = Unit {0}
IsNew m (s ∷ ss) = found m s ≡ None

-- ---- expressions

abbrev pub HomeIsBound : List Slot → List Scope → Home → Type 0
HomeIsBound slots ss h = look_up ss (home_name slots h) ≡ Some (AVariable h)

-- the name that an expression begins with is bound to what the tree has there
abbrev pub NameIsBound : List Slot → List Scope → ExpressionTree → Type 0
NameIsBound slots ss (Typed kind (EnumName m z)) = look_up ss m ≡ Some (AConstant z)
NameIsBound slots ss (Typed kind (Array h)) = HomeIsBound slots ss h
NameIsBound slots ss (Typed kind (Read at)) = HomeIsBound slots ss (home_of at)
NameIsBound slots ss (Typed kind (Assign at a)) = HomeIsBound slots ss (home_of at)
NameIsBound slots ss (Typed kind (Update op at a)) = HomeIsBound slots ss (home_of at)
NameIsBound slots ss (Typed kind (Count at up after)) = HomeIsBound slots ss (home_of at)
NameIsBound slots ss (Typed kind (Call m xs)) = look_up ss m ≡ Some AFunction
NameIsBound slots ss _ = Unit {0}

abbrev pub IsBound : List Slot → List Scope → ExpressionTree → Type 0
IsBound slots ss x = Within (NameIsBound slots ss) x

-- ---- items

-- the scopes behind an item: a declaration binds its name, from before its initialisers on
abbrev pub behind : List Slot → List Scope → Tree → List Scope
behind slots ss (Local k given) = bind (slot_name slots k) (AVariable (H.Slot k)) ss
behind slots ss _ = ss

abbrev pub behind_all : List Slot → List Scope → Forest → List Scope
behind_all slots ss Nil = ss
behind_all slots ss (Then x xs) = behind_all slots (behind slots ss x) xs

-- in a scope of its own
abbrev pub inside : List Scope → List Scope
inside ss = [] ∷ ss

abbrev mutual
  pub ItemIsBound : List Slot → List Scope → Tree → Type 0
  ItemIsBound slots ss (If t a b) = TestExpression (IsBound slots ss) t × AreBound slots (inside ss) a × AreBound slots (inside ss) b
  ItemIsBound slots ss (While t a) = TestExpression (IsBound slots ss) t × AreBound slots (inside ss) a
  ItemIsBound slots ss (Do a t) = TestExpression (IsBound slots ss) t × AreBound slots (inside ss) a
  -- a `for` is a scope, and its body another
  ItemIsBound slots ss (For first t u a) =
      AreBound slots (inside ss) first
      × IfSome t (IsBound slots (behind_all slots (inside ss) first)) × IfSome u (IsBound slots (behind_all slots (inside ss) first))
      × AreBound slots (inside (behind_all slots (inside ss) first)) a
  -- the sections of a switch are one scope
  ItemIsBound slots ss (Switch s c) = IsBound slots ss (selector_source s) × SectionsAreBound slots (inside ss) c
  ItemIsBound slots ss (Block a) = AreBound slots (inside ss) a
  ItemIsBound slots ss (Local k given) = IsNew (slot_name slots k) ss × IfSome given (Each (IsBound slots (behind slots ss (Local k given))))
  ItemIsBound slots ss x = ItemExpressions (IsBound slots ss) x

  pub AreBound : List Slot → List Scope → Forest → Type 0
  AreBound slots ss Nil = Unit {0}
  AreBound slots ss (Then x xs) = ItemIsBound slots ss x × AreBound slots (behind slots ss x) xs

  pub SectionsAreBound : List Slot → List Scope → Sections → Type 0
  SectionsAreBound slots ss NoSection = Unit {0}
  SectionsAreBound slots ss (Section cases default a ends c) = Each (IsBound slots ss) cases × AreBound slots ss a × SectionsAreBound slots
      (behind_all slots ss a) c

-- ---- functions: the parameters and the outermost list are one scope

-- the first n slots, from number i on; a parameter without a name binds nothing
abbrev pub bind_parameter : List ℕ → ℕ → List Scope → List Scope
bind_parameter [] i ss = ss
bind_parameter (b ∷ bs) i ss = bind (b ∷ bs) (AVariable (H.Slot i)) ss

abbrev pub with_parameters : ℕ → ℕ → List Slot → List Scope → List Scope
with_parameters zero i slots ss = ss
with_parameters (suc n) i [] ss = ss
with_parameters (suc n) i (s ∷ slots) ss = with_parameters n (suc i) slots (bind_parameter s.name i ss)

abbrev pub IsNewParameter : List ℕ → List Scope → Type 0
IsNewParameter [] ss = Unit {0}
IsNewParameter (b ∷ bs) ss = IsNew (b ∷ bs) ss

abbrev pub AreNewParameters : ℕ → ℕ → List Slot → List Scope → Type 0
AreNewParameters zero i slots ss = Unit {0}
AreNewParameters (suc n) i [] ss = Unit {0}
AreNewParameters (suc n) i (s ∷ slots) ss = IsNewParameter s.name ss × AreNewParameters n (suc i) slots (bind_parameter s.name i ss)

abbrev pub BodyIsBound : Function → List Scope → Option (List Item) → Type 0
BodyIsBound f ss None = Unit {0}
BodyIsBound f ss (Some body) = AreBound f.slots (with_parameters f.params 0 f.slots (inside ss)) (trees_of body)

-- ---- files

abbrev pub bind_constants : List EnumItem → List Scope → List Scope
bind_constants [] ss = ss
bind_constants (x ∷ xs) ss = bind_constants xs (bind x.name (AConstant x.value) ss)

-- the scopes behind what stands at file scope; in its own body a function is declared already
abbrev pub behind_top : List Scope → Top → List Scope
behind_top ss (T.Enum xs) = bind_constants xs ss
behind_top ss (T.Global g) = bind g.slot.name (AVariable (H.Global g.slot.name)) ss
behind_top ss (T.Function f) = bind f.name AFunction ss
behind_top ss _ = ss

-- a name of file scope is no function of the library
abbrev pub IsNewOfFile : List ℕ → List Scope → Type 0
IsNewOfFile m ss = IsNew m ss × (is_known m ≡ false)

abbrev pub IsBoundGiven : List Scope → Option Expression → Type 0
IsBoundGiven ss None = Unit {0}
IsBoundGiven ss (Some e) = IsBound [] ss (expression_tree e)

abbrev pub ConstantsAreBound : List Scope → List EnumItem → Type 0
ConstantsAreBound ss [] = Unit {0}
ConstantsAreBound ss (x ∷ xs) = IsNewOfFile x.name ss × IsBoundGiven ss x.given × ConstantsAreBound (bind x.name (AConstant x.value) ss) xs

abbrev pub GivenAreBound : List Scope → Option (List Expression) → Type 0
GivenAreBound ss None = Unit {0}
GivenAreBound ss (Some es) = Each (IsBound [] ss) (expression_trees es)

-- the name of a function is new, or that of a function
abbrev pub IsFunctionName : List ℕ → List Scope → Type 0
IsFunctionName m [] = Unit {0}
IsFunctionName m (s ∷ ss) = IfSome (found m s) (λ b. b ≡ AFunction)

pub record FunctionIsBound (f : Function) (ss : List Scope) : Type 0 where
  pub named : IsFunctionName f.name ss
  pub unknown : is_known f.name ≡ false
  pub parameters : AreNewParameters f.params 0 f.slots (inside (behind_top ss (T.Function f)))
  pub body : BodyIsBound f (behind_top ss (T.Function f)) f.body

abbrev pub TopIsBound : List Scope → Top → Type 0
TopIsBound ss (T.Enum xs) = ConstantsAreBound ss xs
TopIsBound ss (T.Global g) = IsNewOfFile g.slot.name ss × GivenAreBound (behind_top ss (T.Global g)) g.init
TopIsBound ss (T.Function f) = FunctionIsBound f ss
TopIsBound ss _ = Unit {0}

abbrev pub TopsAreBound : List Scope → List Top → Type 0
TopsAreBound ss [] = Unit {0}
TopsAreBound ss (t ∷ ts) = TopIsBound ss t × TopsAreBound (behind_top ss t) ts

-- the scope of the file, in that of the library
abbrev pub at_start : List Scope
at_start = [] ∷ map (λ m. (m, AFunction)) known_functions ∷ []

-- each name of the program is bound
abbrev pub NamesAreBound : List Top → Type 0
NamesAreBound ts = TopsAreBound at_start ts
