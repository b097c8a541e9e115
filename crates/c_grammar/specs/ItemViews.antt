-- One layer of a declaration, a label or a statement, with the syntax of its parts.
use Rattle.std.specs.Prelude.{◌<◌, ◌≤◌, ℕ, List, [], map, Option, Some, None, option_map}
use Rattle.c_grammar.specs.declared.syntax.Syntax.{Syntax}
use Rattle.c_grammar.specs.declared.declarations.SizeLayer.{SizeLayer}
use Rattle.c_grammar.specs.declared.declarations.SizeLayer.TheVariants as Z
use Rattle.c_grammar.specs.declared.declarations.InitialiserLayer.{InitialiserLayer}
use Rattle.c_grammar.specs.declared.declarations.InitialiserLayer.TheVariants as V
use Rattle.c_grammar.specs.declared.declarations.DeclaratorLayer.{DeclaratorLayer}
use Rattle.c_grammar.specs.declared.declarations.DeclarationLayer.{DeclarationLayer}
use Rattle.c_grammar.specs.declared.statements.LabelLayer.{LabelLayer}
use Rattle.c_grammar.specs.declared.statements.LabelLayer.TheVariants as L
use Rattle.c_grammar.specs.declared.statements.ItemLayer.{ItemLayer}
use Rattle.c_grammar.specs.declared.statements.ItemLayer.TheVariants as I
use Rattle.c_grammar.specs.declared.statements.BodyLayer.{BodyLayer}
use Rattle.c_grammar.specs.declared.statements.BodyLayer.TheVariants as B
use Rattle.c_grammar.specs.declared.statements.StartLayer.{StartLayer}
use Rattle.c_grammar.specs.declared.statements.StartLayer.TheVariants as T
use Rattle.c_grammar.specs.declared.statements.StatementLayer.{StatementLayer}
use Rattle.c_grammar.specs.declared.statements.StatementLayer.TheVariants as S
use Rattle.c_grammar.specs.Terms.{Term}
use Rattle.c_grammar.specs.Items.{Size, NoSize, Unsized, Sized, Initialiser, NoValue, OneValue, ValueList, Declarator, Declaration, Label, Named, Case, Default, Start, NoStart, StartValue, StartNames, Item, Declares, States, Plain, From, Statement, Null, Evaluate, If, IfElse, While, DoWhile, For, Switch, Block, Goto, Break, Continue, Return, Unread, Body, Braces, Lone}
use Rattle.c_grammar.specs.Parts.{part_of, term_of, term_list, gathered, declarator_in, declaration_in, label_in, item_in, items_in, statement_in, body_in}
use Rattle.c_grammar.specs.Weights.{weight, weights}

-- ---- what a syntax writes

abbrev pub item_of : (ℕ → List ℕ) → Syntax → Item
item_of word x = item_in (part_of word x)

abbrev pub plain_of : (ℕ → List ℕ) → Syntax → Plain
plain_of word x = statement_in (part_of word x)

abbrev pub body_of : (ℕ → List ℕ) → Syntax → Body
body_of word x = body_in (part_of word x)

abbrev pub declaration_of : (ℕ → List ℕ) → Syntax → Declaration
declaration_of word x = declaration_in (part_of word x).content

abbrev pub label_of : (ℕ → List ℕ) → Syntax → Option Label
label_of word x = label_in (part_of word x).content

abbrev pub declarator_of : (ℕ → List ℕ) → Syntax → Option Declarator
declarator_of word x = declarator_in (part_of word x).content

-- the labels among these nodes, in order
abbrev pub labels_of : (ℕ → List ℕ) → List Syntax → List Label
labels_of word xs = gathered label_in (map (part_of word) xs)

abbrev pub declarators_of : (ℕ → List ℕ) → List Syntax → List Declarator
declarators_of word xs = gathered declarator_in (map (part_of word) xs)

-- the expressions among these nodes, in order
abbrev pub term_list_of : (ℕ → List ℕ) → List Syntax → List Term
term_list_of word xs = term_list (map (part_of word) xs)

-- ---- what a layer is

abbrev pub size_form : (ℕ → List ℕ) → SizeLayer → Size
size_form word Z.NoSize = NoSize
size_form word Z.Unsized = Unsized
size_form word (Z.Sized t) = Sized (term_of word t.now)

abbrev pub initialiser_form : (ℕ → List ℕ) → InitialiserLayer → Initialiser
initialiser_form word V.NoValue = NoValue
initialiser_form word (V.OneValue t) = OneValue (term_of word t.now)
initialiser_form word (V.ValueList ts) = ValueList (term_list_of word ts.now)

abbrev pub declarator_form : (ℕ → List ℕ) → DeclaratorLayer → Declarator
declarator_form word d = record { name = d.name; size = size_form word d.size; value = initialiser_form word d.value }

abbrev pub declaration_form : (ℕ → List ℕ) → DeclarationLayer → Declaration
declaration_form word d =
    record { constant = d.constant; words = elim d.kind [ Some k ↦ (part_of word k.now).firsts | None ↦ [] ]; names = declarators_of word d.names.now }

abbrev pub label_form : (ℕ → List ℕ) → LabelLayer → Label
label_form word (L.Named first after) = Named first after
label_form word (L.Case first after t) = Case first after (term_of word t.now)
label_form word (L.Default first after) = Default first after

abbrev pub item_form : (ℕ → List ℕ) → ItemLayer → Item
item_form word (I.Declares first after d) = Declares first after (declaration_of word d.now)
item_form word (I.States ls p) = States (labels_of word ls.now) (plain_of word p.now)
item_form word (I.Unread first after) = States [] (From first after Unread)

abbrev pub body_form : (ℕ → List ℕ) → BodyLayer → Body
body_form word (B.Braces first after xs) = Braces first after (items_in (map (part_of word) xs.now))
body_form word (B.Lone first after x) = Lone first after (item_of word x.now)

abbrev pub start_form : (ℕ → List ℕ) → StartLayer → Start
start_form word T.NoStart = NoStart
start_form word (T.StartValue t) = StartValue (term_of word t.now)
start_form word (T.StartNames d) = StartNames (declaration_of word d.now)

abbrev pub statement_form : (ℕ → List ℕ) → StatementLayer → Statement
statement_form word S.Null = Null
statement_form word (S.Evaluate t) = Evaluate (term_of word t.now)
statement_form word (S.If t b) = If (term_of word t.now) (body_of word b.now)
statement_form word (S.IfElse t b c) = IfElse (term_of word t.now) (body_of word b.now) (body_of word c.now)
statement_form word (S.While t b) = While (term_of word t.now) (body_of word b.now)
statement_form word (S.DoWhile b t) = DoWhile (body_of word b.now) (term_of word t.now)
statement_form word (S.For s t u b) = For (start_form word s) (option_map (λ x. term_of word x.now) t) (option_map (λ x. term_of word x.now) u)
    (body_of word b.now)
statement_form word (S.Switch t b) = Switch (term_of word t.now) (body_of word b.now)
statement_form word (S.Block first after xs) = Block (Braces first after (items_in (map (part_of word) xs.now)))
statement_form word (S.Goto at) = Goto at
statement_form word S.Break = Break
statement_form word S.Continue = Continue
statement_form word (S.Return t) = Return (option_map (λ x. term_of word x.now) t)
statement_form word S.Unread = Unread

-- ---- a walk ends, since what stands in a node has fewer nodes; a statement that is its own list has no more

abbrev pub ItemIsSmaller : ℕ → ItemLayer → Type 0
ItemIsSmaller n (I.States ls p) = (weights ls.now < n) × (weight p.now < n)
ItemIsSmaller n _ = Unit {0}

abbrev pub BodyIsSmaller : ℕ → BodyLayer → Type 0
BodyIsSmaller n (B.Braces first after xs) = weights xs.now < n
BodyIsSmaller n (B.Lone first after x) = weight x.now ≤ n

abbrev pub StatementIsSmaller : ℕ → StatementLayer → Type 0
StatementIsSmaller n (S.If t b) = weight b.now < n
StatementIsSmaller n (S.IfElse t b c) = (weight b.now < n) × (weight c.now < n)
StatementIsSmaller n (S.While t b) = weight b.now < n
StatementIsSmaller n (S.DoWhile b t) = weight b.now < n
StatementIsSmaller n (S.For s t u b) = weight b.now < n
StatementIsSmaller n (S.Switch t b) = weight b.now < n
StatementIsSmaller n (S.Block first after xs) = weights xs.now < n
StatementIsSmaller n _ = Unit {0}
