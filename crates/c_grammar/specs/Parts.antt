-- What the nodes of a syntax write. Where a node doesn't have the parts of a derivation, something is put in their place.
use Rattle.std.specs.Prelude.{◌+◌, ◌-◌, ◌==◌, ℕ, Bool, true, false, cond, nat_le, List, [], ◌∷◌, map, Option, Some, None, length, max, drop, get_or}
use Rattle.c_grammar.specs.declared.class.Class.{Class}
use Rattle.c_grammar.specs.declared.class.Class.TheVariants as c
use Rattle.c_grammar.specs.declared.syntax.Syntax.{Syntax, fold-Syntax}
use Rattle.c_grammar.specs.declared.syntax.Syntax.TheOpen.{Syntax-F}
use Rattle.c_grammar.specs.declared.syntax.Production.{Production}
use Rattle.c_grammar.specs.declared.syntax.Production.TheVariants as p
use Rattle.c_grammar.specs.TokenClasses.{keyword_class}
use Rattle.c_grammar.specs.Counted.{is_full, own_count}
use Rattle.c_grammar.specs.Terms.{Term, Form, Terms, At, Constant, Variable, Cell, Prefix, Suffix, CastTo, CastVoid, Binary, Choice, Assign, Commas, Call, Texts, Unknown, NoTerm, form_of}
use Rattle.c_grammar.specs.Terms as terms
use Rattle.c_grammar.specs.Items.{Size, NoSize, Unsized, Sized, Initialiser, NoValue, OneValue, ValueList, Declarator, Declaration, Label, Named, Case, Default, Start, NoStart, StartValue, StartNames, Item, Declares, States, Plain, From, Statement, Null, Evaluate, If, IfElse, While, DoWhile, For, Switch, Block, Goto, Break, Continue, Return, Body, Braces, Lone, Items, NoItem}
use Rattle.c_grammar.specs.Items as items
use Rattle.c_grammar.specs.Tops.{Enumerator, Parameter, Function, Top, Line, Enum, Globals, Defines}
use Rattle.c_grammar.specs.Tops as tops

-- what a node writes, by its production
pub data Content : Type 0 where
  Leaf : Content
  OfType : Content
  OfTerm : Form → Content
  OfInitialiser : Initialiser → Content
  OfDeclarator : Declarator → Content
  OfLocal : Declaration → Content
  OfLabel : Label → Content
  OfPlain : Statement → Content
  OfItem : Item → Content
  OfBlock : Items → Content
  OfEnumerator : Enumerator → Content
  OfParameter : Parameter → Content
  OfParameters : List Parameter → Content
  OfTop : tops.Form → Content
  OfFile : List Top → Content

-- a node: its place, its words if it is a type, the counts, and what it writes
pub record Part : Type 0 where
  pub rule : Production
  pub first : ℕ
  pub after : ℕ
  pub firsts : List ℕ
  -- how many of its tokens count, and the most that count in a full expression in it
  pub counted : ℕ
  pub most : ℕ
  pub content : Content

-- the words of a type are the first tokens of its node's parts; other nodes have none
abbrev pub words_of_type : Production → List ℕ → List ℕ
words_of_type p.NumberType words = words
words_of_type _ words = []

-- in the place of a part that isn't there
abbrev pub absent : Part
absent = record { rule = p.Token; first = 0; after = 0; firsts = []; counted = 0; most = 0; content = Leaf }

abbrev pub at : List Part → ℕ → Part
at ps i = get_or ps i absent

abbrev pub count_is : List Part → ℕ → Bool
count_is ps n = length ps == n

abbrev pub is_token : Production → Bool
is_token p.Token = true
is_token _ = false

abbrev pub is_local : Production → Bool
is_local p.Local = true
is_local _ = false

-- part i is a token
abbrev pub token_at : List Part → ℕ → Bool
token_at ps i = is_token (at ps i).rule

abbrev pub first_at : List Part → ℕ → ℕ
first_at ps i = (at ps i).first

abbrev pub sum_counted : List Part → ℕ
sum_counted [] = 0
sum_counted (q ∷ qs) = q.counted + sum_counted qs

abbrev pub greatest : List Part → ℕ
greatest [] = 0
greatest (q ∷ qs) = max q.most (greatest qs)

-- what each part has of a sort, in order
abbrev pub gathered : {X : Type 0} → (Content → Option X) → List Part → List X
gathered pick [] = []
gathered pick (q ∷ qs) = elim (pick q.content) [ Some x ↦ x ∷ gathered pick qs | None ↦ gathered pick qs ]

-- ---- expressions

abbrev pub form_in : Content → Form
form_in (OfTerm form) = form
form_in _ = Unknown

abbrev pub term_in : Part → Term
term_in q = At q.first (form_in q.content)

abbrev pub term_at : List Part → ℕ → Term
term_at ps i = term_in (at ps i)

abbrev pub form_at : List Part → ℕ → Form
form_at ps i = form_in (at ps i).content

-- the parts that are expressions, in order
abbrev pub terms_in : List Part → Terms
terms_in [] = NoTerm
terms_in (q ∷ qs) = cond (is_token q.rule) (terms_in qs) (terms.Then (term_in q) (terms_in qs))

-- expression = assignment { "," assignment }
abbrev pub expression_form : List Part → Form
expression_form ps =
    cond (count_is ps 1) (form_at ps 0)
    (cond (nat_le 2 (length ps)) (Commas (term_at ps 0) (terms_in (drop 1 ps))) Unknown)

-- assignment = target assign-mark assignment | conditional
abbrev pub assignment_form : List Part → Form
assignment_form ps =
    cond (count_is ps 1) (form_at ps 0)
    (cond (count_is ps 3) (Assign (first_at ps 1) (term_at ps 0) (term_at ps 2)) Unknown)

-- conditional = binary [ "?" expression ":" conditional ]
abbrev pub conditional_form : List Part → Form
conditional_form ps =
    cond (count_is ps 1) (form_at ps 0)
    (cond (count_is ps 5) (Choice (term_at ps 0) (term_at ps 2) (term_at ps 4)) Unknown)

abbrev pub binary_form : List Part → Form
binary_form ps =
    cond (count_is ps 1) (form_at ps 0)
    (cond (count_is ps 3) (Binary (first_at ps 1) (term_at ps 0) (term_at ps 2)) Unknown)

-- unary = mark unary | mark target | "(" ( number-type | "void" ) ")" unary | postfix
abbrev pub unary_form : List Part → Form
unary_form ps =
    cond (count_is ps 1) (form_at ps 0)
    (cond (count_is ps 2) (Prefix (first_at ps 0) (term_at ps 1))
    (cond (count_is ps 4) (cond (token_at ps 1) (CastVoid (term_at ps 3)) (CastTo (at ps 1).firsts (term_at ps 3))) Unknown))

-- a call, or an expression in brackets
abbrev pub bracket_form : List Part → Form
bracket_form ps = cond (token_at ps 1) (Call (first_at ps 0) (terms_in (drop 2 ps))) (form_at ps 1)

-- postfix = target [ "++" | "--" ] | name "(" [ argument { "," argument } ] ")" | number | character | "(" expression ")"
abbrev pub postfix_form : List Part → Form
postfix_form ps =
    cond (count_is ps 1) (cond (token_at ps 0) (Constant (first_at ps 0)) (form_at ps 0))
    (cond (count_is ps 2) (Suffix (first_at ps 1) (term_at ps 0))
    (cond (nat_le 3 (length ps)) (bracket_form ps) Unknown))

-- target = name | name "[" expression "]" | "(" target ")"
abbrev pub target_form : List Part → Form
target_form ps =
    cond (count_is ps 1) (Variable (first_at ps 0))
    (cond (count_is ps 3) (form_at ps 1)
    (cond (count_is ps 4) (Cell (first_at ps 0) (term_at ps 2)) Unknown))

-- argument = assignment | text { text }
abbrev pub argument_form : List Part → Form
argument_form ps = cond (token_at ps 0) (Texts (map (λ (q : Part). q.first) ps)) (form_at ps 0)

-- the form of an expression, by its production
abbrev pub form_by : Production → List Part → Form
form_by p.Expression ps = expression_form ps
form_by p.Assignment ps = assignment_form ps
form_by p.Conditional ps = conditional_form ps
form_by p.Binary ps = binary_form ps
form_by p.Unary ps = unary_form ps
form_by p.Postfix ps = postfix_form ps
form_by p.Target ps = target_form ps
form_by p.Argument ps = argument_form ps
form_by _ ps = Unknown

-- ---- declarations

abbrev pub term_list : List Part → List Term
term_list [] = []
term_list (q ∷ qs) = cond (is_token q.rule) (term_list qs) (term_in q ∷ term_list qs)

-- initialiser = assignment | "{" assignment { "," assignment } [ "," ] "}"
abbrev pub initialiser : List Part → Initialiser
initialiser ps = cond (count_is ps 1) (OneValue (term_at ps 0)) (ValueList (term_list ps))

abbrev pub initialiser_in : Content → Initialiser
initialiser_in (OfInitialiser i) = i
initialiser_in _ = NoValue

-- the value behind a size of this many parts
abbrev pub declared : List Part → Size → Initialiser → Declarator
declared ps size value = record { name = first_at ps 0; size = size; value = value }

-- declarator = name [ "[" [ conditional ] "]" ] [ "=" initialiser ]
abbrev pub declarator : List Part → Declarator
declarator ps =
    cond (count_is ps 3) (cond (token_at ps 2) (declared ps Unsized NoValue) (declared ps NoSize (initialiser_in (at ps 2).content)))
    (cond (count_is ps 4) (declared ps (Sized (term_at ps 2)) NoValue)
    (cond (count_is ps 5) (declared ps Unsized (initialiser_in (at ps 4).content))
    (cond (count_is ps 6) (declared ps (Sized (term_at ps 2)) (initialiser_in (at ps 5).content))
    (declared ps NoSize NoValue))))

abbrev pub declarator_in : Content → Option Declarator
declarator_in (OfDeclarator d) = Some d
declarator_in _ = None

-- local = [ "const" ] number-type declarator { "," declarator } ";"
abbrev pub no_declaration : Declaration
no_declaration = record { constant = false; words = []; names = [] }

abbrev pub declaration : List Part → Declaration
declaration ps =
    let constant = token_at ps 0 in
    cond (nat_le 2 (length ps)) (record { constant = constant; words = (at ps (cond constant 1 0)).firsts; names = gathered declarator_in ps }) no_declaration

abbrev pub declaration_in : Content → Declaration
declaration_in (OfLocal d) = d
declaration_in _ = no_declaration

-- ---- statements

-- label = name ":" | "case" conditional ":" | "default" ":"
abbrev pub two_part_label : Class → ℕ → ℕ → Label
two_part_label c.Default first after = Default first after
two_part_label _ first after = Named first after

abbrev pub label : (ℕ → List ℕ) → ℕ → ℕ → List Part → Label
label word first after ps =
    cond (count_is ps 3) (Case first after (term_at ps 1)) (two_part_label (keyword_class (word first)) first after)

abbrev pub label_in : Content → Option Label
label_in (OfLabel l) = Some l
label_in _ = None

abbrev pub item_in : Part → Item
item_in q = elim q.content [ OfItem x ↦ x | OfLocal d ↦ Declares q.first q.after d | _ ↦ States [] (From q.first q.after items.Unread) ]

-- the list of a construct: a block alone is its own list
abbrev pub list_of_plain : ℕ → ℕ → List Label → Plain → Body
list_of_plain first after [] (From a b (Block list)) = list
list_of_plain first after labels plain = Lone first after (States labels plain)

abbrev pub list_of_item : ℕ → ℕ → Item → Body
list_of_item first after (States labels plain) = list_of_plain first after labels plain
list_of_item first after x = Lone first after x

abbrev pub body_in : Part → Body
body_in q = list_of_item q.first q.after (item_in q)

abbrev pub body_at : List Part → ℕ → Body
body_at ps i = body_in (at ps i)

-- an expression, unless a token stands in its place
abbrev pub optional_at : List Part → ℕ → Option Term
optional_at ps i = cond (token_at ps i) None (Some (term_at ps i))

-- the parts behind an expression that may be left out, and the token behind it
abbrev pub behind_optional : List Part → List Part
behind_optional ps = drop (cond (token_at ps 0) 1 2) ps

abbrev pub start_of : List Part → Start
start_of ps =
    cond (is_local (at ps 0).rule) (StartNames (declaration_in (at ps 0).content))
    (cond (token_at ps 0) NoStart (StartValue (term_at ps 0)))

abbrev pub behind_start : List Part → List Part
behind_start ps = cond (is_local (at ps 0).rule) (drop 1 ps) (behind_optional ps)

-- a `for` behind its bracket: start [ expression ] ";" [ expression ] ")" statement
abbrev pub for_of : List Part → Statement
for_of ps =
    let behind_first = behind_start ps in
    let behind_test = behind_optional behind_first in
    let behind_third = behind_optional behind_test in
    cond (nat_le 1 (length behind_third)) (For (start_of ps) (optional_at behind_first 0) (optional_at behind_test 0) (body_at behind_third 0)) items.Unread

abbrev pub if_of : List Part → Statement
if_of ps =
    cond (count_is ps 5) (If (term_at ps 2) (body_at ps 4))
    (cond (count_is ps 7) (IfElse (term_at ps 2) (body_at ps 4) (body_at ps 6)) items.Unread)

-- a statement of so many parts
abbrev pub of_parts : ℕ → List Part → Statement → Statement
of_parts n ps s = cond (count_is ps n) s items.Unread

-- a statement that begins with a token of this class
abbrev pub keyword_statement : Class → List Part → Statement
keyword_statement c.If ps = if_of ps
keyword_statement c.While ps = of_parts 5 ps (While (term_at ps 2) (body_at ps 4))
keyword_statement c.Do ps = of_parts 7 ps (DoWhile (body_at ps 1) (term_at ps 4))
keyword_statement c.For ps = cond (nat_le 2 (length ps)) (for_of (drop 2 ps)) items.Unread
keyword_statement c.Switch ps = of_parts 5 ps (Switch (term_at ps 2) (body_at ps 4))
keyword_statement c.Goto ps = of_parts 3 ps (Goto (first_at ps 1))
keyword_statement c.Break ps = Break
keyword_statement c.Continue ps = Continue
keyword_statement c.Return ps = Return (optional_at ps 1)
keyword_statement _ ps = Null

-- a block or an expression in front of `;`
abbrev pub other_statement : Part → Statement
other_statement q = elim q.content [ OfBlock xs ↦ Block (Braces q.first q.after xs) | OfTerm form ↦ Evaluate (At q.first form) | _ ↦ items.Unread ]

abbrev pub plain_statement : (ℕ → List ℕ) → List Part → Statement
plain_statement word [] = items.Unread
plain_statement word (q ∷ qs) = cond (is_token q.rule) (keyword_statement (keyword_class (word q.first)) (q ∷ qs)) (other_statement q)

abbrev pub statement_in : Part → Plain
statement_in q = elim q.content [ OfPlain s ↦ From q.first q.after s | _ ↦ From q.first q.after items.Unread ]

-- statement = { label } plain
abbrev pub labelled : List Part → Item
labelled ps = States (gathered label_in ps) (statement_in (at ps (length ps - 1)))

-- the declarations and statements between the braces of a block
abbrev pub items_in : List Part → Items
items_in [] = NoItem
items_in (q ∷ qs) = cond (is_token q.rule) (items_in qs) (items.Then (item_in q) (items_in qs))

-- ---- file scope

-- enumerator = name [ "=" conditional ]
abbrev pub enumerator : List Part → Enumerator
enumerator ps = record { name = first_at ps 0; value = cond (count_is ps 3) (Some (term_at ps 2)) None }

abbrev pub enumerator_in : Content → Option Enumerator
enumerator_in (OfEnumerator e) = Some e
enumerator_in _ = None

-- what stands behind the type of a parameter: [ name ] [ "[" [ conditional ] "]" ]
abbrev pub parameter_name : List Part → Option ℕ
parameter_name ps =
    cond (count_is ps 1) (Some (first_at ps 0))
    (cond (count_is ps 3) (cond (token_at ps 1) (Some (first_at ps 0)) None)
    (cond (count_is ps 4) (Some (first_at ps 0)) None))

abbrev pub parameter_size : List Part → Size
parameter_size ps =
    cond (count_is ps 2) Unsized
    (cond (count_is ps 3) (cond (token_at ps 1) Unsized (Sized (term_at ps 1)))
    (cond (count_is ps 4) (Sized (term_at ps 2)) NoSize))

-- param = [ "const" ] number-type [ name ] [ "[" [ conditional ] "]" ]
abbrev pub parameter : ℕ → List Part → Parameter
parameter first ps =
    let constant = token_at ps 0 in
    let behind = drop (cond constant 2 1) ps in
    record { first = first; constant = constant; words = (at ps (cond constant 1 0)).firsts; name = parameter_name behind; size = parameter_size behind }

abbrev pub parameter_in : Content → Option Parameter
parameter_in (OfParameter x) = Some x
parameter_in _ = None

abbrev pub parameters_in : Content → List Parameter
parameters_in (OfParameters xs) = xs
parameters_in _ = []

-- the words of a type, or None for `void`
abbrev pub result_words : Part → Option (List ℕ)
result_words q = cond (is_token q.rule) None (Some q.firsts)

abbrev pub block_in : Part → Option Body
block_in q = elim q.content [ OfBlock xs ↦ Some (Braces q.first q.after xs) | _ ↦ None ]

-- ( number-type | "void" ) name "(" params ")" ( ";" | block ), behind `static`
abbrev pub function_of : Bool → List Part → Function
function_of static ps =
    record {
      static = static;
      words = result_words (at ps 0);
      name = first_at ps 1;
      parameters = parameters_in (at ps 3).content;
      body = block_in (at ps 5);
      counted = greatest ps;
    }

abbrev pub function : List Part → tops.Form
function ps =
    cond (count_is ps 7) (Defines (function_of true (drop 1 ps)))
    (cond (count_is ps 6) (Defines (function_of false ps)) tops.Unread)

-- [ "static" ] local
abbrev pub globals : List Part → tops.Form
globals ps =
    cond (count_is ps 2) (Globals true (declaration_in (at ps 1).content))
    (cond (count_is ps 1) (Globals false (declaration_in (at ps 0).content)) tops.Unread)

abbrev pub top_in : Part → Top
top_in q = elim q.content [ OfTop form ↦ tops.From q.first q.after form | Leaf ↦ tops.From q.first q.after Line | _ ↦ tops.From q.first q.after tops.Unread ]

-- ---- by production

abbrev pub content : (ℕ → List ℕ) → Production → ℕ → ℕ → List Part → Content
content word p.Token first after ps = Leaf
content word p.NumberType first after ps = OfType
content word p.Expression first after ps = OfTerm (form_by p.Expression ps)
content word p.Assignment first after ps = OfTerm (form_by p.Assignment ps)
content word p.Conditional first after ps = OfTerm (form_by p.Conditional ps)
content word p.Binary first after ps = OfTerm (form_by p.Binary ps)
content word p.Unary first after ps = OfTerm (form_by p.Unary ps)
content word p.Postfix first after ps = OfTerm (form_by p.Postfix ps)
content word p.Target first after ps = OfTerm (form_by p.Target ps)
content word p.Argument first after ps = OfTerm (form_by p.Argument ps)
content word p.Initialiser first after ps = OfInitialiser (initialiser ps)
content word p.Declarator first after ps = OfDeclarator (declarator ps)
content word p.Local first after ps = OfLocal (declaration ps)
content word p.Label first after ps = OfLabel (label word first after ps)
content word p.Plain first after ps = OfPlain (plain_statement word ps)
content word p.Statement first after ps = OfItem (labelled ps)
content word p.Block first after ps = OfBlock (items_in ps)
content word p.Enumerator first after ps = OfEnumerator (enumerator ps)
content word p.Param first after ps = OfParameter (parameter first ps)
content word p.Params first after ps = OfParameters (gathered parameter_in ps)
content word p.Enum first after ps = OfTop (Enum (gathered enumerator_in ps))
content word p.Declaration first after ps = OfTop (globals ps)
content word p.Function first after ps = OfTop (function ps)
content word p.File first after ps = OfFile (map top_in ps)

abbrev pub part_layer : (ℕ → List ℕ) → Syntax-F Part → Part
part_layer word s =
    let counted = own_count word s.rule s.first (length s.parts) (sum_counted s.parts) in
    record {
      rule = s.rule;
      first = s.first;
      after = s.after;
      firsts = words_of_type s.rule (map (λ (q : Part). q.first) s.parts);
      counted = counted;
      most = cond (is_full s.rule) counted (greatest s.parts);
      content = content word s.rule s.first s.after s.parts;
    }

-- what a syntax writes; the words of its tokens tell statements apart
unfoldable pub part_of : (ℕ → List ℕ) → Syntax → Part
part_of word x = fold-Syntax Part (part_layer word) x

abbrev pub term_of : (ℕ → List ℕ) → Syntax → Term
term_of word x = term_in (part_of word x)

abbrev pub tops_in : Content → List Top
tops_in (OfFile xs) = xs
tops_in _ = []

-- the file that a syntax writes
abbrev pub file_of : (ℕ → List ℕ) → Syntax → List Top
file_of word x = tops_in (part_of word x).content
