-- The derivations of files (ISO/IEC 9899:2011, 6.9), and their tokens.
use Rattle.std.specs.Prelude.{Bool, List, [], ◌∷◌, Option, Some, None}
use Rattle.c_grammar.specs.declared.class.Class.{Class}
use Rattle.c_grammar.specs.declared.class.Class.TheVariants as c
use Rattle.c_grammar.specs.Expressions.{NumberType, Conditional, type_tokens, conditional_tokens, FitsConditional}
use Rattle.c_grammar.specs.Statements.{Size, Local, Block, word_tokens, more_tokens, rest_tokens, size_tokens, local_tokens, block_tokens, FitsMore, FitsSize, FitsLocal, FitsBlock}

-- param = [ "const" ] number-type [ name ] [ "[" [ conditional ] "]" ]
pub data Parameter : Type 0 where
  Typed : Bool → NumberType → Bool → Size → Parameter

-- params = [ "void" ] | param { "," param }
pub data Parameters : Type 0 where
  NoParameters : Parameters
  VoidParameters : Parameters
  SomeParameters : Parameter → List Parameter → Parameters

-- enum = "enum" "{" enumerator { "," enumerator } [ "," ] "}" ";", enumerator = name [ "=" conditional ]
pub data Enumeration : Type 0 where
  Enumerated : Option Conditional → List (Option Conditional) → Bool → Enumeration

-- declaration = [ "static" ] local
pub data Declaration : Type 0 where
  Declares : Bool → Local → Declaration

-- function = [ "static" ] ( number-type | "void" ) name "(" params ")" ( ";" | block )
pub data Function : Type 0 where
  Defined : Bool → Option NumberType → Parameters → Option Block → Function

-- directive | enum | declaration | function
pub data Top : Type 0 where
  Line : Top
  OfEnum : Enumeration → Top
  OfDeclaration : Declaration → Top
  OfFunction : Function → Top

-- ---- the tokens of a derivation, and then these

abbrev pub parameter_tokens : Parameter → List Class → List Class
parameter_tokens (Typed constant n named size) r = word_tokens c.Const constant (type_tokens n (word_tokens c.Name named (size_tokens size r)))

abbrev pub parameters_tokens : Parameters → List Class → List Class
parameters_tokens NoParameters r = r
parameters_tokens VoidParameters r = c.Void ∷ r
parameters_tokens (SomeParameters x xs) r = parameter_tokens x (more_tokens parameter_tokens xs r)

abbrev pub constant_tokens : Option Conditional → List Class → List Class
constant_tokens None r = r
constant_tokens (Some d) r = c.Equals ∷ conditional_tokens d r

abbrev pub enumerator_tokens : Option Conditional → List Class → List Class
enumerator_tokens value r = c.Name ∷ constant_tokens value r

abbrev pub enumeration_tokens : Enumeration → List Class → List Class
enumeration_tokens (Enumerated x xs trailing) r = c.Enum ∷ c.OpenBlock ∷ enumerator_tokens x (rest_tokens enumerator_tokens xs trailing (c.Semicolon ∷ r))

abbrev pub declaration_tokens : Declaration → List Class → List Class
declaration_tokens (Declares static x) r = word_tokens c.Static static (local_tokens x r)

abbrev pub result_tokens : Option NumberType → List Class → List Class
result_tokens None r = c.Void ∷ r
result_tokens (Some n) r = type_tokens n r

abbrev pub body_tokens : Option Block → List Class → List Class
body_tokens None r = c.Semicolon ∷ r
body_tokens (Some b) r = block_tokens b r

abbrev pub function_tokens : Function → List Class → List Class
function_tokens (Defined static n xs b) r = word_tokens c.Static static (result_tokens n (c.Name ∷ c.Open ∷ parameters_tokens xs (c.Close ∷ body_tokens b r)))

abbrev pub top_tokens : Top → List Class → List Class
top_tokens Line r = c.Directive ∷ r
top_tokens (OfEnum x) r = enumeration_tokens x r
top_tokens (OfDeclaration x) r = declaration_tokens x r
top_tokens (OfFunction x) r = function_tokens x r

-- file = { directive | enum | declaration | function }
abbrev pub file_tokens : List Top → List Class → List Class
file_tokens [] r = r
file_tokens (x ∷ xs) r = top_tokens x (file_tokens xs r)

-- ---- what the productions ask beyond their form

abbrev pub FitsParameter : Parameter → Type 0
FitsParameter (Typed constant n named size) = FitsSize size

abbrev pub FitsParameters : Parameters → Type 0
FitsParameters (SomeParameters x xs) = FitsParameter x × FitsMore FitsParameter xs
FitsParameters _ = Unit {0}

abbrev pub FitsConstant : Option Conditional → Type 0
FitsConstant None = Unit {0}
FitsConstant (Some d) = FitsConditional d

abbrev pub FitsEnumeration : Enumeration → Type 0
FitsEnumeration (Enumerated x xs trailing) = FitsConstant x × FitsMore FitsConstant xs

abbrev pub FitsDeclaration : Declaration → Type 0
FitsDeclaration (Declares static x) = FitsLocal x

abbrev pub FitsBody : Option Block → Type 0
FitsBody None = Unit {0}
FitsBody (Some b) = FitsBlock b

abbrev pub FitsFunction : Function → Type 0
FitsFunction (Defined static n xs b) = FitsParameters xs × FitsBody b

abbrev pub FitsTop : Top → Type 0
FitsTop Line = Unit {0}
FitsTop (OfEnum x) = FitsEnumeration x
FitsTop (OfDeclaration x) = FitsDeclaration x
FitsTop (OfFunction x) = FitsFunction x

abbrev pub FitsFile : List Top → Type 0
FitsFile xs = FitsMore FitsTop xs
