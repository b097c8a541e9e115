-- The names at a place, as the code has them, and the source trees of a syntax.
use Rattle.std.specs.Prelude.{List, map}
use Rattle.c_grammar.specs.declared.syntax.Syntax.{Syntax}
use Rattle.c_kinds.specs.declared.names.Known.{Known}
use Rattle.c_kinds.specs.declared.typed.Given.{Given}
use Rattle.c_kinds.specs.Scopes.{Env}
use Rattle.c_kinds.specs.Typing.{typed}
use Rattle.c_grammar.specs.Parts.{part_of, term_of, terms_in}
use Rattle.c_grammar.specs.Terms.{Term, Terms, first_of}
use Rattle.c_grammar.specs.Views.{words_of}

abbrev pub env_of : Known → Env
env_of k = record { word = words_of k.words; scopes = k.scopes }

-- the expression that a syntax writes
abbrev pub term : Known → Syntax → Term
term k x = term_of (words_of k.words) x

-- the expressions among the parts of a node
abbrev pub terms : Known → List Syntax → Terms
terms k xs = terms_in (map (part_of (words_of k.words)) xs)

-- an argument, with its first token
abbrev pub given_of : Env → Term → Given
given_of env x = record { first = first_of x; typed = typed env x }
