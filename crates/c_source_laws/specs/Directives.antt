-- What the directives of a text are.
use Rattle.std.specs.Prelude.{ℕ, List}
use Rattle.c_lexer.specs.declared.token.TokenKind.{TokenKind}
use Rattle.c_lexer.specs.declared.token.TokenKind.TheVariants as k
use Rattle.c_resolved_defs.specs.Verbatims.{IsDirective}

-- a token that is a directive is an `#include` line
abbrev pub IsDirectiveToken : TokenKind → List ℕ → Type 0
IsDirectiveToken k.Directive w = IsDirective w
IsDirectiveToken _ w = Unit {0}
