-- The definitions tried on small texts.
use Rattle.std.proofs.Common.{◌≡◌, true, false, [], ◌∷◌, Some, None, codes, true≢false, refl, sym}
use Rattle.c_lexer.specs.declared.mark.Mark.TheVariants.{ShiftLeftEquals, Comma}
use Rattle.c_lexer.specs.declared.token.TokenKind.TheVariants as k
use Rattle.c_lexer.specs.Marks.{mark_of}
use Rattle.c_lexer.specs.Numbers.{is_run, ends_with_power, value_of}
use Rattle.c_lexer.specs.Includes.{Leaves, ClosesComments}
use Rattle.c_lexer.specs.Pieces.{Space, Word, Sign, Line, Block, SlashFollows, slash_next, line_end_next, Closes, stands_first, token, tokens_of}
use Rattle.c_lexer.proofs.CommentEnds.{closed, closes_so}
use Rattle.c_lexer.proofs.IncludeLemmas.{leaves, closed_rest, rest_closed}

-- ---- marks and numbers

three_bytes : mark_of (codes "<<=") ≡ Some ShiftLeftEquals
three_bytes = refl

no_mark : mark_of (codes "=<") ≡ None
no_mark = refl

no_dots : mark_of (codes "...") ≡ None
no_dots = refl

signed_power : is_run (codes "1e+5") ≡ true
signed_power = refl

sum_of_two : is_run (codes "1+5") ≡ false
sum_of_two = refl

power_last : ends_with_power (codes "0x1P") ≡ true
power_last = refl

decimal : value_of 10 (codes "120") ≡ 120
decimal = refl

hexadecimal : value_of 16 (codes "fF") ≡ 255
hexadecimal = refl

-- ---- `#include` lines

past_a_comment : Leaves (codes "a /* \" */ \"b\"") (codes "\"b\"")
past_a_comment = leaves (codes "a /* \" */ \"b\"")

line_comment : Leaves (codes "a // \"b\"") []
line_comment = leaves (codes "a // \"b\"")

unended : Leaves (codes "a /*/ \"b\"") (codes "/*/ \"b\"")
unended = leaves (codes "a /*/ \"b\"")

left_open : ClosesComments (codes "include <a.h> /* b") → ⊥
left_open h = true≢false (closed_rest h)

none_open : ClosesComments (codes "include <a/*.h> /* b */")
none_open = rest_closed (codes "include <a/*.h> /* b */") refl

-- ---- comments

next_line : SlashFollows (codes "\\ \n/")
next_line = line_end_next (32 ∷ []) 10 (47 ∷ []) refl refl (slash_next [])

a_block : Closes (codes " a **/")
a_block = closed (codes " a **/") refl

-- with its lines joined it would close earlier
too_early : Closes (codes "*\\\n/ */") → ⊥
too_early h = true≢false (sym (closes_so (codes "*\\\n/ */") h))

-- ---- pieces

behind_a_line : stands_first (Line (codes "a") ∷ Space 10 ∷ Space 32 ∷ []) ≡ true
behind_a_line = refl

behind_a_block : stands_first (Space 10 ∷ Block (codes "*/") ∷ Space 32 ∷ []) ≡ false
behind_a_block = refl

two_tokens : tokens_of (Word (codes "a") ∷ Space 32 ∷ Sign Comma ∷ []) ≡ token k.Name 0 1 ∷ token k.Mark 2 3 ∷ []
two_tokens = refl
