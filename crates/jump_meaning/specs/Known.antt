-- Calls that enter no body: the known functions of the library (7.21, 7.22), and functions without a body.
use Rattle.std.specs.Prelude.{ℕ, ℤ, pos, negsuc, false, cond, ◌==◌, List, [], ◌∷◌, ◌++◌, map, length, codes, Option, Some, None}
use Rattle.std.specs.Fmt.{digits, signed_decimal}
use Rattle.std.specs.Str.{bytes_eq}
use Rattle.c_types.specs.declared.kinds.IntKind.{IntKind}
use Rattle.c_types.specs.declared.kinds.IntKind.TheVariants.{UChar, Int, UInt, Long, ULong}
use Rattle.c_types.specs.declared.trap.Trap.{Trap}
use Rattle.c_types.specs.Numbers.{converted, residue}
use Rattle.c_tree.specs.declared.tree.Slot.{Slot}
use Rattle.jump_meaning.specs.Values.{Value, Integer, Format, Missing, Byte, Called, integer}
use Rattle.jump_meaning.specs.Code.{FunctionTree}
use Rattle.jump_meaning.specs.World.{World, Outcome, Gives, Traps, Exits, emit}

-- ---- what `printf` writes (7.21.6.1)

-- where the reading of a format stands: at a byte, after `%`, after `%l`
pub data Reading : Type 0 where
  InText : Reading
  AfterPercent : Reading
  AfterL : Reading

-- the value of the next argument, and the arguments after it
abbrev pub next : List Value → ℤ
next [] = pos 0
next (v ∷ vs) = integer v

abbrev pub later : List Value → List Value
later [] = []
later (v ∷ vs) = vs

-- a number in decimal, after its conversion to a kind
abbrev pub in_decimal : IntKind → ℤ → List ℕ
in_decimal k n = signed_decimal (converted k n)

-- an unsigned int in lower-case hexadecimal
abbrev pub in_hexadecimal : ℤ → List ℕ
in_hexadecimal n = digits 16 false (residue UInt n)

-- the bytes of a format, with its arguments in their places; a format is all bytes of its text, also behind a 0 (this
-- profile). In a resolved program `%` is followed by `%`, `d`, `u`, `x`, `c`, `ld` or `lu` and by nothing else, so
-- that the last case of `AfterPercent` is `%c`, and that of `AfterL` is `%lu`
abbrev pub printed : Reading → List ℕ → List Value → List ℕ
printed r [] vs = []
printed InText (c ∷ cs) vs = cond (c == 37) (printed AfterPercent cs vs) (c ∷ printed InText cs vs)
printed AfterPercent (c ∷ cs) vs =
    cond (c == 37) (37 ∷ printed InText cs vs)
    (cond (c == 108) (printed AfterL cs vs)
    (cond (c == 100) (in_decimal Int (next vs) ++ printed InText cs (later vs))
    (cond (c == 117) (in_decimal UInt (next vs) ++ printed InText cs (later vs))
    (cond (c == 120) (in_hexadecimal (next vs) ++ printed InText cs (later vs))
    (residue UChar (next vs) ∷ printed InText cs (later vs))))))
printed AfterL (c ∷ cs) vs =
    cond (c == 100) (in_decimal Long (next vs) ++ printed InText cs (later vs))
    (in_decimal ULong (next vs) ++ printed InText cs (later vs))

-- the bytes that a call of `printf` writes: its first argument is the format
abbrev pub printed_bytes : List Value → List ℕ
printed_bytes (Format bs ∷ vs) = printed InText bs vs
printed_bytes vs = []

-- ---- the known functions

-- the next byte of the input, as an unsigned char, or -1 at its end
abbrev pub read_byte : List ℕ → World → Outcome
read_byte [] w = Gives (Integer (negsuc 0)) w
read_byte (b ∷ bs) w = Gives (Integer (pos (residue UChar (pos b)))) (record w { input = bs })

-- the byte is written and is the value
abbrev pub write_byte : ℕ → World → Outcome
write_byte b w = Gives (Integer (pos b)) (emit (Byte b ∷ []) w)

-- the bytes are written, and their number is the value
abbrev pub write_bytes : List ℕ → World → Outcome
write_bytes bs w = Gives (Integer (converted Int (pos (length bs)))) (emit (map Byte bs) w)

-- ---- functions without a body (this profile)

-- the arguments, converted to the kinds of the parameters
abbrev pub converted_arguments : List Slot → List Value → List ℤ
converted_arguments (s ∷ ss) (v ∷ vs) = converted s.kind (integer v) ∷ converted_arguments ss vs
converted_arguments _ _ = []

-- the value of such a call: none of a void function, else the next answer, converted, and a trap if none is left
abbrev pub answered : Option IntKind → List ℤ → World → Outcome
answered None ns w = Gives Missing w
answered (Some k) [] w = Traps Trap.NoAnswer w
answered (Some k) (n ∷ ns) w = Gives (Integer (converted k n)) (record w { answers = ns })

-- a call of a function without a body is an event, and then has an answer
abbrev pub call_declared : List ℕ → FunctionTree → List Value → World → Outcome
call_declared m f vs w = answered f.result w.answers (emit (Called m (converted_arguments f.slots vs) ∷ []) w)

-- a call of a function of this name that has no body in the program
abbrev pub call_without_body : List ℕ → FunctionTree → List Value → World → Outcome
call_without_body m f vs w =
    cond (bytes_eq m (codes "getchar")) (read_byte w.input w)
    (cond (bytes_eq m (codes "putchar")) (write_byte (residue UChar (next vs)) w)
    (cond (bytes_eq m (codes "printf")) (write_bytes (printed_bytes vs) w)
    (cond (bytes_eq m (codes "exit")) (Exits (converted Int (next vs)) w)
    (cond (bytes_eq m (codes "abort")) (Traps Trap.Abort w)
    (call_declared m f vs w)))))
