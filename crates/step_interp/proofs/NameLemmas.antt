-- Which call a name is.
use Rattle.std.proofs.Common.{ℕ, List, ◌≡◌, cond, true, false, codes, ap, ◌∙◌, bytes_eq}
use Rattle.c_types.specs.declared.kinds.IntKind.TheVariants.{UChar, Int}
use Rattle.c_types.specs.declared.trap.Trap.{Trap}
use Rattle.c_types.specs.Numbers.{converted, residue}
use Rattle.jump_meaning.specs.Code.{FunctionTree}
use Rattle.jump_meaning.specs.Known.{next, printed_bytes, read_byte, write_byte, write_bytes, call_declared, call_without_body}
use Rattle.jump_meaning.specs.Values.{Value}
use Rattle.jump_meaning.specs.World.{World, Outcome, Traps, Exits}

-- a call that isn't of these names
abbrev not_exit : List ℕ → FunctionTree → List Value → World → Outcome
not_exit m f vs w = cond (bytes_eq m (codes "abort")) (Traps Trap.Abort w) (call_declared m f vs w)

abbrev not_printf : List ℕ → FunctionTree → List Value → World → Outcome
not_printf m f vs w = cond (bytes_eq m (codes "exit")) (Exits (converted Int (next vs)) w) (not_exit m f vs w)

abbrev not_putchar : List ℕ → FunctionTree → List Value → World → Outcome
not_putchar m f vs w = cond (bytes_eq m (codes "printf")) (write_bytes (printed_bytes vs) w) (not_printf m f vs w)

abbrev not_getchar : List ℕ → FunctionTree → List Value → World → Outcome
not_getchar m f vs w = cond (bytes_eq m (codes "putchar")) (write_byte (residue UChar (next vs)) w) (not_putchar m f vs w)

after_getchar : (m : List ℕ) (f : FunctionTree) (vs : List Value) (w : World) → bytes_eq m (codes "getchar") ≡ false →
    call_without_body m f vs w ≡ not_getchar m f vs w
after_getchar m f vs w e = ap (λ b. cond b (read_byte w.input w) (not_getchar m f vs w)) e

after_putchar : (m : List ℕ) (f : FunctionTree) (vs : List Value) (w : World)
    → bytes_eq m (codes "getchar") ≡ false → bytes_eq m (codes "putchar") ≡ false → call_without_body m f vs w ≡ not_putchar m f vs w
after_putchar m f vs w e1 e2 = after_getchar m f vs w e1 ∙ ap (λ b. cond b (write_byte (residue UChar (next vs)) w) (not_putchar m f vs w)) e2

after_printf : (m : List ℕ) (f : FunctionTree) (vs : List Value) (w : World)
    → bytes_eq m (codes "getchar") ≡ false → bytes_eq m (codes "putchar") ≡ false → bytes_eq m (codes "printf") ≡ false →
    call_without_body m f vs w ≡ not_printf m f vs w
after_printf m f vs w e1 e2 e3 = after_putchar m f vs w e1 e2 ∙ ap (λ b. cond b (write_bytes (printed_bytes vs) w) (not_printf m f vs w)) e3

after_exit : (m : List ℕ) (f : FunctionTree) (vs : List Value) (w : World)
    → bytes_eq m (codes "getchar") ≡ false → bytes_eq m (codes "putchar") ≡ false → bytes_eq m (codes "printf") ≡ false → bytes_eq m (codes "exit") ≡ false
    → call_without_body m f vs w ≡ not_exit m f vs w
after_exit m f vs w e1 e2 e3 e4 = after_printf m f vs w e1 e2 e3 ∙ ap (λ b. cond b (Exits (converted Int (next vs)) w) (not_exit m f vs w)) e4

pub is_getchar : (m : List ℕ) (f : FunctionTree) (vs : List Value) (w : World) → bytes_eq m (codes "getchar") ≡ true →
    call_without_body m f vs w ≡ read_byte w.input w
is_getchar m f vs w e = ap (λ b. cond b (read_byte w.input w) (not_getchar m f vs w)) e

pub is_putchar : (m : List ℕ) (f : FunctionTree) (vs : List Value) (w : World)
    → bytes_eq m (codes "getchar") ≡ false → bytes_eq m (codes "putchar") ≡ true → call_without_body m f vs w ≡ write_byte (residue UChar (next vs)) w
is_putchar m f vs w e1 e2 = after_getchar m f vs w e1 ∙ ap (λ b. cond b (write_byte (residue UChar (next vs)) w) (not_putchar m f vs w)) e2

pub is_printf : (m : List ℕ) (f : FunctionTree) (vs : List Value) (w : World)
    → bytes_eq m (codes "getchar") ≡ false → bytes_eq m (codes "putchar") ≡ false → bytes_eq m (codes "printf") ≡ true
    → call_without_body m f vs w ≡ write_bytes (printed_bytes vs) w
is_printf m f vs w e1 e2 e3 = after_putchar m f vs w e1 e2 ∙ ap (λ b. cond b (write_bytes (printed_bytes vs) w) (not_printf m f vs w)) e3

pub is_exit : (m : List ℕ) (f : FunctionTree) (vs : List Value) (w : World)
    → bytes_eq m (codes "getchar") ≡ false → bytes_eq m (codes "putchar") ≡ false → bytes_eq m (codes "printf") ≡ false → bytes_eq m (codes "exit") ≡ true
    → call_without_body m f vs w ≡ Exits (converted Int (next vs)) w
is_exit m f vs w e1 e2 e3 e4 = after_printf m f vs w e1 e2 e3 ∙ ap (λ b. cond b (Exits (converted Int (next vs)) w) (not_exit m f vs w)) e4

pub is_abort : (m : List ℕ) (f : FunctionTree) (vs : List Value) (w : World)
    → bytes_eq m (codes "getchar") ≡ false → bytes_eq m (codes "putchar") ≡ false → bytes_eq m (codes "printf") ≡ false → bytes_eq m (codes "exit") ≡ false
    → bytes_eq m (codes "abort") ≡ true → call_without_body m f vs w ≡ Traps Trap.Abort w
is_abort m f vs w e1 e2 e3 e4 e5 = after_exit m f vs w e1 e2 e3 e4 ∙ ap (λ b. cond b (Traps Trap.Abort w) (call_declared m f vs w)) e5

pub is_none : (m : List ℕ) (f : FunctionTree) (vs : List Value) (w : World)
    → bytes_eq m (codes "getchar") ≡ false → bytes_eq m (codes "putchar") ≡ false → bytes_eq m (codes "printf") ≡ false → bytes_eq m (codes "exit") ≡ false
    → bytes_eq m (codes "abort") ≡ false → call_without_body m f vs w ≡ call_declared m f vs w
is_none m f vs w e1 e2 e3 e4 e5 = after_exit m f vs w e1 e2 e3 e4 ∙ ap (λ b. cond b (Traps Trap.Abort w) (call_declared m f vs w)) e5
