-- A function without a body looks at the numbers of its arguments alone.
use Rattle.std.proofs.Common.{ℕ, ℤ, Bool, true, false, cond, List, [], ◌∷◌, ◌++◌, map, codes, bytes_eq, ◌≡◌, refl, ap, ◌∙◌}
use Rattle.std.specs.Prelude.{◌==◌}
use Rattle.c_types.specs.declared.kinds.IntKind.TheVariants.{UChar, Int, UInt, Long, ULong}
use Rattle.c_types.specs.Numbers.{converted, residue}
use Rattle.c_tree.specs.declared.tree.Slot.{Slot}
use Rattle.jump_meaning.specs.Values.{Value, Integer, Designates, Lends, Format, Missing, Called, integer}
use Rattle.jump_meaning.specs.Code.{FunctionTree}
use Rattle.jump_meaning.specs.World.{World, Outcome, Exits, emit}
use Rattle.jump_meaning.specs.Known.{Reading, InText, AfterPercent, AfterL, next, later, in_decimal, in_hexadecimal, printed, printed_bytes, write_byte, write_bytes, converted_arguments, answered, call_without_body}
use Rattle.tidy_laws.proofs.Apart.{new_lending}

module _ (holes : ℕ → ℕ) where
  abbrev images : List Value → List Value
  images vs = map (new_lending holes) vs

  integer_stays : (v : Value) → integer (new_lending holes v) ≡ integer v
  integer_stays (Integer n) = refl
  integer_stays (Designates o i) = refl
  integer_stays (Lends o) = refl
  integer_stays (Format bs) = refl
  integer_stays Missing = refl

  next_stays : (vs : List Value) → next (images vs) ≡ next vs
  next_stays [] = refl
  next_stays (v ∷ vs) = integer_stays v

  later_stays : (vs : List Value) → later (images vs) ≡ images (later vs)
  later_stays [] = refl
  later_stays (v ∷ vs) = refl

  either_same : (b : Bool) (w x y z : List ℕ) → w ≡ y → x ≡ z → cond b w x ≡ cond b y z
  either_same true w x y z h k = h
  either_same false w x y z h k = k

  -- an argument that is written, then what follows it
  written : (h : ℤ → List ℕ) (cs : List ℕ) (vs : List Value) → printed InText cs (images (later vs)) ≡ printed InText cs (later vs) →
      h (next (images vs)) ++ printed InText cs (later (images vs)) ≡ h (next vs) ++ printed InText cs (later vs)
  written h cs vs k =
      ap (λ n. h n ++ printed InText cs (later (images vs))) (next_stays vs) ∙ ap (λ ys. h (next vs) ++ printed InText cs ys) (later_stays vs) ∙
      ap (λ z. h (next vs) ++ z) k

  printed_stays : (r : Reading) (bs : List ℕ) (vs : List Value) → printed r bs (images vs) ≡ printed r bs vs
  printed_stays r [] vs = refl
  printed_stays InText (c ∷ cs) vs = either_same (c == 37) _ _ _ _ (printed_stays AfterPercent cs vs) (ap (λ z. c ∷ z) (printed_stays InText cs vs))
  printed_stays AfterPercent (c ∷ cs) vs =
      either_same (c == 37) _ _ _ _ (ap (λ z. 37 ∷ z) (printed_stays InText cs vs))
      (either_same (c == 108) _ _ _ _ (printed_stays AfterL cs vs)
      (either_same (c == 100) _ _ _ _ (written (in_decimal Int) cs vs (printed_stays InText cs (later vs)))
      (either_same (c == 117) _ _ _ _ (written (in_decimal UInt) cs vs (printed_stays InText cs (later vs)))
      (either_same (c == 120) _ _ _ _ (written in_hexadecimal cs vs (printed_stays InText cs (later vs)))
      (written (λ n. residue UChar n ∷ []) cs vs (printed_stays InText cs (later vs)))))))
  printed_stays AfterL (c ∷ cs) vs =
      either_same (c == 100) _ _ _ _ (written (in_decimal Long) cs vs (printed_stays InText cs (later vs)))
      (written (in_decimal ULong) cs vs (printed_stays InText cs (later vs)))

  bytes_stay : (vs : List Value) → printed_bytes (images vs) ≡ printed_bytes vs
  bytes_stay (Format bs ∷ vs) = printed_stays InText bs vs
  bytes_stay _ = refl

  arguments_stay : (ss : List Slot) (vs : List Value) → converted_arguments ss (images vs) ≡ converted_arguments ss vs
  arguments_stay [] vs = refl
  arguments_stay (s ∷ ss) [] = refl
  arguments_stay (s ∷ ss) (v ∷ vs) = ap (λ n. converted s.kind n ∷ converted_arguments ss (images vs)) (integer_stays v) ∙
      ap (λ ns. converted s.kind (integer v) ∷ ns) (arguments_stay ss vs)

  pub without_body_stays : (m : List ℕ) (f : FunctionTree) (vs : List Value) (w : World) → call_without_body m f (images vs) w ≡ call_without_body m f vs w
  without_body_stays m f vs w =
      either_outcome (bytes_eq m (codes "getchar")) _ _ _ _ refl
      (either_outcome (bytes_eq m (codes "putchar")) _ _ _ _ (ap (λ n. write_byte (residue UChar n) w) (next_stays vs))
      (either_outcome (bytes_eq m (codes "printf")) _ _ _ _ (ap (λ bs. write_bytes bs w) (bytes_stay vs))
      (either_outcome (bytes_eq m (codes "exit")) _ _ _ _ (ap (λ n. Exits (converted Int n) w) (next_stays vs))
      (either_outcome (bytes_eq m (codes "abort")) _ _ _ _ refl
      (ap (λ ns. answered f.result w.answers (emit (Called m ns ∷ []) w)) (arguments_stay f.slots vs))))))
    where
      either_outcome : (b : Bool) (i j x y : Outcome) → i ≡ x → j ≡ y → cond b i j ≡ cond b x y
      either_outcome true i j x y h k = h
      either_outcome false i j x y h k = k
