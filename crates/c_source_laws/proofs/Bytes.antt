-- The bytes that the words of a text write are bytes.
use Rattle.std.proofs.Common.{◌≡◌, ◌≤◌, ◌-◌, ◌%◌, ◌==◌, ℕ, zero, suc, Bool, true, false, cond, ◌&&◌, nat_le, List, [], ◌∷◌, ◌++◌, take, drop, length, Option, Some, None, slice_get, refl, ap, sym, ◌∙◌, arith}
use Rattle.std.specs.Prelude.{slice_range}
use Rattle.std.proofs.lemmas.Bool.{leb-true, le-leb}
use Rattle.std.specs.List.{list_all, take_while}
use Rattle.c_lexer.specs.declared.token.Token.{Token}
use Rattle.c_lexer.specs.Bytes.{is_octal_digit, is_hexadecimal_digit}
use Rattle.c_lexer.specs.Numbers.{value_of}
use Rattle.c_lexer.proofs.Truths.{both_true}
use Rattle.c_grammar.specs.Words.{Element, Itself, Simple, Octal, Hexadecimal, escape_value, written, value, escape, first_element, Writes, nothing, element, within_quotes, first_value, character, bytes_of, word_of}
use Rattle.c_grammar.specs.DecodingSteps.{decoded}
use Rattle.c_grammar.proofs.DecodedSteps.{decoded_writes}
use Rattle.c_kinds.specs.Typing.{joined_texts}
use Rattle.c_resolved_defs.specs.PrintableExpressions.{AreBytes}

abbrev is_byte : ℕ → Bool
is_byte b = nat_le b 255

byte : (b : ℕ) → b ≤ 255 → is_byte b ≡ true
byte b h = le-leb b 255 h

pub front_all : (n : ℕ) (w : List ℕ) → AreBytes w → AreBytes (take n w)
front_all zero w h = refl
front_all (suc n) [] h = refl
front_all (suc n) (b ∷ w) h = let m = both_true (is_byte b) (list_all is_byte w) h in rw (m.0) (front_all n w (m.1))

pub behind_all : (n : ℕ) (w : List ℕ) → AreBytes w → AreBytes (drop n w)
behind_all zero w h = h
behind_all (suc n) [] h = refl
behind_all (suc n) (b ∷ w) h = behind_all n w (both_true (is_byte b) (list_all is_byte w) h).1

joined : (v w : List ℕ) → AreBytes v → AreBytes w → AreBytes (v ++ w)
joined [] w g h = h
joined (b ∷ v) w g h = let m = both_true (is_byte b) (list_all is_byte v) g in rw (m.0) (joined v w (m.1) h)

-- ---- what an element writes is a byte

one : (b : ℕ) → b ≤ 255 → AreBytes (b ∷ [])
one b h = rw (byte b h) refl

escape_byte : (b : ℕ) → b ≤ 255 → escape_value b ≤ 255
escape_byte b h =
    below (b == 97) 7 _ (omega arith) (below (b == 98) 8 _ (omega arith) (below (b == 116) 9 _ (omega arith) (below (b == 110) 10 _ (omega arith)
    (below (b == 118) 11 _ (omega arith) (below (b == 102) 12 _ (omega arith) (below (b == 114) 13 b (omega arith) h))))))
  where
    below : (c : Bool) (x y : ℕ) → x ≤ 255 → y ≤ 255 → cond c x y ≤ 255
    below true x y g h = g
    below false x y g h = h

rest_byte : (n : ℕ) → n % 256 ≤ 255
rest_byte n = omega arith

either : (c : Bool) (x y : Element) → value x ≤ 255 → value y ≤ 255 → value (cond c x y) ≤ 255
either true x y g h = g
either false x y g h = h

escaped_byte : (b : ℕ) (w : List ℕ) → b ≤ 255 → value (escape b w) ≤ 255
escaped_byte b w h =
    let octal = take 3 (take_while is_octal_digit (b ∷ w)) in
    let hexadecimal = take_while is_hexadecimal_digit w in
    either (is_octal_digit b) (Octal octal) (cond (b == 120) (Hexadecimal hexadecimal) (Simple b)) (rest_byte (value_of 8 octal))
    (either (b == 120) (Hexadecimal hexadecimal) (Simple b) (rest_byte (value_of 16 hexadecimal)) (escape_byte b h))

element_byte : (b : ℕ) (w : List ℕ) → b ≤ 255 → AreBytes w → value (first_element b w) ≤ 255
element_byte b [] h m = h
element_byte b (c ∷ w) h m = either (b == 92) (escape c w) (Itself b) (escaped_byte c w (leb-true c 255 (both_true (is_byte c) (list_all is_byte w) m).0)) h

behind_bytes : (u r w : List ℕ) → w ≡ u ++ r → AreBytes w → AreBytes r
behind_bytes [] r w e h = sym (ap (list_all is_byte) e) ∙ h
behind_bytes (b ∷ u) r w e h = behind_bytes u r (u ++ r) refl (both_true (is_byte b) (list_all is_byte (u ++ r)) (sym (ap (list_all is_byte) e) ∙ h)).1

elements_bytes : {w bs : List ℕ} → Writes w bs → AreBytes w → AreBytes bs
elements_bytes nothing h = refl
elements_bytes (element b w r bs e k) h =
    let m = both_true (is_byte b) (list_all is_byte w) h in
    let x = first_element b w in
    joined (value x ∷ []) bs (one (value x) (element_byte b w (leb-true b 255 (m.0)) (m.1))) (elements_bytes k (behind_bytes (written x) r (b ∷ w) e h))

within_bytes : (w : List ℕ) → AreBytes w → AreBytes (within_quotes w)
within_bytes w h = front_all (length w - 2) (drop 1 w) (behind_all 1 w h)

pub decoded_all : (w : List ℕ) → AreBytes w → AreBytes (decoded w)
decoded_all w h = elements_bytes (decoded_writes w) (within_bytes w h)

first_byte : (w : List ℕ) → AreBytes w → first_value w ≤ 255
first_byte [] h = omega arith
first_byte (b ∷ w) h = let m = both_true (is_byte b) (list_all is_byte w) h in element_byte b w (leb-true b 255 (m.0)) (m.1)

pub character_byte : (w : List ℕ) → AreBytes w → character w ≤ 255
character_byte w h = first_byte (within_quotes w) (within_bytes w h)

-- ---- the words of a text

found_bytes : (text : List ℕ) (o : Option Token) → AreBytes text → AreBytes (bytes_of text o)
found_bytes text None h = refl
found_bytes text (Some t) h = by_bounds (nat_le t.start t.end && nat_le t.end (length text))
  where
    by_bounds : (c : Bool) → AreBytes (cond c (slice_range text t.start t.end) [])
    by_bounds true = front_all (t.end - t.start) (drop t.start text) (behind_all t.start text h)
    by_bounds false = refl

pub word_bytes : (text : List ℕ) (tokens : List Token) → AreBytes text → (at : ℕ) → AreBytes (word_of text tokens at)
word_bytes text tokens h at = found_bytes text (slice_get tokens at) h

pub texts_bytes : (word : ℕ → List ℕ) → ((at : ℕ) → AreBytes (word at)) → (ats : List ℕ) → AreBytes (joined_texts word ats)
texts_bytes word h [] = refl
texts_bytes word h (at ∷ ats) = joined (decoded (word at)) (joined_texts word ats) (decoded_all (word at) (h at)) (texts_bytes word h ats)
