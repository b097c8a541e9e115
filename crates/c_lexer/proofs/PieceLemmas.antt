-- Where pieces stand in a text.
use Rattle.std.proofs.Common.{◌≡◌, ◌+◌, ◌-◌, ℕ, Bool, true, false, ◌==◌, cond, List, [], ◌∷◌, ◌++◌, length, take, drop, refl, arith, ap, sym, ◌∙◌, subst, append_assoc, length-append}
use Rattle.std.specs.Prelude.{slice_range}
use Rattle.std.proofs.lemmas.List.{append-nil, drop_at, take_at}
use Rattle.c_lexer.specs.Characters.{Character, Plain, Simple, OneDigit, TwoDigits, ThreeDigits, Hexadecimal, written, written_all}
use Rattle.c_lexer.specs.Marks.{mark_text}
use Rattle.c_lexer.specs.Pieces.{Piece, Space, Word, Number, Char, Text, Sign, Directive, Line, Block, spelled, text, behind, bare, onto_bare}
use Rattle.c_lexer.specs.Machine.{line_end}

-- ---- places

-- the place behind these bytes
abbrev pub past : ℕ → List ℕ → ℕ
past at [] = at
past at (b ∷ bs) = past (at + 1) bs

pub past_is : (w : List ℕ) (at : ℕ) → past at w ≡ at + length w
past_is [] at = omega arith
past_is (b ∷ w) at = let h = past_is w (at + 1) in omega arith

abbrev pub past_character : Character → ℕ → ℕ
past_character (Plain b) at = at + 1
past_character (Simple b) at = at + 1 + 1
past_character (OneDigit a) at = at + 1 + 1
past_character (TwoDigits a b) at = at + 1 + 1 + 1
past_character (ThreeDigits a b c) at = at + 1 + 1 + 1 + 1
past_character (Hexadecimal a ds) at = past (at + 1 + 1 + 1) ds

abbrev pub past_characters : List Character → ℕ → ℕ
past_characters [] at = at
past_characters (c ∷ cs) at = past_characters cs (past_character c at)

-- the place behind a piece, as the machine comes there
abbrev pub ends : Piece → ℕ → ℕ
ends (Space b) at = at + 1
ends (Word w) at = past at w
ends (Number w) at = past at w
ends (Char c) at = past_character c (at + 1) + 1
ends (Text cs) at = past_characters cs (at + 1) + 1
ends (Sign m) at = past at (mark_text m)
ends (Directive w) at = past (at + 1) w
ends (Line w) at = past (at + 1 + 1) w
ends (Block w) at = past (at + 1 + 1) w

abbrev pub ends_all : List Piece → ℕ → ℕ
ends_all [] at = at
ends_all (p ∷ ps) at = ends_all ps (ends p at)

length_nil : (w : List ℕ) → length (w ++ []) ≡ length w
length_nil w = ap length (append-nil w)

pub past_character_is : (c : Character) (at : ℕ) (r : List ℕ) → past_character c at + length r ≡ at + length (written c r)
past_character_is (Plain b) at r = omega arith
past_character_is (Simple b) at r = omega arith
past_character_is (OneDigit a) at r = omega arith
past_character_is (TwoDigits a b) at r = omega arith
past_character_is (ThreeDigits a b c) at r = omega arith
past_character_is (Hexadecimal a ds) at r = let h = past_is ds (at + 1 + 1 + 1) in let k = length-append ds r in omega arith

pub past_characters_is : (cs : List Character) (at : ℕ) (r : List ℕ) → past_characters cs at + length r ≡ at + length (written_all cs r)
past_characters_is [] at r = refl
past_characters_is (c ∷ cs) at r =
    let h = past_characters_is cs (past_character c at) r in
    let k = past_character_is c at (written_all cs r) in
    omega arith

-- a character or characters of these bytes end where the bytes do
pub character_ends : (c : Character) (w : List ℕ) → ((r : List ℕ) → written c r ≡ w ++ r) → (at : ℕ) → past_character c at ≡ past at w
character_ends c w e at = let h = past_character_is c at [] in let k = ap length (e []) ∙ length_nil w in let l = past_is w at in omega arith

pub characters_end : (cs : List Character) (w : List ℕ) → ((r : List ℕ) → written_all cs r ≡ w ++ r) → (at : ℕ) → past_characters cs at ≡ past at w
characters_end cs w e at = let h = past_characters_is cs at [] in let k = ap length (e []) ∙ length_nil w in let l = past_is w at in omega arith

pub ends_is : (p : Piece) (at : ℕ) → ends p at ≡ behind p at
ends_is (Space b) at = omega arith
ends_is (Word w) at = let h = past_is w at in let k = length_nil w in omega arith
ends_is (Number w) at = let h = past_is w at in let k = length_nil w in omega arith
ends_is (Char c) at = let h = past_character_is c (at + 1) (39 ∷ []) in omega arith
ends_is (Text cs) at = let h = past_characters_is cs (at + 1) (34 ∷ []) in omega arith
ends_is (Sign m) at = let h = past_is (mark_text m) at in let k = length_nil (mark_text m) in omega arith
ends_is (Directive w) at = let h = past_is w (at + 1) in let k = length_nil w in omega arith
ends_is (Line w) at = let h = past_is w (at + 1 + 1) in let k = length_nil w in omega arith
ends_is (Block w) at = let h = past_is w (at + 1 + 1) in let k = length_nil w in omega arith

-- ---- what stands there

written_split : (c : Character) (r : List ℕ) → written c r ≡ written c [] ++ r
written_split (Plain b) r = refl
written_split (Simple b) r = refl
written_split (OneDigit a) r = refl
written_split (TwoDigits a b) r = refl
written_split (ThreeDigits a b c) r = refl
written_split (Hexadecimal a ds) r = ap (λ (w : List ℕ). 92 ∷ 120 ∷ a ∷ w ++ r) (sym (append-nil ds))

pub written_all_split : (cs : List Character) (r : List ℕ) → written_all cs r ≡ written_all cs [] ++ r
written_all_split [] r = refl
written_all_split (c ∷ cs) r =
    written_split c (written_all cs r) ∙ ap (λ (w : List ℕ). written c [] ++ w) (written_all_split cs r) ∙
    sym (append_assoc (written c []) (written_all cs []) r)
    ∙ ap (λ (w : List ℕ). w ++ r) (sym (written_split c (written_all cs [])))

quoted : (w v r : List ℕ) (b : ℕ) → w ≡ v ++ b ∷ r → (u : List ℕ) → u ≡ v ++ b ∷ [] → w ≡ u ++ r
quoted w v r b h u k = h ∙ sym (append_assoc v (b ∷ []) r) ∙ ap (λ (x : List ℕ). x ++ r) (sym k)

-- a piece is its bytes, and then what follows
pub spelled_split : (p : Piece) (r : List ℕ) → spelled p r ≡ spelled p [] ++ r
spelled_split (Space b) r = refl
spelled_split (Word w) r = ap (λ (x : List ℕ). x ++ r) (sym (append-nil w))
spelled_split (Number w) r = ap (λ (x : List ℕ). x ++ r) (sym (append-nil w))
spelled_split (Char c) r = ap (λ (x : List ℕ). 39 ∷ x) (quoted _ (written c []) r 39 (written_split c (39 ∷ r)) _ (written_split c (39 ∷ [])))
spelled_split (Text cs) r = ap (λ (x : List ℕ). 34 ∷ x) (quoted _ (written_all cs []) r 34 (written_all_split cs (34 ∷ r)) _ (written_all_split cs (34 ∷ [])))
spelled_split (Sign m) r = ap (λ (x : List ℕ). x ++ r) (sym (append-nil (mark_text m)))
spelled_split (Directive w) r = ap (λ (x : List ℕ). 35 ∷ x ++ r) (sym (append-nil w))
spelled_split (Line w) r = ap (λ (x : List ℕ). 47 ∷ 47 ∷ x ++ r) (sym (append-nil w))
spelled_split (Block w) r = ap (λ (x : List ℕ). 47 ∷ 42 ∷ x ++ r) (sym (append-nil w))

-- from this place on the text goes on so
abbrev pub Stands : List ℕ → ℕ → List ℕ → Type 0
Stands t at v = (u : List ℕ) × (t ≡ u ++ v) × (length u ≡ at)

pub stands_along : (t : List ℕ) (at : ℕ) (v w : List ℕ) → v ≡ w → Stands t at v → Stands t at w
stands_along t at v w e h = subst (Stands t at) e h

pub stands_past : (t : List ℕ) (at : ℕ) (w r : List ℕ) → Stands t at (w ++ r) → Stands t (past at w) r
stands_past t at w r (u, e, n) = (u ++ w, e ∙ sym (append_assoc u w r), length-append u w ∙ ap (λ (x : ℕ). x + length w) n ∙ sym (past_is w at))

-- the slice there is these bytes
pub slice_is : (t : List ℕ) (at : ℕ) (w r : List ℕ) → Stands t at (w ++ r) → slice_range t at (past at w) ≡ w
slice_is t at w r (u, e, n) =
    let k : past at w - at ≡ length w = (let h = past_is w at in omega arith) in
    ap (λ (x : List ℕ). take (past at w - at) (drop at x)) e ∙ ap (take (past at w - at)) (drop_at u (w ++ r) at n) ∙ take_at w r (past at w - at) (sym k)

pub stands_behind : (t : List ℕ) (p : Piece) (at : ℕ) (r : List ℕ) → Stands t at (spelled p r) → Stands t (ends p at) r
stands_behind t p at r h =
    subst (λ (n : ℕ). Stands t n r) (past_is (spelled p []) at ∙ sym (ends_is p at))
    (stands_past t at (spelled p []) r (stands_along t at _ _ (spelled_split p r) h))

pub stands_text : (t : List ℕ) (ps : List Piece) (at : ℕ) (r : List ℕ) → Stands t at (text ps r) → Stands t (ends_all ps at) r
stands_text t [] at r h = h
stands_text t (p ∷ ps) at r h = stands_text t ps (ends p at) r (stands_behind t p at (text ps r) h)

-- ---- lines

-- the end of a line, as the machine counts it
abbrev pub end_from : ℕ → ℕ → List ℕ → ℕ
end_from end at [] = end
end_from end at (b ∷ w) = end_from (line_end end b at) (at + 1) w

abbrev bare_end : ℕ → ℕ → List ℕ → ℕ
bare_end end at [] = end
bare_end end at (c ∷ v) = past at (c ∷ v)

one_bare : (c : Bool) (b end at : ℕ) → cond c end (at + 1) ≡ bare_end end at (cond c [] (b ∷ []))
one_bare true b end at = refl
one_bare false b end at = refl

end_onto : (b end at : ℕ) (v : List ℕ) → bare_end (line_end end b at) (at + 1) v ≡ bare_end end at (onto_bare b v)
end_onto b end at [] = one_bare (b == 13) b end at
end_onto b end at (c ∷ v) = refl

end_bare : (w : List ℕ) (end at : ℕ) → end_from end at w ≡ bare_end end at (bare w)
end_bare [] end at = refl
end_bare (b ∷ w) end at = end_bare w (line_end end b at) (at + 1) ∙ end_onto b end at (bare w)

bare_here : (v : List ℕ) (at : ℕ) → bare_end at at v ≡ at + length v
bare_here [] at = omega arith
bare_here (c ∷ v) at = past_is (c ∷ v) at

-- it leaves out the carriage returns at the end
pub end_is : (w : List ℕ) (at : ℕ) → end_from at at w ≡ at + length (bare w)
end_is w at = end_bare w at at ∙ bare_here (bare w) at
