-- The conversions of a format want what the automaton finds.
use Rattle.std.proofs.Common.{◌≡◌, ◌≢◌, ◌⊎◌, ◌||◌, ◌==◌, inl, inr, ℕ, Bool, true, false, cond, List, [], ◌∷◌, ◌++◌, Option, Some, None, refl, ap, sym, subst, ◌∙◌, append_assoc, append-nil, eqb-true, ne_eqb}
use Rattle.c_kinds.specs.declared.binding.Want.{Want}
use Rattle.c_kinds.specs.declared.binding.Want.TheVariants.{Sized}
use Rattle.c_kinds.specs.declared.format.Format.{Format}
use Rattle.c_kinds.specs.declared.format.Format.TheVariants.{Plain, Percent, PercentLong}
use Rattle.c_kinds.specs.Formats.{is_short, is_long, ended, wanted_from}
use Rattle.c_reading_defs.specs.Formats.{IsShort, IsLong, IsFormat, ends, plain, percent, short, long}

-- ---- from the conversions

plain_step : (out : List Want) (b : ℕ) (bs : List ℕ) (t : Bool) → (b == 37) ≡ t → t ≡ false → wanted_from out Plain (b ∷ bs) ≡ wanted_from out Plain bs
plain_step out b bs true e f = cc
plain_step out b bs false e f = rw (e, append-nil out) refl

short_step : (out : List Want) (b : ℕ) (bs : List ℕ) → IsShort b → wanted_from out Plain (37 ∷ b ∷ bs) ≡ wanted_from (out ++ Sized false ∷ []) Plain bs
short_step out b bs (inl e) = rw (e, append-nil out) refl
short_step out b bs (inr (inl e)) = rw (e, append-nil out) refl
short_step out b bs (inr (inr (inl e))) = rw (e, append-nil out) refl
short_step out b bs (inr (inr (inr e))) = rw (e, append-nil out) refl

long_step : (out : List Want) (b : ℕ) (bs : List ℕ) → IsLong b → wanted_from out Plain (37 ∷ 108 ∷ b ∷ bs) ≡ wanted_from (out ++ Sized true ∷ []) Plain bs
long_step out b bs (inl e) = rw (e, append-nil out, append-nil out) refl
long_step out b bs (inr e) = rw (e, append-nil out, append-nil out) refl

percent_step : (out : List Want) (bs : List ℕ) → wanted_from out Plain (37 ∷ 37 ∷ bs) ≡ wanted_from out Plain bs
percent_step out bs = ap (λ l. wanted_from (l ++ []) Plain bs) (append-nil out) ∙ ap (λ l. wanted_from l Plain bs) (append-nil out)

format_from : {bs : List ℕ} {ws : List Want} → IsFormat bs ws → (out : List Want) → wanted_from out Plain bs ≡ Some (out ++ ws)
format_from ends out = ap Some (sym (append-nil out))
format_from (plain {b} {bs} {ws} n h) out = plain_step out b bs (b == 37) refl (ne_eqb b 37 n) ∙ format_from h out
format_from (percent {bs} {ws} h) out = percent_step out bs ∙ format_from h out
format_from (short {b} {bs} {ws} s h) out = short_step out b bs s ∙ format_from h (out ++ Sized false ∷ []) ∙ ap Some (append_assoc out (Sized false ∷ []) ws)
format_from (long {b} {bs} {ws} l h) out = long_step out b bs l ∙ format_from h (out ++ Sized true ∷ []) ∙ ap Some (append_assoc out (Sized true ∷ []) ws)

-- ---- and back

-- what was read with what is open
abbrev opened : Format → List ℕ → List ℕ
opened Plain bs = bs
opened Percent bs = 37 ∷ bs
opened PercentLong bs = 37 ∷ 108 ∷ bs

record Wanted (f : Format) (bs : List ℕ) (out zs : List Want) : Type 0 where
  wants : List Want
  is : IsFormat (opened f bs) wants
  all : zs ≡ out ++ wants

or_is : (a b : Bool) → (a || b) ≡ true → (a ≡ true) ⊎ (b ≡ true)
or_is true b e = inl refl
or_is false b e = inr e

short_is : (b : ℕ) → is_short b ≡ true → IsShort b
short_is b e = elim (or_is (b == 100 || b == 117 || b == 120) (b == 99) e) [
  | inr k ↦ inr (inr (inr (eqb-true b 99 k)))
  | inl f ↦ elim (or_is (b == 100 || b == 117) (b == 120) f) [
    | inr k ↦ inr (inr (inl (eqb-true b 120 k)))
    | inl g ↦ elim (or_is (b == 100) (b == 117) g) [ inl k ↦ inl (eqb-true b 100 k) | inr k ↦ inr (inl (eqb-true b 117 k)) ]
  ]
]

long_is : (b : ℕ) → is_long b ≡ true → IsLong b
long_is b e = elim (or_is (b == 100) (b == 117) e) [ inl k ↦ inl (eqb-true b 100 k) | inr k ↦ inr (eqb-true b 117 k) ]

abbrev Reads : List ℕ → List Want → Type 0
Reads bs zs = (f : Format) (out : List Want) → wanted_from out f bs ≡ Some zs → Wanted f bs out zs

from_plain : (b : ℕ) (bs : List ℕ) (out zs : List Want) (t : Bool) → Reads bs zs → (b == 37) ≡ t
    → wanted_from (out ++ []) (cond t Percent Plain) bs ≡ Some zs → Wanted Plain (b ∷ bs) out zs
from_plain b bs out zs true rest e h =
    let r = rest Percent (out ++ []) h in
    record { wants = r.wants; is = subst (λ i. IsFormat (i ∷ bs) r.wants) (sym (eqb-true b 37 e)) r.is; all = r.all ∙ ap (λ l. l ++ r.wants) (append-nil out) }
from_plain b bs out zs false rest e h =
    let r = rest Plain (out ++ []) h in
    record { wants = r.wants; is = plain (not_37 b e) r.is; all = r.all ∙ ap (λ l. l ++ r.wants) (append-nil out) }
  where
    not_37 : (c : ℕ) → (c == 37) ≡ false → c ≢ 37
    not_37 c f g = let k : (c == 37) ≡ true = ap (λ i. i == 37) g in cc

after_percent : (b : ℕ) (bs : List ℕ) (out zs : List Want) → Reads bs zs → b ≡ 37 → wanted_from (out ++ ended Percent b) Plain bs ≡ Some zs →
    Wanted Percent (b ∷ bs) out zs
after_percent b bs out zs rest e h =
    let g = subst (λ i. wanted_from (out ++ ended Percent i) Plain bs ≡ Some zs) e h in
    let r = rest Plain (out ++ []) g in
    record { wants = r.wants; is = subst (λ i. IsFormat (37 ∷ i ∷ bs) r.wants) (sym e) (percent r.is); all = r.all ∙ ap (λ l. l ++ r.wants) (append-nil out) }

after_short : (b : ℕ) (bs : List ℕ) (out zs : List Want) (t : Bool) → Reads bs zs → is_short b ≡ t → t ≡ true →
    wanted_from (out ++ cond t (Sized false ∷ []) []) Plain bs ≡ Some zs → Wanted Percent (b ∷ bs) out zs
after_short b bs out zs true rest e f h =
    let r = rest Plain (out ++ Sized false ∷ []) h in
    record { wants = Sized false ∷ r.wants; is = short (short_is b e) r.is; all = r.all ∙ append_assoc out (Sized false ∷ []) r.wants }
after_short b bs out zs false rest e f h = cc

after_long : (b : ℕ) (bs : List ℕ) (out zs : List Want) → Reads bs zs → b ≡ 108 → wanted_from (out ++ ended Percent b) PercentLong bs ≡ Some zs →
    Wanted Percent (b ∷ bs) out zs
after_long b bs out zs rest e h =
    let g = subst (λ i. wanted_from (out ++ ended Percent i) PercentLong bs ≡ Some zs) e h in
    let r = rest PercentLong (out ++ []) g in
    record { wants = r.wants; is = subst (λ i. IsFormat (37 ∷ i ∷ bs) r.wants) (sym e) r.is; all = r.all ∙ ap (λ l. l ++ r.wants) (append-nil out) }

abbrev behind : Format → ℕ → List Want → List ℕ → Option Format → Option (List Want)
behind f b out bs o = elim o [ None ↦ None | Some g ↦ wanted_from (out ++ ended f b) g bs ]

from_percent : (b : ℕ) (bs : List ℕ) (out zs : List Want) (s t u : Bool) → Reads bs zs → (b == 37) ≡ s → is_short b ≡ t → (b == 108) ≡ u
    → behind Percent b out bs (cond (s || t) (Some Plain) (cond u (Some PercentLong) None)) ≡ Some zs → Wanted Percent (b ∷ bs) out zs
from_percent b bs out zs true t u rest e f g h = after_percent b bs out zs rest (eqb-true b 37 e) h
from_percent b bs out zs false true u rest e f g h = after_short b bs out zs (is_short b) rest refl f h
from_percent b bs out zs false false true rest e f g h = after_long b bs out zs rest (eqb-true b 108 g) h
from_percent b bs out zs false false false rest e f g h = cc

from_long : (b : ℕ) (bs : List ℕ) (out zs : List Want) (t : Bool) → Reads bs zs → is_long b ≡ t →
    behind PercentLong b out bs (cond t (Some Plain) None) ≡ Some zs → Wanted PercentLong (b ∷ bs) out zs
from_long b bs out zs true rest e h =
    let g = subst (λ t. wanted_from (out ++ cond t (Sized true ∷ []) []) Plain bs ≡ Some zs) e h in
    let r = rest Plain (out ++ Sized true ∷ []) g in
    record { wants = Sized true ∷ r.wants; is = long (long_is b e) r.is; all = r.all ∙ append_assoc out (Sized true ∷ []) r.wants }
from_long b bs out zs false rest e h = cc

reads : (bs : List ℕ) (zs : List Want) → Reads bs zs
reads [] zs Plain out e = let k : out ≡ zs = cc in record { wants = []; is = ends; all = sym k ∙ sym (append-nil out) }
reads [] zs _ out e = cc
reads (b ∷ bs) zs Plain out e = from_plain b bs out zs (b == 37) (reads bs zs) refl e
reads (b ∷ bs) zs Percent out e = from_percent b bs out zs (b == 37) (is_short b) (b == 108) (reads bs zs) refl refl refl e
reads (b ∷ bs) zs PercentLong out e = from_long b bs out zs (is_long b) (reads bs zs) refl e

pub format_is : (bytes : List ℕ) (ws : List Want) → wanted_from [] Plain bytes ≡ Some ws → IsFormat bytes ws
format_is bytes ws e = let r = reads bytes ws Plain [] e in subst (λ (l : List Want). IsFormat bytes l) (sym r.all) r.is

pub is_format : (bytes : List ℕ) (ws : List Want) → IsFormat bytes ws → wanted_from [] Plain bytes ≡ Some ws
is_format bytes ws h = format_from h []
