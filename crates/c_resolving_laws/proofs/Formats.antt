-- What the format of `printf` wants, read from its front, is what it wants on the tree.
use Rattle.std.proofs.Common.{ℕ, Bool, true, false, cond, ◌||◌, ◌==◌, List, [], ◌∷◌, ◌++◌, map, append_assoc, Option, Some, None, option_map, ◌≡◌, refl, sym, ap, subst, ◌∙◌, true≢false}
use Rattle.std.proofs.lemmas.Bool.{eqb-true}
use Rattle.std.proofs.lemmas.List.{append-nil}
use Rattle.c_kinds.specs.declared.binding.Want.{Want}
use Rattle.c_kinds.specs.declared.binding.Want.TheVariants.{Sized}
use Rattle.c_kinds.specs.declared.format.Format.TheVariants.{Plain, Percent, PercentLong}
use Rattle.c_kinds.specs.Formats.{is_short, is_long, next, ended, wanted_from}
use Rattle.c_kinds.specs.Formats as Formats
use Rattle.c_resolved_defs.specs.Kinds.{wanted, after_percent, after_l}

-- the wants of sizes, behind others
abbrev pub sizes : List Bool → List Want
sizes ws = map Sized ws

abbrev behind : List Want → Option (List Bool) → Option (List Want)
behind out o = option_map (λ ws. out ++ sizes ws) o

one_more : (out : List Want) (b : Bool) (o : Option (List Bool)) → behind (out ++ Sized b ∷ []) o ≡ behind out (option_map (λ ws. b ∷ ws) o)
one_more out b None = refl
one_more out b (Some ws) = ap Some (append_assoc out (Sized b ∷ []) (sizes ws))

none_more : (out : List Want) (o : Option (List Bool)) → behind (out ++ []) o ≡ behind out o
none_more out o = ap (λ w. behind w o) (append-nil out)

plain_step : (b : ℕ) (out : List Want) (bs : List ℕ) (p q : Option (List Bool)) → ((out : List Want) → wanted_from out Percent bs ≡ behind out p) →
    ((out : List Want) → wanted_from out Plain bs ≡ behind out q) → (t : Bool)
    → wanted_from (out ++ []) (cond t Percent Plain) bs ≡ behind out (elim t [ true ↦ p | false ↦ q ])
plain_step b out bs p q f g true = f (out ++ []) ∙ none_more out p
plain_step b out bs p q f g false = g (out ++ []) ∙ none_more out q

-- behind `%`: another `%`, a long conversion, a short one, or none that there is
percent_step : (out : List Want) (bs : List ℕ) (p q : Option (List Bool)) → ((out : List Want) → wanted_from out Plain bs ≡ behind out p) →
    ((out : List Want) → wanted_from out PercentLong bs ≡ behind out q) → (t l s : Bool)
    → (t ≡ true → s ≡ false) → (l ≡ true → s ≡ false)
    → elim (cond (t || s) (Some Plain) (cond l (Some PercentLong) None)) [ None ↦ None | Some f ↦ wanted_from (out ++ cond s (Sized false ∷ []) []) f bs ]
    ≡ behind out (elim t [ true ↦ p | false ↦ elim l [ true ↦ q | false ↦ elim s [ true ↦ option_map (λ ws. false ∷ ws) p | false ↦ None ] ] ])
percent_step out bs p q f g true l true c d = absurd (true≢false (c refl))
percent_step out bs p q f g true l false c d = f (out ++ []) ∙ none_more out p
percent_step out bs p q f g false true true c d = absurd (true≢false (d refl))
percent_step out bs p q f g false true false c d = g (out ++ []) ∙ none_more out q
percent_step out bs p q f g false false true c d = f (out ++ Sized false ∷ []) ∙ one_more out false p
percent_step out bs p q f g false false false c d = refl

long_step : (out : List Want) (bs : List ℕ) (p : Option (List Bool)) → ((out : List Want) → wanted_from out Plain bs ≡ behind out p) → (s : Bool)
    → elim (cond s (Some Plain) None) [ None ↦ None | Some f ↦ wanted_from (out ++ cond s (Sized true ∷ []) []) f bs ] ≡ behind out
    (elim s [ true ↦ option_map (λ ws. true ∷ ws) p | false ↦ None ])
long_step out bs p f true = f (out ++ Sized true ∷ []) ∙ one_more out true p
long_step out bs p f false = refl

percent_is_no_short : (b : ℕ) → (b == 37) ≡ true → is_short b ≡ false
percent_is_no_short b e = subst (λ c. is_short c ≡ false) (sym (eqb-true b 37 e)) refl

l_is_no_short : (b : ℕ) → (b == 108) ≡ true → is_short b ≡ false
l_is_no_short b e = subst (λ c. is_short c ≡ false) (sym (eqb-true b 108 e)) refl

mutual
  from_plain : (bs : List ℕ) (out : List Want) → wanted_from out Plain bs ≡ behind out (wanted bs)
  from_plain [] out = ap Some (sym (append-nil out))
  from_plain (b ∷ bs) out = plain_step b out bs (after_percent bs) (wanted bs) (from_percent bs) (from_plain bs) (b == 37)

  from_percent : (bs : List ℕ) (out : List Want) → wanted_from out Percent bs ≡ behind out (after_percent bs)
  from_percent [] out = refl
  from_percent (b ∷ bs) out = percent_step out bs (wanted bs) (after_l bs) (from_plain bs) (from_long bs) (b == 37) (b == 108) (is_short b)
      (percent_is_no_short b) (l_is_no_short b)

  from_long : (bs : List ℕ) (out : List Want) → wanted_from out PercentLong bs ≡ behind out (after_l bs)
  from_long [] out = refl
  from_long (b ∷ bs) out = long_step out bs (wanted bs) (from_plain bs) (is_long b)

pub wanted_same : (bs : List ℕ) → Formats.wanted bs ≡ option_map sizes (wanted bs)
wanted_same bs = from_plain bs []
