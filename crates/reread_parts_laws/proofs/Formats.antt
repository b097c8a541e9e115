-- What the format of `printf` wants where a text is read is what it wants in a resolved program.
use Rattle.std.proofs.Common.{◌≡◌, ◌==◌, ◌||◌, ℕ, Bool, true, false, cond, List, [], ◌∷◌, ◌++◌, map, Option, Some, None, refl, ap, sym, subst, ◌∙◌, append_assoc}
use Rattle.std.specs.Prelude.{option_map}
use Rattle.std.proofs.lemmas.Bool.{eqb-true}
use Rattle.c_kinds.specs.declared.format.Format.{Format}
use Rattle.c_kinds.specs.declared.binding.Want.{Want}
use Rattle.c_kinds.specs.declared.binding.Want.TheVariants.{Sized}
use Rattle.c_kinds.specs.declared.format.Format.TheVariants.{Plain, Percent, PercentLong}
use Rattle.c_kinds.specs.Formats.{is_short, is_long, wanted_from}
use Rattle.c_kinds.specs.Formats as read
use Rattle.c_resolved_defs.specs.Kinds.{wanted, after_percent, after_l}

abbrev behind : List Want → Option (List Bool) → Option (List Want)
behind out o = option_map (λ ws. out ++ map Sized ws) o

append_nothing : (out : List Want) → out ++ [] ≡ out
append_nothing [] = refl
append_nothing (w ∷ out) = ap (λ l. w ∷ l) (append_nothing out)

-- one more in front
one_more : (out : List Want) (w : Bool) (o : Option (List Bool)) → behind (out ++ Sized w ∷ []) o ≡ behind out (option_map (λ ws. w ∷ ws) o)
one_more out w None = refl
one_more out w (Some ws) = ap Some (append_assoc out (Sized w ∷ []) (map Sized ws))

-- ---- by the tests on a byte

module _ (b : ℕ) (bs : List ℕ) (out : List Want) where
  abbrev Follows : Format → Option (List Bool) → Type 0
  Follows format o = (more : List Want) → wanted_from more format bs ≡ behind more o

  plain_by : (x : Bool) → Follows Plain (wanted bs) → Follows Percent (after_percent bs)
      → wanted_from (out ++ []) (cond x Percent Plain) bs ≡ behind out (elim x [ true ↦ after_percent bs | false ↦ wanted bs ])
  plain_by true f g = ap (λ o. wanted_from o Percent bs) (append_nothing out) ∙ g out
  plain_by false f g = ap (λ o. wanted_from o Plain bs) (append_nothing out) ∙ f out

  short_by : (z : Bool) → Follows Plain (wanted bs)
      → elim (cond z (Some Plain) None) as (λ _. Option (List Want)) [ None ↦ None | Some next ↦ wanted_from (out ++ cond z (Sized false ∷ []) []) next bs ]
      ≡ behind out (elim z [ true ↦ option_map (λ ws. false ∷ ws) (wanted bs) | false ↦ None ])
  short_by true f = f (out ++ Sized false ∷ []) ∙ one_more out false (wanted bs)
  short_by false f = refl

  long_by : (z : Bool) → Follows Plain (wanted bs)
      → elim (cond z (Some Plain) None) as (λ _. Option (List Want)) [ None ↦ None | Some next ↦ wanted_from (out ++ cond z (Sized true ∷ []) []) next bs ]
      ≡ behind out (elim z [ true ↦ option_map (λ ws. true ∷ ws) (wanted bs) | false ↦ None ])
  long_by true f = f (out ++ Sized true ∷ []) ∙ one_more out true (wanted bs)
  long_by false f = refl

  percent_at_37 : Follows Plain (wanted bs) → wanted_from out Percent (37 ∷ bs) ≡ behind out (after_percent (37 ∷ bs))
  percent_at_37 f = ap (λ o. wanted_from o Plain bs) (append_nothing out) ∙ f out

  percent_at_108 : Follows PercentLong (after_l bs) → wanted_from out Percent (108 ∷ bs) ≡ behind out (after_percent (108 ∷ bs))
  percent_at_108 g = ap (λ o. wanted_from o PercentLong bs) (append_nothing out) ∙ g out

  abbrev Percents : Bool → Bool → Type 0
  Percents x y =
      elim (cond (x || is_short b) (Some Plain) (cond y (Some PercentLong) None)) as (λ _. Option (List Want))
      [ None ↦ None | Some next ↦ wanted_from (out ++ cond (is_short b) (Sized false ∷ []) []) next bs ]
      ≡ behind out (elim x as (λ _. Option (List Bool)) [
        | true ↦ wanted bs
        | false ↦ elim y as (λ _. Option (List Bool)) [
          | true ↦ after_l bs
          | false ↦ elim (is_short b) as (λ _. Option (List Bool))
              [ true ↦ option_map (λ ws. false ∷ ws) (wanted bs) | false ↦ None ]
        ]
      ])

  percent_by : (x y : Bool) → (b == 37) ≡ x → (b == 108) ≡ y → Follows Plain (wanted bs) → Follows PercentLong (after_l bs) →
      wanted_from out Percent (b ∷ bs) ≡ behind out (after_percent (b ∷ bs))
  percent_by true y e h f g = subst (λ c. wanted_from out Percent (c ∷ bs) ≡ behind out (after_percent (c ∷ bs))) (sym (eqb-true b 37 e)) (percent_at_37 f)
  percent_by false true e h f g = subst (λ c. wanted_from out Percent (c ∷ bs) ≡ behind out (after_percent (c ∷ bs))) (sym (eqb-true b 108 h))
      (percent_at_108 g)
  percent_by false false e h f g = subst (λ x. Percents x (b == 108)) (sym e) (subst (λ y. Percents false y) (sym h) (short_by (is_short b) f))

mutual
  wanted_is : (bs : List ℕ) (out : List Want) → wanted_from out Plain bs ≡ behind out (wanted bs)
  wanted_is [] out = ap Some (sym (append_nothing out))
  wanted_is (b ∷ bs) out = plain_by b bs out (b == 37) (λ o. wanted_is bs o) (λ o. percent_is bs o)

  percent_is : (bs : List ℕ) (out : List Want) → wanted_from out Percent bs ≡ behind out (after_percent bs)
  percent_is [] out = refl
  percent_is (b ∷ bs) out = percent_by b bs out (b == 37) (b == 108) refl refl (λ o. wanted_is bs o) (λ o. long_is bs o)

  long_is : (bs : List ℕ) (out : List Want) → wanted_from out PercentLong bs ≡ behind out (after_l bs)
  long_is [] out = refl
  long_is (b ∷ bs) out = long_by b bs out (is_long b) (λ o. wanted_is bs o)

nothing_behind : (o : Option (List Bool)) → behind [] o ≡ option_map (map Sized) o
nothing_behind None = refl
nothing_behind (Some ws) = refl

-- both want the same
pub format_is : (bytes : List ℕ) → read.wanted bytes ≡ option_map (map Sized) (wanted bytes)
format_is bytes = wanted_is bytes [] ∙ nothing_behind (wanted bytes)
