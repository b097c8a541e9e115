-- Flags of labels.
use Rattle.std.proofs.Common.{◌≡◌, Bool, true, false, ◌||◌, refl, ap, ◌∙◌}

pub or_both : (o a b x y : Bool) → x ≡ (o || a) → y ≡ (x || b) → y ≡ (o || (a || b))
or_both true a b x y e f = f ∙ ap (λ z. z || b) e
or_both false a b x y e f = f ∙ ap (λ z. z || b) e

pub or_step : (all o a b x y : Bool) → (x || (a || b)) ≡ all → y ≡ (x || a) → (y || b) ≡ all
or_step all o a b true y e f = ap (λ z. z || b) f ∙ e
or_step all o a b false y e f = ap (λ z. z || b) f ∙ e

pub or_none : (a : Bool) → (a || false) ≡ a
or_none true = refl
or_none false = refl
