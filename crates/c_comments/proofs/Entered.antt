-- Frames, by the tokens whose places they give.
use Rattle.std.proofs.Common.{◌≡◌, ◌<◌, ◌≤◌, ℕ, min, nat_le, nat_lt, Bool, true, false, cond, List, [], ◌∷◌, length, refl, ap, sym, subst, ◌∙◌, arith, All}
use Rattle.std.proofs.lemmas.Bool.{and_parts, leb-true, ltb-true}
use Rattle.std.proofs.lemmas.List.Elements.{All-head, All-tail}
use Rattle.c_statements.specs.declared.anchors.Anchor.{Anchor}
use Rattle.c_comments.specs.Frames.{Speaks, holds, holding}
use Rattle.c_comments.specs.Steps.{rest_place, Behind, Between}
use Rattle.c_comments.specs.declared.frames.Frame.{Frame}
use Rattle.c_comments.specs.declared.steps.Rest.{Rest}

-- ---- what is left

kept : (P : Frame → Type 0) (b : Bool) (xs ys : List Frame) → All P xs → All P ys → All P (cond b xs ys)
kept P true xs ys h g = h
kept P false xs ys h g = g

all-holding : (P : Frame → Type 0) (t : ℕ) (fs : List Frame) → All P fs → All P (holding t fs)
all-holding P t [] h = h
all-holding P t (f ∷ fs) h = kept P (holds t f) (f ∷ fs) (holding t fs) h (all-holding P t fs (All-tail P f fs h))

-- the frame that is taken off, and the others
pub taken : (P : Frame → Type 0) (t : ℕ) (fs : List Frame) (f : Frame) (rest : List Frame) → holding t fs ≡ f ∷ rest → All P fs → P f × All P rest
taken P t fs f rest e h = let all : All P (f ∷ rest) = subst (All P) e (all-holding P t fs h) in (All-head P f rest all, All-tail P f rest all)

abbrev first : Frame → List Frame → Frame
first d [] = d
first d (f ∷ fs) = f

pub taken_holds : (t : ℕ) (fs : List Frame) (f : Frame) (rest : List Frame) → holding t fs ≡ f ∷ rest → holds t f ≡ true
taken_holds t [] f rest e = absurd (omega (arith, ap length e))
taken_holds t (x ∷ fs) f rest e = by (holds t x) refl (taken_holds t fs f rest)
  where
    by : (b : Bool) → holds t x ≡ b → (holding t fs ≡ f ∷ rest → holds t f ≡ true) → holds t f ≡ true
    by true h others = subst (λ y. holds t y ≡ true) (ap (first f) (sym (ap (λ b. cond b (x ∷ fs) (holding t fs)) h) ∙ e)) h
    by false h others = others (sym (ap (λ b. cond b (x ∷ fs) (holding t fs)) h) ∙ e)

-- ---- what is entered

-- a frame whose earlier parts are passed
pub still : (word : ℕ → List ℕ) (place : ℕ → Anchor) (f : Frame) (rest : Rest) (t : ℕ) → f.from ≤ t → Behind (rest_place word rest) (rest_place word f.rest) t
    → Speaks word place f → Speaks word place (record { rest = rest; from = t; to = f.to })
still word place f rest t h b p s l u = b s l ∙ p s (omega (arith, h, l)) u

-- the frame of a list in a frame
pub inner : (word : ℕ → List ℕ) (place : ℕ → Anchor) (f : Frame) (rest : Rest) (t bound : ℕ) → f.from ≤ t →
    Between (rest_place word f.rest) (rest_place word rest) t bound
    → Speaks word place f → Speaks word place (record { rest = rest; from = t; to = min bound f.to })
inner word place f rest t bound h b p s l u = sym (b s l (omega (arith, u))) ∙ p s (omega (arith, h, l)) (omega (arith, u))

-- what is said of tokens that a frame gives
pub from_holds : (t : ℕ) (f : Frame) → holds t f ≡ true → (f.from ≤ t) × (t < f.to)
from_holds t f h = let both = and_parts (nat_le f.from t) (nat_lt t f.to) h in (leb-true f.from t both.0, ltb-true t f.to both.1)
