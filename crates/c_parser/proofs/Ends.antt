-- The end of the text is taken only by a file that is whole.
use Rattle.std.proofs.Common.{◌≡◌, ℕ, false, List, [], ◌∷◌, ◌++◌, refl, arith}
use Rattle.std.proofs.lemmas.Bool.{le-ltb}
use Rattle.c_grammar.specs.declared.class.Class.{Class}
use Rattle.c_grammar.specs.declared.class.Class.TheVariants as c
use Rattle.c_grammar.specs.declared.syntax.Syntax.{Syntax}
use Rattle.c_grammar.specs.declared.syntax.Production.{Production}
use Rattle.c_parse_step.specs.declared.form.Want.{Want}
use Rattle.c_parse_step.specs.declared.form.Want.TheVariants as w
use Rattle.c_parse_step.specs.declared.form.Lead.{Lead}
use Rattle.c_parse_step.specs.declared.form.Lead.TheVariants as o
use Rattle.c_parse_step.specs.declared.form.Member.TheVariants as m
use Rattle.c_parse_step.specs.declared.frame.Found.{Found}
use Rattle.c_parse_step.specs.declared.frame.Found.TheVariants.{Lone, Whole}
use Rattle.c_parse_step.specs.declared.frame.Frame.TheVariants as s
use Rattle.c_parse_step.specs.Tests.{same}
use Rattle.c_parse_step.specs.Starts.{Frames, Next, Fails, Takes}
use Rattle.c_parse_step.specs.Machine.{leader, begin, feed, give, step}

-- what is taken makes a whole file
abbrev pub IsEnded : Next → Type 0
IsEnded Fails = Unit {0}
IsEnded (Takes l (s.Accepted x ∷ z)) = Unit {0}
IsEnded (Takes l _) = ⊥

-- the end is no token that a production awaits
not_end : (x : Class) → same x c.End ≡ false
not_end c.Name = refl
not_end _ = refl

-- the end leads nothing in
not_lead : (x : Lead) → same (leader x) c.End ≡ false
not_lead o.Const = refl
not_lead _ = refl

-- The end begins nothing.
begin_ended : (rule : Production) (first level : ℕ) (parts : List Syntax) (l : List Want) (x : Want) (z : Frames) (at : ℕ) →
    ((y : Lead) → x ≡ w.Optional y → ⊥) → IsEnded (begin rule first level parts l x z c.End at)
begin_ended rule first level parts l (w.Token x) z at h = rw (not_end x) tt
begin_ended rule first level parts l (w.OptionalExpression x) z at h = rw (not_end x) tt
begin_ended rule first level parts l (w.Optional x) z at h = absurd (h x refl)
begin_ended rule first level parts l (w.Next m.Value) z at h = tt
begin_ended rule first level parts l (w.Next m.Enumerator) z at h = tt
begin_ended rule first level parts l _ z at h = tt

-- In front of the end a node is whole, or the end fits nowhere.
feed_ended : (rule : Production) (first level : ℕ) (parts : List Syntax) (l : List Want) (z : Frames) (at : ℕ) (k : Syntax → Next) →
    ((x : Syntax) → IsEnded (k x)) → IsEnded (feed rule first level parts l z c.End at k)
feed_ended rule first level parts [] z at k h = h _
feed_ended rule first level parts (w.Optional x ∷ l) z at k h = rw (not_lead x) (feed_ended rule first level parts l z at k h)
feed_ended rule first level parts (w.Base ∷ l) z at k h = feed_ended rule first level parts l z at k h
feed_ended rule first level parts (w.Token x ∷ l) z at k h = begin_ended rule first level parts l (w.Token x) z at (λ y e. absurd cc)
feed_ended rule first level parts (w.OptionalExpression x ∷ l) z at k h = begin_ended rule first level parts l (w.OptionalExpression x) z at (λ y e. absurd cc)
feed_ended rule first level parts (w.Next x ∷ l) z at k h = begin_ended rule first level parts l (w.Next x) z at (λ y e. absurd cc)
feed_ended rule first level parts (_ ∷ l) z at k h = tt

-- A value in front of the end makes a whole file, or the end fits nowhere.
give_ended : (z : Frames) (v : Found) (at : ℕ) → IsEnded (give z v c.End at)
give_ended (s.Post first ∷ z) (Lone v) at = give_ended z (Lone v) at
give_ended (s.Post first ∷ z) (Whole v) at = give_ended z (Whole v) at
give_ended (s.Prefix first mark next ∷ z) v at = give_ended z _ at
give_ended (s.Stepped first mark ∷ z) (Lone v) at = give_ended z _ at
give_ended (s.Stepped first mark ∷ z) (Whole v) at = tt
give_ended (s.Enclosed first bracket ∷ z) (Lone v) at = tt
give_ended (s.Enclosed first bracket ∷ z) (Whole v) at = tt
give_ended (s.CastType first bracket ∷ z) (Lone v) at = tt
give_ended (s.CastType first bracket ∷ z) (Whole v) at = tt
give_ended (s.Cast first parts next ∷ z) v at = give_ended z _ at
give_ended (s.Operand first ∷ z) v at = give_ended z _ at
give_ended (s.Join first left mark next l ∷ z) v at = rw (le-ltb l 0 (omega arith)) (give_ended z _ at)
give_ended (s.Choice first ∷ z) v at = give_ended z _ at
give_ended (s.ChoiceElse first parts next ∷ z) v at = give_ended z _ at
give_ended (s.Assigns first ∷ z) (Lone v) at = give_ended z _ at
give_ended (s.Assigns first ∷ z) (Whole v) at = give_ended z _ at
give_ended (s.AssignsTo first parts next ∷ z) v at = give_ended z _ at
give_ended (s.Commas first start parts ∷ z) v at = give_ended z _ at
give_ended (s.Bracketed first bracket next ∷ z) (Lone v) at = tt
give_ended (s.Bracketed first bracket next ∷ z) (Whole v) at = tt
give_ended (s.ArgumentSeen first ∷ z) v at = give_ended z _ at
give_ended (s.Arguments first parts ∷ z) (Lone v) at = tt
give_ended (s.Arguments first parts ∷ z) (Whole v) at = tt
give_ended (s.Whole kind start ∷ z) v at = give_ended z _ at
give_ended (s.Rest form ∷ z) (Lone v) at = tt
give_ended (s.Rest form ∷ z) (Whole v) at = feed_ended form.rule form.first form.level (form.parts ++ v ∷ []) form.todo z at _ (λ x. give_ended z (Whole x) at)
give_ended (s.TopType first parts start ∷ z) (Lone v) at = tt
give_ended (s.TopType first parts start ∷ z) (Whole v) at = tt
give_ended (s.Tops parts ∷ z) (Lone v) at = tt
give_ended (s.Tops parts ∷ z) (Whole v) at = tt
give_ended _ v at = tt

-- The end fits nowhere, or it ends a file.
pub step_ended : (z : Frames) (at : ℕ) → IsEnded (step z c.End at)
step_ended (s.Named first name ∷ z) at = give_ended z _ at
step_ended (s.TargetNamed first name ∷ z) at = give_ended z _ at
step_ended (s.Texts first parts ∷ z) at = give_ended z _ at
step_ended (s.Done v ∷ z) at = give_ended z v at
step_ended (s.Rest form ∷ z) at = feed_ended form.rule form.first form.level form.parts form.todo z at _ (λ x. give_ended z (Whole x) at)
step_ended _ at = tt
