-- How a node goes on in front of a token, by what stands next in it.
use Rattle.std.proofs.Common.{◌≡◌, ℕ, Bool, false, cond, List, [], ◌∷◌, Option, Some, None, Ok, ap, subst, ◌∙◌}
use Rattle.c_grammar.specs.declared.class.Class.{Class}
use Rattle.c_parse_step.specs.declared.form.Form.{Form}
use Rattle.c_parse_step.specs.declared.form.Want.{Want}
use Rattle.c_parse_step.specs.declared.frame.Found.TheVariants.{Whole}
use Rattle.c_grammar.specs.Nodes.{node}
use Rattle.c_parse_step.specs.declared.load.Load.{Load}
use Rattle.c_parse_step.specs.Starts.{Frames, Next, Fails, Takes}
use Rattle.c_parse_step.specs.Steps.{Steps}
use Rattle.c_parse_step.specs.Machine.{skips, skipped, begin, feed, give, resume}

pub resumes_begun : (form : Form) (x : Want) (l : List Want) (z : Frames) (t : Class) (at : ℕ) → form.todo ≡ x ∷ l → skips x t ≡ false
    → resume form z t at ≡ begin form.rule form.first form.level form.parts l x z t at
resumes_begun form x l z t at e h =
    ap (λ (todo : List Want). feed form.rule form.first form.level form.parts todo z t at (λ v. give z (Whole v) t at)) e
    ∙ ap (λ (b : Bool). cond b (feed form.rule form.first form.level (skipped x form.parts at) l z t at (λ v. give z (Whole v) t at))
    (begin form.rule form.first form.level form.parts l x z t at)) h

pub resumes_ended : (form : Form) (z : Frames) (t : Class) (at : ℕ) → form.todo ≡ [] →
    resume form z t at ≡ give z (Whole (node form.rule form.first at form.parts)) t at
resumes_ended form z t at e = ap (λ (todo : List Want). feed form.rule form.first form.level form.parts todo z t at (λ v. give z (Whole v) t at)) e

pub steps_taken : (next : Next) (o : Option Load) (l : Load) (z : Frames) → Steps next (Ok o) z → o ≡ Some l → next ≡ Takes l z
steps_taken next o l z h e = subst (λ (x : Option Load). Steps next (Ok x) z) e h

pub steps_failed : (next : Next) (o : Option Load) (z : Frames) → Steps next (Ok o) z → o ≡ None → next ≡ Fails
steps_failed next o z h e = subst (λ (x : Option Load). Steps next (Ok x) z) e h
