use Rattle.std.proofs.Common.{◌∷◌, ◌+◌, ◌<◌, ◌≡◌, drop, get_or, length, suc, sym, ap, ◌∙◌, subst, drop-cons, arith}
use Rattle.std.proofs.lemmas.List.{drop_all}
use Rattle.step_interp.specs.Functions.{HasFunctions}
use Rattle.step_interp.proofs.FunctionLemmas.{no_function}
use Rattle.step_interp.proofs.functions.functions_of.Goals as goal

pub loop-top-init : goal.loop-top-init
loop-top-init c = no_function c.args.program.now.tops c.no_functions-functions.result c.no_functions-functions.ensures

pub loop-top-preserved : goal.loop-top-preserved
loop-top-preserved c =
    let tops = c.args.program.now.tops in
    let at = c.loop-top.top-index in
    let t = c.top-item.result in
    let within = subst (λ ts. at < length ts) c.as_slice-top-items.ensures.value c.loop-top-test.true in
    let item = c.top-item.is ∙ ap (λ ts. get_or ts at t) c.as_slice-top-items.ensures.value in
    let one : suc at ≡ at + 1 = omega arith in
    c.in_ok-add_top.ensures tops (drop (at + 1) tops)
    (subst (λ ts. HasFunctions tops ts c.loop-top.functions)
    (drop-cons tops at t within ∙ ap (λ x. x ∷ drop (suc at) tops) (sym item) ∙ ap (λ k. t ∷ drop k tops) one) c.loop-top.invariant)

pub returns : goal.returns
returns c =
    let tops = c.args.program.now.tops in
    let past = subst (λ ts. length ts ≡ length tops) (sym c.as_slice-top-items.ensures.value) (λ i. length tops) in
    subst (λ ts. HasFunctions tops ts c.loop-top.functions) (drop_all c.loop-top.top-index tops (omega (arith, c.loop-top-test.false, past)))
    c.loop-top.invariant
