use Rattle.std.proofs.Common.{◌≡◌, ◌+◌, ◌<◌, ◌≤◌, ◌^◌, true, false, length, ap, ◌∙◌, arith, List, ℕ}
use Rattle.std.proofs.lemmas.Result.{IfOk-weaker}
use Rattle.c_copies.specs.Names.{has_name}
use Rattle.c_fresh_names.specs.Fresh.{numbered, first_free}
use Rattle.c_fresh_names.proofs.FreshLemmas.{first_free_used, first_free_last}
use Rattle.c_fresh_names.proofs.FreshFound.{first_free_unused}
use Rattle.c_fresh_names.proofs.names.first_free.Goals as goal

pub loop-n-preserved : goal.loop-n-preserved
loop-n-preserved c =
    let taken : has_name c.args.used.now (numbered c.args.base.now c.loop-n.n) ≡ true =
    cc (c.contains.ensures, c.as_str.ensures, c.in_ok-name.ensures, c.if-not-contains.false) in
    first_free_used c.args.used.now c.args.base.now (first_free c.args.used.now c.args.base.now 2 (length c.args.used.now)) c.loop-n.n (c.len.result + 2)
    c.loop-n-test.true taken c.loop-n.invariant

pub returns-clause-unused : goal.returns-clause-unused
returns-clause-unused c =
    let below : c.loop-n.n ≤ c.len.result + 2 = omega arith in
    let last = first_free_last c.args.used.now c.args.base.now (first_free c.args.used.now c.args.base.now 2 (length c.args.used.now)) c.loop-n.n
    (c.len.result + 2)
    below c.loop-n-test.false c.loop-n.invariant in
    let few : 2 + length c.args.used.now < 2 ^ 64 = omega (arith, c.len.ensures.value, c.len.ensures.bound) in
    let all : length c.args.used.now ≤ length c.args.used.now = omega arith in
    IfOk-weaker c.numbered-2.result (λ (it : List ℕ). it ≡ numbered c.args.base.now (c.len.result + 2)) (λ (it : List ℕ). has_name c.args.used.now it ≡ false)
    (λ x h. ap (has_name c.args.used.now) (h ∙ last) ∙ first_free_unused c.args.used.now c.args.base.now 2 (length c.args.used.now) all few)
    c.numbered-2.ensures
