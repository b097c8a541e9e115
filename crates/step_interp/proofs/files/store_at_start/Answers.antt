use Rattle.std.proofs.Common.{[], ◌∷◌, ◌++◌, ◌+◌, ◌<◌, ◌≡◌, map, drop, get_or, length, suc, sym, ap, ◌∙◌, subst, drop-cons, arith}
use Rattle.step_interp.specs.Files.{HasFile}
use Rattle.step_interp.proofs.FileLemmas.{no_variable, no_places, first_holds}
use Rattle.step_interp.proofs.files.store_at_start.Goals as goal

pub loop-top-init : goal.loop-top-init
loop-top-init c =
    let tops = c.args.program.now.tops in
    record {
      places = no_places c.new-names.result.items c.new-places.result c.new-names.ensures.items c.new-places.ensures.empty;
      file = subst (λ ns. HasFile tops tops (map (λ n. n.now) ns) c.new-file.result) (sym c.new-names.ensures.items)
          (subst (HasFile tops tops []) (sym c.new-file.ensures) (no_variable tops));
    }

pub loop-top-preserved : goal.loop-top-preserved
loop-top-preserved c =
    let tops = c.args.program.now.tops in
    let at = c.loop-top.top-index in
    let t = c.top-item.result in
    let names = map (λ n. n.now) c.loop-top.names.items in
    let within = subst (λ ts. at < length ts) c.as_slice-top-items.ensures.value c.loop-top-test.true in
    let item = c.top-item.is ∙ ap (λ ts. get_or ts at t) c.as_slice-top-items.ensures.value in
    let one : suc at ≡ at + 1 = omega arith in
    record {
      places = c.in_ok-add_top.ensures.places;
      file = c.in_ok-add_top.ensures.file tops (drop (at + 1) tops)
          (subst (λ ts. HasFile tops ts names c.loop-top.file)
          (drop-cons tops at t within ∙ ap (λ x. x ∷ drop (suc at) tops) (sym item) ∙ ap (λ k. t ∷ drop k tops) one) c.loop-top.invariant.file);
    }

pub returns : goal.returns
returns c input =
    first_holds c.args.program.now (record {
      names = c.loop-top.names;
      places = c.loop-top.places;
      file = c.loop-top.file;
      calls = c.push.new.self;
      newest = 0;
    }) input (drop c.loop-top.top-index c.args.program.now.tops) c.loop-top.invariant.file
    (c.in_ok-push.ensures.ok ∙ ap (λ cs. cs ++ c.in_ok-rooms.rooms ∷ []) c.new-calls.ensures ∙
    ap (λ x. x ∷ []) (c.in_ok-rooms.ensures ∙ ap (λ x. x ++ []) c.new-none.ensures)) (omega arith)
