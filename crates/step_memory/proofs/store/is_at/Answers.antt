use Rattle.std.proofs.Common.{ap, sym, ◌∙◌, arith}
use Rattle.std.proofs.lemmas.Slice.Eq.{bytes_eq-Decides}
use Rattle.step_memory.proofs.StoreLemmas.{entry_map}
use Rattle.step_memory.proofs.store.is_at.Goals as goal

pub returns-then-eq : goal.returns-then-eq
returns-then-eq c =
    entry_map (λ n. n.now) c.args.names.now c.args.at c.index-names-place.result (omega (arith, c.if-place-names.false))
    ∙ ap (λ n. n.now) (sym c.index-names-place.is)
    ∙ sym c.as_str.ensures ∙ (bytes_eq-Decides c.as_str.result.now c.as_str-2.result.now).0 (sym c.if-eq.ensures) ∙ c.as_str-2.ensures
