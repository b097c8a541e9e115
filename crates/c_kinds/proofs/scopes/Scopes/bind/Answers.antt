use Rattle.std.proofs.Common.{ap, sym, ◌∙◌, ◌≡◌, subst, reverse}
use Rattle.c_kinds.specs.Scopes.{bind}
use Rattle.c_kinds.specs.ScopeLogs.{IsLog, HasLast, last_entered}
use Rattle.c_kinds.proofs.ScopeLaws.{none_bound, kept_whole, unchanged, popped, bound_more}
use Rattle.c_kinds.proofs.scopes.Scopes.bind.Goals.{then-self-eq0-via-then-self-eq0, then-self-eq0-via-else-self-eq0+then-before-self}
use Rattle.c_kinds.proofs.scopes.Scopes.bind.Goals as goal

pub returns-then-self-eq0 : goal.returns-then-self-eq0
returns-then-self-eq0 c =
    let v = c.self.view_is in
    let h = c.self.invariant in
    let name = c.args.name.now in
    let b = c.args.binding in
    let xs = c.self.inside.steps in
    elim c.then-self-eq0.branch [
      | then-self-eq0-via-then-self-eq0 w ↦ sym v ∙ sym (none_bound name b (reverse xs) h.0 (sym h.1 ∙ w.if-self-eq0.true)) ∙ ap (bind name b) v
      | then-self-eq0-via-else-self-eq0+then-before-self w ↦ sym v ∙ sym
          (kept_whole name b xs c.self.inside.entered c.number_of-before.result c.self.inside.numbers h c.number_of-before.ensures
          w.if-before-self.true) ∙ ap (bind name b) v
    ]

pub invariant_of-self-in-Err : goal.invariant_of-self-in-Err
invariant_of-self-in-Err c =
    let h = c.self.invariant in
    let back = popped c.pop.result c.self.inside.steps c.push.new.self c.pop.new.self _ c.in_ok-push.ensures.ok c.pop.ensures in
    subst (λ l. IsLog l × (c.self.inside.entered ≡ last_entered l) × HasLast c.insert.new.self l) (sym back)
    (h.0, h.1, unchanged (reverse c.self.inside.steps) c.self.inside.numbers c.insert.new.self c.in-Err.ensures.err h.2)

pub invariant_of-self-in_default : goal.invariant_of-self-in_default
invariant_of-self-in_default c =
    bound_more c.args.name.now c.key_of.result c.key_of-2.result c.number_of-before.result c.len.result c.self.inside.entered c.args.binding
    c.self.inside.steps c.push.new.self c.self.inside.numbers c.insert.new.self
    c.key_of.ensures c.key_of-2.ensures c.in_ok-push.ensures.ok c.len.ensures.value c.number_of-before.ensures c.if-before-self.false
    c.if-self-eq0.false c.self.invariant c.in_default.ensures.updates
