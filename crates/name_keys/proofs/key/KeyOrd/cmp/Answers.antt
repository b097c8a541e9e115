use Rattle.std.proofs.Common.{◌∙◌, sym, arith}
use Rattle.std.specs.Ordering.{nat_cmp}
use Rattle.c_types.specs.Words.{name_cmp}
use Rattle.name_keys.proofs.Orders.{order_of_fronts, order_of_lengths}
use Rattle.name_keys.proofs.key.KeyOrd.cmp.Goals as goal

pub returns-then-self-other : goal.returns-then-self-other
returns-then-self-other c =
    let a = c.self.invariant in
    let b = c.other.invariant in
    let o = order_of_fronts 8 c.self.inside.text.now c.other.inside.text.now a.1 b.1 (λ e. c.if-self-other.true (a.0 ∙ e ∙ sym b.0)) in
    c.cmp.ensures ∙ (λ i. nat_cmp (a.0 i) (b.0 i)) ∙ sym o ∙ (λ i. name_cmp (c.self.view_is i) (c.other.view_is i))

pub returns-then-min-le8 : goal.returns-then-min-le8
returns-then-min-le8 c =
    let a = c.self.invariant in
    let b = c.other.invariant in
    let o = order_of_lengths 8 c.self.inside.text.now c.other.inside.text.now a.1 b.1 (sym a.0 ∙ c.if-self-other.false ∙ b.0) (omega arith) in
    c.cmp-then-min-le8.ensures ∙ sym o ∙ (λ i. name_cmp (c.self.view_is i) (c.other.view_is i))
