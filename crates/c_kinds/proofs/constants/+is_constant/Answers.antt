use Rattle.std.proofs.Common.{rules, sym}
use Rattle.c_kinds.proofs.ConstantForms.{constant-Unary, constant-Cast, constant-Binary, constant-Conditional, not_constant}
use Rattle.c_kinds.proofs.constants.+is_constant.Goals as goal
use Rattle.c_kinds.proofs.constants.+is_constant.Goals.{then-is_constant-2, else-is_constant-2}

pub returns-in-Unary : goal.returns-in-Unary
returns-in-Unary t c = rw (constant-Unary c.args.e.now c.in-Unary.field-0 c.in-Unary.a c.in-Unary.is) (search rules)

pub returns-then-is_some : goal.returns-then-is_some
returns-then-is_some t c = rw (constant-Cast c.args.e.now c.in-Cast.a c.in-Cast.is) (search rules)

pub returns-else-is_some : goal.returns-else-is_some
returns-else-is_some t c = rw (constant-Cast c.args.e.now c.in-Cast.a c.in-Cast.is) (search rules)

pub returns-then-is_constant : goal.returns-then-is_constant
returns-then-is_constant t c = rw (constant-Binary c.args.e.now c.in-Binary.field-0 c.in-Binary.a c.in-Binary.b c.in-Binary.is) (search rules)

pub returns-else-is_constant : goal.returns-else-is_constant
returns-else-is_constant t c = rw (constant-Binary c.args.e.now c.in-Binary.field-0 c.in-Binary.a c.in-Binary.b c.in-Binary.is) (search rules)

pub returns-then-is_constant-3 : goal.returns-then-is_constant-3
returns-then-is_constant-3 t c =
    rw (constant-Conditional c.args.e.now c.in-Conditional.a c.in-Conditional.b c.in-Conditional.c c.in-Conditional.is)
    (elim c.if-is_constant-2.branch [ then-is_constant-2 w ↦ search rules | else-is_constant-2 w ↦ search rules ])

pub returns-else-is_constant-3 : goal.returns-else-is_constant-3
returns-else-is_constant-3 t c =
    rw (constant-Conditional c.args.e.now c.in-Conditional.a c.in-Conditional.b c.in-Conditional.c c.in-Conditional.is)
    (elim c.if-is_constant-2.branch [ then-is_constant-2 w ↦ search rules | else-is_constant-2 w ↦ search rules ])

pub returns-in_default : goal.returns-in_default
returns-in_default t c =
    sym (not_constant c.args.e.now c.in_default.not-Number c.in_default.not-Character c.in_default.not-EnumName c.in_default.not-Unary
    c.in_default.not-Cast c.in_default.not-Binary c.in_default.not-Conditional)
