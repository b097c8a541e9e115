-- What the grammar says of a token's class alone.
use Rattle.std.specs.Prelude.{ℕ, Bool, true, false}
use Rattle.c_grammar.specs.declared.class.Class.{Class}
use Rattle.c_grammar.specs.declared.class.Class.TheVariants as c

-- how tightly a binary mark binds, and 0 for what is none
abbrev pub level : Class → ℕ
level c.OrElse = 4
level c.AndThen = 5
level c.BitOr = 6
level c.BitXor = 7
level c.BitAnd = 8
level c.Equality = 9
level c.Order = 10
level c.Shift = 11
level c.Sign = 12
level c.Product = 13
level _ = 0

-- a mark of an assignment
abbrev pub is_assign : Class → Bool
is_assign c.Equals = true
is_assign c.Update = true
is_assign _ = false

-- a unary mark other than `++` and `--`
abbrev pub is_prefix : Class → Bool
is_prefix c.Sign = true
is_prefix c.Flip = true
is_prefix _ = false
