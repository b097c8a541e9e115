-- The tokens that count in a full expression: operators, the comma operator, and each `(`, `[` and `?`.
use Rattle.std.specs.Prelude.{ℕ, ◌+◌, ◌/◌, Bool, true, false, cond, List}
use Rattle.c_grammar.specs.declared.class.Class.{Class}
use Rattle.c_grammar.specs.declared.class.Class.TheVariants as c
use Rattle.c_grammar.specs.declared.syntax.Production.{Production}
use Rattle.c_grammar.specs.declared.syntax.Production.TheVariants as p
use Rattle.c_grammar.specs.TokenClasses.{class_of_found}
use Rattle.c_lexer.specs.Marks.{mark_of}

abbrev pub is_counted : Class → Bool
is_counted c.Open = true
is_counted c.OpenIndex = true
is_counted c.Question = true
is_counted c.Equals = true
is_counted c.Update = true
is_counted c.Step = true
is_counted c.Sign = true
is_counted c.Flip = true
is_counted c.OrElse = true
is_counted c.AndThen = true
is_counted c.BitOr = true
is_counted c.BitXor = true
is_counted c.BitAnd = true
is_counted c.Equality = true
is_counted c.Order = true
is_counted c.Shift = true
is_counted c.Product = true
is_counted _ = false

-- a production that a full expression has
abbrev pub is_full : Production → Bool
is_full p.Expression = true
is_full p.Assignment = true
is_full p.Conditional = true
is_full _ = false

abbrev pub token_count : (ℕ → List ℕ) → ℕ → ℕ
token_count word at = cond (is_counted (class_of_found (mark_of (word at)))) 1 0

-- how many tokens of a node count, by those of its parts; between the operands of comma operators stand the commas
abbrev pub own_count : (ℕ → List ℕ) → Production → ℕ → ℕ → ℕ → ℕ
own_count word p.Token first parts tokens = token_count word first
own_count word p.Expression first parts tokens = tokens + parts / 2
own_count word _ first parts tokens = tokens
