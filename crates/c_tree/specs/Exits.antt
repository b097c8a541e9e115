-- What `break` and `continue` are bound to: a `break` to the nearest loop or switch around it, a
-- `continue` to the nearest loop.
use Rattle.std.specs.Prelude.{ℕ, ◌+◌}
use Rattle.c_tree.specs.Trees.{Tree, Forest, Nil, Then, Sections, NoSection, Section, If, For, Switch, Block, Break, Continue}

abbrev mutual
  -- how many breaks of a list are bound to a construct around it
  pub breaks : Forest → ℕ
  breaks Nil = 0
  breaks (Then x xs) = breaks_of x + breaks xs

  pub breaks_of : Tree → ℕ
  breaks_of (If t a b) = breaks a + breaks b
  breaks_of (For first t u a) = breaks first
  breaks_of (Block a) = breaks a
  breaks_of Break = 1
  breaks_of _ = 0

-- how many breaks are bound to the switch of the sections; the end of a section is none
abbrev pub breaks_in : Sections → ℕ
breaks_in NoSection = 0
breaks_in (Section cases default a ends c) = breaks a + breaks_in c

abbrev mutual
  -- how many continues of a list are bound to a construct around it
  pub continues : Forest → ℕ
  continues Nil = 0
  continues (Then x xs) = continues_of x + continues xs

  pub continues_of : Tree → ℕ
  continues_of (If t a b) = continues a + continues b
  continues_of (For first t u a) = continues first
  continues_of (Switch s c) = continues_in c
  continues_of (Block a) = continues a
  continues_of Continue = 1
  continues_of _ = 0

  pub continues_in : Sections → ℕ
  continues_in NoSection = 0
  continues_in (Section cases default a ends c) = continues a + continues_in c
