-- Tables of places.
use Rattle.std.specs.Prelude.{ℕ, cond, eqb, Option, Some, None}

-- the entry of code c, where the code d gets this place unless it has one
abbrev pub with_place : Option ℕ → ℕ → ℕ → ℕ → Option ℕ
with_place (Some p) d place c = Some p
with_place None d place c = cond (eqb d c) (Some place) None
