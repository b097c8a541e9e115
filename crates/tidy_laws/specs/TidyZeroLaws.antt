-- What `settled_laws` states.
use Rattle.jump_meaning.specs.Code.{Code}
use Rattle.tidy_laws.specs.TidyExitLaws.{RunTheSame}
use Rattle.tidy_laws.specs.Settled.{SettledCode}

pub record SettledLaws : Type 0 where
  -- a slot that is 0 wherever it is tested may go
  pub settled : (k p q : Code) → SettledCode k p q → RunTheSame p q
