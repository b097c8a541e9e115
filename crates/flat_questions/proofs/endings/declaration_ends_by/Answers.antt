use Rattle.std.proofs.Common.{◌≡◌, refl}
use Rattle.flat_questions.proofs.endings.declaration_ends_by.Goals as goal
use Rattle.flat_laws.specs.Parts.{Gone, Otherwise}
use Rattle.flat_questions.specs.declared.endings.Ending.TheVariants as A
use Rattle.flat_questions.specs.Reading.{ending_as}

pub returns-in-Some : goal.returns-in-Some
returns-in-Some c = let e : ending_as A.Otherwise ≡ Otherwise = refl in rw c.in-Some.is e

pub returns-in-None : goal.returns-in-None
returns-in-None c = let e : ending_as A.Gone ≡ Gone = refl in rw c.in-None.is e
