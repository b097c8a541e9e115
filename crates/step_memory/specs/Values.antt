-- What the values of the machine are in the meaning.
use Rattle.std.specs.Prelude.{ℕ, List, [], ◌∷◌}
use Rattle.jump_meaning.specs.Values as Meant
use Rattle.jump_meaning.specs.Code.{entry_or}
use Rattle.step_memory.specs.declared.value.Owner.{Owner}
use Rattle.step_memory.specs.declared.value.Owner.TheVariants.{File, Call}
use Rattle.step_memory.specs.declared.value.Value.{Value}
use Rattle.step_memory.specs.declared.value.Value.TheVariants.{Integer, Designates, Lends, Format, Missing}

-- a variable, by the names of those of the file
abbrev pub owner_of : List (List ℕ) → Owner → Meant.Owner
owner_of ns (File i) = Meant.OfFile (entry_or [] ns i)
owner_of ns (Call c x) = Meant.OfCall c x

abbrev pub value_of : List (List ℕ) → Value → Meant.Value
value_of ns (Integer n) = Meant.Integer n
value_of ns (Designates o i) = Meant.Designates (owner_of ns o) i
value_of ns (Lends o) = Meant.Lends (owner_of ns o)
value_of ns (Format b) = Meant.Format b.now
value_of ns Missing = Meant.Missing

-- the values pending, the last first
abbrev pub values_of : List (List ℕ) → List Value → List Meant.Value
values_of ns [] = []
values_of ns (v ∷ vs) = value_of ns v ∷ values_of ns vs
