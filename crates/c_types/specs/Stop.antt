-- What a reading phase returns, against what reading gives.
use Rattle.std.specs.Prelude.{◌≡◌, Result, Ok, Err}
use Rattle.c_types.specs.declared.refusal.Refusal.{Refusal}
use Rattle.c_types.specs.declared.refusal.ReadStop.{ReadStop}
use Rattle.c_types.specs.declared.refusal.ReadStop.TheVariants as stops

-- the refusal is the one that reading gives; want of memory may come at any time
abbrev pub Stops : {Y : Type 0} → ReadStop → Result Y Refusal → Type 0
Stops stops.Memory read = Unit {0}
Stops (stops.Refused refusal) read = read ≡ Err refusal

-- what was returned, seen by `view`, is what reading gives
abbrev pub Gives : {X Y : Type 0} → (X → Y) → Result X ReadStop → Result Y Refusal → Type 0
Gives view (Ok x) read = read ≡ Ok (view x)
Gives view (Err stop) read = Stops stop read
