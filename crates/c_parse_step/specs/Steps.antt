-- What the functions of the code ensure: what they leave is what the token does, unless memory runs out.
use Rattle.std.specs.Prelude.{◌≡◌, ℕ, ◌∷◌, Option, Some, None, Result, Ok, Err}
use Rattle.c_types.specs.declared.refusal.Memory.{Memory}
use Rattle.c_grammar.specs.declared.class.Class.{Class}
use Rattle.c_parse_step.specs.declared.frame.Found.{Found}
use Rattle.c_parse_step.specs.declared.frame.Frame.{Frame}
use Rattle.c_parse_step.specs.declared.given.Given.{Given}
use Rattle.c_parse_step.specs.declared.given.Given.TheVariants as g
use Rattle.c_parse_step.specs.declared.load.Load.{Load}
use Rattle.c_parse_step.specs.Starts.{Frames, Next, Fails, Takes}
use Rattle.c_parse_step.specs.Machine.{give}

abbrev pub Steps : Next → Result (Option Load) Memory → Frames → Type 0
Steps next (Ok (Some l)) new = next ≡ Takes l new
Steps next (Ok None) new = next ≡ Fails
Steps next (Err e) new = Unit {0}

-- A value that is passed on leaves the frames below.
abbrev pub Reduces : Next → Frames → Class → ℕ → Result Given Memory → Frames → Type 0
Reduces next old t at (Ok (g.Taken l)) new = next ≡ Takes l new
Reduces next old t at (Ok g.Refused) new = next ≡ Fails
Reduces next old t at (Ok (g.Passed v)) new = (next ≡ give old v t at) × (new ≡ old)
Reduces next old t at (Err e) new = Unit {0}

-- What a frame does whatever the token is, and whatever frames stand below, which stay as they are.
abbrev pub ReducesAlone : Frame → Found → ℕ → Result Given Memory → Type 0
ReducesAlone frame v at result = (z : Frames) (t : Class) → Reduces (give (frame ∷ z) v t at) z t at result z
