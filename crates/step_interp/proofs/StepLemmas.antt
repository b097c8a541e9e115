-- What was written and read after one step.
use Rattle.std.proofs.Common.{ℕ, ℤ, ◌+◌, ◌≡◌, List, [], ◌∷◌, ◌++◌, map, take, Option, Some, refl, sym, ap, ◌∙◌, append-nil}
use Rattle.rg_ports.specs.Written.{Written, more, FrontWritten}
use Rattle.rg_ports.proofs.WrittenLemmas.{more-more}
use Rattle.jump_meaning.specs.Values.{Event, Byte, Called}
use Rattle.jump_meaning.specs.World.{World}
use Rattle.jump_meaning.specs.Step.{State, HasEnded, HasTrapped}
use Rattle.c_types.specs.declared.trap.Trap.{Trap}
use Rattle.step_memory.specs.declared.value.Value.TheVariants as My
use Rattle.step_interp.specs.declared.machine.Machine.{Machine}
use Rattle.step_interp.specs.declared.machine.Next.TheVariants.{Goes, Reads, Writes, Prints, Ends, Traps}
use Rattle.step_interp.specs.Machines.{IsGiven}
use Rattle.step_interp.specs.Moves.{StandsFor}
use Rattle.step_interp.specs.Calls.{QuietlyReaches}
use Rattle.step_interp.specs.Shown.{bytes_in}
use Rattle.step_interp.specs.Answers.{output_of}
use Rattle.step_interp.specs.Followed.{HasPorts, Follows, IsLast, WroteFront, HasRead, ReadsNext}

bytes_append : (xs ys : List Event) → bytes_in (xs ++ ys) ≡ bytes_in xs ++ bytes_in ys
bytes_append [] ys = refl
bytes_append (Byte b ∷ xs) ys = ap (λ bs. b ∷ bs) (bytes_append xs ys)
bytes_append (Called m ns ∷ xs) ys = bytes_append xs ys

pub bytes_map : (bs : List ℕ) → bytes_in (map Byte bs) ≡ bs
bytes_map [] = refl
bytes_map (b ∷ bs) = ap (λ cs. b ∷ cs) (bytes_map bs)

bytes_quiet : (xs es : List Event) → bytes_in es ≡ [] → bytes_in (xs ++ es) ≡ bytes_in xs
bytes_quiet xs es q = bytes_append xs es ∙ ap (λ bs. bytes_in xs ++ bs) q ∙ append-nil (bytes_in xs)

bytes_shown : (xs es fs : List Event) (bs : List ℕ) → bytes_in es ≡ [] → bytes_in fs ≡ bs → bytes_in ((xs ++ es) ++ fs) ≡ bytes_in xs ++ bs
bytes_shown xs es fs bs q e = bytes_append (xs ++ es) fs ∙ ap (λ cs. cs ++ bytes_in fs) (bytes_quiet xs es q) ∙ ap (λ cs. bytes_in xs ++ cs) e

-- ---- steps that go on

quiet : (s : State) (told : Written) (m : Machine) (w : World) (es : List Event) (left : List ℕ) (was : Written) (l : Option (List ℕ))
    → StandsFor s m left (w.events ++ es) → bytes_in es ≡ [] → was ≡ more told (bytes_in w.events) → l ≡ Some left → Follows s told m was l
quiet s told m w es left was l h q p i = record {
  world = h.world;
  same = h.same;
  has = h.has;
  ports = record { output = p ∙ ap (more told) (sym (ap bytes_in h.events ∙ bytes_quiet w.events es q)); input = i ∙ ap Some (sym h.input) };
}

-- a step without bytes
pub went : (R : Type 0) (s : State) (told : Written) (w : World) (m : Machine) (was : Written) (l : Option (List ℕ))
    → QuietlyReaches R s w Goes m → HasPorts told w was l → Follows s told m was l
went R s told w m was l h p = quiet s told m w h.events w.input was l h.reaches h.quiet p.output p.input

-- a step whose bytes were all written
wrote : (s : State) (told : Written) (m : Machine) (w : World) (es fs : List Event) (bs : List ℕ) (was now : Written) (l : Option (List ℕ))
    → StandsFor s m w.input ((w.events ++ es) ++ fs) → bytes_in es ≡ [] → bytes_in fs ≡ bs → HasPorts told w was l → now ≡ more was bs → Follows s told m now l
wrote s told m w es fs bs was now l h q e p k = record {
  world = h.world;
  same = h.same;
  has = h.has;
  ports = record {
    output = k ∙ ap (λ t. more t bs) p.output ∙ more-more told (bytes_in w.events) bs ∙
        ap (more told) (sym (ap bytes_in h.events ∙ bytes_shown w.events es fs bs q e));
    input = p.input ∙ ap Some (sym h.input);
  };
}

pub wrote_byte : (R : Type 0) (s : State) (told : Written) (w : World) (m : Machine) (b : ℕ) (was now : Written) (l : Option (List ℕ))
    → QuietlyReaches R s w (Writes b) m → HasPorts told w was l → now ≡ more was (b ∷ []) → Follows s told m now l
wrote_byte R s told w m b was now l h p k = wrote s told m w h.events (Byte b ∷ []) (b ∷ []) was now l h.reaches h.quiet refl p k

pub wrote_bytes : (R : Type 0) (s : State) (told : Written) (w : World) (m : Machine) (bs : List ℕ) (was now : Written) (l : Option (List ℕ))
    → QuietlyReaches R s w (Prints bs) m → HasPorts told w was l → now ≡ more was bs → Follows s told m now l
wrote_bytes R s told w m bs was now l h p k = wrote s told m w h.events (map Byte bs) bs was now l h.reaches h.quiet (bytes_map bs) p k

-- a step of whose bytes a front was written
front : (s : State) (told : Written) (m : Machine) (w : World) (es fs : List Event) (bs : List ℕ) (was now : Written) (l : Option (List ℕ))
    → StandsFor s m w.input ((w.events ++ es) ++ fs) → bytes_in es ≡ [] → bytes_in fs ≡ bs → HasPorts told w was l → FrontWritten was now bs →
    WroteFront s told w now l
front s told m w es fs bs was now l h q e p f = record {
  bytes = bs;
  next = ap output_of h.same ∙ ap bytes_in h.events ∙ bytes_shown w.events es fs bs q e;
  count = f.count;
  short = f.short;
  output = f.front ∙ ap (λ t. more t (take f.count bs)) p.output ∙ more-more told (bytes_in w.events) (take f.count bs);
  input = p.input;
}

pub front_of_byte : (R : Type 0) (s : State) (told : Written) (w : World) (m : Machine) (b : ℕ) (was now : Written) (l : Option (List ℕ))
    → QuietlyReaches R s w (Writes b) m → HasPorts told w was l → FrontWritten was now (b ∷ []) → WroteFront s told w now l
front_of_byte R s told w m b was now l h p f = front s told m w h.events (Byte b ∷ []) (b ∷ []) was now l h.reaches h.quiet refl p f

pub front_of_bytes : (R : Type 0) (s : State) (told : Written) (w : World) (m : Machine) (bs : List ℕ) (was now : Written) (l : Option (List ℕ))
    → QuietlyReaches R s w (Prints bs) m → HasPorts told w was l → FrontWritten was now bs → WroteFront s told w now l
front_of_bytes R s told w m bs was now l h p f = front s told m w h.events (map Byte bs) bs was now l h.reaches h.quiet (bytes_map bs) p f

-- ---- steps that read

-- the machine was given what was read
pub read_on : (R : Type 0) (s : State) (told : Written) (w : World) (m n : Machine) (z : ℤ) (was : Written) (before after : Option (List ℕ))
    → QuietlyReaches R s w Reads m → ReadsNext z before after → IsGiven z m n → HasPorts told w was before → Follows s told n was after
read_on R s told w m n z was before after h r i p =
    let x = r w.input p.input in quiet s told n w h.events x.0 was after (h.reaches.1 z x.0 x.1 n i) h.quiet p.output x.2

-- the same, where memory was refused after the read
pub read_then : (R : Type 0) (s : State) (told : Written) (w : World) (m : Machine) (z : ℤ) (was : Written) (before after : Option (List ℕ))
    → QuietlyReaches R s w Reads m → ReadsNext z before after → HasPorts told w was before → HasRead s told was after
read_then R s told w m z was before after h r p = record {
  machine = given;
  follows = read_on R s told w m given z was before after h r
      (record { values = refl; others = refl }) p;
} where
  given : Machine
  given = record m { call = record m.call { values = My.Integer z ∷ m.call.values } }

-- ---- last steps

pub ended : (R : Type 0) (s : State) (told : Written) (w : World) (m : Machine) (z : ℤ) (was : Written) (l : Option (List ℕ))
    → QuietlyReaches R s w (Ends z) m → HasPorts told w was l → IsLast s (HasEnded z) told w was l
ended R s told w m z was l h p = record {
  events = w.events ++ h.events;
  over = h.reaches.0;
  output = p.output ∙ ap (more told) (sym (bytes_quiet w.events h.events h.quiet));
  input = p.input;
}

pub trapped : (R : Type 0) (s : State) (told : Written) (w : World) (m : Machine) (t : Trap) (was : Written) (l : Option (List ℕ))
    → QuietlyReaches R s w (Traps t) m → HasPorts told w was l → IsLast s (HasTrapped t) told w was l
trapped R s told w m t was l h p = record {
  events = w.events ++ h.events;
  over = h.reaches;
  output = p.output ∙ ap (more told) (sym (bytes_quiet w.events h.events h.quiet));
  input = p.input;
}
