-- A machine whose newest call was given a value.
use Rattle.std.proofs.Common.{ℕ, ℤ, pos, negsuc, List, [], ◌∷◌, ◌++◌, map, length, true, false, Option, Some, None, is_some, true≢false, ◌≡◌, refl, sym, ap, ◌∙◌, subst, append-nil}
use Rattle.jump_meaning.specs.Step.{State, At}
use Rattle.c_types.specs.declared.kinds.IntKind.{IntKind}
use Rattle.c_types.specs.declared.kinds.IntKind.TheVariants.{UChar, Int}
use Rattle.c_types.specs.declared.trap.Trap.{Trap}
use Rattle.c_types.specs.Numbers.{residue, converted}
use Rattle.jump_meaning.specs.Code.{FunctionTree}
use Rattle.jump_meaning.specs.Known.{answered, call_declared, converted_arguments, read_byte, write_byte, write_bytes}
use Rattle.jump_meaning.specs.Values as Meant
use Rattle.jump_meaning.specs.Values.{Event, Byte, Called}
use Rattle.jump_meaning.specs.World.{World, Gives, Traps as Trapping, emit}
use Rattle.step_memory.specs.Stores.{names_of}
use Rattle.step_memory.specs.Values.{values_of}
use Rattle.step_tasks.specs.Controls.{guards_of}
use Rattle.step_tasks.specs.Tasks.{tasks_of}
use Rattle.step_interp.specs.declared.machine.Machine.{Machine}
use Rattle.step_interp.specs.declared.machine.Next.{Next}
use Rattle.step_interp.specs.declared.machine.Next.TheVariants.{Goes, Reads, Traps}
use Rattle.step_interp.specs.Machines.{HasWorld, IsRead, IsGiven, frames_of, state_of}
use Rattle.step_interp.specs.Moves.{Reaches, StandsFor}
use Rattle.step_interp.specs.Calls.{QuietlyReaches, settled}

emit_nil : (w : World) → emit [] w ≡ w
emit_nil w = ap (λ es. record w { events = es }) (append-nil w.events)

-- without an event
pub at_once : (R : Type 0) (s : State) (w : World) (next : Next) (m : Machine) → Reaches R s w next m → QuietlyReaches R s w next m
at_once R s w next m r = record { events = []; quiet = refl; reaches = subst (λ u. Reaches R s u next m) (sym (emit_nil w)) r }

pub reaches_weaker : (R S : Type 0) (s : State) (w : World) (next : Next) (m : Machine) → (R → S) → Reaches R s w next m → Reaches S s w next m
reaches_weaker R S s w Goes m f h = h
reaches_weaker R S s w Reads m f h = (f h.0, h.1)
reaches_weaker R S s w _ m f h = h

pub quietly_weaker : (R S : Type 0) (s : State) (w : World) (next : Next) (m : Machine) → (R → S) → QuietlyReaches R s w next m → QuietlyReaches S s w next m
quietly_weaker R S s w next m f h = record { events = h.events; quiet = h.quiet; reaches = reaches_weaker R S s (emit h.events w) next m f h.reaches }

-- what is read and shown is no part of what a machine has
pub has_later : (m : Machine) (w : World) (input : List ℕ) (events : List Event) → HasWorld m w → HasWorld m (record w { input = input; events = events })
has_later m w input events h = record {
  holds = record { rooms = h.holds.rooms; apart = h.holds.apart; newest = h.holds.newest };
  cells = h.cells;
  answers = h.answers;
  linked = h.linked;
  called = h.called;
  waiting = h.waiting;
}

-- nor are the values pending
has_values : (old new : Machine) (w : World) → new ≡ record old { call = record old.call { values = new.call.values } } → HasWorld old w → HasWorld new w
has_values old new w e h = subst (λ m. HasWorld m w) (sym e)
    (record { holds = h.holds; cells = h.cells; answers = h.answers; linked = h.linked; called = h.called; waiting = h.waiting })

pub settled_at : (old new : Machine) (x : Meant.Value) (w : World)
    → values_of (names_of old.store) new.call.values ≡ x ∷ values_of (names_of old.store) old.call.values
    → new ≡ record old { call = record old.call { values = new.call.values } }
    → HasWorld old w → StandsFor (settled old (Gives x w)) new w.input w.events
settled_at old new x w e o h = record {
  world = w;
  same = ap (λ vs. At old.call.function.now.name (guards_of old.call.guards) (tasks_of old.call.tasks) vs (frames_of (names_of old.store) old.waiting)
      w) (sym e)
      ∙ sym (ap (λ m. state_of m w) o);
  has = has_values old new w o h;
  input = refl;
  events = refl;
}

-- ---- known functions

-- the byte is written, and is the value
pub wrote_byte : (old new : Machine) (b : ℕ) (w : World) → IsGiven (pos b) old new → HasWorld old w →
    StandsFor (settled old (write_byte b w)) new w.input (w.events ++ Byte b ∷ [])
wrote_byte old new b w g h = settled_at old new (Meant.Integer (pos b)) (emit (Byte b ∷ []) w) g.values g.others
    (has_later old w w.input (w.events ++ Byte b ∷ []) h)

pub wrote_bytes : (old new : Machine) (bs : List ℕ) (w : World) → IsGiven (converted Int (pos (length bs))) old new → HasWorld old w
    → StandsFor (settled old (write_bytes bs w)) new w.input (w.events ++ map Byte bs)
wrote_bytes old new bs w g h = settled_at old new (Meant.Integer (converted Int (pos (length bs)))) (emit (map Byte bs) w) g.values g.others
    (has_later old w w.input (w.events ++ map Byte bs) h)

-- what is read next is the value
read_at : (old n : Machine) (w : World) (input left : List ℕ) (z : ℤ) → w.input ≡ input → HasWorld old w → IsRead input z left → IsGiven z old n →
    StandsFor (settled old (read_byte input w)) n left w.events
read_at old n w [] left z e h r g =
    subst (λ l. StandsFor (settled old (read_byte [] w)) n l w.events) (e ∙ sym r.1)
    (settled_at old n (Meant.Integer (negsuc 0)) w (g.values ∙ ap (λ y. Meant.Integer y ∷ values_of (names_of old.store) old.call.values) r.0) g.others h)
read_at old n w (b ∷ bs) left z e h r g =
    subst (λ l. StandsFor (settled old (read_byte (b ∷ bs) w)) n l w.events) (sym r.1)
    (settled_at old n (Meant.Integer (pos (residue UChar (pos b)))) (record w { input = bs })
    (g.values ∙ ap (λ y. Meant.Integer y ∷ values_of (names_of old.store) old.call.values) r.0) g.others (has_later old w bs w.events h))

pub reads : (R : Type 0) (old : Machine) (w : World) → R → HasWorld old w → Reaches R (settled old (read_byte w.input w)) w Reads old
reads R old w r h = (r, λ z left i n g. read_at old n w w.input left z refl h i g)

-- ---- functions without a body

no_value : (o : Option IntKind) (ns : List ℤ) (w : World) → is_some o ≡ false → answered o ns w ≡ Gives Meant.Missing w
no_value None ns w e = refl
no_value (Some k) ns w e = absurd (true≢false e)

no_answer : (o : Option IntKind) (ns : List ℤ) (w : World) → is_some o ≡ true → ns ≡ [] → answered o ns w ≡ Trapping Trap.NoAnswer w
no_answer None ns w e h = absurd (true≢false (sym e))
no_answer (Some k) [] w e h = refl
no_answer (Some k) (n ∷ ns) w e h = absurd (cc)

pub declared_gives : (m : List ℕ) (f : FunctionTree) (vs : List Meant.Value) (old new : Machine) (w : World) → is_some f.result ≡ false
    → values_of (names_of old.store) new.call.values ≡ Meant.Missing ∷ values_of (names_of old.store) old.call.values
    → new ≡ record old { call = record old.call { values = new.call.values } }
    → HasWorld old w → QuietlyReaches ⊥ (settled old (call_declared m f vs w)) w Goes new
declared_gives m f vs old new w e v o h =
    let es = Called m (converted_arguments f.slots vs) ∷ [] in record {
      events = es;
      quiet = refl;
      reaches = subst (λ x. StandsFor (settled old x) new w.input (w.events ++ es)) (sym (no_value f.result w.answers (emit es w) e))
          (settled_at old new Meant.Missing (emit es w) v o (has_later old w w.input (w.events ++ es) h));
    }

pub declared_traps : (m : List ℕ) (f : FunctionTree) (vs : List Meant.Value) (old : Machine) (w : World) → is_some f.result ≡ true
    → HasWorld old w → QuietlyReaches ⊥ (settled old (call_declared m f vs w)) w (Traps Trap.NoAnswer) old
declared_traps m f vs old w e h =
    let es = Called m (converted_arguments f.slots vs) ∷ [] in record {
      events = es;
      quiet = refl;
      reaches = ap (settled old) (no_answer f.result w.answers (emit es w) e h.answers);
    }
