-- Lists without gotos and nested case labels.
use Rattle.std.proofs.Common.{◌≡◌, ◌+◌, false, not, cond, ◌||◌, [], ◌++◌, refl, ap}
use Rattle.c_tree.specs.Everywhere.{Everywhere, EverywhereOf, EverywhereIn, total, total_of, total_in}
use Rattle.c_tree.specs.TextItems.{is_empty}
use Rattle.c_tree.specs.Trees.{Tree, Forest, Nil, Then, Sections, NoSection, Section, If, While, Do, For, Switch, Block, Goto, Arrival}
use Rattle.flat_laws.specs.Parts.{arrivals, arrivals_in, is_scattered, is_some_number, jumps_of, has_jumps}

-- an item that is no goto and no nested case label
abbrev pub IsStill : Tree → Type 0
IsStill (Goto l) = ⊥
IsStill (Arrival e) = ⊥
IsStill _ = Unit {0}

abbrev pub IsStillList : Forest → Type 0
IsStillList a = Everywhere IsStill a

mutual
  no_arrivals : (a : Forest) → IsStillList a → arrivals a ≡ []
  no_arrivals Nil h = refl
  no_arrivals (Then x a) h = λ i. no_arrivals_in x h.0 i ++ no_arrivals a h.1 i

  no_arrivals_in : (x : Tree) → EverywhereOf IsStill x → arrivals_in x ≡ []
  no_arrivals_in (If t a b) h = λ i. no_arrivals a h.1 i ++ no_arrivals b h.2 i
  no_arrivals_in (While t a) h = no_arrivals a h.1
  no_arrivals_in (Do a t) h = no_arrivals a h.1
  no_arrivals_in (For first t u a) h = no_arrivals a h.2
  no_arrivals_in (Block a) h = no_arrivals a h.1
  no_arrivals_in (Arrival e) h = absurd h
  no_arrivals_in _ h = refl

not_scattered : (d : Sections) → EverywhereIn IsStill d → is_scattered d ≡ false
not_scattered NoSection h = refl
not_scattered (Section cases default a ends d) h = λ i. not (is_empty (no_arrivals a h.0 i)) || not_scattered d h.1 i

mutual
  no_jumps : (a : Forest) → IsStillList a → total jumps_of a ≡ 0
  no_jumps Nil h = refl
  no_jumps (Then x a) h = λ i. no_jumps_of x h.0 i + no_jumps a h.1 i

  no_jumps_of : (x : Tree) → EverywhereOf IsStill x → total_of jumps_of x ≡ 0
  no_jumps_of (If t a b) h = λ i. 0 + no_jumps a h.1 i + no_jumps b h.2 i
  no_jumps_of (While t a) h = λ i. 0 + no_jumps a h.1 i
  no_jumps_of (Do a t) h = λ i. 0 + no_jumps a h.1 i
  no_jumps_of (For first t u a) h = λ i. 0 + no_jumps first h.1 i + no_jumps a h.2 i
  no_jumps_of (Switch s d) h = λ i. cond (not_scattered d h.1 i) 1 0 + no_jumps_in d h.1 i
  no_jumps_of (Block a) h = λ i. 0 + no_jumps a h.1 i
  no_jumps_of (Goto l) h = absurd h
  no_jumps_of _ h = refl

  no_jumps_in : (d : Sections) → EverywhereIn IsStill d → total_in jumps_of d ≡ 0
  no_jumps_in NoSection h = refl
  no_jumps_in (Section cases default a ends d) h = λ i. no_jumps a h.0 i + no_jumps_in d h.1 i

pub lacks_jumps : (a : Forest) → IsStillList a → has_jumps a ≡ false
lacks_jumps a h = ap is_some_number (no_jumps a h)
