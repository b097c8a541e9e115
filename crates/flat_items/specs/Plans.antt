-- The code's plan of a flat form as the definition has it: numbers of labels, exits, nested case labels.
use Rattle.std.specs.Prelude.{ℕ, ◌+◌, ◌*◌, ℤ, Option, Some, None, get_or, Bool, true, false}
use Rattle.std.specs.Option.{option_map_or}
use Rattle.c_tree.specs.Cases.{case_number}
use Rattle.c_tree.specs.Numerals.{constant}
use Rattle.flat_laws.specs.Pieces.{Aim, Stays, Becomes, Absent, Names}
use Rattle.flat_laws.specs.Loose.{Arrivals, NoArrival, Arrives}
use Rattle.flat_laws.specs.Parts.{Here}
use Rattle.flat_laws.specs.FlatForm.{Plan, place_of}
use Rattle.flat_questions.specs.Reading.{is_flagged}
use Rattle.flat_items.specs.declared.plans.Places as P
use Rattle.flat_items.specs.declared.plans.Plan as L
use Rattle.flat_items.specs.declared.plans.Here as H
use Rattle.flat_items.specs.declared.plans.Aim as A
use Rattle.flat_items.specs.declared.plans.Aim.TheVariants as V
use Rattle.flat_items.specs.declared.plans.Cases as C

-- the number of a label with this code: its entry in the table, else it comes behind
abbrev pub number_at : P.Places → ℕ → ℕ
number_at p c = option_map_or (λ n. n) (get_or p.table c None) (c + p.behind)

-- n labels of the source have the first codes; then come those that are made, by loop or switch and by case label
abbrev pub plan_of : L.Plan → Plan
plan_of p = record {
  live = is_flagged p.named;
  source = λ l. number_at p.places l;
  break_label = λ k. number_at p.places (p.count + 4 * k);
  continue_label = λ k. number_at p.places (p.count + (4 * k + 1));
  default_label = λ k. number_at p.places (p.count + (4 * k + 2));
  case_label = λ j. number_at p.places (p.count + (4 * j + 3));
  slots = p.slots;
  number = constant;
}

-- the numbers of what comes next
abbrev pub here_of : H.Here → Here
here_of h = record { construct = h.construct; case = h.case; variable = h.variable }

-- what an exit becomes
abbrev pub aim_of : A.Aim → Aim
aim_of V.Stays = Stays
aim_of (V.Becomes l) = Becomes l
aim_of V.Absent = Absent

-- the label of the case whose number this is
abbrev pub number_label : L.Plan → C.Cases → Option ℤ → ℕ
number_label p s n = (plan_of p).case_label (s.first + place_of n s.numbers)

-- the labels of a scattered switch
abbrev pub case_names : L.Plan → C.Cases → Names
case_names p s None = (plan_of p).default_label s.construct
case_names p s (Some e) = number_label p s (case_number s.kind e)

abbrev pub arrivals_if : Bool → Names → Arrivals
arrivals_if true names = Arrives names
arrivals_if false names = NoArrival

-- the labels that Arrivals have, where they are bound to a scattered switch
abbrev pub arrivals_of : L.Plan → C.Cases → Arrivals
arrivals_of p s = arrivals_if s.bound (case_names p s)
