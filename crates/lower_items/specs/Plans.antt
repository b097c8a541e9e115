-- What the code takes of a function as the definition has it: labels by their codes, nested case labels.
use Rattle.std.specs.Prelude.{ℕ, suc, ◌+◌, ◌*◌, ℤ, Option, Some, None}
use Rattle.c_tree.specs.Cases.{case_number}
use Rattle.c_tree.specs.Numerals.{constant}
use Rattle.flat_laws.specs.Pieces.{Names}
use Rattle.flat_laws.specs.Loose.{Arrivals}
use Rattle.flat_laws.specs.Parts.{Here}
use Rattle.flat_questions.specs.Reading.{is_flagged}
use Rattle.flat_items.specs.Places.{place_at}
use Rattle.flat_items.specs.Plans.{arrivals_if}
use Rattle.lower_laws.specs.Lowered.{Layout}
use Rattle.lower_items.specs.declared.plans.Plan as L
use Rattle.lower_items.specs.declared.plans.Labels as N
use Rattle.lower_items.specs.declared.plans.Cases as C

-- each sort of labels has every seventh code
abbrev pub layout_of : L.Plan → Layout
layout_of p = record {
  plan = record {
    live = is_flagged p.named;
    source = λ l. 7 * l;
    break_label = λ k. 7 * k + 1;
    continue_label = λ k. 7 * k + 2;
    default_label = λ k. 7 * k + 3;
    case_label = λ j. 7 * j + 4;
    slots = p.slots;
    number = constant;
  };
  head_label = λ k. 7 * k + 5;
  list_label = λ k. 7 * k + 6;
}

-- those of one `if`, loop or switch
abbrev pub labels_at : ℕ → N.Labels
labels_at k = record { behind = 7 * k + 1; next = 7 * k + 2; default = 7 * k + 3; head = 7 * k + 5; list = 7 * k + 6 }

-- inside an `if`, loop or switch with so many case labels and variables of its own
abbrev pub entered_at : Here → ℕ → ℕ → Here
entered_at h n v = record { construct = suc h.construct; case = h.case + n; variable = h.variable + v }

-- the label of the case whose number this is
abbrev pub number_label : C.Cases → Option ℤ → ℕ
number_label s n = 7 * (s.first + place_at s.places n) + 4

-- the labels of a switch
abbrev pub case_names : C.Cases → Names
case_names s None = s.default
case_names s (Some e) = number_label s (case_number s.kind e)

-- the labels that Arrivals have, where they are bound to a switch
abbrev pub arrivals_of : C.Cases → Arrivals
arrivals_of s = arrivals_if s.bound (case_names s)
