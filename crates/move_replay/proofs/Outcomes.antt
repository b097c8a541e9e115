-- What the answer of a replay says.
use Rattle.std.proofs.Common.{inl, inr, ◌≡◌, ◌≢◌, ℕ, ◌+◌, List, [], ◌∷◌, All, Result, Ok, Err, IfOk, length, refl, sym, ap, ap₂, subst, ◌∙◌}
use Rattle.std.specs.List.{AllByRecursion}
use Rattle.c_types.specs.declared.refusal.Refusal.{Refusal}
use Rattle.c_types.specs.declared.refusal.ReadStop.{ReadStop}
use Rattle.c_types.specs.declared.refusal.ReadStop.TheVariants as S
use Rattle.c_copies.specs.Names.{names}
use Rattle.c_tree.specs.declared.tree.Top.{Top}
use Rattle.c_tree.specs.declared.tree.Program.{Program}
use Rattle.report_moves.specs.declared.moves.Move.{Move}
use Rattle.report_moves.specs.Report.{report_text, AreReportable}
use Rattle.move_report.specs.Answers.{IsReport}
use Rattle.move_report.specs.Numbers.{HaveNumbers}
use Rattle.plain_form.specs.Plain.{plain}
use Rattle.c_resolved_laws.specs.Counts.{flat_counts, IsResolved}
use Rattle.restructure_laws.specs.RereadPlainLaws.{ReadsBack}
use Rattle.move_driver.specs.declared.counts.Counts.{Counts}
use Rattle.move_driver.specs.Counts.{counts_of}
use Rattle.move_driver.specs.Restructured.{IsRestructured}
use Rattle.move_driver.proofs.Programs.{counts_are, reads_back}
use Rattle.print_limits.specs.Limits.{IsWithinLimits}
use Rattle.restructure_laws.specs.Lawful.{Moves}
use Rattle.restructure_laws.specs.Replayed.{converted_tops, IsTopLeapless, IsReplayed}
use Rattle.restructure_laws.proofs.Whole.{replayed_laws}
use Rattle.restructure_laws.specs.ReplayedProgramLaws.{IsReplayedWithNames, IsNamed}
use Rattle.restructure_laws.proofs.Laws.{replayed_program_laws}
use Rattle.move_replay.specs.Replay.{IsStart, IsReached, IsReplay, IsAt, IsRefusal, Stops}
use Rattle.move_replay.proofs.Starts.{flat_tops}
use Rattle.move_replay.proofs.Once.{one_replay, not_both, one_refusal}
use Rattle.move_replay.proofs.Within.{resolved_within}

-- ---- what is reached

abbrev replayed : (p q : Program) (ms : List Move) → IsResolved p → IsReached p q ms → IsReplayed p q ms
replayed p q ms r a = record {
  flat = record { tops = a.is_start.flat };
  flattened = flat_tops p a.start r a.is_start;
  moved = subst (λ z. Moves z ms q.tops) a.is_start.is a.moved;
}

abbrev with_names : (p q : Program) (ms : List Move) → IsReached p q ms → IsReplayedWithNames p q ms
with_names p q ms a = record {
  flat = record { tops = a.is_start.flat };
  held = a.is_start.held;
  flattened = a.is_start.flattened;
  moved = subst (λ z. Moves z ms q.tops) a.is_start.is a.moved;
}

-- the answer reads back
pub read_back : (p : Program) (text : List ℕ) (q : Program) (c : Counts) → IsResolved p → IsReplay p text q c → ReadsBack p q
read_back p text q c r a =
    subst (ReadsBack p) (sym a.result)
    (replayed_program_laws.reads_back p a.program a.moves r (with_names p a.program a.moves a.reached) a.leapless (subst IsWithinLimits a.result a.within))

-- ---- answers

pub accepted : (p q made : Program) (text : List ℕ) (start : List Top) (used : List (List ℕ)) (ms : List Move) (counts : Counts) → IsResolved p →
    used ≡ names p → IsReport text ms → IsStart p start → Moves start ms q.tops → All IsTopLeapless q.tops
    → made ≡ plain used q → IsWithinLimits made → counts ≡ counts_of ms q made → IsReplay p text made counts
accepted p q made text start used ms counts r e report is moved leapless form within counted =
    let a : IsReached p q ms = record { start = start; is_start = is; moved = moved } in
    record {
      moves = ms;
      program = q;
      report = report;
      reached = a;
      leapless = leapless;
      result = form ∙ ap (λ n. plain n q) e;
      within = within;
      jumps = ap (λ (c : Counts). c.jumps) counted ∙ replayed_laws.joins flat_counts p q ms (replayed p q ms r a) r leapless;
      moved = ap (λ (c : Counts). c.moves) counted;
      guards = ap (λ (c : Counts). c.guards) counted;
    }

pub stopped : (p : Program) (text : List ℕ) (start : List Top) (ms : List Move) (r : Refusal) → IsReport text ms → IsStart p start →
    Stops start ms text r → IsRefusal p text r
stopped p text start ms r report is h = elim h [
  | inl s ↦ inr (inl (record { moves = ms; report = report; start = start; is_start = is; place = s.place; stops = s.stops; at = s.at }))
  | inr s ↦ inr (inr (inl (record {
    moves = ms;
    program = record { tops = s.end };
    report = report;
    reached = record { start = start; is_start = is; moved = s.moved };
    left = s.left;
    at = s.at;
  })))
]

pub too_deep : (p q made : Program) (text : List ℕ) (start : List Top) (used : List (List ℕ)) (ms : List Move) (r : Refusal) → used ≡ names p →
    IsReport text ms → IsStart p start → Moves start ms q.tops → All IsTopLeapless q.tops
    → made ≡ plain used q → ¬ (IsWithinLimits made) → IsAt 53 (length ms + 1) (length text) r → IsRefusal p text r
too_deep p q made text start used ms r e report is moved leapless form beyond at =
    inr (inr (inr (record {
      moves = ms;
      program = q;
      report = report;
      reached = record { start = start; is_start = is; moved = moved };
      leapless = leapless;
      beyond = λ w. beyond (subst IsWithinLimits (sym (form ∙ ap (λ n. plain n q) e)) w);
      at = at;
    })))

-- ---- the report of the rewriting

reportable : (ms : List Move) → AllByRecursion IsNamed ms → HaveNumbers ms → AreReportable ms
reportable [] n h = tt
reportable (m ∷ ms) n h = (record { function = n.0.function; label = n.0.label; path = h.0 }, reportable ms n.1 h.1)

-- it is accepted
pub restructured : (p q : Program) (text : List ℕ) (ms : List Move) (counts : Counts) → IsResolved p → IsRestructured p q ms counts → HaveNumbers ms →
    text ≡ report_text ms → IsReplay p text q counts
restructured p q text ms counts r w numbers e =
    let start = converted_tops w.rewritten.flat.tops in
    let i : IsStart p start = record { flat = w.rewritten.flat.tops; held = w.rewritten.held; flattened = w.rewritten.flattened; is = refl } in
    let m = replayed_laws.moves flat_counts p w.rewritten.flat.tops w.moved.tops ms r (flat_tops p start r i) w.rewritten.moved in
    let named = replayed_program_laws.moves p w.moved ms r (with_names p w.moved ms (record { start = start; is_start = i; moved = m.0 })) in
    accepted p w.moved q text start (names p) ms counts r refl (record { lines = reportable ms named numbers; text_is = e }) i m.0 m.1 w.result
    (resolved_within q (reads_back p q ms counts r w).resolved) (counts_are p q ms counts r w)

-- ---- the answer is the only one

module _ (p : Program) (text : List ℕ) (r : IsResolved p) (result : Result (Program × Counts) ReadStop)
    (yes : IfOk result (λ a. IsReplay p text a.0 a.1)) (no : (refusal : Refusal) → result ≡ Err (S.Refused refusal) → IsRefusal p text refusal) where
  pub complete : (q : Program) (c : Counts) → IsReplay p text q c → result ≢ Err S.Memory → result ≡ Ok (q, c)
  complete q c a n = by result refl yes where
    by : (x : Result (Program × Counts) ReadStop) → result ≡ x → IfOk x (λ a. IsReplay p text a.0 a.1) → result ≡ Ok (q, c)
    by (Ok b) e h = let s = one_replay p r text b.0 q b.1 c h a in e ∙ ap₂ (λ x y. Ok (x, y)) s.0 s.1
    by (Err (S.Refused s)) e h = absurd (not_both p r text q c s a (no s e))
    by (Err S.Memory) e h = absurd (n e)

  pub exact : (s : Refusal) → IsRefusal p text s → result ≢ Err S.Memory → result ≡ Err (S.Refused s)
  exact s a n = by result refl yes where
    by : (x : Result (Program × Counts) ReadStop) → result ≡ x → IfOk x (λ a. IsReplay p text a.0 a.1) → result ≡ Err (S.Refused s)
    by (Ok b) e h = absurd (not_both p r text b.0 b.1 s h a)
    by (Err (S.Refused t)) e h = e ∙ ap (λ z. Err (S.Refused z)) (one_refusal p r text t s (no t e) a)
    by (Err S.Memory) e h = absurd (n e)

pub err_same : (A : Type 0) (s t : ReadStop) → let x : Result A ReadStop = Err s in let y : Result A ReadStop = Err t in x ≡ y → s ≡ t
err_same A s t e = cc
