-- A report makes one thing of a program, or is refused for one reason at one place.
use Rattle.std.proofs.Common.{inl, inr, ◌≡◌, ℕ, zero, suc, ◌+◌, ◌-◌, List, [], ◌∷◌, All, length, take, refl, sym, ap, ap₂, subst, ◌∙◌}
use Rattle.c_types.specs.declared.refusal.Refusal.{Refusal}
use Rattle.c_copies.specs.Names.{names}
use Rattle.c_tree.specs.declared.tree.Top.{Top}
use Rattle.c_tree.specs.declared.tree.Program.{Program}
use Rattle.c_tree.proofs.MoveLemmas.{some_same}
use Rattle.report_moves.specs.declared.moves.Move.{Move}
use Rattle.report_moves.proofs.Reports.{report_laws}
use Rattle.move_report.specs.Answers.{IsReport}
use Rattle.move_order_laws.specs.MoveFunctionCounts.{jumps}
use Rattle.plain_form.specs.Plain.{plain}
use Rattle.c_resolved_laws.specs.Counts.{IsResolved}
use Rattle.move_driver.specs.declared.counts.Counts.{Counts}
use Rattle.move_driver.specs.Counts.{counted, guards_from}
use Rattle.print_limits.specs.Limits.{IsWithinLimits}
use Rattle.restructure_laws.specs.Lawful.{IsLawful, OneMoved, Moves, none, more}
use Rattle.restructure_laws.specs.Replayed.{IsTopWellMade, IsTopLeapless}
use Rattle.restructure_laws.proofs.Whole.{lawful_laws}
use Rattle.move_replay.specs.Steps.{StopsAt}
use Rattle.move_replay.specs.Lines.{line_start}
use Rattle.move_replay.specs.Replay.{IsReached, IsReplay, IsAt, IsUnreadable, IsUnlawful, HasLeapLeft, IsTooDeep, IsRefusal}
use Rattle.move_replay.proofs.Starts.{one_flat, one_start, start_made}

-- ---- lists of moves

record First (ts : List Top) (m : Move) (ms : List Move) (vs : List Top) : Type 0 where
  middle : List Top
  here : OneMoved m ts middle
  rest : Moves middle ms vs

first : {ts vs : List Top} {m : Move} {ms : List Move} → Moves ts (m ∷ ms) vs → First ts m ms vs
first (more {us = us} h r) = record { middle = us; here = h; rest = r }

nothing : {ts vs : List Top} → Moves ts [] vs → ts ≡ vs
nothing none = refl

one_made : (m : Move) (ts us : List Top) → All IsTopWellMade ts → OneMoved m ts us → All IsTopWellMade us
one_made m ts us w h = lawful_laws.well_made ts us (m ∷ []) w (more h none)

-- the same stop, behind the first move
later : (m : Move) (ms : List Move) (ts us : List Top) (n : ℕ) → All IsTopWellMade ts → OneMoved m ts us → StopsAt (suc n) (m ∷ ms) ts → StopsAt n ms us
later m ms ts us n w h s =
    let f = first s.moved in
    let e = lawful_laws.one_move m ts us f.middle w h f.here in
    record { move = s.move; reached = s.reached; moved = subst (λ z. Moves z (take n ms) s.reached) (sym e) f.rest; next = s.next; unlawful = s.unlawful }

-- the first move isn't lawful
at_once : (m : Move) (ms : List Move) (ts us : List Top) → OneMoved m ts us → StopsAt zero (m ∷ ms) ts → ⊥
at_once m ms ts us h s =
    let e = nothing s.moved in
    let g : s.move ≡ m = some_same (sym s.next) in
    s.unlawful (subst (λ z. IsLawful z s.reached) (sym g) (subst (IsLawful m) e (record { after = us; moved = h })))

pub no_stop : (ms : List Move) (ts us : List Top) (n : ℕ) → All IsTopWellMade ts → Moves ts ms us → StopsAt n ms ts → ⊥
no_stop [] ts us n w h s = let f = s.next in cc
no_stop (m ∷ ms) ts us zero w h s = let f = first h in at_once m ms ts f.middle f.here s
no_stop (m ∷ ms) ts us (suc n) w h s = let f = first h in no_stop ms f.middle us n (one_made m ts f.middle w f.here) f.rest
    (later m ms ts f.middle n w f.here s)

pub one_stop : (ms : List Move) (ts : List Top) (n k : ℕ) → All IsTopWellMade ts → StopsAt n ms ts → StopsAt k ms ts → n ≡ k
one_stop [] ts n k w s r = let f = s.next in cc
one_stop (m ∷ ms) ts zero zero w s r = refl
one_stop (m ∷ ms) ts zero (suc k) w s r = let f = first r.moved in absurd (at_once m ms ts f.middle f.here s)
one_stop (m ∷ ms) ts (suc n) zero w s r = let f = first s.moved in absurd (at_once m ms ts f.middle f.here r)
one_stop (m ∷ ms) ts (suc n) (suc k) w s r =
    let f = first s.moved in
    ap suc (one_stop ms f.middle n k (one_made m ts f.middle w f.here) (later m ms ts f.middle n w f.here s) (later m ms ts f.middle k w f.here r))

-- ---- reports

one_report : (text : List ℕ) (ms ns : List Move) → IsReport text ms → IsReport text ns → ms ≡ ns
one_report text ms ns a b = report_laws.one_list ms ns a.lines b.lines (sym a.text_is ∙ b.text_is)

no_report : (text : List ℕ) (ms : List Move) (r : Refusal) → IsReport text ms → IsUnreadable text r → ⊥
no_report text ms r a u = report_laws.no_list u.line text ms u.bad a.lines a.text_is

same_place : (a b c : ℕ) (r s : Refusal) → IsAt a b c r → IsAt a b c s → r ≡ s
same_place a b c r s h k =
    let e = h.reason_is ∙ sym k.reason_is in
    let f = h.line_is ∙ sym k.line_is in
    let g = h.column_is ∙ sym k.column_is in
    let d = h.at_is ∙ sym k.at_is in
    λ i. record { reason = e i; line = f i; column = g i; at = d i }

-- ---- what is reached

module _ (p : Program) (resolved : IsResolved p) where
  one_reached : (q r : Program) (ms ns : List Move) → ms ≡ ns → IsReached p q ms → IsReached p r ns → q ≡ r
  one_reached q r ms ns e a b =
      let s = one_start p a.start b.start a.is_start b.is_start in
      let there : Moves a.start ms r.tops = subst (λ z. Moves z ms r.tops) (sym s) (subst (λ z. Moves b.start z r.tops) (sym e) b.moved) in
      let t = lawful_laws.one a.start q.tops r.tops ms (start_made p a.start resolved a.is_start) a.moved there in
      λ i. record { tops = t i }

  not_stopped : (text : List ℕ) (q : Program) (ms : List Move) (r : Refusal) → IsReport text ms → IsReached p q ms → IsUnlawful p text r → ⊥
  not_stopped text q ms r a b u =
      let e = one_report text u.moves ms u.report a in
      let s = one_start p u.start b.start u.is_start b.is_start in
      no_stop ms b.start q.tops u.place (start_made p b.start resolved b.is_start) b.moved
      (subst (λ z. StopsAt u.place z b.start) e (subst (StopsAt u.place u.moves) s u.stops))

  -- ---- a report that is accepted

  pub one_replay : (text : List ℕ) (q r : Program) (c d : Counts) → IsReplay p text q c → IsReplay p text r d → (q ≡ r) × (c ≡ d)
  one_replay text q r c d a b =
      let e = one_report text a.moves b.moves a.report b.report in
      let f = one_reached a.program b.program a.moves b.moves e a.reached b.reached in
      let g : q ≡ r = a.result ∙ ap (plain (names p)) f ∙ sym b.result in
      let k = one_flat p a.reached.start b.reached.start a.reached.is_start b.reached.is_start in
      let x = a.jumps ∙ ap jumps k ∙ sym b.jumps in
      let y = a.moved ∙ ap length e ∙ sym b.moved in
      let z = a.guards ∙ ap₂ (λ (m n : Program). counted (guards_from m.tops n.tops)) f g ∙ sym b.guards in
      (g, λ i. record { jumps = x i; moves = y i; guards = z i })

  pub not_both : (text : List ℕ) (q : Program) (c : Counts) (r : Refusal) → IsReplay p text q c → IsRefusal p text r → ⊥
  not_both text q c r a h = elim h [
    | inl u ↦ no_report text a.moves r a.report u
    | inr h ↦ elim h [
      | inl u ↦ not_stopped text a.program a.moves r a.report a.reached u
      | inr h ↦ elim h [
        | inl u ↦
            let f = one_reached a.program u.program a.moves u.moves (one_report text a.moves u.moves a.report u.report) a.reached u.reached in
            u.left (subst (λ (z : Program). All IsTopLeapless z.tops) f a.leapless)
        | inr u ↦
            let f = one_reached a.program u.program a.moves u.moves (one_report text a.moves u.moves a.report u.report) a.reached u.reached in
            u.beyond (subst (λ (z : Program). IsWithinLimits (plain (names p) z)) f (subst IsWithinLimits a.result a.within))
      ]
    ]
  ]

  -- ---- a report that is refused

  unreadable_once : (text : List ℕ) (r s : Refusal) → IsUnreadable text r → IsUnreadable text s → r ≡ s
  unreadable_once text r s a b =
      let e = report_laws.one_line a.line b.line text a.bad b.bad in
      same_place 50 b.line (line_start (b.line - 1) text) r s (subst (λ n. IsAt 50 n (line_start (n - 1) text) r) e a.at) b.at

  unlawful_once : (text : List ℕ) (r s : Refusal) → IsUnlawful p text r → IsUnlawful p text s → r ≡ s
  unlawful_once text r s a b =
      let e = one_report text a.moves b.moves a.report b.report in
      let f = one_start p a.start b.start a.is_start b.is_start in
      let there = subst (λ z. StopsAt a.place z b.start) e (subst (StopsAt a.place a.moves) f a.stops) in
      let n = one_stop b.moves b.start a.place b.place (start_made p b.start resolved b.is_start) there b.stops in
      same_place 51 (b.place + 1) (line_start b.place text) r s (subst (λ n. IsAt 51 (n + 1) (line_start n text) r) n a.at) b.at

  left_once : (text : List ℕ) (r s : Refusal) → HasLeapLeft p text r → HasLeapLeft p text s → r ≡ s
  left_once text r s a b =
      let e = ap length (one_report text a.moves b.moves a.report b.report) in
      same_place 52 (length b.moves + 1) (length text) r s (subst (λ n. IsAt 52 (n + 1) (length text) r) e a.at) b.at

  deep_once : (text : List ℕ) (r s : Refusal) → IsTooDeep p text r → IsTooDeep p text s → r ≡ s
  deep_once text r s a b =
      let e = ap length (one_report text a.moves b.moves a.report b.report) in
      same_place 53 (length b.moves + 1) (length text) r s (subst (λ n. IsAt 53 (n + 1) (length text) r) e a.at) b.at

  left_or_deep : (text : List ℕ) (r s : Refusal) → HasLeapLeft p text r → IsTooDeep p text s → ⊥
  left_or_deep text r s a b =
      let f = one_reached b.program a.program b.moves a.moves (one_report text b.moves a.moves b.report a.report) b.reached a.reached in
      a.left (subst (λ (z : Program). All IsTopLeapless z.tops) f b.leapless)

  pub one_refusal : (text : List ℕ) (r s : Refusal) → IsRefusal p text r → IsRefusal p text s → r ≡ s
  one_refusal text r s h k = elim h [
    | inl a ↦ elim k [
      | inl b ↦ unreadable_once text r s a b
      | inr k ↦ elim k [
        | inl b ↦ absurd (no_report text b.moves r b.report a)
        | inr k ↦ elim k [ inl b ↦ absurd (no_report text b.moves r b.report a) | inr b ↦ absurd (no_report text b.moves r b.report a) ]
      ]
    ]
    | inr h ↦ elim h [
      | inl a ↦ elim k [
        | inl b ↦ absurd (no_report text a.moves s a.report b)
        | inr k ↦ elim k [
          | inl b ↦ unlawful_once text r s a b
          | inr k ↦ elim k [
            | inl b ↦ absurd (not_stopped text b.program b.moves r b.report b.reached a)
            | inr b ↦ absurd
                (not_stopped text b.program b.moves r b.report b.reached a)
          ]
        ]
      ]
      | inr h ↦ elim h [
        | inl a ↦ elim k [
          | inl b ↦ absurd (no_report text a.moves s a.report b)
          | inr k ↦ elim k [
            | inl b ↦ absurd (not_stopped text a.program a.moves s a.report a.reached b)
            | inr k ↦ elim k [ inl b ↦ left_once text r s a b | inr b ↦ absurd (left_or_deep text r s a b) ]
          ]
        ]
        | inr a ↦ elim k [
          | inl b ↦ absurd (no_report text a.moves s a.report b)
          | inr k ↦ elim k [
            | inl b ↦ absurd (not_stopped text a.program a.moves s a.report a.reached b)
            | inr k ↦ elim k [ inl b ↦ absurd (left_or_deep text s r b a) | inr b ↦ deep_once text r s a b ]
          ]
        ]
      ]
    ]
  ]
