-- A report is the text of one list of moves.
use Rattle.std.proofs.Common.{◌≡◌, ◌≢◌, ℕ, ◌+◌, List, [], ◌∷◌, ◌++◌, length, refl, sym, ap, ◌∙◌}
use Rattle.report_moves.specs.declared.moves.Move.{Move}
use Rattle.report_moves.specs.Report.{move_text, moves_text, IsReportable, AreReportable}
use Rattle.report_moves.specs.Laws.{ReportLaws}
use Rattle.report_moves.proofs.Lines.{line_unique}

-- the text of a move isn't empty
no_front : (xs ys : List ℕ) (c : ℕ) → xs ++ c ∷ ys ≢ []
no_front [] ys c e = cc
no_front (x ∷ xs) ys c e = cc

pub line_more : (m : Move) (r : List ℕ) → move_text m r ≢ []
line_more m r e = no_front m.function _ 32 e

-- one list of moves is a front of the other, and what is left of the text is that of the rest
abbrev Bad : List ℕ → Type 0
Bad rest = (m : Move) (after : List ℕ) → IsReportable m → rest ≢ move_text m after

-- two lists before rests that begin with no line have the same length
fronts : (ms ns : List Move) (r s : List ℕ) → AreReportable ms → AreReportable ns → Bad r → Bad s → moves_text ms r ≡ moves_text ns s → ms ≡ ns
fronts [] [] r s p q a b e = refl
fronts [] (n ∷ ns) r s p q a b e = absurd (a n (moves_text ns s) q.0 e)
fronts (m ∷ ms) [] r s p q a b e = absurd (b m (moves_text ms r) p.0 (sym e))
fronts (m ∷ ms) (n ∷ ns) r s p q a b e =
    let u = line_unique m n (moves_text ms r) (moves_text ns s) p.0 q.0 e in
    let t = fronts ms ns r s p.1 q.1 a b u.1 in
    let v : m ≡ n = u.0 in
    cc

nothing_bad : Bad []
nothing_bad m after p e = line_more m after (sym e)

rests : (ms ns : List Move) (r : List ℕ) → AreReportable ms → AreReportable ns → r ≢ [] → Bad r → moves_text ms r ≢ moves_text ns []
rests [] [] r p q n b e = n e
rests [] (w ∷ ns) r p q n b e = b w (moves_text ns []) q.0 e
rests (m ∷ ms) [] r p q n b e = line_more m (moves_text ms r) e
rests (m ∷ ms) (w ∷ ns) r p q n b e = rests ms ns r p.1 q.1 n b (line_unique m w (moves_text ms r) (moves_text ns []) p.0 q.0 e).1

pub report_laws : ReportLaws
report_laws = record {
  one_list = λ ms ns p q e. fronts ms ns [] [] p q nothing_bad nothing_bad e;
  no_list = λ n text ms b p e. rests b.before ms b.rest b.lines p b.more b.bad (sym b.split ∙ e);
  one_line = λ m n text a b.
      let same : a.before ≡ b.before = fronts a.before b.before a.rest b.rest a.lines b.lines a.bad b.bad (sym a.split ∙ b.split) in
      a.number ∙ ap (λ (l : List Move). length l + 1) same ∙ sym b.number;
}
