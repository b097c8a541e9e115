-- What becomes of a writer as it is given bytes.
use Rattle.std.proofs.Common.{◌≡◌, ℕ, ◌+◌, ◌≤◌, inl, inr, List, [], ◌++◌, length, take, Bool, true, false, refl, sym, ap, ◌∙◌, append_assoc, length-append, arith}
use Rattle.std.proofs.lemmas.List.{append-nil, take-append-le}
use Rattle.std.proofs.Math.Seq.{take-append-add}
use Rattle.rg_ports.specs.Count.{Rose}
use Rattle.rg_ports.specs.Written.{Written, FrontWritten, IsCount, more}
use Rattle.rg_ports.proofs.WrittenLemmas.{more-more, more-[]}
use Rattle.rg_ports.specs.Writing.{Start, progress_of, Stands, Gives}

-- the held bytes were written
pub flushed : (p : ℕ) (w v : Written) (n m : ℕ) (held none : List ℕ) (failed : Bool) → failed ≡ false → v ≡ more w held → n ≤ m → none ≡ [] →
    Gives (progress_of p w n held failed) (progress_of p v m none failed) []
flushed p w v n m held none true is e le z start whole rest h = cc
flushed p w v n m held none false is e le z start whole rest h = record {
  same = h.same;
  gone = h.gone ++ held;
  split = h.split ∙ sym (append_assoc h.gone held rest) ∙ ap (λ x. (h.gone ++ held) ++ (x ++ rest)) (sym z);
  told = e ∙ ap (λ x. more x held) h.told ∙ more-more start.written h.gone held;
  grows = omega (arith, h.grows);
}

fronts : (gone held rest : List ℕ) (n : ℕ) → n ≤ length held → gone ++ take n held ≡ take (length gone + n) (gone ++ (held ++ rest))
fronts gone held rest n le = sym (take-append-add gone (held ++ rest) n ∙ ap (λ x. gone ++ x) (take-append-le n held rest le))

rises : (a b c : ℕ) → a ≤ b → Rose b c → Rose a c
rises a b c le r = elim r [ inl h ↦ inl (omega arith) | inr h ↦ inr h ]

-- a front of the held bytes was written, and then a write failed
pub broken : (p : ℕ) (w v : Written) (n m : ℕ) (held none : List ℕ) (failed : Bool) → failed ≡ false → FrontWritten w v held → Rose n m → n ≤ m →
    Gives (progress_of p w n held failed) (progress_of p v m none true) []
broken p w v n m held none true is e rose le start whole rest h = cc
broken p w v n m held none false is e rose le start whole rest h = record {
  same = h.same;
  front = record {
    count = length h.gone + e.count;
    short = omega (arith, e.short, ap length h.split, length-append h.gone (held ++ rest), length-append held rest);
    front = e.front ∙ ap (λ x. more x (take e.count held)) h.told ∙ more-more start.written h.gone (take e.count held)
        ∙ ap (more start.written) (fronts h.gone held rest e.count (omega (arith, e.short)) ∙ ap (take (length h.gone + e.count)) (sym h.split));
  };
  rose = rises start.faults n m h.grows rose;
  grows = omega (arith, h.grows);
}

-- ---- the whole of a text

abbrev pub start_of : ℕ → Written → ℕ → Start
start_of reference written faults = record { reference = reference; written = written; faults = faults }

-- nothing was written
pub begun : (p : ℕ) (w : Written) (n : ℕ) (held : List ℕ) (failed : Bool) (whole : List ℕ) → held ≡ [] → failed ≡ false → IsCount w →
    Stands (start_of p w n) whole (progress_of p w n held failed) whole
begun p w n held true whole h f counts = cc
begun p w n held false whole h f counts = record {
  same = refl;
  gone = [];
  split = ap (λ x. x ++ whole) (sym h);
  told = sym (more-[] w counts);
  grows = omega arith;
}

-- all was written, or a write failed
module _ (p q : ℕ) (w v : Written) (n m : ℕ) (held whole : List ℕ) where
  abbrev AtEnd : Bool → Type 0
  AtEnd failed = Stands (start_of p w n) whole (progress_of q v m held failed) []

  pub end_same : (failed : Bool) → AtEnd failed → q ≡ p
  end_same true h = h.same
  end_same false h = h.same

  pub end_grows : (failed : Bool) → AtEnd failed → n ≤ m
  end_grows true h = h.grows
  end_grows false h = h.grows

  pub end_ok : (failed : Bool) → held ≡ [] → AtEnd failed → failed ≡ false → v ≡ more w whole
  end_ok true none h is = cc
  end_ok false none h is = h.told ∙ ap (more w) (sym (h.split ∙ ap (λ x. h.gone ++ (x ++ [])) none ∙ append-nil h.gone))

  pub end_err : (failed : Bool) → AtEnd failed → failed ≡ true → FrontWritten w v whole
  end_err true h is = h.front
  end_err false h is = cc

  pub end_rose : (failed : Bool) → AtEnd failed → failed ≡ true → Rose n m
  end_rose true h is = h.rose
  end_rose false h is = cc
