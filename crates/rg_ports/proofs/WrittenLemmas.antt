-- Pieces that are written one after the other.
use Rattle.std.proofs.Common.{◌≡◌, ℕ, ◌+◌, ◌<◌, List, [], ◌++◌, length, take, drop, refl, sym, ap, ◌∙◌, arith, append_assoc, length-append}
use Rattle.std.proofs.lemmas.List.{append-nil, take-append-le}
use Rattle.std.proofs.Math.Seq.{take-add, take-append-add}
use Rattle.rg_ports.specs.Written.{Written, Told, Counted, Untold, IsCount, more, FrontWritten}

-- nothing was written
pub more-[] : (w : Written) → IsCount w → more w [] ≡ w
more-[] (Told bytes) h = ap Told (append-nil bytes)
more-[] (Counted n) h = ap Counted (omega arith)
more-[] Untold h = refl

-- one piece, and then another
pub more-more : (w : Written) (a b : List ℕ) → more (more w a) b ≡ more w (a ++ b)
more-more (Told bytes) a b = ap Told (append_assoc bytes a b)
more-more (Counted n) a b = ap Counted (omega (arith, length-append a b))
more-more Untold a b = refl

-- a front, and then a front of what is left
pub more-fronts : (w : Written) (bytes : List ℕ) (i n : ℕ) → more (more w (take i bytes)) (take n (drop i bytes)) ≡ more w (take (i + n) bytes)
more-fronts w bytes i n = rw take-add (more-more w (take i bytes) (take n (drop i bytes)))

-- a front of the first piece is one of both
pub front-first : (old new : Written) (a b : List ℕ) → FrontWritten old new a → FrontWritten old new (a ++ b)
front-first old new a b f =
    let within : f.count < length a = f.short in
    record {
      count = f.count;
      short = omega (arith, length-append a b);
      front = f.front ∙ ap (more old) (sym (take-append-le f.count a b (omega arith)));
    }

-- the first piece and a front of the second are one of both
pub front-then : (old mid new : Written) (a b : List ℕ) → mid ≡ more old a → FrontWritten mid new b → FrontWritten old new (a ++ b)
front-then old mid new a b e f =
    let within : f.count < length b = f.short in
    record {
      count = length a + f.count;
      short = omega (arith, length-append a b);
      front = f.front ∙ ap (λ w. more w (take f.count b)) e ∙ more-more old a (take f.count b)
          ∙ ap (more old) (sym (take-append-add a b f.count));
    }
