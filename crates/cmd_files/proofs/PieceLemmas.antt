-- Bytes that are written piece by piece.
use Rattle.std.proofs.Common.{◌≡◌, ℕ, ◌+◌, ◌-◌, List, take, drop, sym, ap, ◌∙◌, arith, subst}
use Rattle.std.proofs.lemmas.List.{take-append-drop}
use Rattle.std.proofs.Math.Seq.{take-add}
use Rattle.rg_ports.specs.Written.{Written, more, FrontWritten}
use Rattle.rg_ports.proofs.WrittenLemmas.{more-fronts, front-first, front-then}

module _ (old mid new : Written) (bytes : List ℕ) (at n : ℕ) (before : mid ≡ more old (take at bytes)) where
  count : (at + n) - at ≡ n
  count = omega arith

  -- a piece of the bytes was written behind those before it
  pub more-piece : new ≡ more mid (take ((at + n) - at) (drop at bytes)) → new ≡ more old (take (at + n) bytes)
  more-piece e = e ∙ ap (λ k. more mid (take k (drop at bytes))) count ∙ ap (λ w. more w (take n (drop at bytes))) before ∙ more-fronts old bytes at n

  -- a front of a piece is a front of the bytes
  pub front-piece : FrontWritten mid new (take ((at + n) - at) (drop at bytes)) → FrontWritten old new bytes
  front-piece f =
      let piece = subst (λ k. FrontWritten mid new (take k (drop at bytes))) count f in
      let both = subst (FrontWritten old new) (sym (take-add at n bytes)) (front-then old mid new (take at bytes) (take n (drop at bytes)) before piece) in
      subst (FrontWritten old new) (take-append-drop (at + n) bytes) (front-first old new (take (at + n) bytes) (drop (at + n) bytes) both)
