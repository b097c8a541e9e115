-- Bytes that are written in several calls.
use Rattle.std.proofs.Common.{◌≡◌, ℕ, ℤ, subst, zero, suc, ◌+◌, ◌≤◌, ◌<◌, Bool, true, false, List, [], ◌∷◌, ◌++◌, length, take, drop, get_or, inl, inr, refl, sym, ap, ◌∙◌, arith, add-one, append_assoc}
use Rattle.std.specs.List.{flat_map}
use Rattle.rg_ports.specs.Count.{Rose}
use Rattle.rg_ports.specs.Written.{Written, more}
use Rattle.rg_ports.proofs.WrittenLemmas.{more-more, front-first, front-then}
use Rattle.cmd_words.specs.Lines.{Writes, Tells, ended_line}

pub rose_since : (f g h : ℕ) → f ≤ g → Rose g h → Rose f h
rose_since f g h le rose = elim rose [ inl up ↦ inl (omega arith) | inr last ↦ inr last ]

module _ (a b c : Written) (f g h : ℕ) (front rest : List ℕ) where
  -- a piece was written, and then another, all of it or a front
  pub writes_then : (done : Bool) → Writes true a b f g front → Writes done b c g h rest → Writes done a c f h (front ++ rest)
  writes_then true p q = record {
    all = q.all ∙ ap (λ w. more w rest) p.all ∙ more-more a front rest;
    grows = omega (arith, p.grows, q.grows);
  }
  writes_then false p q = record {
    front = front-then a b c front rest p.all q.front;
    rose = rose_since f g h p.grows q.rose;
  }

-- a piece broke, and what was to follow was not written
pub broke_before : (a b : Written) (f g : ℕ) (front rest : List ℕ) (done : Bool) → done ≡ false → Writes done a b f g front →
    Writes done a b f g (front ++ rest)
broke_before a b f g front rest true e p = cc
broke_before a b f g front rest false e p = record { front = front-first a b front rest p.front; rose = p.rose }

-- the pieces before one, that one, and those after it
pub parted : {X : Type 0} (f : X → List ℕ) (xs : List X) (i : ℕ) (d : X) → i < length xs
    → flat_map f xs ≡ flat_map f (take i xs) ++ (f (get_or xs i d) ++ flat_map f (drop (i + 1) xs))
parted f [] i d h = absurd (omega arith)
parted f (x ∷ xs) zero d h = refl
parted f (x ∷ xs) (suc i) d h =
    let at : i < length xs = omega arith in
    ap (λ r. f x ++ r) (parted f xs i d at ∙ rw add-one refl)
    ∙ sym (append_assoc (f x) (flat_map f (take i xs)) (f (get_or xs i d) ++ flat_map f (drop (suc i) xs)))
    ∙ rw add-one refl

-- what was written is told, all of it or a front
pub tells_of : (a b : Written) (f g : ℕ) (bytes : List ℕ) (done : Bool) → Writes done a b f g bytes → Tells a b f g bytes
tells_of a b f g bytes true p = inl p
tells_of a b f g bytes false p = inr p

-- a value that is read another way is told alike
pub ended_as : (a b : Written) (f g : ℕ) (y z : ℤ) → y ≡ z → Tells a b f g (ended_line y) → Tells a b f g (ended_line z)
ended_as a b f g y z e t = subst (λ x. Tells a b f g (ended_line x)) e t
