-- Each goto of a flat list names a label that stands in it.
use Rattle.std.proofs.Common.{◌≡◌, ◌⊎◌, inl, inr, ℕ, Option, Some, None, refl, sym, ap}
use Rattle.c_tree.specs.TestTrees.{Source}
use Rattle.c_tree.specs.Trees.{Tree, Forest, Then, Local, Goto, Mark, join}
use Rattle.c_tree.specs.Changed.{one}
use Rattle.c_tree.specs.Everywhere.{Everywhere}
use Rattle.c_tree.proofs.KeptLemmas.{everywhere_join}
use Rattle.jump_meaning.specs.Code.{FunctionTree, items_of}
use Rattle.flat_laws.specs.Placed.{Has, HasIn}
use Rattle.lower_laws.specs.Straight.{jump_if, if_items, while_items, do_items, ever_items, StraightItem, st_evaluate, st_return, st_note, st_goto, st_mark, st_jump_if, st_if, st_do, st_ever, Straight, sl_nil, sl_end, sl_then, sl_declares, sl_while, IsStraight}
use Rattle.lower_laws.specs.Functions.{IsLowered}
use Rattle.lower_laws.proofs.Standing.{has_left, has_right}
use Rattle.lower_laws.proofs.LoweredPrograms.{middle, from_middle}

-- ---- labels of the first list stand in the second

-- in front of the loop whose list it is
abbrev AtHead : Option ℕ → ℕ → Type 0
AtHead o l = o ≡ Some l

module _ (A : Forest) (s : ℕ → ℕ) (l : ℕ) where
  front_of : (m : ℕ) (o : Option ℕ) (ys zs : Forest) → Has (s l) ys ⊎ AtHead (Some m) (s l) → (Has (s l) ys → Has (s l) zs) →
      (s l ≡ m → Has (s l) zs) → Has (s l) zs ⊎ AtHead o (s l)
  front_of m o ys zs (inl n) f g = inl (f n)
  front_of m o ys zs (inr e) f g = inl (g (same m (s l) e))
    where
      same : (i j : ℕ) → Some i ≡ Some j → j ≡ i
      same i j e = sym (ap (λ p. or_else i p) e)
        where
          or_else : ℕ → Option ℕ → ℕ
          or_else d (Some n) = n
          or_else d None = d

  in_list : (ys zs : Forest) → Has (s l) ys ⊎ AtHead None (s l) → (Has (s l) ys → Has (s l) zs) → Has (s l) zs
  in_list ys zs (inl n) f = f n
  in_list ys zs (inr e) f = cc

  then_right : (o : Option ℕ) (ys zs : Forest) → Has (s l) zs ⊎ AtHead o (s l) → Has (s l) (join ys zs) ⊎ AtHead o (s l)
  then_right o ys zs (inl n) = inl (has_right (s l) ys zs n)
  then_right o ys zs (inr e) = inr e

  mutual
    stands : {o : Option ℕ} {xs ys : Forest} → Straight A s o xs ys → Has l xs → Has (s l) ys ⊎ AtHead o (s l)
    stands sl_nil n = absurd n
    stands (sl_end m) (inl n) = inr (ap (λ z. Some (s z)) (sym n))
    stands (sl_end m) (inr n) = absurd n
    stands {o} (sl_then {ys = ys} {xs' = xs'} fi fa) (inl n) = inl (has_left (s l) ys xs' (stands_in fi n))
    stands {o} (sl_then {ys = ys} {xs' = xs'} fi fa) (inr n) = then_right o ys xs' (stands fa n)
    stands {o} (sl_declares x {xs' = xs'} fa) n = then_right o (one (Local x None)) xs' (stands fa n)
    stands {o} (sl_while t h b e {a' = a'} {xs' = xs'} fa fs) (inl n) =
        let w = while_items (Source t) h b (s e) a' in
        front_of h o a' (join w xs') (stands fa n) (λ m. has_left (s l) w xs' (inr (inr (inr (inr (has_left (s l) a' (Then (Goto h) (one (Mark (s e)))) m))))))
        (λ q. has_left (s l) w xs' (inl q))
    stands {o} (sl_while t h b e {a' = a'} {xs' = xs'} fa fs) (inr (inl n)) =
        let w = while_items (Source t) h b (s e) a' in
        inl (has_left (s l) w xs' (inr (inr (inr (inr (has_right (s l) a' (Then (Goto h) (one (Mark (s e)))) (inr (inl (ap s n)))))))))
    stands {o} (sl_while t h b e {a' = a'} {xs' = xs'} fa fs) (inr (inr n)) = then_right o (while_items (Source t) h b (s e) a') xs' (stands fs n)

    stands_in : {x : Tree} {ys : Forest} → StraightItem A s x ys → HasIn l x → Has (s l) ys
    stands_in (st_evaluate e) n = absurd n
    stands_in (st_return e) n = absurd n
    stands_in (st_note bs) n = absurd n
    stands_in (st_goto m i) n = absurd n
    stands_in (st_mark m) n = inl (ap s n)
    stands_in (st_jump_if t m i) (inl (inl n)) = absurd n
    stands_in (st_jump_if t m i) (inl (inr n)) = absurd n
    stands_in (st_jump_if t m i) (inr n) = absurd n
    stands_in (st_if t m e {a' = a'} {b' = b'} fa fb) (inl n) =
        in_list a' (if_items (Source t) m e a' b') (stands fa n)
        (λ q. inr (has_right (s l) b' (Then (Goto e) (Then (Mark m) (join a' (one (Mark e))))) (inr (inr (has_left (s l) a' (one (Mark e)) q)))))
    stands_in (st_if t m e {a' = a'} {b' = b'} fa fb) (inr n) =
        in_list b' (if_items (Source t) m e a' b') (stands fb n) (λ q. inr (has_left (s l) b' (Then (Goto e) (Then (Mark m) (join a' (one (Mark e))))) q))
    stands_in (st_do t b {a' = a'} fa) n = in_list a' (do_items (Source t) b a') (stands fa n) (λ q. inr (has_left (s l) a' (one (jump_if (Source t) b)) q))
    stands_in (st_ever h {a' = a'} fa) n = in_list a' (ever_items h a') (stands fa n) (λ q. inr (has_left (s l) a' (one (Goto h)) q))

-- ---- gotos

-- a fact of the label of a goto
abbrev pub OfGoto : (ℕ → Type 0) → Tree → Type 0
OfGoto Q (Goto l) = Q l
OfGoto Q _ = Unit {0}

module _ (A : Forest) (s : ℕ → ℕ) (Q : ℕ → Type 0) (known : (l : ℕ) → Has l A → Q (s l)) where
  abbrev Are : Forest → Type 0
  Are xs = Everywhere (OfGoto Q) xs

  left_of : (xs ys : Forest) → ((l : ℕ) → Has l (join xs ys) → Q l) → (l : ℕ) → Has l xs → Q l
  left_of xs ys f l n = f l (has_left l xs ys n)

  right_of : (xs ys : Forest) → ((l : ℕ) → Has l (join xs ys) → Q l) → (l : ℕ) → Has l ys → Q l
  right_of xs ys f l n = f l (has_right l xs ys n)

  mutual
    gotos : {o : Option ℕ} {xs ys : Forest} → Straight A s o xs ys → ((l : ℕ) → Has l ys → Q l) → Are ys
    gotos sl_nil f = tt
    gotos (sl_end m) f = tt
    gotos (sl_then {ys = ys} {xs' = xs'} fi fa) f = everywhere_join (OfGoto Q) ys xs' (gotos_in fi (left_of ys xs' f)) (gotos fa (right_of ys xs' f))
    gotos (sl_declares x fa) f = (tt, gotos fa (λ l n. f l (inr n)))
    gotos (sl_while t h b e {a' = a'} {xs' = xs'} fa fs) f =
        let w = while_items (Source t) h b (s e) a' in
        let g = left_of w xs' f in
        let tail = Then (Goto h) (one (Mark (s e))) in
        everywhere_join (OfGoto Q) w xs' (
          tt,
          (
            (tt, (g b (inr (inr (inr (inl refl)))), tt), tt),
            (
              g (s e) (inr (inr (inr (inr (has_right (s e) a' tail (inr (inl refl))))))),
              (
                tt,
                everywhere_join (OfGoto Q) a' tail (gotos fa (λ l n. g l (inr (inr (inr (inr (has_left l a' tail n)))))))
                    (g h (inl refl), (tt, tt)),
              ),
            ),
          ),
        )
        (gotos fs (right_of w xs' f))

    gotos_in : {x : Tree} {ys : Forest} → StraightItem A s x ys → ((l : ℕ) → Has l ys → Q l) → Are ys
    gotos_in (st_evaluate e) f = (tt, tt)
    gotos_in (st_return e) f = (tt, tt)
    gotos_in (st_note bs) f = (tt, tt)
    gotos_in (st_goto m i) f = (known m i, tt)
    gotos_in (st_mark m) f = (tt, tt)
    gotos_in (st_jump_if t m i) f = ((tt, (known m i, tt), tt), tt)
    gotos_in (st_if t l e {a' = a'} {b' = b'} fa fb) f =
        let end = join a' (one (Mark e)) in
        let tail = Then (Goto e) (Then (Mark l) end) in (
          (tt, (f l (inr (has_right l b' tail (inr (inl refl)))), tt), tt),
          everywhere_join (OfGoto Q) b' tail (gotos fb (λ m n. f m (inr (has_left m b' tail n)))) (
            f e (inr (has_right e b' tail (inr (inr (has_right e a' (one (Mark e)) (inl refl)))))),
            (
              tt,
              everywhere_join (OfGoto Q) a' (one (Mark e))
                  (gotos fa (λ m n. f m (inr (has_right m b' tail (inr (inr (has_left m a' (one (Mark e)) n))))))) (tt, tt),
            ),
          ),
        )
    gotos_in (st_do t b {a' = a'} fa) f = (
      tt,
      everywhere_join (OfGoto Q) a' (one (jump_if (Source t) b)) (gotos fa (λ m n. f m (inr (has_left m a' (one (jump_if (Source t) b)) n))))
          ((tt, (f b (inl refl), tt), tt), tt),
    )
    gotos_in (st_ever h {a' = a'} fa) f = (
      tt,
      everywhere_join (OfGoto Q) a' (one (Goto h))
          (gotos fa (λ m n. f m (inr (has_left m a' (one (Goto h)) n)))) (f h (inl refl), tt),
    )

-- ---- of a lowered function

module _ (f h : FunctionTree) (w : IsLowered f h) where
  abbrev A : Forest
  A = items_of (middle f h w)

  abbrev straight : IsStraight (middle f h w) h
  straight = from_middle f h w

  -- a label of what is between both stands in the list
  there : (l : ℕ) → Has l A → Has (straight.labels l) (items_of h)
  there l n = in_list A straight.labels l (items_of h) (items_of h) (stands A straight.labels l straight.related n) (λ m. m)

  pub gotos_stand : Everywhere (OfGoto (λ l. Has l (items_of h))) (items_of h)
  gotos_stand = gotos A straight.labels (λ l. Has l (items_of h)) there straight.related (λ l n. n)
