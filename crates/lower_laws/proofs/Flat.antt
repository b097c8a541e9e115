-- What stands in the place of a body is one flat list.
use Rattle.std.proofs.Common.{ℕ, Option}
use Rattle.c_tree.specs.TestTrees.{Source}
use Rattle.c_tree.specs.Trees.{Tree, Forest, Nil, Then, Goto, Mark, join}
use Rattle.c_tree.specs.Changed.{one}
use Rattle.lower_laws.specs.Straight.{jump_if, while_items, StraightItem, st_evaluate, st_return, st_note, st_goto, st_mark, st_jump_if, st_if, st_do, st_ever, Straight, sl_nil, sl_end, sl_then, sl_declares, sl_while}
use Rattle.lower_laws.specs.Functions.{AreFlat}

flat_join : (xs ys : Forest) → AreFlat xs → AreFlat ys → AreFlat (join xs ys)
flat_join Nil ys h k = k
flat_join (Then x xs) ys h k = (h.0, flat_join xs ys h.1 k)

mutual
  pub are_flat : {A : Forest} {s : ℕ → ℕ} {o : Option ℕ} {xs ys : Forest} → Straight A s o xs ys → AreFlat ys
  are_flat sl_nil = tt
  are_flat (sl_end l) = tt
  are_flat (sl_then {ys = ys} {xs' = xs'} fi fa) = flat_join ys xs' (item_flat fi) (are_flat fa)
  are_flat (sl_declares x fa) = (tt, are_flat fa)
  are_flat {s = s} (sl_while t h b e {a' = a'} {xs' = xs'} fa fs) =
      flat_join (while_items (Source t) h b (s e) a') xs'
      (tt, (tt, (tt, (tt, flat_join a' (Then (Goto h) (one (Mark (s e)))) (are_flat fa) (tt, (tt, tt)))))) (are_flat fs)

  item_flat : {A : Forest} {s : ℕ → ℕ} {x : Tree} {ys : Forest} → StraightItem A s x ys → AreFlat ys
  item_flat (st_evaluate e) = (tt, tt)
  item_flat (st_return e) = (tt, tt)
  item_flat (st_note bs) = (tt, tt)
  item_flat (st_goto l n) = (tt, tt)
  item_flat (st_mark l) = (tt, tt)
  item_flat (st_jump_if t l n) = (tt, tt)
  item_flat (st_if t l e {a' = a'} {b' = b'} fa fb) = (
    tt,
    flat_join b' (Then (Goto e) (Then (Mark l) (join a' (one (Mark e))))) (are_flat fb)
        (tt, (tt, flat_join a' (one (Mark e)) (are_flat fa) (tt, tt))),
  )
  item_flat (st_do t b {a' = a'} fa) = (tt, flat_join a' (one (jump_if (Source t) b)) (are_flat fa) (tt, tt))
  item_flat (st_ever h {a' = a'} fa) = (tt, flat_join a' (one (Goto h)) (are_flat fa) (tt, tt))
