-- Comments by their places: one more, and none.
use Rattle.std.proofs.Common.{◌≡◌, ◌<◌, ◌==◌, ◌∙◌, ℕ, Bool, List, [], ◌∷◌, ◌++◌, true, false, cond, Option, Some, None, ap, sym, arith, Bor}
use Rattle.std.specs.BTreeMap.{get, is_at}
use Rattle.std.specs.declared.cmp.Ordering.{Ordering}
use Rattle.std.specs.declared.cmp.Ordering.TheVariants.{Less, Equal, Greater}
use Rattle.std.specs.Ordering.{nat_cmp, is_eq, MatchOrdering}
use Rattle.std.specs.BTreeMap.{BTreeMap}
use Rattle.std.proofs.lemmas.Bool.{eqb-true, eq-eqb}
use Rattle.std.specs.Cmp.{ranks}
use Rattle.std.proofs.lemmas.List.{map-append}
use Rattle.c_statements.specs.declared.notes.Notes.{Notes}
use Rattle.c_statements.specs.Context.{Anchor, Before, AtEnd, AtSection, Last, with_note}
use Rattle.c_statements.specs.NoteViews.{all_now, notes_in, token_notes, with_token_note, notes_of}

pub none_anywhere : (it : Notes) → token_notes it.before ≡ (λ n. []) → token_notes it.at_end ≡ (λ n. []) → token_notes it.at_section ≡ (λ n. []) →
    it.last ≡ [] → notes_of it ≡ (λ anchor. [])
none_anywhere it b e s l = λ i a. at a i
  where
    at : (a : Anchor) → notes_of it a ≡ []
    at (Before n) = ap (λ f. f n) b
    at (AtEnd n) = ap (λ f. f n) e
    at (AtSection n) = ap (λ f. f n) s
    at Last = ap all_now l

-- ---- one more

pub one_more_before : (old new : Notes) (n : ℕ) (b : List ℕ) → token_notes new.before ≡ with_token_note n b (token_notes old.before) →
    token_notes new.at_end ≡ token_notes old.at_end
    → token_notes new.at_section ≡ token_notes old.at_section → new.last ≡ old.last → notes_of new ≡ with_note (Before n) b (notes_of old)
one_more_before old new n b f e s l = λ i a. at a i
  where
    at : (a : Anchor) → notes_of new a ≡ with_note (Before n) b (notes_of old) a
    at (Before m) = ap (λ f. f m) f
    at (AtEnd m) = ap (λ f. f m) e
    at (AtSection m) = ap (λ f. f m) s
    at Last = ap all_now l

pub one_more_at_end : (old new : Notes) (n : ℕ) (b : List ℕ) → token_notes new.before ≡ token_notes old.before →
    token_notes new.at_end ≡ with_token_note n b (token_notes old.at_end)
    → token_notes new.at_section ≡ token_notes old.at_section → new.last ≡ old.last → notes_of new ≡ with_note (AtEnd n) b (notes_of old)
one_more_at_end old new n b f e s l = λ i a. at a i
  where
    at : (a : Anchor) → notes_of new a ≡ with_note (AtEnd n) b (notes_of old) a
    at (Before m) = ap (λ f. f m) f
    at (AtEnd m) = ap (λ f. f m) e
    at (AtSection m) = ap (λ f. f m) s
    at Last = ap all_now l

pub one_more_at_section : (old new : Notes) (n : ℕ) (b : List ℕ) → token_notes new.before ≡ token_notes old.before →
    token_notes new.at_end ≡ token_notes old.at_end
    → token_notes new.at_section ≡ with_token_note n b (token_notes old.at_section) → new.last ≡ old.last →
    notes_of new ≡ with_note (AtSection n) b (notes_of old)
one_more_at_section old new n b f e s l = λ i a. at a i
  where
    at : (a : Anchor) → notes_of new a ≡ with_note (AtSection n) b (notes_of old) a
    at (Before m) = ap (λ f. f m) f
    at (AtEnd m) = ap (λ f. f m) e
    at (AtSection m) = ap (λ f. f m) s
    at Last = ap all_now l

-- ---- the notes of a token

same-by : (r : Ordering) (n q : ℕ) → MatchOrdering r (n < q) (n ≡ q) (q < n) → (n == q) ≡ is_eq r
same-by Less n q h = grind arith
same-by Equal n q h = eq-eqb n q h
same-by Greater n q h = grind arith

same : (n q : ℕ) → (n == q) ≡ is_eq (nat_cmp n q)
same n q = same-by (nat_cmp n q) n q (ranks n q)

one_more_at : (n q : ℕ) (e : Bool) → e ≡ (n == q) → (o0 o1 o2 at : Option (List (Bor (List ℕ)))) (v w : List (Bor (List ℕ))) (b : Bor (List ℕ))
    → o2 ≡ cond e (Some w) o1 → o1 ≡ cond e None o0 → (n ≡ q → at ≡ o0) → w ≡ v ++ b ∷ [] → all_now v ≡ notes_in at
    → notes_in o2 ≡ cond e (notes_in o0 ++ b.now ∷ []) (notes_in o0)
one_more_at n q true h o0 o1 o2 at v w b e2 e1 k ew ev =
    ap notes_in e2 ∙ ap all_now ew ∙ map-append (λ (x : Bor (List ℕ)). x.now) v (b ∷ []) ∙
    ap (λ l. l ++ b.now ∷ []) (ev ∙ ap notes_in (k (eqb-true n q (sym h))))
one_more_at n q false h o0 o1 o2 at v w b e2 e1 k ew ev = ap notes_in (e2 ∙ e1)

-- the map is looked through twice: its notes are taken out, and put back with one more
pub one_more_of : (token : ℕ) (m0 m1 m2 : BTreeMap ℕ (List (Bor (List ℕ)))) (v w : List (Bor (List ℕ))) (b : Bor (List ℕ))
    → ((q : ℕ) → get nat_cmp m2 q ≡ cond (is_at (nat_cmp token) q) (Some w) (get nat_cmp m1 q)) →
    ((q : ℕ) → get nat_cmp m1 q ≡ cond (is_at (nat_cmp token) q) None (get nat_cmp m0 q))
    → w ≡ v ++ b ∷ [] → all_now v ≡ notes_in (get nat_cmp m0 token)
    → (λ q. notes_in (get nat_cmp m2 q)) ≡ with_token_note token b.now (λ q. notes_in (get nat_cmp m0 q))
one_more_of token m0 m1 m2 v w b e2 e1 ew ev =
    λ i q. (one_more_at token q (is_eq (nat_cmp token q)) (sym (same token q)) (get nat_cmp m0 q) (get nat_cmp m1 q) (get nat_cmp m2 q)
    (get nat_cmp m0 token) v w b (e2 q) (e1 q) (λ e. ap (get nat_cmp m0) e) ew ev
    ∙ ap (λ e. cond e (notes_in (get nat_cmp m0 q) ++ b.now ∷ []) (notes_in (get nat_cmp m0 q))) (sym (same token q))) i
