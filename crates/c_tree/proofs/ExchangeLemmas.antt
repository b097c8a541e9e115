-- The laws of an exchange at a path: what is inside, what is beside, and what is above.
use Rattle.std.proofs.Common.{◌≡◌, ◌≢◌, ℕ, zero, suc, List, [], ◌∷◌, ◌++◌, Option, Some, None, option_map, option_and_then, slice_get, slice_set, refl, sym, ap, subst, ◌∙◌}
use Rattle.std.specs.Option.{option_map_or}
use Rattle.c_tree.specs.declared.tree.Item.{Item, Item-F, out-Item, out-roll-Item}
use Rattle.c_tree.specs.declared.tree.Item.TheOpen.{If, While, Do, For, Switch, Block}
use Rattle.c_tree.specs.declared.tree.Section.{Section}
use Rattle.c_tree.specs.declared.tree.Branch.{Branch}
use Rattle.c_tree.specs.declared.tree.Branch.TheVariants as B
use Rattle.c_tree.specs.declared.tree.Step.{Step}
use Rattle.c_tree.specs.Paths.{list_of, with_list, with_section_list, child_F, child, with_child_F, with_child, list_at, put_at, Apart, at_item, at_branch, further, IsExchanged}
use Rattle.c_tree.proofs.PathLemmas.{stepped, list_step, put_step, get_set, child_with, list_put, put_put, put_back}

-- lists

pub get_set-other : {A : Type 0} (xs : List A) (i j : ℕ) (x : A) → i ≢ j → slice_get (slice_set xs i x) j ≡ slice_get xs j
get_set-other [] i j x n = refl
get_set-other (z ∷ zs) zero zero x n = absurd (n refl)
get_set-other (z ∷ zs) zero (suc j) x n = refl
get_set-other (z ∷ zs) (suc i) zero x n = refl
get_set-other (z ∷ zs) (suc i) (suc j) x n = get_set-other zs i j x (λ e. n (ap suc e))

-- the other lists of an item

section_other : (k j : ℕ) (cs : List Section) (w : List Item) → k ≢ j →
    option_map list_of (slice_get (with_section_list k w cs) j) ≡ option_map list_of (slice_get cs j)
section_other k j cs w n = put (slice_get cs k) refl where
  put : (o : Option Section) → slice_get cs k ≡ o → option_map list_of
      (slice_get (option_map_or (λ c. slice_set cs k (with_list w c)) o cs) j) ≡ option_map list_of (slice_get cs j)
  put None e = refl
  put (Some c) e = ap (option_map list_of) (get_set-other cs k j (with_list w c) n)

layer_other : (b d : Branch) (y : Item-F Item Section) (w : List Item) → b ≢ d → child_F d (with_child_F b w y) ≡ child_F d y
layer_other B.Body B.Body y w n = absurd (n refl)
layer_other B.Then B.Then y w n = absurd (n refl)
layer_other B.Else B.Else y w n = absurd (n refl)
layer_other (B.Section k) (B.Section j) (Switch s cs) w n = section_other k j cs w (λ e. n (ap B.Section e))
layer_other _ _ (If t x z) w n = refl
layer_other _ _ (While t x) w n = refl
layer_other _ _ (Do x t) w n = refl
layer_other _ _ (For f t u x) w n = refl
layer_other _ _ (Switch s cs) w n = refl
layer_other _ _ (Block x) w n = refl
layer_other _ _ _ w n = refl

pub child-with-other : (b d : Branch) (x : Item) (w : List Item) → b ≢ d → child d (with_child b w x) ≡ child d x
child-with-other b d x w n = ap (child_F d) (out-roll-Item (with_child_F b w (out-Item x))) ∙ layer_other b d (out-Item x) w n

-- steps one after another

pub list-append : (xs : List Item) (ss ts : List Step) (a : List Item) → list_at xs ss ≡ Some a → list_at xs (ss ++ ts) ≡ list_at a ts
list-append xs [] ts a e = let h : xs ≡ a = cc in ap (λ l. list_at l ts) h
list-append xs (s ∷ ss) ts a e =
    let t = stepped xs s ss a e in
    list_step xs s (ss ++ ts) t.item t.inner t.item_is t.inner_is ∙ list-append t.inner ss ts a t.rest

pub put-append : (xs : List Item) (ss ts : List Step) (a w : List Item) → list_at xs ss ≡ Some a → put_at xs (ss ++ ts) w ≡ put_at xs ss (put_at a ts w)
put-append xs [] ts a w e = let h : xs ≡ a = cc in ap (λ l. put_at l ts w) h
put-append xs (s ∷ ss) ts a w e =
    let t = stepped xs s ss a e in
    put_step xs s (ss ++ ts) w t.item t.inner t.item_is t.inner_is
    ∙ ap (λ l. slice_set xs s.item (with_child s.branch l t.item)) (put-append t.inner ss ts a w t.rest)
    ∙ sym (put_step xs s ss (put_at a ts w) t.item t.inner t.item_is t.inner_is)

-- the laws

pub put_within : (xs : List Item) (ss ts : List Step) (w a : List Item) → list_at xs ss ≡ Some a → list_at (put_at xs ss w) (ss ++ ts) ≡ list_at w ts
put_within xs ss ts w a e = list-append (put_at xs ss w) ss ts w (list_put xs ss w a e)

pub put_above : (xs : List Item) (ss front rest : List Step) (w a : List Item) → ss ≡ front ++ rest → list_at xs front ≡ Some a →
    list_at (put_at xs ss w) front ≡ Some (put_at a rest w)
put_above xs ss front rest w a e h =
    ap (λ t. list_at (put_at xs t w) front) e
    ∙ ap (λ l. list_at l front) (put-append xs front rest a w h)
    ∙ list_put xs front (put_at a rest w) a h

pub put_beside : (xs : List Item) (ss ts : List Step) (w a : List Item) → Apart ss ts → list_at xs ss ≡ Some a → list_at (put_at xs ss w) ts ≡ list_at xs ts
put_beside xs _ _ w a (at_item s t ss ts n) e =
    let p = stepped xs s ss a e in
    let made = with_child s.branch (put_at p.inner ss w) p.item in
    ap (λ l. list_at l (t ∷ ts)) (put_step xs s ss w p.item p.inner p.item_is p.inner_is)
    ∙ ap (option_and_then (λ x. option_and_then (λ a. list_at a ts) (child t.branch x))) (get_set-other xs s.item t.item made n)
put_beside xs _ _ w a (at_branch s t ss ts m n) e =
    let p = stepped xs s ss a e in
    let made = with_child s.branch (put_at p.inner ss w) p.item in
    let old : slice_get xs t.item ≡ Some p.item = subst (λ i. slice_get xs i ≡ Some p.item) m p.item_is in
    let new : slice_get (slice_set xs s.item made) t.item ≡ Some made =
    subst (λ i. slice_get (slice_set xs s.item made) i ≡ Some made) m (get_set xs s.item p.item made p.item_is) in
    ap (λ l. list_at l (t ∷ ts)) (put_step xs s ss w p.item p.inner p.item_is p.inner_is)
    ∙ ap (option_and_then (λ x. option_and_then (λ a. list_at a ts) (child t.branch x))) new
    ∙ ap (option_and_then (λ a. list_at a ts)) (child-with-other s.branch t.branch p.item (put_at p.inner ss w) n)
    ∙ sym (ap (option_and_then (λ x. option_and_then (λ a. list_at a ts) (child t.branch x))) old)
put_beside xs _ _ w a (further s ss ts d) e =
    let p = stepped xs s ss a e in
    let made = with_child s.branch (put_at p.inner ss w) p.item in
    ap (λ l. list_at l (s ∷ ts)) (put_step xs s ss w p.item p.inner p.item_is p.inner_is)
    ∙ list_step (slice_set xs s.item made) s ts made (put_at p.inner ss w) (get_set xs s.item p.item made p.item_is)
    (child_with s.branch p.item (put_at p.inner ss w) p.inner p.inner_is)
    ∙ put_beside p.inner ss ts w a d p.rest
    ∙ sym (list_step xs s ts p.item p.inner p.item_is p.inner_is)

-- all of it
pub exchanged : (old : List Item) (steps : List Step) (w a new : List Item) → list_at old steps ≡ Some a → new ≡ put_at old steps w →
    IsExchanged old steps w new
exchanged old steps w a new e h = record {
  within = λ more. ap (λ l. list_at l (steps ++ more)) h ∙ put_within old steps more w a e;
  beside = λ others d. ap (λ l. list_at l others) h ∙ put_beside old steps others w a d e;
  above = λ front rest b f g. ap (λ l. list_at l front) h ∙ put_above old steps front rest w b f g;
  back = λ b f. ap (λ l. put_at l steps b) h ∙ put_put old steps w b b f ∙ put_back old steps b f;
}
