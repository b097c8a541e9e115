-- The laws of `list_at` and `put_at`.
use Rattle.std.proofs.Common.{◌≡◌, ℕ, zero, suc, List, [], ◌∷◌, Option, Some, None, option_map, option_and_then, slice_get, slice_set, refl, sym, ap, ◌∙◌, set-set}
use Rattle.std.specs.Option.{option_map_or}
use Rattle.c_tree.specs.declared.tree.Item.{Item, Item-F, out-Item, roll-Item, out-roll-Item, roll-out-Item}
use Rattle.c_tree.specs.declared.tree.Item.TheOpen.{Section-F, If, While, Do, For, Switch, Block}
use Rattle.c_tree.specs.declared.tree.Section.{Section, out-Section, roll-Section, out-roll-Section, roll-out-Section}
use Rattle.c_tree.specs.declared.tree.Branch.{Branch}
use Rattle.c_tree.specs.declared.tree.Branch.TheVariants as B
use Rattle.c_tree.specs.declared.tree.Step.{Step}
use Rattle.c_tree.specs.Paths.{list_of, with_list, with_section_list, child_F, child, with_child_F, with_child, list_at, put_at}

-- options and lists

pub and_then_some : {A B : Type 0} (f : A → Option B) (o : Option A) (b : B) → option_and_then f o ≡ Some b → (x : A) × (o ≡ Some x) × (f x ≡ Some b)
and_then_some f None b e = cc
and_then_some f (Some x) b e = (x, refl, e)

pub get_set : {A : Type 0} (xs : List A) (i : ℕ) (x y : A) → slice_get xs i ≡ Some x → slice_get (slice_set xs i y) i ≡ Some y
get_set [] i x y e = cc
get_set (z ∷ zs) zero x y e = refl
get_set (z ∷ zs) (suc i) x y e = get_set zs i x y e

pub set_same : {A : Type 0} (xs : List A) (i : ℕ) (x : A) → slice_get xs i ≡ Some x → slice_set xs i x ≡ xs
set_same [] i x e = refl
set_same (y ∷ ys) zero x e = let h : y ≡ x = cc in ap (λ z. z ∷ ys) (sym h)
set_same (y ∷ ys) (suc i) x e = ap (λ l. y ∷ l) (set_same ys i x e)

-- sections

abbrev listed : List Item → Section → Section-F Item Section
listed w c = let o = out-Section c in record { cases = o.cases; default = o.default; list = w; ends = o.ends }

list_with : (w : List Item) (c : Section) → list_of (with_list w c) ≡ w
list_with w c = ap (λ (o : Section-F Item Section). o.list) (out-roll-Section (listed w c))

with_with_list : (u w : List Item) (c : Section) → with_list w (with_list u c) ≡ with_list w c
with_with_list u w c =
    ap (λ (o : Section-F Item Section). roll-Section (record { cases = o.cases; default = o.default; list = w; ends = o.ends })) (out-roll-Section (listed u c))

with_own_list : (a : List Item) (c : Section) → list_of c ≡ a → with_list a c ≡ c
with_own_list a c e = ap (λ (l : List Item). with_list l c) (sym e) ∙ roll-out-Section c

pub map_some : {A B : Type 0} (f : A → B) (o : Option A) (b : B) → option_map f o ≡ Some b → (x : A) × (o ≡ Some x) × (f x ≡ b)
map_some f None b e = cc
map_some f (Some x) b e = let h : f x ≡ b = cc in (x, refl, h)

pub with_there : (k : ℕ) (w : List Item) (cs : List Section) (c : Section) → slice_get cs k ≡ Some c → with_section_list k w cs ≡ slice_set cs k (with_list w c)
with_there k w cs c e = ap (λ o. option_map_or (λ c. slice_set cs k (with_list w c)) o cs) e

section_child : (k : ℕ) (cs : List Section) (w a : List Item) → option_map list_of (slice_get cs k) ≡ Some a →
    option_map list_of (slice_get (with_section_list k w cs) k) ≡ Some w
section_child k cs w a e =
    let t = map_some list_of (slice_get cs k) a e in
    ap (λ l. option_map list_of (slice_get l k)) (with_there k w cs t.0 t.1)
    ∙ ap (option_map list_of) (get_set cs k t.0 (with_list w t.0) t.1)
    ∙ ap Some (list_with w t.0)

section_put : (k : ℕ) (cs : List Section) (u w a : List Item) → option_map list_of (slice_get cs k) ≡ Some a →
    with_section_list k w (with_section_list k u cs) ≡ with_section_list k w cs
section_put k cs u w a e =
    let t = map_some list_of (slice_get cs k) a e in
    ap (with_section_list k w) (with_there k u cs t.0 t.1)
    ∙ with_there k w (slice_set cs k (with_list u t.0)) (with_list u t.0) (get_set cs k t.0 (with_list u t.0) t.1)
    ∙ set-set cs k (with_list u t.0) (with_list w (with_list u t.0))
    ∙ ap (slice_set cs k) (with_with_list u w t.0)
    ∙ sym (with_there k w cs t.0 t.1)

section_back : (k : ℕ) (cs : List Section) (a : List Item) → option_map list_of (slice_get cs k) ≡ Some a → with_section_list k a cs ≡ cs
section_back k cs a e =
    let t = map_some list_of (slice_get cs k) a e in
    with_there k a cs t.0 t.1 ∙ ap (slice_set cs k) (with_own_list a t.0 t.2) ∙ set_same cs k t.0 t.1

-- one layer: the list that was put at a branch, two puts, and a put of what is there

layer_child : (b : Branch) (y : Item-F Item Section) (w a : List Item) → child_F b y ≡ Some a → child_F b (with_child_F b w y) ≡ Some w
layer_child B.Body (While t x) w a e = refl
layer_child B.Body (Do x t) w a e = refl
layer_child B.Body (For f t u x) w a e = refl
layer_child B.Body (Block x) w a e = refl
layer_child B.Then (If t x z) w a e = refl
layer_child B.Else (If t x z) w a e = refl
layer_child (B.Section k) (Switch s cs) w a e = section_child k cs w a e
layer_child _ _ w a e = cc

layer_put : (b : Branch) (y : Item-F Item Section) (u w a : List Item) → child_F b y ≡ Some a → with_child_F b w (with_child_F b u y) ≡ with_child_F b w y
layer_put B.Body (While t x) u w a e = refl
layer_put B.Body (Do x t) u w a e = refl
layer_put B.Body (For f t v x) u w a e = refl
layer_put B.Body (Block x) u w a e = refl
layer_put B.Then (If t x z) u w a e = refl
layer_put B.Else (If t x z) u w a e = refl
layer_put (B.Section k) (Switch s cs) u w a e = ap (λ l. Switch s l) (section_put k cs u w a e)
layer_put _ _ u w a e = refl

layer_back : (b : Branch) (y : Item-F Item Section) (a : List Item) → child_F b y ≡ Some a → with_child_F b a y ≡ y
layer_back B.Body (While t x) a e = cc
layer_back B.Body (Do x t) a e = cc
layer_back B.Body (For f t u x) a e = cc
layer_back B.Body (Block x) a e = cc
layer_back B.Then (If t x z) a e = cc
layer_back B.Else (If t x z) a e = cc
layer_back (B.Section k) (Switch s cs) a e = ap (λ l. Switch s l) (section_back k cs a e)
layer_back _ _ a e = refl

-- one item

pub child_with : (b : Branch) (x : Item) (w a : List Item) → child b x ≡ Some a → child b (with_child b w x) ≡ Some w
child_with b x w a e = ap (child_F b) (out-roll-Item (with_child_F b w (out-Item x))) ∙ layer_child b (out-Item x) w a e

pub with_with : (b : Branch) (x : Item) (u w a : List Item) → child b x ≡ Some a → with_child b w (with_child b u x) ≡ with_child b w x
with_with b x u w a e =
    ap (λ y. roll-Item (with_child_F b w y)) (out-roll-Item (with_child_F b u (out-Item x))) ∙ ap roll-Item (layer_put b (out-Item x) u w a e)

pub with_own : (b : Branch) (x : Item) (a : List Item) → child b x ≡ Some a → with_child b a x ≡ x
with_own b x a e = ap roll-Item (layer_back b (out-Item x) a e) ∙ roll-out-Item x

-- one step

pub record Stepped (xs : List Item) (s : Step) (ss : List Step) (a : List Item) : Type 0 where
  pub item : Item
  pub inner : List Item
  pub item_is : slice_get xs s.item ≡ Some item
  pub inner_is : child s.branch item ≡ Some inner
  pub rest : list_at inner ss ≡ Some a

pub stepped : (xs : List Item) (s : Step) (ss : List Step) (a : List Item) → list_at xs (s ∷ ss) ≡ Some a → Stepped xs s ss a
stepped xs s ss a e =
    let p = and_then_some (λ x. option_and_then (λ a. list_at a ss) (child s.branch x)) (slice_get xs s.item) a e in
    let q = and_then_some (λ a. list_at a ss) (child s.branch p.0) a p.2 in
    record { item = p.0; inner = q.0; item_is = p.1; inner_is = q.1; rest = q.2 }

pub list_step : (xs : List Item) (s : Step) (ss : List Step) (x : Item) (a : List Item) → slice_get xs s.item ≡ Some x → child s.branch x ≡ Some a →
    list_at xs (s ∷ ss) ≡ list_at a ss
list_step xs s ss x a e f =
    ap (option_and_then (λ x. option_and_then (λ a. list_at a ss) (child s.branch x))) e ∙ ap (option_and_then (λ a. list_at a ss)) f

pub put_step : (xs : List Item) (s : Step) (ss : List Step) (w : List Item) (x : Item) (a : List Item) → slice_get xs s.item ≡ Some x →
    child s.branch x ≡ Some a
    → put_at xs (s ∷ ss) w ≡ slice_set xs s.item (with_child s.branch (put_at a ss w) x)
put_step xs s ss w x a e f =
    ap (λ o. option_map_or (λ x. option_map_or (λ a. slice_set xs s.item (with_child s.branch (put_at a ss w) x)) (child s.branch x) xs) o xs) e
    ∙ ap (λ o. option_map_or (λ a. slice_set xs s.item (with_child s.branch (put_at a ss w) x)) o xs) f

-- the laws

pub list_put : (xs : List Item) (ss : List Step) (u a : List Item) → list_at xs ss ≡ Some a → list_at (put_at xs ss u) ss ≡ Some u
list_put xs [] u a e = refl
list_put xs (s ∷ ss) u a e =
    let t = stepped xs s ss a e in
    let made = with_child s.branch (put_at t.inner ss u) t.item in
    ap (λ l. list_at l (s ∷ ss)) (put_step xs s ss u t.item t.inner t.item_is t.inner_is)
    ∙ list_step (slice_set xs s.item made) s ss made (put_at t.inner ss u) (get_set xs s.item t.item made t.item_is)
    (child_with s.branch t.item (put_at t.inner ss u) t.inner t.inner_is)
    ∙ list_put t.inner ss u a t.rest

pub put_put : (xs : List Item) (ss : List Step) (u w a : List Item) → list_at xs ss ≡ Some a → put_at (put_at xs ss u) ss w ≡ put_at xs ss w
put_put xs [] u w a e = refl
put_put xs (s ∷ ss) u w a e =
    let t = stepped xs s ss a e in
    let made = with_child s.branch (put_at t.inner ss u) t.item in
    ap (λ l. put_at l (s ∷ ss) w) (put_step xs s ss u t.item t.inner t.item_is t.inner_is)
    ∙ put_step (slice_set xs s.item made) s ss w made (put_at t.inner ss u) (get_set xs s.item t.item made t.item_is)
    (child_with s.branch t.item (put_at t.inner ss u) t.inner t.inner_is)
    ∙ set-set xs s.item made (with_child s.branch (put_at (put_at t.inner ss u) ss w) made)
    ∙ ap (slice_set xs s.item) (with_with s.branch t.item (put_at t.inner ss u) (put_at (put_at t.inner ss u) ss w) t.inner t.inner_is)
    ∙ ap (λ l. slice_set xs s.item (with_child s.branch l t.item)) (put_put t.inner ss u w a t.rest)
    ∙ sym (put_step xs s ss w t.item t.inner t.item_is t.inner_is)

pub put_back : (xs : List Item) (ss : List Step) (a : List Item) → list_at xs ss ≡ Some a → put_at xs ss a ≡ xs
put_back xs [] a e = let h : xs ≡ a = cc in sym h
put_back xs (s ∷ ss) a e =
    let t = stepped xs s ss a e in
    put_step xs s ss a t.item t.inner t.item_is t.inner_is
    ∙ ap (λ l. slice_set xs s.item (with_child s.branch l t.item)) (put_back t.inner ss a t.rest)
    ∙ ap (slice_set xs s.item) (with_own s.branch t.item t.inner t.inner_is)
    ∙ set_same xs s.item t.item t.item_is
