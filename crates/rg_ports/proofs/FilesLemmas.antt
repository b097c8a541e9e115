-- Lists of files as the maps that they make.
use Rattle.std.proofs.Common.{◌≡◌, ℕ, suc, ◌+◌, ◌<◌, Bool, true, false, cond, List, [], ◌∷◌, ◌++◌, length, take, drop, get_or, set, Option, None, Some, Ordering, refl, sym, ap, ◌∙◌, subst, arith, add-one}
use Rattle.std.specs.Ordering.{is_eq, eq_by_cmp}
use Rattle.std.specs.declared.cmp.Ordering.TheVariants.{Less, Equal, Greater}
use Rattle.std.specs.Str.{bytes_eq}
use Rattle.std.specs.Cmp.{eq_by_cmp_equiv, tied_itself}
use Rattle.std.specs.Cmp.Lexicographic.{nat_list_cmp_total, texts_ties}
use Rattle.std.specs.FinMap.{get, insert, from_entries, get-from_entries, get-insert, same_map, from_entries_push, IsAntisymmetric, slice_cmp-IsAntisymmetric, nat_cmp-IsAntisymmetric}
use Rattle.std.proofs.lemmas.Option.{get_or_from_slice_get, slice_get_within}
use Rattle.std.proofs.lemmas.List.{length-take-le}
use Rattle.std.proofs.Math.Seq.{split_at, set-append_seam, take-suc}
use Rattle.c_types.specs.Words.{name_cmp}
use Rattle.rg_ports.specs.FirstAt.{File, bytes_of, FirstAt}

-- names that compare alike are one
names_exact : IsAntisymmetric name_cmp
names_exact = slice_cmp-IsAntisymmetric nat_cmp-IsAntisymmetric

-- what a comparison answers
equal : (r : Ordering) → is_eq r ≡ true → r ≡ Equal
equal Less h = cc
equal Equal h = refl
equal Greater h = cc

-- names that are not told apart
named_alike : (q k : List ℕ) → eq_by_cmp name_cmp q k ≡ true → q ≡ k
named_alike q k h = names_exact q k (equal _ h)

-- a name and itself
itself : (k : List ℕ) → eq_by_cmp name_cmp k k ≡ true
itself k = ap is_eq (tied_itself nat_list_cmp_total k)

-- what is not in a front is looked for in the rest
past : (es fs : List File) (q : List ℕ) → bytes_of q es ≡ None → bytes_of q (es ++ fs) ≡ bytes_of q fs
past [] fs q h = refl
past (e ∷ es) fs q h =
    elim (eq_by_cmp name_cmp q e.0) as (λ b. cond b (Some e.1) (bytes_of q es) ≡ None → cond b (Some e.1) (bytes_of q (es ++ fs)) ≡ bytes_of q fs) [
      | true ↦ λ is. cc
      | false ↦ λ is. past es fs q is
    ] h

-- nothing is found: it is not the first, nor behind it
head_apart : (b : Bool) (v : List ℕ) (o : Option (List ℕ)) → cond b (Some v) o ≡ None → (b ≡ false) × (o ≡ None)
head_apart true v o h = cc
head_apart false v o h = (refl, h)

-- two names in either order
either_first : (b c : Bool) (v w : List ℕ) (o : Option (List ℕ)) → (b ≡ true → c ≡ true → ⊥) →
    cond b (Some v) (cond c (Some w) o) ≡ cond c (Some w) (cond b (Some v) o)
either_first true true v w o apart = absurd (apart refl refl)
either_first true false v w o apart = refl
either_first false c v w o apart = refl

-- other bytes in the place of those of the first file with a name
changed : (es fs : List File) (k v w q : List ℕ) → bytes_of k es ≡ None →
    bytes_of q (es ++ (k, w) ∷ fs) ≡ cond (eq_by_cmp name_cmp q k) (Some w) (bytes_of q (es ++ (k, v) ∷ fs))
changed [] fs k v w q h =
    elim (eq_by_cmp name_cmp q k) as (λ b. cond b (Some w) (bytes_of q fs) ≡ cond b (Some w) (cond b (Some v) (bytes_of q fs))) [ true ↦ refl | false ↦ refl ]
changed (e ∷ es) fs k v w q h =
    let apart = head_apart (eq_by_cmp name_cmp k e.0) e.1 (bytes_of k es) h in
    ap (cond (eq_by_cmp name_cmp q e.0) (Some e.1)) (changed es fs k v w q apart.1)
    ∙ either_first (eq_by_cmp name_cmp q e.0) (eq_by_cmp name_cmp q k) e.1 w _ (λ a b.
    let first : q ≡ e.0 = named_alike q e.0 a in
    let second : q ≡ k = named_alike q k b in
    let tied : eq_by_cmp name_cmp k e.0 ≡ true = subst (λ x. eq_by_cmp name_cmp x e.0 ≡ true) second a in
    cc)

module _ (files : List File) (name : List ℕ) (place : ℕ) (at : FirstAt files name place) where
  -- the place is one of the list's
  within : place < length files
  within = slice_get_within files place (name, at.bytes) at.there

  -- the list, cut around the file
  split : files ≡ take place files ++ (name, at.bytes) ∷ drop (suc place) files
  split = subst (λ (e : File). files ≡ take place files ++ e ∷ drop (suc place) files)
      (get_or_from_slice_get files place (name, at.bytes) (name, at.bytes) at.there) (split_at files place (name, at.bytes) within)

  -- the bytes that are found
  pub bytes_of_first : bytes_of name files ≡ Some at.bytes
  bytes_of_first = ap (bytes_of name) split ∙ past _ _ name at.before ∙ ap (λ b. cond b (Some at.bytes) (bytes_of name (drop (suc place) files))) (itself name)

  -- and once the file's bytes are others
  split_set : (w : List ℕ) → set files place (name, w) ≡ take place files ++ (name, w) ∷ drop (suc place) files
  split_set w =
      let front : length (take place files) ≡ place = length-take-le place files (omega (arith, within)) in
      ap (λ fs. set fs place (name, w)) split
      ∙ subst (λ n. set (take place files ++ (name, at.bytes) ∷ drop (suc place) files) n (name, w) ≡ take place files ++
      (name, w) ∷ drop (suc place) files) front (set-append_seam (take place files) (name, at.bytes) (drop (suc place) files) (name, w))

  -- the map once the bytes are others
  pub from_entries-set : (w : List ℕ) → from_entries {R = name_cmp} (set files place (name, w)) ≡ insert (from_entries files) name w
  from_entries-set w = same_map nat_list_cmp_total names_exact _ _ (λ q.
      get-from_entries nat_list_cmp_total _ q
      ∙ ap (bytes_of q) (split_set w)
      ∙ changed (take place files) (drop (suc place) files) name at.bytes w q at.before
      ∙ ap (λ fs. cond (eq_by_cmp name_cmp q name) (Some w) (bytes_of q fs)) (sym split)
      ∙ sym (get-insert nat_list_cmp_total (from_entries files) name w q ∙
      ap (cond (eq_by_cmp name_cmp q name) (Some w)) (get-from_entries nat_list_cmp_total files q)))

-- the map that the files make
pub get-files : (files : List File) (name : List ℕ) → get (from_entries {R = name_cmp} files) name ≡ bytes_of name files
get-files files name = get-from_entries nat_list_cmp_total files name

-- one more file, with a new name
pub from_entries-push : (files : List File) (name bytes : List ℕ) → bytes_of name files ≡ None →
    from_entries {R = name_cmp} (files ++ (name, bytes) ∷ []) ≡ insert (from_entries files) name bytes
from_entries-push files name bytes none = from_entries_push nat_list_cmp_total names_exact files name bytes none

-- what the comparison of two names says
pub same_names : (a b : List ℕ) → bytes_eq a b ≡ true → a ≡ b
same_names a b h = named_alike a b (sym (texts_ties a b) ∙ h)

-- no file of a front has the name, nor has the next one
pub before_more : (files : List File) (name : List ℕ) (i : ℕ) (file : File) → i < length files → file ≡ get_or files i file → bytes_eq file.0 name ≡ false
    → bytes_of name (take i files) ≡ None → bytes_of name (take (i + 1) files) ≡ None
before_more files name i file within is apart none =
    let front : take (i + 1) files ≡ take i files ++ file ∷ [] = rw add-one (take-suc files i file within ∙ ap (λ e. take i files ++ e ∷ []) (sym is)) in
    let differ : eq_by_cmp name_cmp name file.0 ≡ false = (eq_by_cmp_equiv nat_list_cmp_total).symm name file.0 ∙ sym (texts_ties file.0 name) ∙ apart in
    ap (bytes_of name) front ∙ past (take i files) (file ∷ []) name none ∙ ap (λ b. cond b (Some file.1) None) differ
