-- The Notes of lists one after another.
use Rattle.std.proofs.Common.{◌≡◌, ℕ, List, [], ◌++◌, refl, sym, ap, ◌∙◌, append_assoc, append-nil}
use Rattle.c_tree.specs.Trees.{Tree, Forest, Nil, Then, join}
use Rattle.c_tree.specs.Changed.{one}
use Rattle.whole_laws.specs.Notes.{notes, notes_in}

abbrev pub Bytes : Type 0
Bytes = List ℕ

pub both : (ks ls ms ns : List Bytes) → ks ≡ ls → ms ≡ ns → ks ++ ms ≡ ls ++ ns
both ks ls ms ns e f = λ i. e i ++ f i

pub notes_join : (a b : Forest) → notes (join a b) ≡ notes a ++ notes b
notes_join Nil b = refl
notes_join (Then x a) b = ap (λ l. notes_in x ++ l) (notes_join a b) ∙ sym (append_assoc (notes_in x) (notes a) (notes b))

-- of a list behind one that has none, and before one that has none
pub behind_none : (a b : Forest) → notes a ≡ [] → notes (join a b) ≡ notes b
behind_none a b e = notes_join a b ∙ ap (λ l. l ++ notes b) e

pub before_none : (a b : Forest) → notes b ≡ [] → notes (join a b) ≡ notes a
before_none a b e = notes_join a b ∙ ap (λ l. notes a ++ l) e ∙ append-nil (notes a)

pub notes_one : (x : Tree) → notes (one x) ≡ notes_in x
notes_one x = append-nil (notes_in x)

pub none_both : (ks ls : List Bytes) → ks ≡ [] → ls ≡ [] → ks ++ ls ≡ []
none_both ks ls e f = λ i. e i ++ f i
