-- What stands at file scope, one after another.
use Rattle.std.proofs.Common.{◌≡◌, ℕ, ◌+◌, List, [], ◌∷◌, ◌++◌, append_assoc, arith, refl, sym, ap, ◌∙◌, subst}
use Rattle.std.proofs.lemmas.List.{append-nil}
use Rattle.c_tree.specs.declared.tree.Top.{Top}
use Rattle.lower_laws.specs.Lowering.{LoweredTops, lt_none, lt_more, top_gotos, tops_gotos}
use Rattle.goto_lowering.specs.Tops.{IsNext}

-- whatever the rest is lowered to stands behind what is there
abbrev pub Awaits : List (List ℕ) → List (List ℕ) → List Top → List Top → List Top → Type 0
Awaits names file all done rest = (us : List Top) → LoweredTops names file rest us → LoweredTops names file all (done ++ us)

pub awaits_next : (names file : List (List ℕ)) (all done new : List Top) (t : Top) (rest : List Top) → IsNext names file t done new →
    Awaits names file all done (t ∷ rest) → Awaits names file all new rest
awaits_next names file all done new t rest n a us h =
    subst (LoweredTops names file all) (sym (append_assoc done (n.one ∷ []) us) ∙ sym (ap (λ z. z ++ us) n.tops)) (a (n.one ∷ us) (lt_more n.lowered h))

pub awaits_end : (names file : List (List ℕ)) (all done : List Top) → Awaits names file all done [] → LoweredTops names file all done
awaits_end names file all done a = subst (LoweredTops names file all) (append-nil done) (a [] lt_none)

pub gotos_next : (xs : List Top) (x : Top) → tops_gotos (xs ++ x ∷ []) ≡ tops_gotos xs + top_gotos x
gotos_next [] x = omega arith
gotos_next (y ∷ xs) x = let e = gotos_next xs x in omega arith

-- one more behind the others
pub gotos_more : (old new : List Top) (t : Top) (m n s : ℕ) → m ≡ tops_gotos old → n ≡ top_gotos t → s ≡ m + n → new ≡ old ++ t ∷ [] → s ≡ tops_gotos new
gotos_more old new t m n s o g e p = let b = gotos_next old t in let all : s ≡ tops_gotos (old ++ t ∷ []) = omega (arith, o, g, e, b) in
    all ∙ sym (ap tops_gotos p)
