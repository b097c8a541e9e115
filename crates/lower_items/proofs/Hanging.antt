-- Lists in pieces, one behind another.
use Rattle.std.proofs.Common.{◌≡◌, List, [], ◌∷◌, ◌++◌, sym, ap, ◌∙◌}
use Rattle.c_tree.specs.declared.tree.Item.{Item}
use Rattle.c_tree.specs.Trees.{Forest, trees_of, join}
use Rattle.c_tree.proofs.TreeLaws.{join-nil}
use Rattle.flat_items.proofs.Joining.{joined}
use Rattle.lower_items.specs.Pieces.{pieces_of}

-- what is added to the last items is added to the whole
pub behind : (front last new x : Forest) → new ≡ join last x → join front new ≡ join (join front last) x
behind front last new x e = ap (join front) e ∙ sym (joined front last x)

pieces-push : (xs : List (List Item)) (a : List Item) → pieces_of (xs ++ a ∷ []) ≡ join (pieces_of xs) (trees_of a)
pieces-push [] a = join-nil (trees_of a)
pieces-push (x ∷ xs) a = ap (join (trees_of x)) (pieces-push xs a) ∙ sym (joined (trees_of x) (pieces_of xs) (trees_of a))

-- pieces that are added one after another
pub pieces_step : (a : List Item) (xs out new : List (List Item)) (all : Forest) → new ≡ out ++ a ∷ []
    → join (pieces_of out) (pieces_of (a ∷ xs)) ≡ all → join (pieces_of new) (pieces_of xs) ≡ all
pieces_step a xs out new all n inv =
    ap (λ z. join (pieces_of z) (pieces_of xs)) n ∙ ap (λ z. join z (pieces_of xs)) (pieces-push out a) ∙
    joined (pieces_of out) (trees_of a) (pieces_of xs) ∙ inv

pub pieces_end : (out all : Forest) → join out (pieces_of []) ≡ all → out ≡ all
pieces_end out all inv = sym (join-nil out) ∙ inv

-- the items of pieces, added one piece after another
pub each_step : (a : List Item) (xs : List (List Item)) (out new all : Forest) → new ≡ join out (trees_of a)
    → join out (pieces_of (a ∷ xs)) ≡ all → join new (pieces_of xs) ≡ all
each_step a xs out new all n inv = ap (λ z. join z (pieces_of xs)) n ∙ joined out (trees_of a) (pieces_of xs) ∙ inv

-- the items so far become a piece, and pieces and last items of others stand behind it
pub hung : (ps new : List (List Item)) (front : List Item) (more last : Forest) (all : List (List Item)) → new ≡ ps ++ front ∷ []
    → pieces_of all ≡ join (pieces_of new) more
    → join (pieces_of all) last ≡ join (join (pieces_of ps) (trees_of front)) (join more last)
hung ps new front more last all e f =
    ap (λ z. join z last) (f ∙ ap (λ z. join (pieces_of z) more) e ∙ ap (λ z. join z more) (pieces-push ps front))
    ∙ joined (join (pieces_of ps) (trees_of front)) more last
