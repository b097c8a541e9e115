-- A small file's places, by computation.
use Rattle.std.proofs.Common.{◌≡◌, ℕ, false, List, [], ◌∷◌, Some, None, refl}
use Rattle.c_grammar.specs.Terms.{Term, At, Constant, Variable}
use Rattle.c_grammar.specs.Items.{Case, Default, States, From, Null, Evaluate, Switch, Break, Braces, Then, NoItem}
use Rattle.c_grammar.specs.Tops as tops
use Rattle.c_grammar.specs.Tops.{Top, Defines}
use Rattle.c_statements.specs.declared.anchors.Anchor.TheVariants.{Before, AtEnd, AtSection, Last}
use Rattle.c_comments.specs.Notes.{place_in}

abbrev variable-at : ℕ → Term
variable-at at = At at (Variable at)

abbrev constant-at : ℕ → Term
constant-at at = At at (Constant at)

-- ---- the places of comments: void f ( void ) { switch ( x ) { case 1 : ; x ; break ; default : ; } }

abbrev tops-3 : List Top
tops-3 =
    tops.From 0 24 (Defines (record {
      static = false;
      words = None;
      name = 1;
      parameters = [];
      body = Some (Braces 5 24 (Then
          (States [] (From 6 23 (Switch (variable-at 8) (Braces 10 23
          (Then (States (Case 11 14 (constant-at 12) ∷ []) (From 14 15 Null))
          (Then (States [] (From 15 17 (Evaluate (variable-at 15))))
          (Then (States [] (From 17 19 Break))
          (Then (States (Default 19 21 ∷ []) (From 21 22 Null)) NoItem))))))))
          NoItem));
      counted = 0;
    })) ∷ []

-- in front of the function and in its head; in the head of the switch; in the case label; before the null
-- statement, the call and `break`; in the default label; at the `}` of the switch; at that of the function; at the end
places : (place_in tops-3 3 ≡ Before 0) × (place_in tops-3 7 ≡ Before 6) × (place_in tops-3 12 ≡ AtSection 11) × (place_in tops-3 14 ≡ Before 14) ×
    (place_in tops-3 16 ≡ Before 15)
    × (place_in tops-3 17 ≡ Before 17) × (place_in tops-3 20 ≡ AtSection 19) × (place_in tops-3 22 ≡ AtEnd 10) × (place_in tops-3 23 ≡ AtEnd 5) ×
    (place_in tops-3 24 ≡ Last)
places = (refl, refl, refl, refl, refl, refl, refl, refl, refl, refl)
