-- A label of two tokens has a name, unless its word is `default`.
use Rattle.std.proofs.Common.{◌≡◌, ℕ, Bool, true, false, cond, List, codes, bytes_eq, refl, ap, ◌∙◌}
use Rattle.c_grammar.specs.declared.class.Class.{Class}
use Rattle.c_grammar.specs.declared.class.Class.TheVariants as c
use Rattle.c_grammar.specs.TokenClasses.{keyword_class, jump_word}
use Rattle.c_grammar.specs.Items.{Named}
use Rattle.c_grammar.specs.Parts.{two_part_label}

-- of two classes neither is that of `default`
either : (f a : ℕ) (y : Bool) (k l : Class) → two_part_label k f a ≡ Named f a → two_part_label l f a ≡ Named f a → two_part_label (cond y k l) f a ≡ Named f a
either f a true k l g h = g
either f a false k l g h = h

jump_named : (f a : ℕ) (w : List ℕ) → two_part_label (jump_word w) f a ≡ Named f a
jump_named f a w =
    either f a (bytes_eq (codes "goto") w) c.Goto _ refl
    (either f a (bytes_eq (codes "return") w) c.Return _ refl
    (either f a (bytes_eq (codes "break") w) c.Break _ refl
    (either f a (bytes_eq (codes "continue") w) c.Continue _ refl
    (either f a (bytes_eq (codes "int") w) c.Int _ refl
    (either f a (bytes_eq (codes "char") w) c.Char _ refl
    (either f a (bytes_eq (codes "long") w) c.Long _ refl
    (either f a (bytes_eq (codes "signed") w) c.Signed _ refl
    (either f a (bytes_eq (codes "unsigned") w) c.Unsigned _ refl
    (either f a (bytes_eq (codes "void") w) c.Void _ refl
    (either f a (bytes_eq (codes "static") w) c.Static _ refl
    (either f a (bytes_eq (codes "const") w) c.Const _ refl
    (either f a (bytes_eq (codes "enum") w) c.Enum c.Foreign refl refl))))))))))))

last_word : (f a : ℕ) (y : Bool) (w : List ℕ) → y ≡ false → two_part_label (cond y c.Default (jump_word w)) f a ≡ Named f a
last_word f a y w e = ap (λ z. two_part_label (cond z c.Default (jump_word w)) f a) e ∙ jump_named f a w

pub other_word : (f a : ℕ) (w : List ℕ) → bytes_eq (codes "default") w ≡ false → two_part_label (keyword_class w) f a ≡ Named f a
other_word f a w e =
    either f a (bytes_eq (codes "if") w) c.If _ refl
    (either f a (bytes_eq (codes "else") w) c.Else _ refl
    (either f a (bytes_eq (codes "while") w) c.While _ refl
    (either f a (bytes_eq (codes "do") w) c.Do _ refl
    (either f a (bytes_eq (codes "for") w) c.For _ refl
    (either f a (bytes_eq (codes "switch") w) c.Switch _ refl
    (either f a (bytes_eq (codes "case") w) c.Case _ refl (last_word f a (bytes_eq (codes "default") w) w e)))))))
