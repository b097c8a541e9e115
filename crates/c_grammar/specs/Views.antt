-- The words of the tokens of a text, and one layer of an expression.
use Rattle.std.specs.Prelude.{◌<◌, ℕ, List, map}
use Rattle.c_grammar.specs.declared.syntax.Syntax.{out-Syntax}
use Rattle.c_grammar.specs.Weights.{weight, weights}
use Rattle.c_grammar.specs.declared.words.Words.{Words}
use Rattle.c_grammar.specs.declared.layer.Layer.{Layer}
use Rattle.c_grammar.specs.declared.layer.Layer.TheVariants as L
use Rattle.c_grammar.specs.Terms.{Form, Constant, Variable, Cell, Prefix, Suffix, CastTo, CastVoid, Binary, Choice, Assign, Commas, Call, Texts, Unknown}
use Rattle.c_grammar.specs.Words.{word_of}
use Rattle.c_grammar.specs.Parts.{part_of, term_of, terms_in}

abbrev pub words_of : Words → ℕ → List ℕ
words_of w at = word_of w.text.now w.tokens.now at

-- the form that a layer is
abbrev pub layer_form : (ℕ → List ℕ) → Layer → Form
layer_form word (L.Constant at) = Constant at
layer_form word (L.Variable at) = Variable at
layer_form word (L.Cell at i) = Cell at (term_of word i.now)
layer_form word (L.Prefix m a) = Prefix m (term_of word a.now)
layer_form word (L.Suffix m a) = Suffix m (term_of word a.now)
layer_form word (L.CastTo n a) = CastTo (part_of word n.now).firsts (term_of word a.now)
layer_form word (L.CastVoid a) = CastVoid (term_of word a.now)
layer_form word (L.Binary m a b) = Binary m (term_of word a.now) (term_of word b.now)
layer_form word (L.Choice a b c) = Choice (term_of word a.now) (term_of word b.now) (term_of word c.now)
layer_form word (L.Assign m t a) = Assign m (term_of word t.now) (term_of word a.now)
layer_form word (L.Commas a bs) = Commas (term_of word a.now) (terms_in (map (part_of word) bs.now))
layer_form word (L.Call at xs) = Call at (terms_in (map (part_of word) xs.now))
layer_form word (L.Texts ts) = Texts (map (λ x. (out-Syntax x).first) ts.now)
layer_form word L.Unknown = Unknown

-- ---- a walk ends, since each operand has fewer nodes than its expression

-- each operand has fewer nodes than n
abbrev pub AreSmaller : ℕ → Layer → Type 0
AreSmaller n (L.Cell at i) = weight i.now < n
AreSmaller n (L.Prefix m a) = weight a.now < n
AreSmaller n (L.Suffix m a) = weight a.now < n
AreSmaller n (L.CastTo t a) = weight a.now < n
AreSmaller n (L.CastVoid a) = weight a.now < n
AreSmaller n (L.Binary m a b) = (weight a.now < n) × (weight b.now < n)
AreSmaller n (L.Choice a b c) = (weight a.now < n) × (weight b.now < n) × (weight c.now < n)
AreSmaller n (L.Assign m t a) = (weight t.now < n) × (weight a.now < n)
AreSmaller n (L.Commas a bs) = (weight a.now < n) × (weights bs.now < n)
AreSmaller n (L.Call at xs) = weights xs.now < n
AreSmaller n _ = Unit {0}
