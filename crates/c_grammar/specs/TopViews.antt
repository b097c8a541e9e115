-- One layer of what stands at file scope, with the syntax of its parts.
use Rattle.std.specs.Prelude.{ℕ, List, [], map, Option, Some, None, option_map}
use Rattle.c_grammar.specs.declared.syntax.Syntax.{Syntax}
use Rattle.c_grammar.specs.declared.tops.EnumeratorLayer.{EnumeratorLayer}
use Rattle.c_grammar.specs.declared.tops.ParameterLayer.{ParameterLayer}
use Rattle.c_grammar.specs.declared.tops.FunctionLayer.{FunctionLayer}
use Rattle.c_grammar.specs.declared.tops.TopLayer.{TopLayer}
use Rattle.c_grammar.specs.declared.tops.TopLayer.TheVariants as L
use Rattle.c_grammar.specs.Tops.{Enumerator, Parameter, Function, Form, Line, Enum, Globals, Defines, Top, From}
use Rattle.c_grammar.specs.Tops as tops
use Rattle.c_grammar.specs.Parts.{part_of, term_of, gathered, greatest, enumerator_in, parameter_in, top_in, block_in}
use Rattle.c_grammar.specs.ItemViews.{declaration_of, size_form}

abbrev pub enumerator_of : (ℕ → List ℕ) → Syntax → Option Enumerator
enumerator_of word x = enumerator_in (part_of word x).content

abbrev pub parameter_of : (ℕ → List ℕ) → Syntax → Option Parameter
parameter_of word x = parameter_in (part_of word x).content

abbrev pub top_of : (ℕ → List ℕ) → Syntax → Top
top_of word x = top_in (part_of word x)

-- the words of a type
abbrev pub words_in : (ℕ → List ℕ) → Syntax → List ℕ
words_in word x = (part_of word x).firsts

abbrev pub enumerator_form : (ℕ → List ℕ) → EnumeratorLayer → Enumerator
enumerator_form word e = record { name = e.name; value = option_map (λ x. term_of word x.now) e.value }

abbrev pub parameter_form : (ℕ → List ℕ) → ParameterLayer → Parameter
parameter_form word x =
    record {
      first = x.first;
      constant = x.constant;
      words = elim x.kind [ Some k ↦ words_in word k.now | None ↦ [] ];
      name = x.name;
      size = size_form word x.size;
    }

abbrev pub function_form : (ℕ → List ℕ) → FunctionLayer → Function
function_form word f =
    record {
      static = f.is_static;
      words = option_map (λ x. words_in word x.now) f.result;
      name = f.name;
      parameters = gathered parameter_in (map (part_of word) f.parameters.now);
      body = block_in (part_of word f.body.now);
      counted = greatest (map (part_of word) f.nodes.now);
    }

abbrev pub top_form : (ℕ → List ℕ) → TopLayer → Form
top_form word L.Line = Line
top_form word (L.Enum xs) = Enum (gathered enumerator_in (map (part_of word) xs.now))
top_form word (L.Globals static d) = Globals static (declaration_of word d.now)
top_form word (L.Defines f) = Defines (function_form word f)
top_form word L.Unread = tops.Unread
