-- What a node writes at file scope, by its production and its parts.
use Rattle.std.proofs.Common.{◌≡◌, ℕ, List, [], ◌∷◌, map, Option, Some, None, refl, ap, ◌∙◌}
use Rattle.std.proofs.lemmas.List.{length-map, drop-map}
use Rattle.c_grammar.specs.declared.syntax.Production.{Production}
use Rattle.c_grammar.specs.declared.syntax.Production.TheVariants as p
use Rattle.c_grammar.specs.declared.syntax.Syntax.{Syntax, out-Syntax}
use Rattle.c_grammar.specs.Items.{Body, Braces}
use Rattle.c_grammar.specs.Tops.{Enumerator, Parameter, Form, Line, Enum, Defines, Top, From}
use Rattle.c_grammar.specs.Tops as tops
use Rattle.c_grammar.specs.Parts.{Part, part_of, part_layer, content, enumerator, enumerator_in, parameter, parameter_in, parameters_in, gathered, items_in, function, globals, top_in, tops_in, block_in, file_of}
use Rattle.c_grammar.specs.TopViews.{enumerator_of, parameter_of, top_of}
use Rattle.c_grammar.proofs.Layers.{open_part, part-rule, at-map, first-map, token-map}
use Rattle.c_grammar.proofs.Items.{at-none, rest-whole}

abbrev pub enumerator_by : Production → List Part → Option Enumerator
enumerator_by p.Enumerator ps = Some (enumerator ps)
enumerator_by _ ps = None

abbrev pub parameter_by : Production → ℕ → List Part → Option Parameter
parameter_by p.Param first ps = Some (parameter first ps)
parameter_by _ first ps = None

abbrev pub parameters_by : Production → List Part → List Parameter
parameters_by p.Params ps = gathered parameter_in ps
parameters_by _ ps = []

abbrev pub top_by : Production → List Part → Form
top_by p.Token ps = Line
top_by p.Enum ps = Enum (gathered enumerator_in ps)
top_by p.Declaration ps = globals ps
top_by p.Function ps = function ps
top_by _ ps = tops.Unread

abbrev pub tops_by : Production → List Part → List Top
tops_by p.File ps = map top_in ps
tops_by _ ps = []

abbrev pub block_by : Production → ℕ → ℕ → List Part → Option Body
block_by p.Block first after ps = Some (Braces first after (items_in ps))
block_by _ first after ps = None

enumerator-content : (word : ℕ → List ℕ) (rule : Production) (first after : ℕ) (ps : List Part) →
    enumerator_in (content word rule first after ps) ≡ enumerator_by rule ps
enumerator-content word p.Enumerator first after ps = refl
enumerator-content word _ first after ps = refl

parameter-content : (word : ℕ → List ℕ) (rule : Production) (first after : ℕ) (ps : List Part) →
    parameter_in (content word rule first after ps) ≡ parameter_by rule first ps
parameter-content word p.Param first after ps = refl
parameter-content word _ first after ps = refl

parameters-content : (word : ℕ → List ℕ) (rule : Production) (first after : ℕ) (ps : List Part) →
    parameters_in (content word rule first after ps) ≡ parameters_by rule ps
parameters-content word p.Params first after ps = refl
parameters-content word _ first after ps = refl

tops-content : (word : ℕ → List ℕ) (rule : Production) (first after : ℕ) (ps : List Part) → tops_in (content word rule first after ps) ≡ tops_by rule ps
tops-content word p.File first after ps = refl
tops-content word _ first after ps = refl

top-layer : (word : ℕ → List ℕ) (rule : Production) (first after : ℕ) (ps : List Part) →
    top_in (part_layer word (record { rule = rule; first = first; after = after; parts = ps })) ≡ From first after (top_by rule ps)
top-layer word p.Token first after ps = refl
top-layer word p.Enum first after ps = refl
top-layer word p.Declaration first after ps = refl
top-layer word p.Function first after ps = refl
top-layer word _ first after ps = refl

block-layer : (word : ℕ → List ℕ) (rule : Production) (first after : ℕ) (ps : List Part) →
    block_in (part_layer word (record { rule = rule; first = first; after = after; parts = ps })) ≡ block_by rule first after ps
block-layer word p.Block first after ps = refl
block-layer word _ first after ps = refl

pub open_enumerator : (word : ℕ → List ℕ) (x : Syntax) → enumerator_of word x ≡ enumerator_by (out-Syntax x).rule (map (part_of word) (out-Syntax x).parts)
open_enumerator word x = ap (λ (q : Part). enumerator_in q.content) (open_part word x) ∙
    enumerator-content word (out-Syntax x).rule (out-Syntax x).first (out-Syntax x).after (map (part_of word) (out-Syntax x).parts)

pub open_parameter : (word : ℕ → List ℕ) (x : Syntax) → parameter_of word x ≡ parameter_by (out-Syntax x).rule (out-Syntax x).first
    (map (part_of word) (out-Syntax x).parts)
open_parameter word x = ap (λ (q : Part). parameter_in q.content) (open_part word x) ∙
    parameter-content word (out-Syntax x).rule (out-Syntax x).first (out-Syntax x).after (map (part_of word) (out-Syntax x).parts)

pub open_parameters : (word : ℕ → List ℕ) (x : Syntax) → parameters_in (part_of word x).content ≡ parameters_by (out-Syntax x).rule
    (map (part_of word) (out-Syntax x).parts)
open_parameters word x = ap (λ (q : Part). parameters_in q.content) (open_part word x) ∙
    parameters-content word (out-Syntax x).rule (out-Syntax x).first (out-Syntax x).after (map (part_of word) (out-Syntax x).parts)

pub open_top : (word : ℕ → List ℕ) (x : Syntax) → top_of word x ≡ From (out-Syntax x).first (out-Syntax x).after
    (top_by (out-Syntax x).rule (map (part_of word) (out-Syntax x).parts))
open_top word x = ap top_in (open_part word x) ∙ top-layer word (out-Syntax x).rule (out-Syntax x).first (out-Syntax x).after
    (map (part_of word) (out-Syntax x).parts)

pub open_block : (word : ℕ → List ℕ) (x : Syntax) → block_in (part_of word x) ≡ block_by (out-Syntax x).rule (out-Syntax x).first (out-Syntax x).after
    (map (part_of word) (out-Syntax x).parts)
open_block word x = ap block_in (open_part word x) ∙ block-layer word (out-Syntax x).rule (out-Syntax x).first (out-Syntax x).after
    (map (part_of word) (out-Syntax x).parts)

tops-map : (word : ℕ → List ℕ) (xs : List Syntax) → map top_in (map (part_of word) xs) ≡ map (top_of word) xs
tops-map word [] = refl
tops-map word (x ∷ xs) = λ i. top_of word x ∷ tops-map word xs i

pub file-tops : (word : ℕ → List ℕ) (x : Syntax) → (out-Syntax x).rule ≡ p.File → file_of word x ≡ map (top_of word) (out-Syntax x).parts
file-tops word x h =
    ap (λ (q : Part). tops_in q.content) (open_part word x) ∙ tops-content word (out-Syntax x).rule (out-Syntax x).first (out-Syntax x).after
    (map (part_of word) (out-Syntax x).parts)
    ∙ ap (λ r. tops_by r (map (part_of word) (out-Syntax x).parts)) h ∙ tops-map word (out-Syntax x).parts

pub open_file : (word : ℕ → List ℕ) (x : Syntax) → file_of word x ≡ tops_by (out-Syntax x).rule (map (part_of word) (out-Syntax x).parts)
open_file word x = ap (λ (q : Part). tops_in q.content) (open_part word x) ∙
    tops-content word (out-Syntax x).rule (out-Syntax x).first (out-Syntax x).after (map (part_of word) (out-Syntax x).parts)

pub ruleset opened_tops = (open_enumerator, open_parameter, open_parameters, open_top, open_block, open_file, file-tops, part-rule)

pub ruleset parameters = (at-map, token-map, rest-whole, length-map, drop-map)
