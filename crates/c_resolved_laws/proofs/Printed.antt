-- A resolved program without nested case labels prints.
use Rattle.std.proofs.Common.{◌≡◌, true, List, [], ◌∷◌, Option, Some, None}
use Rattle.std.specs.Prelude.{IfSome}
use Rattle.std.specs.Option.{option_map_or}
use Rattle.std.proofs.lemmas.List.Elements.{All-from_recursion, recursion_from_All}
use Rattle.c_tree.specs.declared.tree.Function.{Function}
use Rattle.c_tree.specs.declared.tree.Item.{Item}
use Rattle.c_tree.specs.declared.tree.Top.{Top}
use Rattle.c_tree.specs.declared.tree.Top.TheVariants as T
use Rattle.c_tree.specs.declared.tree.Program.{Program}
use Rattle.c_tree.specs.Trees.{Tree, Forest, Nil, Then, Sections, NoSection, Section, If, While, Do, For, Switch, Block, Arrival, trees_of}
use Rattle.c_tree.specs.Everywhere.{Everywhere, EverywhereOf, EverywhereIn}
use Rattle.c_tree.specs.InRange.{body_of}
use Rattle.c_tree.specs.Jumps.{is_plain_program}
use Rattle.c_tree.proofs.WellMoved.{everywhere_map}
use Rattle.struct_meaning.specs.Structured.{IsStructured, IsTopStructured}
use Rattle.struct_meaning.proofs.PlainBodies.{plain_structured}
use Rattle.c_resolved_defs.specs.PrintableStatements.{ItemPrints, ItemsPrint, SectionsPrint}
use Rattle.c_resolved_defs.specs.PrintablePrograms.{MaybeBody, TopPrints, TopsPrint, IsPrintable}
use Rattle.c_resolved_defs.specs.Within.{Each}
use Rattle.c_resolved_defs.specs.Spelling.{ItemIsSpelled, AreSpelled, SectionsAreSpelled, BodyIsSpelled, TopIsSpelled}
use Rattle.c_resolved_defs.specs.Limits.{FlatCounts}
use Rattle.c_resolved_defs.specs.Resolved.{IsResolvedWith}
use Rattle.c_resolved_laws.specs.Laws.{IsNoArrival, TopHasText, HasText}
use Rattle.c_resolved_laws.proofs.Ranged.{each_map}

module _ (f : Function) where
  mutual
    prints : (x : Tree) → ItemIsSpelled f x → EverywhereOf IsNoArrival x → ItemPrints f x
    prints (If t a b) h n = (h.0, print_all a h.1 n.1, print_all b h.2 n.2)
    prints (While t a) h n = (h.0, print_all a h.1 n.1)
    prints (Do a t) h n = (print_all a h.0 n.1, h.1)
    prints (For first t u a) h n = (h.0, h.1, h.2, print_all a h.3 n.2)
    prints (Switch s c) h n = (h.0, print_sections c h.1 n.1)
    prints (Block a) h n = print_all a h n.1
    prints (Arrival e) h n = absurd n
    prints _ h n = h

    print_all : (xs : Forest) → AreSpelled f xs → Everywhere IsNoArrival xs → ItemsPrint f xs
    print_all Nil h n = tt
    print_all (Then x xs) h n = (prints x h.0 n.0, print_all xs h.1 n.1)

    print_sections : (c : Sections) → SectionsAreSpelled f c → EverywhereIn IsNoArrival c → SectionsPrint f c
    print_sections NoSection h n = tt
    print_sections (Section cases default a ends c) h n = (h.0, print_all a h.1 n.0, print_sections c h.2 n.1)

  print_body : (b : Option (List Item)) → IfSome b (BodyIsSpelled f) → Everywhere IsNoArrival (option_map_or trees_of b Nil) → MaybeBody f b
  print_body None h n = tt
  print_body (Some xs) h n = record { items = print_all (trees_of xs) h.items n; shallow = h.shallow }

print_top : (t : Top) → TopIsSpelled t → TopHasText t → TopPrints t
print_top (T.Function f) h n = record { named = h.named; parameters = h.parameters; body = print_body f f.body h.body n }
print_top _ h n = h

print_tops : (ts : List Top) → Each TopIsSpelled ts → Each TopHasText ts → TopsPrint ts
print_tops [] h n = tt
print_tops (t ∷ ts) h n = (print_top t h.0 n.0, print_tops ts h.1 n.1)

pub resolved_printable : (counts : FlatCounts) (p : Program) → IsResolvedWith counts p → HasText p → IsPrintable p
resolved_printable counts p r n = record { tops = print_tops p.tops r.spelled (recursion_from_All TopHasText p.tops n) }

-- ---- a program without jumps has a text

no_arrival : (x : Tree) → IsStructured x → IsNoArrival x
no_arrival (Arrival e) h = h
no_arrival _ h = tt

top_text : (t : Top) → IsTopStructured t → TopHasText t
top_text (T.Function f) h = everywhere_map IsStructured IsNoArrival no_arrival (body_of f) h
top_text _ h = tt

pub plain_text : (p : Program) → is_plain_program p ≡ true → HasText p
plain_text p e = All-from_recursion TopHasText p.tops (each_map IsTopStructured TopHasText top_text p.tops
    (recursion_from_All IsTopStructured p.tops (plain_structured p e)))
