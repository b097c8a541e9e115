-- The laws of lawful moves.
use Rattle.std.proofs.lemmas.List.Elements.{All-from_recursion, recursion_from_All}
use Rattle.whole_laws.proofs.Source.{resolved_source}
use Rattle.whole_laws.proofs.Chains.{chain_steady}
use Rattle.restructure_laws.specs.ReplayMovesLaws.{LawfulMoveLaws, ReplayLaws}
use Rattle.restructure_laws.specs.Replayed.{converted_tops, IsTopWellMade}
use Rattle.restructure_laws.proofs.ByRules.{the_kind, some_made}
use Rattle.restructure_laws.proofs.Joined.{joins}
use Rattle.restructure_laws.proofs.Replays.{start_made, kept, jump_free, whole, all_joined}
use Rattle.restructure_laws.proofs.Rewriting.{moves, rewritten}
use Rattle.restructure_laws.proofs.Tops.{all_made, one_moved, one_end, moves_chain}

pub lawful_laws : LawfulMoveLaws
lawful_laws = record {
  kind = the_kind;
  some = some_made;
  well_made = λ ts us ms w h. All-from_recursion IsTopWellMade us (all_made (recursion_from_All IsTopWellMade ts w) h);
  one_move = λ m ts us vs w h k. one_moved (recursion_from_All IsTopWellMade ts w) h k;
  one = λ ts us vs ms w h k. one_end (recursion_from_All IsTopWellMade ts w) h k;
  steady = λ p q ms w h s. chain_steady (moves_chain (recursion_from_All IsTopWellMade p.tops w) h) s;
  joins = λ ts us ms h. joins h;
}

pub replayed_laws : ReplayLaws
replayed_laws = record {
  well_made = λ counts p us r w. All-from_recursion IsTopWellMade (converted_tops us) (start_made p us (resolved_source counts p r) w);
  steady = λ counts p q ms r w. let k = kept p q ms (resolved_source counts p r) w in (k.steady, k.same);
  jump_free = λ counts p q ms r w n. jump_free p q ms (resolved_source counts p r) w n;
  whole = λ counts names p q ms r w n m. whole names p q ms (resolved_source counts p r) w n m;
  joins = λ counts p q ms w r n. all_joined p q ms w n;
  moves = λ counts p us vs ms r w m. moves p us vs ms (resolved_source counts p r) r.declarations w m;
  rewritten = λ counts p q ms r w. rewritten p q ms (resolved_source counts p r) r.declarations w;
}
