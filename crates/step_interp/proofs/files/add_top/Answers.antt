use Rattle.std.proofs.Common.{[], ◌∷◌, ◌++◌, ◌≡◌, Some, map, is_some, cond, true, false, sym, ap, ◌∙◌, subst}
use Rattle.std.specs.BTreeMap.{get_by}
use Rattle.std.specs.Cmp.Lexicographic.{slice_cmp}
use Rattle.std.specs.Ordering.{nat_cmp}
use Rattle.std.specs.Str.{bytes_eq}
use Rattle.std.proofs.lemmas.Map.Text.{btree_map_updates_str}
use Rattle.std.proofs.lemmas.List.{map_push}
use Rattle.step_interp.specs.Files.{has_name, HasFile, HasPlaces}
use Rattle.step_interp.proofs.FileLemmas.{added, skipped, place_added}
use Rattle.step_interp.proofs.files.add_top.Goals as goal

pub returns-then-contains_key-clause-file : goal.returns-then-contains_key-clause-file
returns-then-contains_key-clause-file c tops left h =
    let g = c.in-Global.global in
    let names = map (λ n. n.now) c.args.names.now.items in
    let known : has_name names g.slot.name ≡ true = sym (c.requires g.slot.name) ∙
    ap (λ n. is_some (get_by (λ k. slice_cmp nat_cmp n k.now) c.args.places.now)) (sym c.as_str.ensures) ∙ sym c.contains_key.ensures ∙
    c.if-contains_key.true in
    skipped tops left names c.args.file.now g known (subst (λ t. HasFile tops (t ∷ left) names c.args.file.now) c.in-Global.is h)

pub returns-clause-places : goal.returns-clause-places
returns-clause-places c =
    let g = c.in-Global.global in
    let names = map (λ n. n.now) c.args.names.now.items in
    let old = c.args.places.now in
    let new = c.insert.new.self in
    let at = c.len-at.result in
    subst (λ ns. HasPlaces ns new) (sym (ap (map (λ n. n.now)) c.in_ok-push-2.ensures.items ∙ map_push (λ n. n.now) c.args.names.now.items _))
    (place_added names g.slot.name at old new c.requires
    (λ m. btree_map_updates_str c.as_str-2.result.now old new (Some at) c.in_ok-insert.ensures.updates m
    ∙ ap (λ n. cond (bytes_eq n m) (Some at) (get_by (λ k. slice_cmp nat_cmp m k.now) old)) c.as_str-2.ensures))

pub returns-clause-file : goal.returns-clause-file
returns-clause-file c tops left h =
    let g = c.in-Global.global in
    let names = map (λ n. n.now) c.args.names.now.items in
    let room = c.in_ok-global_room.field-0 in
    let new : has_name names g.slot.name ≡ false = sym (c.requires g.slot.name) ∙
    ap (λ n. is_some (get_by (λ k. slice_cmp nat_cmp n k.now) c.args.places.now)) (sym c.as_str.ensures) ∙ sym c.contains_key.ensures ∙
    c.if-contains_key.false in
    subst (λ ns. HasFile tops left ns c.push.new.self)
    (sym (ap (map (λ n. n.now)) c.in_ok-push-2.ensures.items ∙ map_push (λ n. n.now) c.args.names.now.items _))
    (subst (HasFile tops left (names ++ g.slot.name ∷ [])) (sym c.in_ok-push.ensures.ok)
    (added tops left names c.args.file.now g room new c.in_ok-global_room.ensures
    (subst (λ t. HasFile tops (t ∷ left) names c.args.file.now) c.in-Global.is h)))
