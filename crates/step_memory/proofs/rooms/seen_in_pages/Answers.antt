use Rattle.std.proofs.Common.{◌≡◌, ◌<◌, ◌/◌, [], length, get_or, sym, ap, ◌∙◌, arith}
use Rattle.std.specs.Option.{option_copied}
use Rattle.std.proofs.lemmas.Option.{slice_get_past}
use Rattle.step_memory.specs.Pages.{shown}
use Rattle.step_memory.proofs.PageLemmas.{length_shown, made_seen, start_seen, lacks_room, none_at}
use Rattle.step_memory.proofs.rooms.seen_in_pages.Goals as goal
use Rattle.step_memory.proofs.rooms.seen_in_pages.Goals.{in-Some+in_default-get, in_default}

pub returns-then-at-slots : goal.returns-then-at-slots
returns-then-at-slots c =
    slice_get_past (shown c.args.pages.now c.args.slots.now) c.args.at
    (omega (arith, c.if-at-slots.true, length_shown c.args.pages.now c.args.slots.now c.requires))

pub returns-in-Some-get : goal.returns-in-Some-get
returns-in-Some-get c =
    made_seen c.args.pages.now c.args.slots.now c.args.at c.in-Some.rooms.now c.in-Some-get.room.now c.requires (omega (arith, c.if-at-slots.false))
    c.in-Some.ensures.value c.in-Some-get.ensures.value

pub returns : goal.returns
returns c =
    let ps = c.args.pages.now in
    let ss = c.args.slots.now in
    let within : c.args.at < length ss = omega (arith, c.if-at-slots.false) in
    let unmade : get_or ps (c.args.at / 64) [] ≡ [] =
    elim c.match-get.branch [
      | in-Some+in_default-get w ↦ lacks_room ps ss c.args.at w.in-Some.rooms.now c.requires within w.in-Some.ensures.value
          (ap option_copied (sym w.in_default-get.is) ∙ w.get-in-Some.ensures.value)
      | in_default w ↦ none_at ps (c.args.at / 64) (ap option_copied (sym w.in_default.is) ∙ c.get.ensures.value)
    ]
    in
    start_seen ps ss c.args.at c.index-slots-at.result c.requires within unmade c.index-slots-at.is
