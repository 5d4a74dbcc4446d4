use Rattle.rules.specs.declared.race.RaceRow.{RaceRow}
use Rattle.reporting.proofs.MoreRaces.{in_at, always_ok}
use Rattle.reporting.proofs.lines.push_races.Goals as goal

pub unwrap-race-requires : goal.unwrap-race-requires
unwrap-race-requires c =
    let blank : RaceRow = record { earlier = 0; later = 0; class = 0 } in
    always_ok c.try_from.result _ _ c.try_from.ensures
    (c.requires _ (in_at c.args.races.now c.loop-row.row-index blank c.loop-row-test.true))
