use Rattle.std.proofs.Common.{◌≡◌, ◌++◌, length, drop, sym, refl, ◌∙◌, zero-le}
use Rattle.races.specs.Listing.{all_races}
use Rattle.races.proofs.Listing.{race_list, nothing_put, kept, listed}
use Rattle.races.proofs.held.Held.list.Goals as goal

pub returns-then-races-needed : goal.returns-then-races-needed
returns-then-races-needed c =
    let rows = c.args.self.now.rows.now in
    let columns = c.args.self.now.columns.now in
    let nearests = c.args.self.now.nearests.now in
    record {
      kept = (c.if-races-needed.true, refl);
      found = c.count-needed.ensures;
      listed =
          λ D posted right near small. (
            all_races rows columns nearests,
            race_list rows columns nearests D posted right near small,
            c.count-needed.ensures,
          );
    }

pub returns-then-needed-eq0 : goal.returns-then-needed-eq0
returns-then-needed-eq0 c =
    let rows = c.args.self.now.rows.now in
    let columns = c.args.self.now.columns.now in
    let nearests = c.args.self.now.nearests.now in
    let places = c.args.races.now in
    let n = sym c.if-needed-eq0.true ∙ c.count-needed.ensures in
    let none : places ≡ all_races rows columns nearests ++ drop (length (all_races rows columns nearests)) places =
    nothing_put _ places (sym n)
    in
    record {
      kept = kept rows columns nearests places places 0 n zero-le none;
      found = listed rows columns nearests places places 0 n none;
      listed =
          λ D posted right near small. (
            all_races rows columns nearests,
            race_list rows columns nearests D posted right near small,
            listed rows columns nearests places places 0 n none,
          );
    }

pub returns : goal.returns
returns c =
    let rows = c.args.self.now.rows.now in
    let columns = c.args.self.now.columns.now in
    let nearests = c.args.self.now.nearests.now in
    let n = c.count-needed.ensures in
    record {
      kept =
          kept rows columns nearests c.args.races.now c.write_all.new.races c.count-needed.result n
          c.if-races-needed.false c.write_all.ensures;
      found =
          listed rows columns nearests c.args.races.now c.write_all.new.races c.count-needed.result n
          c.write_all.ensures;
      listed =
          λ D posted right near small. (
            all_races rows columns nearests,
            race_list rows columns nearests D posted right near small,
            listed rows columns nearests c.args.races.now c.write_all.new.races c.count-needed.result n
                c.write_all.ensures,
          );
    }
