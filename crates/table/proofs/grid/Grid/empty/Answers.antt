use Rattle.std.proofs.Common.{refl}
use Rattle.table.proofs.Moved.{empty_sound}
use Rattle.table.proofs.grid.Grid.empty.Goals as goal

pub returns : goal.returns
returns c =
    let e = c.empty_rows-rows.ensures in
    record {
      empty = record { accounts = refl; assets = refl; held = e };
      good = λ some few any fit. empty_sound c.args.accounts c.args.assets c.empty_rows-rows.result some few any fit e;
    }
