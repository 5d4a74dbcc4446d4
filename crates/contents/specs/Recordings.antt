-- What a value that was read says.
use Rattle.std.specs.Prelude.{vec_items}
use Rattle.contents.specs.declared.recorded.Recording.{Recording}
use Rattle.recording.specs.Disciplines.{discipline_number}
use Rattle.files.specs.Files.{Contents}

abbrev pub contents_of : Recording → Contents
contents_of r =
    record { discipline = discipline_number r.discipline; mask = r.mask; rows = vec_items r.rows }
