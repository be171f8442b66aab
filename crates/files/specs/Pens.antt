-- What a pen stands over.
use Rattle.files.specs.declared.pen.Pen.{Pen}
use Rattle.files.specs.Sheets.{Sheet}

-- the bytes, and how many are written
abbrev pub sheet : Pen → Sheet
sheet p = record { bytes = p.out.now; count = p.count }
