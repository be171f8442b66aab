-- The number and the place that each stop is told by.
use Rattle.std.specs.Prelude.{ℕ, List, ◌++◌, decimal, codes}
use Rattle.networks.specs.declared.stops.Stop.{Stop}
use Rattle.networks.specs.declared.stops.Stop.TheVariants.{Counts, Lengths, Ends, Cost, Flow, Imbalance, Bounds, Absent, Held, Fixed, Full, NotOut, Kilter}

abbrev pub told : Stop → ℕ × ℕ
told Counts = (1, 0)
told Lengths = (2, 0)
told (Ends a) = (3, a)
told (Cost a) = (4, a)
told (Flow a) = (5, a)
told (Imbalance n) = (6, n)
told (Bounds a) = (7, a)
told (Absent n) = (8, n)
told (Held a) = (9, a)
told (Fixed a) = (10, a)
told Full = (11, 0)
told (NotOut a) = (12, a)
told (Kilter a) = (14, a)

-- how a stop is printed: its number, a blank, and its place
abbrev pub stop_text : Stop → List ℕ
stop_text s = decimal (told s).0 ++ codes " " ++ decimal (told s).1
