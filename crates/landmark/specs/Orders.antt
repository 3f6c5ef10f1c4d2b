-- The order of codes that both kinds of landmark use.
use Rattle.std.specs.Prelude.{cond, nat_lt}
use Rattle.std.specs.declared.cmp.Ordering.TheVariants.{Less, Equal, Greater}
use Rattle.std.specs.declared.cmp.Ordering.{Ordering}
use Rattle.landmark.specs.declared.Code.{Code}

-- codes by major, and where that is the same by minor
abbrev pub major_first : Code → Code → Ordering
major_first c d =
    cond (nat_lt c.major d.major) Less
    (cond (nat_lt d.major c.major) Greater
    (cond (nat_lt c.minor d.minor) Less
    (cond (nat_lt d.minor c.minor) Greater Equal)))
