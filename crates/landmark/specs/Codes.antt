-- A code as it is printed.
use Rattle.std.specs.Prelude.{ℕ, List, ◌++◌, codes, decimal}
use Rattle.landmark.specs.declared.Code.{Code}

abbrev pub told : Code → List ℕ
told c = codes "(" ++ (decimal c.major ++ (codes ", " ++ (decimal c.minor ++ codes ")")))
