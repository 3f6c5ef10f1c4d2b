-- The branch kind of landmark: the transfers since the start, and the place.
use Rattle.std.specs.Prelude.{◌+◌, min, false, cond, nat_lt}
use Rattle.landmark.specs.Markings.{Marking}
use Rattle.landmark.specs.Orders.{major_first}

-- the transfers since the start, and the place; a count at 4,294,967,295 rises no further
abbrev pub branching : Marking
branching = record {
  byte = 2;
  has = λ c. cond (nat_lt c.major 4294967296) (nat_lt c.minor 4294967296) false;
  start = λ p. record { major = 0; minor = p };
  after = λ c p t. record { major = cond t (min (c.major + 1) 4294967295) c.major; minor = p };
  order = major_first;
}
