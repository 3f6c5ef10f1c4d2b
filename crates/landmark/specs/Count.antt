-- The count kind of landmark: the units since the start.
use Rattle.std.specs.Prelude.{◌+◌, min, false, cond, ◌==◌, nat_lt}
use Rattle.landmark.specs.Markings.{Marking}
use Rattle.landmark.specs.Orders.{major_first}

-- 0, and the units since the start; a count at 4,294,967,295 rises no further
abbrev pub counting : Marking
counting = record {
  byte = 1;
  has = λ c. cond (c.major == 0) (nat_lt c.minor 4294967296) false;
  start = λ p. record { major = 0; minor = 0 };
  after = λ c p t. record { major = 0; minor = min (c.minor + 1) 4294967295 };
  order = major_first;
}
