-- What the reader of a recording answers of the first four checks, which need no guest.
use Rattle.std.specs.Prelude.{ℕ, List, Ok, Err, Result}
use Rattle.faults.specs.declared.FileFault.{FileFault}
use Rattle.runs.specs.Checks.{Finding, passed, failed, first_failed, check_1, check_2, check_3, check_4}

-- the first of the first four checks that fails, for the kinds that the two bytes name
abbrev pub start_check : ℕ → ℕ → List ℕ → Finding
start_check guest mark file = first_failed (check_1 file) (first_failed (check_2 file) (first_failed (check_3 file) (check_4 guest mark file)))

-- a finding, as a call answers it
abbrev pub answer_of : Finding → Result (Unit {0}) FileFault
answer_of passed = Ok tt
answer_of (failed f) = Err f
