-- What the table's letters and digits mean.
use Rattle.std.specs.Prelude.{ℕ, ◌+◌, ◌-◌, Bool, true, false, cond, ◌&&◌, List, Some, None, Option, nat_le}
use Rattle.machine.specs.Kinds.{Kind}
use Rattle.machine.specs.Faults.{step_answer}
use Rattle.rv32i_tests.specs.declared.cases.Action.{Action}
use Rattle.rv32i_tests.specs.declared.cases.Action.TheVariants.{Step, Take}

-- a hexadecimal digit: 0 to 9 and a to f
abbrev pub digit_of : ℕ → Option ℕ
digit_of b = cond (nat_le 48 b && nat_le b 57) (Some (b - 48)) (cond (nat_le 97 b && nat_le b 102) (Some (b - 97 + 10)) None)

-- the unit that an action is, if any, and whether it is a transfer
abbrev pub unit_of : Kind → Action → List ℕ → Option Bool
unit_of K Step i = step_answer K i
unit_of K (Take e) i = cond (K.ready e i) (Some true) None

-- `-`, `t` or `n`
abbrev pub letter_of : Option Bool → ℕ
letter_of None = 45
letter_of (Some true) = 116
letter_of (Some false) = 110
