-- Which checkpoint a move begins at.
use Rattle.std.specs.Prelude.{ℕ, Bool, true, false, cond, List, [], ◌∷◌, ◌==◌, nat_le}
use Rattle.std.specs.declared.cmp.Ordering.TheVariants.{Less, Equal, Greater}
use Rattle.std.specs.declared.cmp.Ordering.{Ordering}
use Rattle.landmark.specs.declared.Code.{Code}
use Rattle.landmark.specs.Markings.{Marking}
use Rattle.replay.specs.Positions.{Position}

-- where a move is to go: to a unit, or to the unit that has a code
pub data Aim : Type 0 where
  to_unit : ℕ → Aim
  to_code : Code → Aim

abbrev pub not_after : Ordering → Bool
not_after Less = true
not_after Equal = true
not_after Greater = false

-- whether a position is not past the aim
abbrev pub is_not_past : Marking → Aim → Position → Bool
is_not_past L (to_unit v) p = nat_le p.unit v
is_not_past L (to_code c) p = cond (L.has p.moment.mark) (not_after (L.order p.moment.mark c)) false

-- the later of two positions, of those that are not past the aim
abbrev pub closer : Marking → Aim → Position → Position → Position
closer L aim b p = cond (is_not_past L aim p) (cond (nat_le b.unit p.unit) p b) b

-- the latest position that is not past the aim, or the one to begin with
abbrev pub nearest : Marking → Aim → Position → List Position → Position
nearest L aim b [] = b
nearest L aim b (p ∷ ps) = nearest L aim (closer L aim b p) ps

-- the first position, or another where there is none
abbrev pub first_or : Position → List Position → Position
first_or d [] = d
first_or d (p ∷ ps) = p

-- whether a position of the list has the unit
abbrev pub has_unit : ℕ → List Position → Bool
has_unit u [] = false
has_unit u (p ∷ ps) = cond (p.unit == u) true (has_unit u ps)
