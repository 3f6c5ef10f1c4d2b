-- What the landmarks of a run are, for the two kinds of landmark.
use Rattle.std.specs.Prelude.{◌≡◌, ℕ, ◌+◌, ◌≤◌, Bool, true, cond, List, [], ◌∷◌, take}
use Rattle.machine.specs.Kinds.{Kind}
use Rattle.landmark.specs.Markings.{Marking}
use Rattle.landmark.specs.Branch.{branching}
use Rattle.landmark.specs.Count.{counting}
use Rattle.runs.specs.Runs.{Act, instruction, taking, Run, Moment, IsRun, first, advance, at, units}

module _ (K : Kind) (L : Marking) where
  -- whether the unit is a transfer; a taken event always is
  abbrev pub is_transfer : Act → Moment → Bool
  is_transfer instruction m = K.transfers m.image
  is_transfer (taking e) m = true

  -- how many of the acts from a moment on are transfers
  abbrev pub transfers_from : Moment → List Act → ℕ
  transfers_from m [] = 0
  transfers_from m (a ∷ acts) = cond (is_transfer a m) 1 0 + transfers_from (advance K L a m) acts

  -- how many of the run's first u units are transfers
  abbrev pub transfers_in : Run → ℕ → ℕ
  transfers_in r u = transfers_from (first K L r.start) (take u r.acts)

-- landmark u of a run is (0, u) for the count kind, and for the branch kind the transfers among the first u units with the place at moment u
abbrev pub EveryLandmarkIsTold : Type 0
EveryLandmarkIsTold =
    (K : Kind) (r : Run) (u : ℕ) → u ≤ units r
    → (IsRun K counting r → (at K counting r u).mark ≡ record { major = 0; minor = u })
    × (IsRun K branching r → (at K branching r u).mark ≡ record { major = transfers_in K branching r u; minor = K.place (at K branching r u).image })
