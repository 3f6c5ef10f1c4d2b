-- The lamp changes of a run.
use Rattle.std.specs.Prelude.{◌≡◌, ℕ, ◌+◌, ◌<◌, cond, ◌⊎◌, List, [], ◌∷◌, take, ◌==◌}
use Rattle.machine.specs.Kinds.{Kind}
use Rattle.landmark.specs.Markings.{Marking}
use Rattle.runs.specs.declared.LampChange.{LampChange}
use Rattle.runs.specs.Runs.{Act, Run, Moment, first, advance, at}

-- the element is one of the list
abbrev pub Among : {A : Type 0} → A → List A → Type 0
Among x [] = ⊥
Among x (y ∷ ys) = (x ≡ y) ⊎ Among x ys

-- no element stands in the list twice
abbrev pub Distinct : {A : Type 0} → List A → Type 0
Distinct [] = Unit {0}
Distinct (x ∷ xs) = (¬ Among x xs) × Distinct xs

-- the units of the changes rise, each above the one before, the first above u
abbrev pub UnitsRise : ℕ → List LampChange → Type 0
UnitsRise u [] = Unit {0}
UnitsRise u (x ∷ xs) = (u < x.unit) × UnitsRise x.unit xs

module _ (K : Kind) (L : Marking) where
  -- the lamp byte at moment u
  abbrev pub lamp_at : Run → ℕ → ℕ
  lamp_at r u = K.lamp (at K L r u).image

  -- the entry is that of a unit, from 1 to u, after which the lamp byte differs from before, with that unit's landmark and its new byte
  pub record IsChange (r : Run) (u : ℕ) (x : LampChange) : Type 0 where
    pub before : ℕ
    pub unit_is : x.unit ≡ before + 1
    pub within : before < u
    pub differs : ¬ (lamp_at r before ≡ lamp_at r (before + 1))
    pub code_is : x.code ≡ (at K L r (before + 1)).mark
    pub lamp_is : x.lamp ≡ lamp_at r (before + 1)

  -- the list has the run's lamp changes up to moment u, each once and in order, and nothing else
  pub record ListsExactly (r : Run) (u : ℕ) (xs : List LampChange) : Type 0 where
    pub only : (x : LampChange) → Among x xs → IsChange r u x
    pub every : (v : ℕ) → v < u → ¬ (lamp_at r v ≡ lamp_at r (v + 1)) → (x : LampChange) × Among x xs × (x.unit ≡ v + 1)
    pub rising : UnitsRise 0 xs

  -- the lamp changes of the acts from a moment on, which is moment u
  unfoldable pub changes_from : ℕ → Moment → List Act → List LampChange
  changes_from u m [] = []
  changes_from u m (a ∷ acts) =
      let n = advance K L a m in
      let rest = changes_from (u + 1) n acts in
      cond (K.lamp m.image == K.lamp n.image) rest (record { unit = u + 1; code = n.mark; lamp = K.lamp n.image } ∷ rest)

  -- the lamp changes of the run up to moment u
  abbrev pub trail_of : Run → ℕ → List LampChange
  trail_of r u = changes_from 0 (first K L r.start) (take u r.acts)
