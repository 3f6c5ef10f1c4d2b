-- What a kind of landmark is, and the laws that it keeps. Whatever is proved of sessions is proved of any kind that keeps them.
use Rattle.std.specs.Prelude.{◌≡◌, ℕ, ◌^◌, ◌<◌, Bool, true, false, cond, ◌⊎◌, List, [], ◌∷◌, ◌++◌, length, ◌==◌}
use Rattle.std.specs.declared.cmp.Ordering.TheVariants.{Less, Equal, Greater}
use Rattle.std.specs.declared.cmp.Ordering.{Ordering}
use Rattle.landmark.specs.declared.Code.{Code}

-- the most units that a run has
abbrev pub most_units : ℕ
most_units = 16777215

-- A kind of landmark. A landmark names one moment of a run. It means a code, and all that is said of it is fixed by the code.
pub record Marking : Type 0 where
  -- the landmark byte that names the kind in a recording, and which codes the kind has
  pub byte : ℕ
  pub has : Code → Bool
  -- the landmark of a start place, the one after a unit that led to a new place and was a transfer or not, and which of two comes first: less
  -- is before, equal is the same, and greater is after
  pub start : ℕ → Code
  pub after : Code → ℕ → Bool → Code
  pub order : Code → Code → Ordering

-- whether two codes are the same
abbrev pub same_code : Code → Code → Bool
same_code c d = cond (c.major == d.major) (c.minor == d.minor) false

-- a unit as a landmark sees it: the new place, and whether the unit was a transfer
abbrev pub Move : Type 0
Move = ℕ × Bool

module _ (L : Marking) where
  -- the landmark after the moves, in order
  abbrev pub marked : Code → List Move → Code
  marked c [] = c
  marked c (m ∷ ms) = marked (L.after c m.0 m.1) ms

-- each move is a transfer or goes above the place before it
abbrev pub Climbs : ℕ → List Move → Type 0
Climbs p [] = Unit {0}
Climbs p (m ∷ ms) = (∥ (m.1 ≡ true) ⊎ (p < m.0) ∥₁ × (m.0 < 2 ^ 32)) × Climbs m.0 ms

pub record LandmarkLaws (L : Marking) : Type 0 where
  -- the landmark byte is a byte, a code is two words of 32 bits, and each landmark's code is one that the kind has
  pub byte_fits : L.byte < 256
  pub has_fits : (c : Code) → L.has c ≡ true → (c.major < 2 ^ 32) × (c.minor < 2 ^ 32)
  pub start_has : (p : ℕ) → p < 2 ^ 32 → L.has (L.start p) ≡ true
  pub after_has : (c : Code) (p : ℕ) (t : Bool) → L.has c ≡ true → p < 2 ^ 32 → L.has (L.after c p t) ≡ true
  -- same means equal codes, after is before seen from the other side, and before carries over from pair to pair
  pub same_is : (c d : Code) → L.has c ≡ true → L.has d ≡ true → (L.order c d ≡ Equal → c ≡ d) × (c ≡ d → L.order c d ≡ Equal)
  pub mirrored : (c d : Code) → L.has c ≡ true → L.has d ≡ true → (L.order c d ≡ Less → L.order d c ≡ Greater) × (L.order c d ≡ Greater → L.order d c ≡ Less)
  pub carries : (c d e : Code) → L.has c ≡ true → L.has d ≡ true → L.has e ≡ true → L.order c d ≡ Less → L.order d e ≡ Less → L.order c e ≡ Less
  -- along at most 16,777,215 climbing moves from a start place, each landmark is later than the one before
  pub climbs : (p : ℕ) (ms : List Move) (q : ℕ) (t : Bool) → p < 2 ^ 32 → Climbs p (ms ++ ((q, t) ∷ [])) → length ms < most_units → L.order (marked L (L.start p) ms) (L.after (marked L (L.start p) ms) q t) ≡ Less
