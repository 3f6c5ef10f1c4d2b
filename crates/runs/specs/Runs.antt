-- Runs: a start image and what was done to it, unit by unit.
use Rattle.std.specs.Prelude.{◌≡◌, ℕ, ◌+◌, ◌≤◌, Bool, true, false, List, [], ◌∷◌, ◌++◌, length, take}
use Rattle.machine.specs.declared.Event.{Event}
use Rattle.machine.specs.Kinds.{Kind, Fits}
use Rattle.landmark.specs.declared.Code.{Code}
use Rattle.landmark.specs.Markings.{Marking, most_units}
use Rattle.runs.specs.declared.Entry.{Entry}

-- what one unit of a run is: an instruction carried out, or an event taken
pub data Act : Type 0 where
  instruction : Act
  taking : Event → Act

-- a start image, and the units in their order
pub record Run : Type 0 where
  pub start : List ℕ
  pub acts : List Act

-- A moment: what a run has after some number of its units, an image and a landmark. Moment u is the one after u units.
pub record Moment : Type 0 where
  pub image : List ℕ
  pub mark : Code

-- how many units the run has
abbrev pub units : Run → ℕ
units r = length r.acts

-- the run with more units
abbrev pub longer : Run → List Act → Run
longer r acts = record { start = r.start; acts = r.acts ++ acts }

-- how many events the acts take
abbrev pub event_count : List Act → ℕ
event_count [] = 0
event_count (instruction ∷ acts) = event_count acts
event_count (taking e ∷ acts) = 1 + event_count acts

module _ (K : Kind) (L : Marking) where
  -- moment 0
  abbrev pub first : List ℕ → Moment
  first i = record { image = i; mark = L.start (K.place i) }

  -- the moment one unit on
  abbrev pub advance : Act → Moment → Moment
  advance instruction m = let i = K.next m.image in record { image = i; mark = L.after m.mark (K.place i) (K.transfers m.image) }
  advance (taking e) m = let i = K.taken e m.image in record { image = i; mark = L.after m.mark (K.place i) true }

  -- an instruction wants a machine that is not stopped, and an event one that is ready for it
  abbrev pub Possible : Act → Moment → Type 0
  Possible instruction m = K.stopped m.image ≡ false
  Possible (taking e) m = Fits e × (K.ready e m.image ≡ true)

  -- the moment after the acts, from a moment on
  abbrev pub moment_after : Moment → List Act → Moment
  moment_after m [] = m
  moment_after m (a ∷ acts) = moment_after (advance a m) acts

  -- each act is possible where it comes
  abbrev pub Goes : Moment → List Act → Type 0
  Goes m [] = Unit {0}
  Goes m (a ∷ acts) = Possible a m × Goes (advance a m) acts

  -- moment u of the run: image u and landmark u
  abbrev pub at : Run → ℕ → Moment
  at r u = moment_after (first r.start) (take u r.acts)

  -- the run is one that a machine of the kind can have, within the limits on units and events
  pub record IsRun (r : Run) : Type 0 where
    pub lawful : K.lawful r.start ≡ true
    pub goes : Goes (first r.start) r.acts
    pub few_units : units r ≤ most_units
    pub few_events : event_count r.acts ≤ 256

  -- the machine is stopped at the end of the run
  abbrev pub ends_stopped : Run → Bool
  ends_stopped r = K.stopped (at r (units r)).image

  -- the journal of the acts from a moment on: their events only, each with its landmark
  abbrev pub journal_from : Moment → List Act → List Entry
  journal_from m [] = []
  journal_from m (instruction ∷ acts) = journal_from (advance instruction m) acts
  journal_from m (taking e ∷ acts) = record { code = m.mark; event = e } ∷ journal_from (advance (taking e) m) acts

  -- the journal of the run
  abbrev pub journal_of : Run → List Entry
  journal_of r = journal_from (first r.start) r.acts
