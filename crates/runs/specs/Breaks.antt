-- What a file spells, and where the run that it tells breaks off.
use Rattle.std.specs.Prelude.{◌≡◌, ℕ, ◌<◌, ◌≤◌, true, ◌⊎◌, List, [], ◌∷◌, ◌++◌, length, take, drop, replicate}
use Rattle.machine.specs.declared.Event.{Event}
use Rattle.machine.specs.Kinds.{Kind, Fits}
use Rattle.landmark.specs.declared.Code.{Code}
use Rattle.landmark.specs.Markings.{Marking, most_units}
use Rattle.runs.specs.declared.Entry.{Entry}
use Rattle.runs.specs.Runs.{Run, Act, instruction, taking, IsRun, at, units, journal_of, longer}
use Rattle.runs.specs.Files.{file_bytes}

module _ (K : Kind) (L : Marking) where
  -- each entry's event has a byte for its data, and the landmark kind has its code
  abbrev pub EntriesKnown : List Entry → Type 0
  EntriesKnown [] = Unit {0}
  EntriesKnown (e ∷ es) = (L.has e.code ≡ true) × Fits e.event × EntriesKnown es

  -- the file is that of a lawful start image, at most 256 known entries and a last landmark whose code the landmark kind has
  pub record Spells (file start : List ℕ) (journal : List Entry) (last : Code) : Type 0 where
    pub bytes : file ≡ file_bytes K L start journal last
    pub lawful : K.lawful start ≡ true
    pub few_events : length journal ≤ 256
    pub known : EntriesKnown journal
    pub last_code : L.has last ≡ true

  -- a run from the start image that takes these events, each at its landmark, and no others
  pub record TakesJust (start : List ℕ) (journal : List Entry) (r : Run) : Type 0 where
    pub is_run : IsRun K L r
    pub starts : r.start ≡ start
    pub took : journal_of K L r ≡ journal

  -- the run ends where the first of the events left has its landmark, ready and with a unit to spare for it, or where no event is left at the
  -- last landmark
  abbrev pub Arrives : Run → List Entry → Code → Type 0
  Arrives r [] last = (at K L r (units r)).mark ≡ last
  Arrives r (e ∷ es) last =
      ((at K L r (units r)).mark ≡ e.code) × (K.ready e.event (at K L r (units r)).image ≡ true) × (units r < most_units)

  -- the run has no units, or its last unit takes an event
  abbrev pub EndsWithEvent : Run → Type 0
  EndsWithEvent r = (r.acts ≡ []) ⊎ ((before : List Act) × (e : Event) × (r.acts ≡ before ++ (taking e ∷ [])))

  -- the events before event i can be taken, each at its landmark, but from the last of them on no number of instructions leads to where event i
  -- can be taken, or, where i is the number of events, to the last landmark
  pub record BreaksOff (start : List ℕ) (journal : List Entry) (last : Code) (i : ℕ) : Type 0 where
    pub inside : i ≤ length journal
    pub so_far : Run
    pub takes : TakesJust start (take i journal) so_far
    pub ends : EndsWithEvent so_far
    pub no_further : (j : ℕ) → IsRun K L (longer so_far (replicate j instruction)) → ¬ Arrives (longer so_far (replicate j instruction)) (drop i journal) last

  -- the file spells a start image, a journal and a last landmark that break off at event i
  abbrev pub BreaksOffAt : List ℕ → ℕ → Type 0
  BreaksOffAt file i = (start : List ℕ) × (journal : List Entry) × (last : Code) × Spells file start journal last × BreaksOff start journal last i
