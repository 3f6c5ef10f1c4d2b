-- The recording file of a run.
use Rattle.std.specs.Prelude.{ℕ, ◌+◌, ◌*◌, ◌/◌, ◌%◌, List, [], ◌∷◌, ◌++◌, length}
use Rattle.machine.specs.declared.Event.{Event}
use Rattle.machine.specs.declared.Event.TheVariants.{Timer, Switch}
use Rattle.machine.specs.Kinds.{Kind}
use Rattle.landmark.specs.declared.Code.{Code}
use Rattle.landmark.specs.Markings.{Marking}
use Rattle.runs.specs.declared.Entry.{Entry}
use Rattle.runs.specs.Runs.{Run, at, units, journal_of}

-- a number in two bytes and in four, the high byte first
abbrev pub two : ℕ → List ℕ
two n = (n / 256) % 256 ∷ n % 256 ∷ []

abbrev pub four : ℕ → List ℕ
four n = two (n / 65536) ++ two n

-- major and minor
abbrev pub code_bytes : Code → List ℕ
code_bytes c = four c.major ++ four c.minor

-- kind and data: 1 and 0 for Timer, 2 and its data for Switch
abbrev pub event_bytes : Event → List ℕ
event_bytes Timer = 1 ∷ 0 ∷ []
event_bytes (Switch d) = 2 ∷ d ∷ []

-- the journal, ten bytes an entry: landmark, kind and data
abbrev pub journal_bytes : List Entry → List ℕ
journal_bytes [] = []
journal_bytes (e ∷ es) = code_bytes e.code ++ (event_bytes e.event ++ journal_bytes es)

module _ (K : Kind) (L : Marking) where
  -- the bytes of a start image, a journal and a last landmark: version, length of the whole, guest byte, landmark byte, image length, image,
  -- event count, events, last landmark
  abbrev pub file_bytes : List ℕ → List Entry → Code → List ℕ
  file_bytes start journal last =
      (1 ∷ four (21 + K.size + 10 * length journal))
      ++ ((K.guest ∷ L.byte ∷ four K.size) ++ (start ++ (two (length journal) ++ (journal_bytes journal ++ code_bytes last))))

  -- the file of the run
  unfoldable pub file_of : Run → List ℕ
  file_of r = file_bytes r.start (journal_of K L r) (at K L r (units r)).mark
