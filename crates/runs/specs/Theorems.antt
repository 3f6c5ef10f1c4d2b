-- What else is proved of every kind: journals replay their runs, a load's checks decide what a file tells and where it is wrong, a list of lamp
-- changes is one, and histories are fixed by their calls.
use Rattle.std.specs.Prelude.{◌≡◌, ℕ, ◌+◌, ◌≤◌, true, List, [], ◌∷◌, take, drop}
use Rattle.machine.specs.Bytes.{Bytes}
use Rattle.machine.specs.Kinds.{Kind, MachineLaws}
use Rattle.landmark.specs.declared.Code.{Code}
use Rattle.landmark.specs.Markings.{Marking, LandmarkLaws}
use Rattle.faults.specs.declared.FileFault.{FileFault}
use Rattle.faults.specs.declared.SessionFault.TheVariants.{InFile, Unreached}
use Rattle.faults.specs.Refusals.{file_refusal}
use Rattle.runs.specs.declared.LampChange.{LampChange}
use Rattle.runs.specs.declared.Entry.{Entry}
use Rattle.runs.specs.Runs.{Run, IsRun, at, units, event_count, journal_of}
use Rattle.runs.specs.Lamps.{ListsExactly, trail_of}
use Rattle.runs.specs.Files.{file_of}
use Rattle.runs.specs.Tells.{Tells}
use Rattle.runs.specs.Forms.{HoldsBelow, Breaks}
use Rattle.runs.specs.Sessions.{State, Call, opened}
use Rattle.runs.specs.Traces.{Trace, Leads}
use Rattle.runs.specs.Breaks.{Spells, BreaksOffAt}
use Rattle.runs.specs.Replays.{replayed}
use Rattle.runs.specs.Checks.{verdict, ok, wrong, passed, check_form, entry}

-- from any moment of a run, with the journal that is left there, n units of replay come to the moment n units on, with the journal left there
abbrev pub EveryJournalReplays : Type 0
EveryJournalReplays =
    (K : Kind) (L : Marking) → MachineLaws K → LandmarkLaws L
    → (r : Run) (u n : ℕ) → IsRun K L r → u + n ≤ units r
    → replayed K L n (at K L r u) (drop (event_count (take u r.acts)) (journal_of K L r))
    ≡ (at K L r (u + n), drop (event_count (take (u + n) r.acts)) (journal_of K L r))

-- the lamp changes of a run up to a moment are listed by one list, and by no other
abbrev pub EveryTrailIsExact : Type 0
EveryTrailIsExact =
    (K : Kind) (L : Marking) (r : Run) (u : ℕ) → u ≤ units r
    → ListsExactly K L r u (trail_of K L r u) × ((xs : List LampChange) → ListsExactly K L r u xs → xs ≡ trail_of K L r u)

-- the checks pass a file, and give a run, exactly where the file tells of the run, and then it is the run's file
abbrev pub EveryLoadIsDecided : Type 0
EveryLoadIsDecided =
    (K : Kind) (L : Marking) → MachineLaws K → LandmarkLaws L
    → (file : List ℕ) → Bytes file → (r : Run)
    → (verdict K L file ≡ ok r → Tells K L file r)
    × (Tells K L file r → verdict K L file ≡ ok r)
    × (Tells K L file r → file ≡ file_of K L r)
    × (IsRun K L r → Tells K L (file_of K L r) r)

-- the first eight checks pass a file exactly where it spells a start image, a journal and a last landmark
abbrev pub EveryFormIsChecked : Type 0
EveryFormIsChecked =
    (K : Kind) (L : Marking) → MachineLaws K → LandmarkLaws L
    → (file : List ℕ) → Bytes file
    → (check_form K L file ≡ passed → (start : List ℕ) × (journal : List Entry) × (last : Code) × Spells K L file start journal last)
    × ((start : List ℕ) (journal : List Entry) (last : Code) → Spells K L file start journal last → check_form K L file ≡ passed)

-- a file is refused by one of the first eight checks exactly where the sentences of those before it hold, and its own breaks first at the place
-- that the refusal names
abbrev pub EveryFaultIsFirst : Type 0
EveryFaultIsFirst =
    (K : Kind) (L : Marking) (file : List ℕ) (f : FileFault)
    → (verdict K L file ≡ wrong (InFile f) → HoldsBelow K L (file_refusal f).number file × Breaks K L file f)
    × (HoldsBelow K L (file_refusal f).number file × Breaks K L file f → verdict K L file ≡ wrong (InFile f))

-- the ninth check refuses a file at event i (or, where i is the number of events, at the last landmark) exactly where the file passes the others
-- and the run that it tells breaks off there
abbrev pub EveryBreakIsFound : Type 0
EveryBreakIsFound =
    (K : Kind) (L : Marking) → MachineLaws K → LandmarkLaws L
    → (file : List ℕ) → Bytes file → (i : ℕ)
    → (verdict K L file ≡ wrong (Unreached (entry K L i)) → BreaksOffAt K L file i)
    × (BreaksOffAt K L file i → verdict K L file ≡ wrong (Unreached (entry K L i)))

-- the calls of a trace
abbrev pub calls : Trace → List Call
calls [] = []
calls (x ∷ tr) = x.0 ∷ calls tr

-- the machine's image and the calls' arguments alone fix the answers, and the session that the calls lead to: its run, its present unit, its
-- kept units and its mode
abbrev pub EveryHistoryIsFixed : Type 0
EveryHistoryIsFixed =
    (K : Kind) (L : Marking) → MachineLaws K → LandmarkLaws L
    → (i : List ℕ) (xs ys : Trace) (s t : State) → K.lawful i ≡ true → Leads K L (opened i) xs s → Leads K L (opened i) ys t
    → calls xs ≡ calls ys → (xs ≡ ys) × (s ≡ t)
