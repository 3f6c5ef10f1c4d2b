-- Traces: the calls of a history with what they answered. A trace alone tells the run, the unit and the kept units to which the calls have led.
use Rattle.std.specs.Prelude.{◌≡◌, ℕ, ◌+◌, ◌≤◌, Bool, true, false, cond, ◌⊎◌, List, [], ◌∷◌, ◌++◌, replicate}
use Rattle.machine.specs.Bytes.{Bytes}
use Rattle.machine.specs.Kinds.{Kind, Fits}
use Rattle.landmark.specs.declared.Code.{Code}
use Rattle.landmark.specs.Markings.{Marking}
use Rattle.runs.specs.Runs.{Run, Act, instruction, taking, at, units, longer}
use Rattle.runs.specs.Lamps.{Among}
use Rattle.runs.specs.Tells.{Tells}
use Rattle.runs.specs.Sessions.{Mode, recording, replaying, State, Call, RunFor, Interrupt, Keep, Finish, Resume, Seek, Back, Forward, Trail, Write, Show, Load, Answer, done, count, listed, written, shown, refused, Does, opened}

-- a call with its answer
abbrev pub Exchange : Type 0
Exchange = Call × Answer

-- the exchanges of a history, the first one first
abbrev pub Trace : Type 0
Trace = List Exchange

module _ (K : Kind) (L : Marking) where
  -- the exchanges lead from a session to a session, each as its call does
  pub data Leads : State → Trace → State → Type 0 where
    none : {s : State} → Leads s [] s
    then : {s u : State} {c : Call} {a : Answer} {tr : Trace} (t : State) → Does K L s c a t → Leads t tr u → Leads s ((c, a) ∷ tr) u

  -- the trace is that of a history begun by record on a machine with image i
  abbrev pub TraceOf : List ℕ → Trace → Type 0
  TraceOf i tr = (K.lawful i ≡ true) × ((s : State) × Leads (opened i) tr s)

-- the call was not refused
abbrev pub succeeded : Answer → Bool
succeeded done = true
succeeded (count n) = true
succeeded (listed n list) = true
succeeded (written n buffer) = true
succeeded (shown u c buffer) = true
succeeded (refused f memory) = false

-- the number that was answered
abbrev pub counted : Answer → ℕ
counted done = 0
counted (count n) = n
counted (listed n list) = n
counted (written n buffer) = n
counted (shown u c buffer) = 0
counted (refused f memory) = 0

-- what an exchange does to the run, told of the call
pub data Sort : Type 0 where
  records : Sort
  resumes : Sort
  moves : Sort
  keeps : Sort
  looks : Sort
  turns : Sort
  loads : Sort

-- run and interrupt record; seek, back and forward move; trail, write and show only look
abbrev pub sort : Call → Sort
sort (RunFor k) = records
sort (Interrupt e) = records
sort Keep = keeps
sort Finish = turns
sort Resume = resumes
sort (Seek c) = moves
sort (Back n) = moves
sort (Forward n) = moves
sort (Trail list) = looks
sort (Write buffer) = looks
sort (Show buffer) = looks
sort (Load file) = loads

-- the units that a call recorded: an answered run its count of instructions, and an answered interrupt its event
abbrev pub recorded : Call → Answer → List Act
recorded (RunFor k) a = replicate (counted a) instruction
recorded (Interrupt e) a = cond (succeeded a) (taking e ∷ []) []
recorded Keep a = []
recorded Finish a = []
recorded Resume a = []
recorded (Seek c) a = []
recorded (Back n) a = []
recorded (Forward n) a = []
recorded (Trail list) a = []
recorded (Write buffer) a = []
recorded (Show buffer) a = []
recorded (Load file) a = []

-- the units that the trace recorded
abbrev pub added : Trace → List Act
added [] = []
added (x ∷ tr) = recorded x.0 x.1 ++ added tr

-- no load of the trace succeeded
abbrev pub LoadedNone : Trace → Type 0
LoadedNone [] = Unit {0}
LoadedNone (x ∷ tr) = ((¬ (sort x.0 ≡ loads)) ⊎ (succeeded x.1 ≡ false)) × LoadedNone tr

-- the trace has no load at all
abbrev pub WithoutLoad : Trace → Type 0
WithoutLoad [] = Unit {0}
WithoutLoad (x ∷ tr) = (¬ (sort x.0 ≡ loads)) × WithoutLoad tr

-- the mode to which the calls have led: finish and resume turn it
abbrev pub turned : Call → Mode → Mode
turned (RunFor k) m = m
turned (Interrupt e) m = m
turned Keep m = m
turned Finish m = replaying
turned Resume m = recording
turned (Seek c) m = m
turned (Back n) m = m
turned (Forward n) m = m
turned (Trail list) m = m
turned (Write buffer) m = m
turned (Show buffer) m = m
turned (Load file) m = m

abbrev pub mode_from : Mode → Trace → Mode
mode_from m [] = m
mode_from m (x ∷ tr) = mode_from (turned x.0 m) tr

abbrev pub mode_of : Trace → Mode
mode_of tr = mode_from recording tr

-- the exchange moves no present unit: it was refused, or its call turns the session, keeps or only looks
abbrev pub Stays : Call → Answer → Type 0
Stays c a = (succeeded a ≡ false) ⊎ (sort c ≡ turns) ⊎ (sort c ≡ keeps) ⊎ (sort c ≡ looks)

-- the exchange leaves the kept units: it was refused, or its call is neither keep nor load
abbrev pub KeepsAll : Call → Answer → Type 0
KeepsAll c a = (succeeded a ≡ false) ⊎ ((¬ (sort c ≡ keeps)) × (¬ (sort c ≡ loads)))

-- the calls that a session takes in a mode
abbrev pub Allowed : Mode → Call → Type 0
Allowed m (RunFor k) = m ≡ recording
Allowed m (Interrupt e) = m ≡ recording
Allowed m Keep = Unit {0}
Allowed m Finish = m ≡ recording
Allowed m Resume = m ≡ replaying
Allowed m (Seek c) = m ≡ replaying
Allowed m (Back n) = m ≡ replaying
Allowed m (Forward n) = m ≡ replaying
Allowed m (Trail list) = m ≡ replaying
Allowed m (Write buffer) = m ≡ replaying
Allowed m (Show buffer) = Unit {0}
Allowed m (Load file) = m ≡ replaying

-- what can be handed to a call: an event's data is a byte, and a file is bytes
abbrev pub Given : Call → Type 0
Given (RunFor k) = Unit {0}
Given (Interrupt e) = Fits e
Given Keep = Unit {0}
Given Finish = Unit {0}
Given Resume = Unit {0}
Given (Seek c) = Unit {0}
Given (Back n) = Unit {0}
Given (Forward n) = Unit {0}
Given (Trail list) = Unit {0}
Given (Write buffer) = Unit {0}
Given (Show buffer) = Unit {0}
Given (Load file) = Bytes file

module _ (K : Kind) (L : Marking) where
  -- the run to which the calls have led: the one begun, or the one that the last successful load's file tells, with the units added since
  pub data RunOf (i : List ℕ) (tr : Trace) (r : Run) : Type 0 where
    begun : LoadedNone tr → r ≡ record { start = i; acts = added tr } → RunOf i tr r
    last_loaded :
        (before : Trace) (file : List ℕ) (n : ℕ) (since : Trace) (b : Run)
        → tr ≡ before ++ ((Load file, count n) ∷ since) → LoadedNone since → Tells K L file b → r ≡ longer b (added since) → RunOf i tr r

  -- The unit to which the calls have led, by the last of them. At first, and after a successful load, it is 0. After a successful run, interrupt
  -- or resume it is the run's last; after a successful seek, the one with the landmark sought; after back or forward, so many from the one
  -- before. Any other call leaves it.
  pub data UnitOf (i : List ℕ) : Trace → ℕ → Type 0 where
    at_first : UnitOf i [] 0
    at_load : {tr : Trace} (before : Trace) (file : List ℕ) (n : ℕ) → tr ≡ before ++ ((Load file, count n) ∷ []) → UnitOf i tr 0
    at_recorded : {tr : Trace} {u : ℕ} (before : Trace) (c : Call) (a : Answer) (r : Run) → tr ≡ before ++ ((c, a) ∷ []) → sort c ≡ records → succeeded a ≡ true → RunOf i tr r → u ≡ units r → UnitOf i tr u
    at_resumed : {tr : Trace} {u : ℕ} (before : Trace) (r : Run) → tr ≡ before ++ ((Resume, done) ∷ []) → RunOf i tr r → u ≡ units r → UnitOf i tr u
    at_sought : {tr : Trace} {u : ℕ} (before : Trace) (d : Code) (n : ℕ) (r : Run) → tr ≡ before ++ ((Seek d, count n) ∷ []) → RunOf i before r → u ≤ units r → (at K L r u).mark ≡ d → UnitOf i tr u
    at_back : {tr : Trace} {u v : ℕ} (before : Trace) (n k : ℕ) → tr ≡ before ++ ((Back n, count k) ∷ []) → UnitOf i before v → u + n ≡ v → UnitOf i tr u
    at_forward : {tr : Trace} {u v : ℕ} (before : Trace) (n k : ℕ) → tr ≡ before ++ ((Forward n, count k) ∷ []) → UnitOf i before v → u ≡ v + n → UnitOf i tr u
    left_at : {tr : Trace} {u : ℕ} (before : Trace) (c : Call) (a : Answer) → tr ≡ before ++ ((c, a) ∷ []) → (Stays c a) → UnitOf i before u → UnitOf i tr u

  -- the units that are kept: 0 at first and after a successful load, and each one that a successful keep found new
  pub data KeptOf (i : List ℕ) : Trace → List ℕ → Type 0 where
    kept_first : KeptOf i [] (0 ∷ [])
    kept_load : {tr : Trace} (before : Trace) (file : List ℕ) (n : ℕ) → tr ≡ before ++ ((Load file, count n) ∷ []) → KeptOf i tr (0 ∷ [])
    kept_new : {tr : Trace} {us ks : List ℕ} (before : Trace) (n u : ℕ) → tr ≡ before ++ ((Keep, count n) ∷ []) → KeptOf i before ks → UnitOf i before u → ¬ Among u ks → us ≡ ks ++ (u ∷ []) → KeptOf i tr us
    kept_already : {tr : Trace} {ks : List ℕ} (before : Trace) (n u : ℕ) → tr ≡ before ++ ((Keep, count n) ∷ []) → KeptOf i before ks → UnitOf i before u → Among u ks → KeptOf i tr ks
    kept_same : {tr : Trace} {ks : List ℕ} (before : Trace) (c : Call) (a : Answer) → tr ≡ before ++ ((c, a) ∷ []) → KeepsAll c a → KeptOf i before ks → KeptOf i tr ks
