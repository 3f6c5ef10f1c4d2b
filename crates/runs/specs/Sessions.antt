-- Sessions: what each call answers, and to which run and moment it leads.
use Rattle.std.specs.Prelude.{◌≡◌, ℕ, ◌+◌, ◌-◌, ◌<◌, ◌≤◌, max, true, false, cond, ◌⊎◌, List, [], ◌∷◌, ◌++◌, length, replicate, nat_le}
use Rattle.machine.specs.declared.Event.{Event}
use Rattle.machine.specs.declared.GuestFault.TheVariants.{ShortBuffer}
use Rattle.machine.specs.Bytes.{over}
use Rattle.machine.specs.Kinds.{Kind, Fits}
use Rattle.landmark.specs.declared.Code.{Code}
use Rattle.landmark.specs.Markings.{Marking, most_units}
use Rattle.faults.specs.declared.SessionFault.{SessionFault}
use Rattle.faults.specs.declared.SessionFault.TheVariants.{OfGuest, Stopped, RunFull, JournalFull, NotReady, KeptFull, NoSuchMoment, OutsideRun, ShortMemory}
use Rattle.runs.specs.declared.LampChange.{LampChange}
use Rattle.runs.specs.Runs.{Run, Act, instruction, taking, at, units, longer, IsRun, event_count, ends_stopped}
use Rattle.runs.specs.Lamps.{Among, Distinct, trail_of}
use Rattle.runs.specs.Files.{file_of}
use Rattle.runs.specs.Tells.{Tells}
use Rattle.runs.specs.Checks.{verdict, wrong}

-- a session is recording or replaying
pub data Mode : Type 0 where
  recording : Mode
  replaying : Mode

-- what a session holds: its run, the present unit, and the kept units, to which it can go back at once
pub record State : Type 0 where
  pub mode : Mode
  pub run : Run
  pub present : ℕ
  pub kept : List ℕ

-- the calls, with what each brings: a count, an event, a code, or memory; RunFor is the call to carry out at most so many instructions
pub data Call : Type 0 where
  RunFor : ℕ → Call
  Interrupt : Event → Call
  Keep : Call
  Finish : Call
  Resume : Call
  Seek : Code → Call
  Back : ℕ → Call
  Forward : ℕ → Call
  Trail : List LampChange → Call
  Write : List ℕ → Call
  Show : List ℕ → Call
  Load : List ℕ → Call

-- the memory that a call is supplied
pub data Memory : Type 0 where
  nothing : Memory
  entries : List LampChange → Memory
  bytes : List ℕ → Memory

abbrev pub supplied : Call → Memory
supplied (RunFor k) = nothing
supplied (Interrupt e) = nothing
supplied Keep = nothing
supplied Finish = nothing
supplied Resume = nothing
supplied (Seek c) = nothing
supplied (Back n) = nothing
supplied (Forward n) = nothing
supplied (Trail list) = entries list
supplied (Write buffer) = bytes buffer
supplied (Show buffer) = bytes buffer
supplied (Load file) = bytes file

-- the answers: no value; a number; a number with the supplied list or buffer as it is then; what show gives, with the buffer; or a refusal, with
-- the supplied memory as it is then
pub data Answer : Type 0 where
  done : Answer
  count : ℕ → Answer
  listed : ℕ → List LampChange → Answer
  written : ℕ → List ℕ → Answer
  shown : ℕ → Code → List ℕ → Answer
  refused : SessionFault → Memory → Answer

-- the latest of the units that is not after v, or 0
abbrev pub latest : ℕ → List ℕ → ℕ
latest v [] = 0
latest v (k ∷ ks) = max (cond (nat_le k v) k 0) (latest v ks)

-- the session, with another present unit
abbrev pub moved : State → ℕ → State
moved s v = record { mode = s.mode; run = s.run; present = v; kept = s.kept }

-- a move to unit v answers how far that is from the latest kept or present unit not after it
abbrev pub Moves : State → ℕ → Answer → State → Type 0
Moves s v a t = (a ≡ count (v - latest v (s.present ∷ s.kept))) × (t ≡ moved s v)

-- a refusal leaves the session and the supplied memory as they were
abbrev pub Refuses : State → Call → SessionFault → Answer → State → Type 0
Refuses s c f a t = (a ≡ refused f (supplied c)) × (t ≡ s)

-- the session, with more units recorded and the last of them present
abbrev pub grown : State → List Act → State
grown s acts = record { mode = s.mode; run = longer s.run acts; present = units s.run + length acts; kept = s.kept }

-- the session that record gives of a machine with the image
abbrev pub opened : List ℕ → State
opened i = record { mode = recording; run = record { start = i; acts = [] }; present = 0; kept = 0 ∷ [] }

module _ (K : Kind) (L : Marking) where
  -- what each call answers, and the session that it leaves. Where several refusals apply, the lowest is given.
  abbrev pub Does : State → Call → Answer → State → Type 0
  -- carries out instructions until k are done, the guest stops or the run is full
  Does s (RunFor k) a t =
      (s.mode ≡ recording)
      × (((k ≡ 0) × (a ≡ count 0) × (t ≡ s))
      ⊎ ((0 < k) × (ends_stopped K L s.run ≡ true) × Refuses s (RunFor k) (Stopped (units s.run)) a t)
      ⊎ ((0 < k) × (ends_stopped K L s.run ≡ false) × (units s.run ≡ most_units) × Refuses s (RunFor k) (RunFull (units s.run)) a t)
      ⊎ ((0 < k) × (j : ℕ) × (0 < j) × (j ≤ k) × IsRun K L (longer s.run (replicate j instruction))
      × ((j ≡ k) ⊎ (ends_stopped K L (longer s.run (replicate j instruction)) ≡ true) ⊎ (units s.run + j ≡ most_units))
      × (a ≡ count j) × (t ≡ grown s (replicate j instruction))))
  -- takes the event
  Does s (Interrupt e) a t =
      let N = units s.run in
      let here = at K L s.run N in
      (s.mode ≡ recording) × Fits e
      × (((K.stopped here.image ≡ true) × Refuses s (Interrupt e) (Stopped N) a t)
      ⊎ ((K.stopped here.image ≡ false) × (N ≡ most_units) × Refuses s (Interrupt e) (RunFull N) a t)
      ⊎ ((K.stopped here.image ≡ false) × (N < most_units) × (event_count s.run.acts ≡ 256) × Refuses s (Interrupt e) JournalFull a t)
      ⊎ ((K.stopped here.image ≡ false) × (N < most_units) × (event_count s.run.acts < 256) × (K.ready e here.image ≡ false)
      × Refuses s (Interrupt e) (NotReady N) a t)
      ⊎ ((N < most_units) × (event_count s.run.acts < 256) × (K.ready e here.image ≡ true) × (a ≡ count (N + 1)) × (t ≡ grown s (taking e ∷ []))))
  -- adds the present unit to the kept ones
  Does s Keep a t =
      (Among s.present s.kept × (a ≡ count (length s.kept)) × (t ≡ s))
      ⊎ ((¬ Among s.present s.kept) × (length s.kept ≡ 8) × Refuses s Keep KeptFull a t)
      ⊎ ((¬ Among s.present s.kept) × (length s.kept < 8) × (a ≡ count (length s.kept + 1))
      × (t ≡ record { mode = s.mode; run = s.run; present = s.present; kept = s.kept ++ (s.present ∷ []) }))
  -- turns a recording session into a replaying one, and back at the end of the run
  Does s Finish a t = (s.mode ≡ recording) × (a ≡ done) × (t ≡ record { mode = replaying; run = s.run; present = s.present; kept = s.kept })
  Does s Resume a t = (s.mode ≡ replaying) × (a ≡ done) × (t ≡ record { mode = recording; run = s.run; present = units s.run; kept = s.kept })
  -- moves to the unit with the code
  Does s (Seek c) a t =
      (s.mode ≡ replaying)
      × (((v : ℕ) × (v ≤ units s.run) × ((at K L s.run v).mark ≡ c) × Moves s v a t)
      ⊎ (((v : ℕ) → v ≤ units s.run → ¬ ((at K L s.run v).mark ≡ c)) × Refuses s (Seek c) (NoSuchMoment c) a t))
  -- moves n units back or forward
  Does s (Back n) a t =
      (s.mode ≡ replaying)
      × (((n ≤ s.present) × Moves s (s.present - n) a t)
      ⊎ ((s.present < n) × Refuses s (Back n) (OutsideRun s.present) a t))
  Does s (Forward n) a t =
      (s.mode ≡ replaying)
      × (((s.present + n ≤ units s.run) × Moves s (s.present + n) a t)
      ⊎ ((units s.run < s.present + n) × Refuses s (Forward n) (OutsideRun s.present) a t))
  -- lists the lamp changes up to the present unit
  Does s (Trail list) a t =
      let changes = trail_of K L s.run s.present in
      (s.mode ≡ replaying)
      × (((length changes ≤ length list) × (a ≡ listed (length changes) (over changes list)) × (t ≡ s))
      ⊎ ((length list < length changes) × Refuses s (Trail list) (ShortMemory (length changes)) a t))
  -- writes the file of the run
  Does s (Write buffer) a t =
      let file = file_of K L s.run in
      (s.mode ≡ replaying)
      × (((length file ≤ length buffer) × (a ≡ written (length file) (over file buffer)) × (t ≡ s))
      ⊎ ((length buffer < length file) × Refuses s (Write buffer) (ShortMemory (length file)) a t))
  -- gives the present unit, its landmark and its image; the machine's save finds a short buffer
  Does s (Show buffer) a t =
      let here = at K L s.run s.present in
      ((K.size ≤ length buffer) × (a ≡ shown s.present here.mark (over here.image buffer)) × (t ≡ s))
      ⊎ ((length buffer < K.size) × Refuses s (Show buffer) (OfGuest (ShortBuffer K.size)) a t)
  -- replaces the run by the one that the file tells, or is refused as the checks of the file say
  Does s (Load file) a t =
      (s.mode ≡ replaying)
      × (((r : Run) × Tells K L file r × (a ≡ count (units r)) × (t ≡ record { mode = replaying; run = r; present = 0; kept = 0 ∷ [] }))
      ⊎ ((f : SessionFault) × (verdict K L file ≡ wrong f) × Refuses s (Load file) f a t))

  -- what holds of each session that a history leads to: its run is one that a machine can have, the present unit is one of its moments, the last
  -- while recording, and so are the kept units, at most eight, the first of them 0 and none twice
  pub record Consistent (s : State) : Type 0 where
    pub is_run : IsRun K L s.run
    pub present_in : s.present ≤ units s.run
    pub at_last : s.mode ≡ recording → s.present ≡ units s.run
    pub starts_kept : (ks : List ℕ) × (s.kept ≡ 0 ∷ ks)
    pub few_kept : length s.kept ≤ 8
    pub kept_once : Distinct s.kept
    pub kept_in : (k : ℕ) → Among k s.kept → k ≤ units s.run
