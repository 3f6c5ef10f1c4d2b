-- What the checks say of some small files, and the calls of some small sessions: each refusal, with its place and its layer.
use Rattle.std.specs.Prelude.{◌≡◌, ℕ, ◌<◌, List, [], ◌∷◌, ◌++◌, replicate}
use Rattle.machine.specs.declared.Event.TheVariants.{Timer, Switch}
use Rattle.machine.specs.declared.GuestFault.TheVariants.{WrongLength, Unlawful, ShortBuffer}
use Rattle.landmark.specs.Branch.{branching}
use Rattle.landmark.specs.Count.{counting}
use Rattle.faults.specs.declared.EntryAt.{EntryAt}
use Rattle.faults.specs.declared.Refusal.{Refusal}
use Rattle.faults.specs.declared.Layer.TheVariants.{File, Guest, Landmark, Session}
use Rattle.faults.specs.declared.Place.TheVariants.{At, Entry, Mark}
use Rattle.faults.specs.declared.FileFault.TheVariants.{Truncated, Version, StatedLength, GuestByte, LandmarkByte, InImage, Extent, EventBytes, UnknownCode}
use Rattle.faults.specs.declared.SessionFault.{SessionFault}
use Rattle.faults.specs.declared.SessionFault.TheVariants.{InFile, OfGuest, Unreached, Stopped, RunFull, JournalFull, NotReady, KeptFull, NoSuchMoment, OutsideRun, ShortMemory}
use Rattle.faults.specs.Refusals.{refusal, session_refusal}
use Rattle.runs.specs.Runs.{Act, instruction, taking, units}
use Rattle.runs.specs.Samples.{counter, latch, brick}
use Rattle.runs.specs.Checks.{verdict, ok, wrong}
use Rattle.runs.specs.Sessions.{Mode, recording, replaying, State, Call, RunFor, Interrupt, Keep, Seek, Back, Forward, Trail, Write, Show, count, refused, nothing, supplied, Does}

-- a file by its small numbers: version, length, guest byte, landmark byte, image length, image and event count, and then the rest
abbrev pub small : ℕ → ℕ → ℕ → ℕ → ℕ → ℕ → ℕ → List ℕ → List ℕ
small version whole guest mark size image events rest =
    (version ∷ 0 ∷ 0 ∷ 0 ∷ whole ∷ []) ++ ((guest ∷ mark ∷ 0 ∷ 0 ∷ 0 ∷ size ∷ []) ++ ((image ∷ 0 ∷ events ∷ []) ++ rest))

-- a code's bytes, and an event's
abbrev pub code : ℕ → ℕ → List ℕ
code major minor = 0 ∷ 0 ∷ 0 ∷ major ∷ 0 ∷ 0 ∷ 0 ∷ minor ∷ []

abbrev pub event : ℕ → ℕ → ℕ → ℕ → List ℕ
event major minor kind data_byte = code major minor ++ (kind ∷ data_byte ∷ [])

abbrev pub entry_at : ℕ → ℕ → EntryAt
entry_at index offset = record { index = index; offset = offset }

-- the file of the small counter is refused, and so reported
abbrev pub Refused : List ℕ → SessionFault → Refusal → Type 0
Refused file f r = (verdict counter branching file ≡ wrong f) × (session_refusal f ≡ r)

abbrev pub ChecksSaySo : Type 0
ChecksSaySo =
    -- three files of runs: instructions alone, an event, and two events of which the second is taken at the landmark that the first left
    (verdict counter branching (small 1 22 7 2 1 5 0 (code 0 7)) ≡ ok (record { start = 5 ∷ []; acts = instruction ∷ instruction ∷ [] }))
    × (verdict counter branching (small 1 32 7 2 1 5 1 (event 0 6 2 9 ++ code 1 1)) ≡ ok (record { start = 5 ∷ []; acts = instruction ∷ taking (Switch 9) ∷ instruction ∷ [] }))
    × (verdict counter branching (small 1 42 7 2 1 5 2 (event 0 6 2 9 ++ (event 1 0 1 0 ++ code 2 1))) ≡ ok (record { start = 5 ∷ []; acts = instruction ∷ taking (Switch 9) ∷ taking Timer ∷ instruction ∷ [] }))
    -- too short, a wrong version, and a wrong length
    × Refused [] (InFile (Truncated 0)) (refusal 1 (At 0) File)
    × Refused (small 2 23 7 2 1 5 0 (code 0 7)) (InFile Version) (refusal 2 (At 0) File)
    × Refused (small 1 23 8 2 1 5 0 (code 0 7)) (InFile StatedLength) (refusal 3 (At 1) File)
    -- a wrong guest byte, a wrong landmark byte, and a wrong image length
    × Refused (small 1 22 8 1 1 5 0 (code 0 7)) (InFile GuestByte) (refusal 4 (At 5) File)
    × Refused (small 1 22 7 1 2 5 0 (code 0 7)) (InFile LandmarkByte) (refusal 4 (At 6) File)
    × Refused (small 1 22 7 2 2 5 1 (code 0 7)) (InFile (InImage WrongLength)) (refusal 5 (At 7) Guest)
    -- a file under 21 bytes and the image, 257 events, and an event count that the length belies
    × Refused (1 ∷ 0 ∷ 0 ∷ 0 ∷ 21 ∷ 7 ∷ 2 ∷ 0 ∷ 0 ∷ 0 ∷ 1 ∷ 201 ∷ 0 ∷ 0 ∷ 0 ∷ 0 ∷ 0 ∷ 0 ∷ 0 ∷ 0 ∷ 0 ∷ []) (InFile (Extent 12)) (refusal 6 (At 12) File)
    × Refused ((1 ∷ 0 ∷ 0 ∷ 10 ∷ 32 ∷ 7 ∷ 2 ∷ 0 ∷ 0 ∷ 0 ∷ 1 ∷ 5 ∷ 1 ∷ 1 ∷ []) ++ replicate 2578 0) (InFile (Extent 12)) (refusal 6 (At 12) File)
    × Refused (small 1 22 7 2 1 201 1 (code 0 7)) (InFile (Extent 12)) (refusal 6 (At 12) File)
    -- an unlawful image
    × Refused (small 1 32 7 2 1 201 1 (event 0 6 3 0 ++ code 1 1)) (InFile (InImage (Unlawful 0))) (refusal 7 (At 11) Guest)
    -- a wrong kind, and a wrong data byte after an event whose landmark never comes
    × Refused (small 1 32 7 2 1 5 1 (event 0 6 3 0 ++ code 1 1)) (InFile (EventBytes (entry_at 0 14))) (refusal 8 (Entry (entry_at 0 14)) File)
    × Refused (small 1 42 7 2 1 5 2 (event 0 4 1 0 ++ (event 0 6 1 9 ++ code 1 1))) (InFile (EventBytes (entry_at 1 24))) (refusal 8 (Entry (entry_at 1 24)) File)
    -- a code that the kind lacks, such a last one, and both faults in one event
    × (verdict counter counting (small 1 32 7 1 1 5 1 (event 1 6 1 0 ++ code 0 1)) ≡ wrong (InFile (UnknownCode (entry_at 0 14))))
    × (verdict counter counting (small 1 32 7 1 1 5 1 (event 0 1 1 0 ++ code 1 1)) ≡ wrong (InFile (UnknownCode (entry_at 1 24))))
    × (session_refusal (InFile (UnknownCode (entry_at 1 24))) ≡ refusal 8 (Entry (entry_at 1 24)) Landmark)
    × (verdict counter counting (small 1 32 7 1 1 5 1 (event 1 6 1 9 ++ code 0 1)) ≡ wrong (InFile (EventBytes (entry_at 0 14))))
    -- an event whose landmark never comes, one on a stopped machine, one that a running machine is not ready for, and a last landmark that
    -- never comes
    × Refused (small 1 32 7 2 1 5 1 (event 0 4 1 0 ++ code 1 1)) (Unreached (entry_at 0 14)) (refusal 9 (Entry (entry_at 0 14)) Session)
    × Refused (small 1 32 7 2 1 200 1 (event 0 200 1 0 ++ code 1 1)) (Unreached (entry_at 0 14)) (refusal 9 (Entry (entry_at 0 14)) Session)
    × Refused (small 1 32 7 2 1 99 1 (event 0 100 1 0 ++ code 1 1)) (Unreached (entry_at 0 14)) (refusal 9 (Entry (entry_at 0 14)) Session)
    × Refused (small 1 32 7 2 1 5 1 (event 0 6 1 0 ++ code 0 9)) (Unreached (entry_at 1 24)) (refusal 9 (Entry (entry_at 1 24)) Session)

-- a session on the counter that holds the run, with these units kept
abbrev pub session : Mode → ℕ → List Act → ℕ → List ℕ → State
session mode image acts present kept = record { mode = mode; run = record { start = image ∷ []; acts = acts }; present = present; kept = kept }

-- the call is refused in the session, and so reported, and leaves it
abbrev pub RefusedIn : State → Call → SessionFault → Refusal → Type 0
RefusedIn s c f r = Does counter branching s c (refused f (supplied c)) s × (session_refusal f ≡ r)

abbrev pub CallsSaySo : Type 0
CallsSaySo =
    -- a run and an interrupt on a stopped guest, and a run of none there
    RefusedIn (session recording 199 (instruction ∷ []) 1 (0 ∷ [])) (RunFor 1) (Stopped 1) (refusal 10 (At 1) Session)
    × RefusedIn (session recording 199 (instruction ∷ []) 1 (0 ∷ [])) (Interrupt Timer) (Stopped 1) (refusal 10 (At 1) Session)
    × Does counter branching (session recording 200 [] 0 (0 ∷ [])) (RunFor 0) (count 0) (session recording 200 [] 0 (0 ∷ []))
    -- an event that a running guest is not ready for
    × RefusedIn (session recording 99 (instruction ∷ []) 1 (0 ∷ [])) (Interrupt (Switch 3)) (NotReady 1) (refusal 13 (At 1) Session)
    -- a ninth kept unit, and one that is kept already
    × RefusedIn (session replaying 5 (replicate 8 instruction) 8 (0 ∷ 1 ∷ 2 ∷ 3 ∷ 4 ∷ 5 ∷ 6 ∷ 7 ∷ [])) Keep KeptFull (refusal 14 (At 8) Session)
    × Does counter branching (session replaying 5 (replicate 8 instruction) 7 (0 ∷ 1 ∷ 2 ∷ 3 ∷ 4 ∷ 5 ∷ 6 ∷ 7 ∷ [])) Keep (count 8) (session replaying 5 (replicate 8 instruction) 7 (0 ∷ 1 ∷ 2 ∷ 3 ∷ 4 ∷ 5 ∷ 6 ∷ 7 ∷ []))
    -- a code that no moment has, and one that moment 2 has
    × RefusedIn (session replaying 5 (instruction ∷ []) 1 (0 ∷ [])) (Seek (record { major = 0; minor = 7 })) (NoSuchMoment (record { major = 0; minor = 7 })) (refusal 15 (Mark (record { major = 0; minor = 7 })) Session)
    × Does counter branching (session replaying 5 (replicate 4 instruction) 4 (0 ∷ 1 ∷ [])) (Seek (record { major = 0; minor = 7 })) (count 1) (session replaying 5 (replicate 4 instruction) 2 (0 ∷ 1 ∷ []))
    -- moves out of the run, and inside it
    × RefusedIn (session replaying 5 (instruction ∷ []) 0 (0 ∷ [])) (Back 1) (OutsideRun 0) (refusal 16 (At 0) Session)
    × RefusedIn (session replaying 5 (instruction ∷ []) 1 (0 ∷ [])) (Forward 1) (OutsideRun 1) (refusal 16 (At 1) Session)
    × Does counter branching (session replaying 5 (replicate 4 instruction) 2 (0 ∷ [])) (Forward 2) (count 2) (session replaying 5 (replicate 4 instruction) 4 (0 ∷ []))
    × Does counter branching (session replaying 5 (replicate 4 instruction) 4 (0 ∷ [])) (Back 1) (count 3) (session replaying 5 (replicate 4 instruction) 3 (0 ∷ []))
    -- too short a list, too short a buffer for the file, and too short a buffer for the image
    × RefusedIn (session replaying 5 (replicate 2 instruction) 2 (0 ∷ [])) (Trail (record { unit = 0; code = record { major = 0; minor = 0 }; lamp = 0 } ∷ [])) (ShortMemory 2) (refusal 17 (At 2) Session)
    × RefusedIn (session replaying 5 (replicate 2 instruction) 2 (0 ∷ [])) (Write (1 ∷ 2 ∷ [])) (ShortMemory 22) (refusal 17 (At 22) Session)
    × RefusedIn (session recording 5 (replicate 2 instruction) 2 (0 ∷ [])) (Show []) (OfGuest (ShortBuffer 1)) (refusal 17 (At 1) Guest)
    -- one event too many
    × RefusedIn (session recording 5 (replicate 256 (taking Timer)) 256 (0 ∷ [])) (Interrupt Timer) JournalFull (refusal 12 (At 256) Session)
    -- one unit too many, by a run and by an interrupt, on the machine that never stops
    × ((s : State) → s.mode ≡ recording → units s.run ≡ 16777215 → Does latch branching s (RunFor 1) (refused (RunFull (units s.run)) nothing) s)
    × ((s : State) → s.mode ≡ recording → units s.run ≡ 16777215 → Does latch branching s (Interrupt Timer) (refused (RunFull (units s.run)) nothing) s)
    × (session_refusal (RunFull 16777215) ≡ refusal 11 (At 16777215) Session)
    -- nothing runs on the machine that is always stopped
    × ((s : State) (k : ℕ) → s.mode ≡ recording → 0 < k → Does brick branching s (RunFor k) (refused (Stopped (units s.run)) nothing) s)
