-- What a load makes of a file: nine checks in their order, of which the first that fails is the refusal, and else the run that the file tells.
use Rattle.std.specs.Prelude.{ℕ, zero, suc, ◌+◌, ◌*◌, Bool, cond, List, [], ◌∷◌, length, take, drop, ◌==◌, nat_le, slice_index}
use Rattle.machine.specs.declared.Event.{Event}
use Rattle.machine.specs.declared.Event.TheVariants.{Timer, Switch}
use Rattle.machine.specs.declared.GuestFault.TheVariants.{WrongLength, Unlawful}
use Rattle.machine.specs.Kinds.{Kind}
use Rattle.landmark.specs.declared.Code.{Code}
use Rattle.landmark.specs.Markings.{Marking, most_units, same_code}
use Rattle.faults.specs.declared.EntryAt.{EntryAt}
use Rattle.faults.specs.declared.FileFault.{FileFault}
use Rattle.faults.specs.declared.FileFault.TheVariants.{Truncated, Version, StatedLength, GuestByte, LandmarkByte, InImage, Extent, EventBytes, UnknownCode}
use Rattle.faults.specs.declared.SessionFault.{SessionFault}
use Rattle.faults.specs.declared.SessionFault.TheVariants.{InFile, Unreached}
use Rattle.runs.specs.declared.Entry.{Entry}
use Rattle.runs.specs.Runs.{Act, instruction, taking, Run, Moment, first, advance}

-- the file gives a run, or is refused
pub data Verdict : Type 0 where
  ok : Run → Verdict
  wrong : SessionFault → Verdict

-- what one of the first eight checks finds
pub data Finding : Type 0 where
  passed : Finding
  failed : FileFault → Finding

-- a check of one fact
abbrev pub unless : Bool → FileFault → Finding
unless holds f = cond holds passed (failed f)

-- of two findings the first that failed
abbrev pub first_failed : Finding → Finding → Finding
first_failed passed g = g
first_failed (failed f) g = failed f

-- the verdict where the check passed, and else its refusal
abbrev pub passing : Finding → Verdict → Verdict
passing passed v = v
passing (failed f) v = wrong (InFile f)

-- big-endian numbers of two and of four bytes at a place in a list of bytes, and a code at its front
abbrev pub two_at : List ℕ → ℕ → ℕ
two_at bs k = 256 * slice_index bs k + slice_index bs (k + 1)

abbrev pub number_at : List ℕ → ℕ → ℕ
number_at bs k = 65536 * two_at bs k + two_at bs (k + 2)

abbrev pub code_at : List ℕ → Code
code_at bs = record { major = number_at bs 0; minor = number_at bs 4 }

-- an event's two bytes: kind 1 is Timer, with data 0, and kind 2 is Switch, with any data
abbrev pub event_ok : ℕ → ℕ → Bool
event_ok kind data_byte = cond (kind == 1) (data_byte == 0) (kind == 2)

abbrev pub event_of : ℕ → ℕ → Event
event_of kind data_byte = cond (kind == 1) Timer (Switch data_byte)

-- 1: the file has at least 21 bytes
abbrev pub check_1 : List ℕ → Finding
check_1 file = unless (nat_le 21 (length file)) (Truncated (length file))

-- 2: the version is 1
abbrev pub check_2 : List ℕ → Finding
check_2 file = unless (slice_index file 0 == 1) Version

-- 3: the stated length is the file's
abbrev pub check_3 : List ℕ → Finding
check_3 file = unless (number_at file 1 == length file) StatedLength

-- 4: the guest byte and the landmark byte are those named
abbrev pub check_4 : ℕ → ℕ → List ℕ → Finding
check_4 guest mark file = first_failed (unless (slice_index file 5 == guest) GuestByte) (unless (slice_index file 6 == mark) LandmarkByte)

-- what a replay of the file's events comes to: the acts up to the last landmark, or the index of the event (or, past the events, of the last
-- landmark) that it did not find
pub data Found : Type 0 where
  found : List Act → Found
  lost : ℕ → Found

-- one act before those found
abbrev pub put_act : Act → Found → Found
put_act a (found acts) = found (a ∷ acts)
put_act a (lost i) = lost i

module _ (K : Kind) (L : Marking) where
  -- the start image
  abbrev pub image_of : List ℕ → List ℕ
  image_of file = take K.size (drop 11 file)

  -- the event count
  abbrev pub count_of : List ℕ → ℕ
  count_of file = two_at file (11 + K.size)

  -- where event i stands, or, where i is the event count, the last landmark
  abbrev pub event_place : ℕ → ℕ
  event_place i = 13 + K.size + 10 * i

  -- event i, or the last landmark, as a refusal names it
  abbrev pub entry : ℕ → EntryAt
  entry i = record { index = i; offset = event_place i }

  -- event i with its landmark: major (4 bytes), minor (4), kind (1) and data (1)
  abbrev pub event_at : List ℕ → ℕ → Entry
  event_at file i = let bs = drop (event_place i) file in record { code = code_at bs; event = event_of (slice_index bs 8) (slice_index bs 9) }

  -- n events, from event i on
  unfoldable pub events_from : List ℕ → ℕ → ℕ → List Entry
  events_from file i zero = []
  events_from file i (suc n) = event_at file i ∷ events_from file (suc i) n

  -- the events and the last landmark of the file
  abbrev pub events_of : List ℕ → List Entry
  events_of file = events_from file 0 (count_of file)

  abbrev pub last_of : List ℕ → Code
  last_of file = code_at (drop (event_place (count_of file)) file)

  -- 5: the image length is the kind's
  abbrev pub check_5 : List ℕ → Finding
  check_5 file = unless (number_at file 7 == K.size) (InImage WrongLength)

  -- 6: the file has room for the image, at most 256 events, and the length that they make
  abbrev pub check_6 : List ℕ → Finding
  check_6 file =
      first_failed (unless (nat_le (21 + K.size) (length file)) (Extent (11 + K.size)))
      (first_failed (unless (nat_le (count_of file) 256) (Extent (11 + K.size)))
      (unless (length file == 21 + K.size + 10 * count_of file) (Extent (11 + K.size))))

  -- 7: the image is lawful
  abbrev pub check_7 : List ℕ → Finding
  check_7 file = unless (K.lawful (image_of file)) (InImage (Unlawful (K.offending (image_of file))))

  -- 8, from event i on with n events left: each has a right kind and data byte and a code that the landmark kind has, and the last landmark has
  -- such a code
  unfoldable pub check_events : List ℕ → ℕ → ℕ → Finding
  check_events file i zero = unless (L.has (code_at (drop (event_place i) file))) (UnknownCode (entry i))
  check_events file i (suc n) =
      let bs = drop (event_place i) file in
      first_failed (unless (event_ok (slice_index bs 8) (slice_index bs 9)) (EventBytes (entry i)))
      (first_failed (unless (L.has (code_at bs)) (UnknownCode (entry i)))
      (check_events file (suc i) n))

  -- 8: the events and the last landmark are right
  abbrev pub check_8 : List ℕ → Finding
  check_8 file = check_events file 0 (count_of file)

  -- the first of these eight that fails
  abbrev pub check_form : List ℕ → Finding
  check_form file =
      first_failed (check_1 file)
      (first_failed (check_2 file)
      (first_failed (check_3 file)
      (first_failed (check_4 K.guest L.byte file)
      (first_failed (check_5 file)
      (first_failed (check_6 file)
      (first_failed (check_7 file)
      (check_8 file)))))))

  -- one instruction on, where the machine is not stopped
  abbrev pub carry_on : Moment → ℕ → Found → Found
  carry_on m i f = cond (K.stopped m.image) (lost i) (put_act instruction f)

  -- 9, from a moment on with so many units left: instructions up to the landmark of event i, there the event, and so on up to the last landmark
  unfoldable pub follow : ℕ → Moment → ℕ → List Entry → Code → Found
  follow zero m i [] last = cond (same_code m.mark last) (found []) (lost i)
  follow zero m i (e ∷ es) last = lost i
  follow (suc n) m i [] last = cond (same_code m.mark last) (found []) (carry_on m i (follow n (advance K L instruction m) i [] last))
  follow (suc n) m i (e ∷ es) last =
      cond (same_code m.mark e.code)
      (cond (K.ready e.event m.image) (put_act (taking e.event) (follow n (advance K L (taking e.event) m) (suc i) es last)) (lost i))
      (carry_on m i (follow n (advance K L instruction m) i (e ∷ es) last))

  -- the run that was found, or the refusal
  abbrev pub conclude : List ℕ → Found → Verdict
  conclude start (found acts) = ok (record { start = start; acts = acts })
  conclude start (lost i) = wrong (Unreached (entry i))

  -- 9: the run from the start image, within its most units, comes to each event's landmark, ready for it there, and then to the last landmark
  abbrev pub check_9 : List ℕ → Verdict
  check_9 file = conclude (image_of file) (follow most_units (first K L (image_of file)) 0 (events_of file) (last_of file))

  -- what a load makes of the file
  unfoldable pub verdict : List ℕ → Verdict
  verdict file = passing (check_form file) (check_9 file)
