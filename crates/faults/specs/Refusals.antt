-- The table of refusals: for each fault its number, its place and the layer that it comes from.
use Rattle.std.specs.Prelude.{ℕ, ◌+◌, List, ◌++◌, codes, decimal}
use Rattle.landmark.specs.Codes.{told as code_told}
use Rattle.machine.specs.declared.GuestFault.{GuestFault}
use Rattle.machine.specs.declared.GuestFault.TheVariants.{WrongLength, Unlawful, ShortBuffer}
use Rattle.faults.specs.declared.FileFault.{FileFault}
use Rattle.faults.specs.declared.FileFault.TheVariants.{Truncated, Version, StatedLength, GuestByte, LandmarkByte, InImage, Extent, EventBytes, UnknownCode}
use Rattle.faults.specs.declared.SessionFault.{SessionFault}
use Rattle.faults.specs.declared.SessionFault.TheVariants.{InFile, OfGuest, Unreached, Stopped, RunFull, JournalFull, NotReady, KeptFull, NoSuchMoment, OutsideRun, ShortMemory}
use Rattle.faults.specs.declared.Layer.{Layer}
use Rattle.faults.specs.declared.Layer.TheVariants.{File, Guest, Landmark, Session}
use Rattle.faults.specs.declared.Place.{Place}
use Rattle.faults.specs.declared.Place.TheVariants.{At, Entry, Mark}
use Rattle.faults.specs.declared.Refusal.{Refusal}

-- a place as it is printed
abbrev pub told : Place → List ℕ
told (At n) = decimal n
told (Entry e) = decimal e.offset
told (Mark c) = code_told c

-- a refusal as it is printed
abbrev pub refusal_told : Refusal → List ℕ
refusal_told r = codes "refused " ++ (decimal r.number ++ (codes " at " ++ told r.place))

abbrev pub refusal : ℕ → Place → Layer → Refusal
refusal number place layer = record { number = number; place = place; layer = layer }

-- what a machine reports itself
abbrev pub refusal_of_guest : GuestFault → Refusal
refusal_of_guest WrongLength = refusal 5 (At 0) Guest
refusal_of_guest (Unlawful offset) = refusal 7 (At offset) Guest
refusal_of_guest (ShortBuffer needed) = refusal 17 (At needed) Guest

-- a place inside the image that a recording holds, and the place of the image length, are the recording's own
abbrev pub image_place : GuestFault → Place
image_place WrongLength = At 7
image_place (Unlawful offset) = At (11 + offset)
image_place (ShortBuffer needed) = At needed

-- the same refusal at another place: the layer above keeps the rest whole
abbrev pub placed_at : Place → Refusal → Refusal
placed_at place r = refusal r.number place r.layer

-- what the reader of a recording reports
abbrev pub file_refusal : FileFault → Refusal
file_refusal (Truncated length) = refusal 1 (At length) File
file_refusal Version = refusal 2 (At 0) File
file_refusal StatedLength = refusal 3 (At 1) File
file_refusal GuestByte = refusal 4 (At 5) File
file_refusal LandmarkByte = refusal 4 (At 6) File
file_refusal (InImage fault) = placed_at (image_place fault) (refusal_of_guest fault)
file_refusal (Extent offset) = refusal 6 (At offset) File
file_refusal (EventBytes entry) = refusal 8 (Entry entry) File
file_refusal (UnknownCode entry) = refusal 8 (Entry entry) Landmark

-- what a session reports
abbrev pub session_refusal : SessionFault → Refusal
session_refusal (InFile fault) = file_refusal fault
session_refusal (OfGuest fault) = refusal_of_guest fault
session_refusal (Unreached entry) = refusal 9 (Entry entry) Session
session_refusal (Stopped unit) = refusal 10 (At unit) Session
session_refusal (RunFull unit) = refusal 11 (At unit) Session
session_refusal JournalFull = refusal 12 (At 256) Session
session_refusal (NotReady unit) = refusal 13 (At unit) Session
session_refusal KeptFull = refusal 14 (At 8) Session
session_refusal (NoSuchMoment code) = refusal 15 (Mark code) Session
session_refusal (OutsideRun unit) = refusal 16 (At unit) Session
session_refusal (ShortMemory needed) = refusal 17 (At needed) Session
