-- The first eight checks of a file as sentences, and where a file first breaks one.
use Rattle.std.specs.Prelude.{◌≡◌, ℕ, ◌+◌, ◌*◌, ◌<◌, ◌≤◌, true, ◌⊎◌, List, length, drop, slice_index}
use Rattle.machine.specs.declared.GuestFault.{GuestFault}
use Rattle.machine.specs.declared.GuestFault.TheVariants.{WrongLength, Unlawful, ShortBuffer}
use Rattle.machine.specs.Kinds.{Kind}
use Rattle.landmark.specs.Markings.{Marking}
use Rattle.faults.specs.declared.FileFault.{FileFault}
use Rattle.faults.specs.declared.FileFault.TheVariants.{Truncated, Version, StatedLength, GuestByte, LandmarkByte, InImage, Extent, EventBytes, UnknownCode}
use Rattle.runs.specs.Checks.{number_at, code_at, image_of, count_of, event_place, entry}

-- 1: the file has at least 21 bytes
abbrev pub LongEnough : List ℕ → Type 0
LongEnough file = 21 ≤ length file

-- 2: the version is 1
abbrev pub RightVersion : List ℕ → Type 0
RightVersion file = slice_index file 0 ≡ 1

-- 3: the stated length is the file's
abbrev pub RightLength : List ℕ → Type 0
RightLength file = number_at file 1 ≡ length file

module _ (K : Kind) (L : Marking) where
  -- 4: the guest byte and the landmark byte are the kinds'
  abbrev pub RightGuest : List ℕ → Type 0
  RightGuest file = slice_index file 5 ≡ K.guest

  abbrev pub RightLandmark : List ℕ → Type 0
  RightLandmark file = slice_index file 6 ≡ L.byte

  -- 5: the image length is the kind's
  abbrev pub RightImageLength : List ℕ → Type 0
  RightImageLength file = number_at file 7 ≡ K.size

  -- 6: the file has room for the image, at most 256 events, and the length that they make
  abbrev pub RightExtent : List ℕ → Type 0
  RightExtent file = (21 + K.size ≤ length file) × (count_of K L file ≤ 256) × (length file ≡ 21 + K.size + 10 * count_of K L file)

  -- 7: the image is lawful
  abbrev pub LawfulImage : List ℕ → Type 0
  LawfulImage file = K.lawful (image_of K L file) ≡ true

  -- 8: event i is a Timer with data 0 or a Switch, and its code, or where i is the event count the last landmark's, is one that the kind has
  abbrev pub RightEvent : List ℕ → ℕ → Type 0
  RightEvent file i =
      let bs = drop (event_place K L i) file in
      ((slice_index bs 8 ≡ 1) × (slice_index bs 9 ≡ 0)) ⊎ (slice_index bs 8 ≡ 2)

  abbrev pub RightCode : List ℕ → ℕ → Type 0
  RightCode file i = L.has (code_at (drop (event_place K L i) file)) ≡ true

  abbrev pub RightBefore : List ℕ → ℕ → Type 0
  RightBefore file i = (j : ℕ) → j < i → RightEvent file j × RightCode file j

  -- the sentences below sentence n hold
  pub record HoldsBelow (n : ℕ) (file : List ℕ) : Type 0 where
    pub one : 1 < n → LongEnough file
    pub two : 2 < n → RightVersion file
    pub three : 3 < n → RightLength file
    pub four : 4 < n → RightGuest file × RightLandmark file
    pub five : 5 < n → RightImageLength file
    pub six : 6 < n → RightExtent file
    pub seven : 7 < n → LawfulImage file

  -- the image in the file breaks sentence 5 or 7
  abbrev pub BreaksImage : List ℕ → GuestFault → Type 0
  BreaksImage file WrongLength = ¬ RightImageLength file
  BreaksImage file (Unlawful offset) = (¬ LawfulImage file) × (offset ≡ K.offending (image_of K L file))
  BreaksImage file (ShortBuffer needed) = ⊥

  -- the file breaks the sentence of the fault's number, first at the place that the fault names
  abbrev pub Breaks : List ℕ → FileFault → Type 0
  Breaks file (Truncated n) = (¬ LongEnough file) × (n ≡ length file)
  Breaks file Version = ¬ RightVersion file
  Breaks file StatedLength = ¬ RightLength file
  Breaks file GuestByte = ¬ RightGuest file
  Breaks file LandmarkByte = RightGuest file × (¬ RightLandmark file)
  Breaks file (InImage fault) = BreaksImage file fault
  Breaks file (Extent offset) = (¬ RightExtent file) × (offset ≡ 11 + K.size)
  Breaks file (EventBytes e) =
      (i : ℕ) × (e ≡ entry K L i) × (i < count_of K L file) × RightBefore file i × (¬ RightEvent file i)
  Breaks file (UnknownCode e) =
      (i : ℕ) × (e ≡ entry K L i) × (i ≤ count_of K L file) × RightBefore file i × (i < count_of K L file → RightEvent file i) × (¬ RightCode file i)
