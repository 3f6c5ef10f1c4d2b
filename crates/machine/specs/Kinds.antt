-- What a kind of machine is, and the laws that it keeps. Whatever is proved of sessions is proved of any kind that keeps them.
use Rattle.std.specs.Prelude.{◌≡◌, ℕ, ◌^◌, ◌<◌, ◌≤◌, Bool, true, false, List, length}
use Rattle.machine.specs.declared.Event.{Event}
use Rattle.machine.specs.declared.Event.TheVariants.{Timer, Switch}
use Rattle.machine.specs.Bytes.{Bytes}

-- A kind of machine. A machine means an image, a list of bytes, and whatever it does is fixed by that image.
pub record Kind : Type 0 where
  -- the image length, and the guest byte that names the kind in a recording
  pub size : ℕ
  pub guest : ℕ
  -- which images are lawful, where an unlawful one offends, and the image of a fresh machine
  pub lawful : List ℕ → Bool
  pub offending : List ℕ → ℕ
  pub blank : List ℕ
  -- what can be seen of a machine: its place (the address of its next instruction), whether it is stopped, whether it is ready for an event,
  -- and its lamp byte
  pub place : List ℕ → ℕ
  pub stopped : List ℕ → Bool
  pub ready : Event → List ℕ → Bool
  pub lamp : List ℕ → ℕ
  -- the image after an instruction, whether that instruction was a transfer (control went elsewhere than on, or the machine stopped), and the
  -- image after an event is taken, which is always a transfer
  pub next : List ℕ → List ℕ
  pub transfers : List ℕ → Bool
  pub taken : Event → List ℕ → List ℕ

-- the data of an event is a byte; no other event exists
abbrev pub Fits : Event → Type 0
Fits Timer = Unit {0}
Fits (Switch d) = d < 256

-- The rising law: on a running machine a step that is no transfer leaves a higher place than it found.
abbrev pub Rises : Kind → Type 0
Rises K =
    (i : List ℕ) → K.lawful i ≡ true → K.stopped i ≡ false → K.transfers i ≡ false
    → K.place i < K.place (K.next i)

-- the other laws of a kind of machine
pub record ImageLaws (K : Kind) : Type 0 where
  -- an image has 1 to 4,608 bytes, and the guest byte is a byte
  pub size_low : 1 ≤ K.size
  pub size_high : K.size ≤ 4608
  pub guest_fits : K.guest < 256
  -- the blank image is lawful; a lawful image has the kind's length and is bytes; an unlawful one offends at an offset inside it
  pub blank_lawful : K.lawful K.blank ≡ true
  pub length_is : (i : List ℕ) → K.lawful i ≡ true → length i ≡ K.size
  pub bytes_are : (i : List ℕ) → K.lawful i ≡ true → Bytes i
  pub offends : (i : List ℕ) → length i ≡ K.size → Bytes i → K.lawful i ≡ false → K.offending i < K.size
  -- a place has 32 bits and a lamp 8, and a stopped machine is ready for no event
  pub place_fits : (i : List ℕ) → K.lawful i ≡ true → K.place i < 2 ^ 32
  pub lamp_fits : (i : List ℕ) → K.lawful i ≡ true → K.lamp i < 256
  pub stopped_unready : (i : List ℕ) (e : Event) → Fits e → K.lawful i ≡ true → K.stopped i ≡ true → K.ready e i ≡ false
  -- an instruction of a running machine, and an event that it is ready for, leave a lawful image
  pub next_lawful : (i : List ℕ) → K.lawful i ≡ true → K.stopped i ≡ false → K.lawful (K.next i) ≡ true
  pub taken_lawful : (i : List ℕ) (e : Event) → Fits e → K.lawful i ≡ true → K.ready e i ≡ true → K.lawful (K.taken e i) ≡ true

-- all the laws of a kind of machine
pub record MachineLaws (K : Kind) : Type 0 where
  pub laws : ImageLaws K
  pub rises : Rises K
