-- What a machine's calls answer, by the image and the memory that they are handed.
use Rattle.std.specs.Prelude.{ℕ, Bool, cond, List, ◌++◌, length, Some, None, Ok, Err, codes, decimal, Option, Result, ◌==◌, nat_le}
use Rattle.machine.specs.declared.GuestFault.{GuestFault}
use Rattle.machine.specs.declared.GuestFault.TheVariants.{WrongLength, Unlawful, ShortBuffer}
use Rattle.machine.specs.Bytes.{over}
use Rattle.machine.specs.Kinds.{Kind}

-- a fault as it is printed
abbrev pub told : GuestFault → List ℕ
told WrongLength = codes "wrong length"
told (Unlawful offset) = codes "unlawful at " ++ decimal offset
told (ShortBuffer needed) = codes "short, needs " ++ decimal needed

-- the refusal of an image that is not lawful: a wrong length comes first
abbrev pub load_fault : Kind → List ℕ → GuestFault
load_fault K i = cond (length i == K.size) (Unlawful (K.offending i)) WrongLength

-- whether a buffer has room for an image
abbrev pub roomy : Kind → List ℕ → Bool
roomy K buffer = nat_le K.size (length buffer)

-- save answers the image length, or the refusal of a short buffer
abbrev pub save_answer : Kind → List ℕ → Result ℕ GuestFault
save_answer K buffer = cond (roomy K buffer) (Ok K.size) (Err (ShortBuffer K.size))

-- save puts the image at the front of the buffer, or leaves the buffer
abbrev pub saved : Kind → List ℕ → List ℕ → List ℕ
saved K image buffer = cond (roomy K buffer) (over image buffer) buffer

-- an instruction takes place unless the machine is stopped; the report tells whether it was a transfer
abbrev pub step_answer : Kind → List ℕ → Option Bool
step_answer K i = cond (K.stopped i) None (Some (K.transfers i))

abbrev pub stepped : Kind → List ℕ → List ℕ
stepped K i = cond (K.stopped i) i (K.next i)
