-- What the report says of its input.
use Rattle.std.specs.Prelude.{ℕ, cond, List, ◌++◌, length, Some, None, Ok, Err, codes, decimal, Option, Result, ◌==◌, nat_le, slice_index}
use Rattle.faults.specs.declared.FileFault.TheVariants.{StatedLength}
use Rattle.faults.specs.declared.Place.{Place}
use Rattle.faults.specs.declared.Place.TheVariants.{At, Entry, Mark as MarkAt}
use Rattle.faults.specs.declared.Refusal.{Refusal}
use Rattle.faults.specs.Refusals.{file_refusal}
use Rattle.recording.specs.Starts.{start_check}
use Rattle.runs.specs.Checks.{Finding, passed, failed}
use Rattle.summary.specs.declared.Guest.{Guest}
use Rattle.summary.specs.declared.Guest.TheVariants.{Mos6502, Rv32i}
use Rattle.summary.specs.declared.Mark.{Mark}
use Rattle.summary.specs.declared.Mark.TheVariants.{Count, Branch}
use Rattle.summary.specs.declared.Kinds.{Kinds}
use Rattle.summary.specs.declared.Opening.{Opening}
use Rattle.summary.specs.declared.UnknownKind.{UnknownKind}

-- the guest that a guest byte names, and the kind of landmark that a landmark byte names
abbrev pub guest_of : ℕ → Option Guest
guest_of b = cond (b == 1) (Some Mos6502) (cond (b == 2) (Some Rv32i) None)

abbrev pub mark_of : ℕ → Option Mark
mark_of b = cond (b == 1) (Some Count) (cond (b == 2) (Some Branch) None)

abbrev pub guest_byte : Guest → ℕ
guest_byte Mos6502 = 1
guest_byte Rv32i = 2

abbrev pub mark_byte : Mark → ℕ
mark_byte Count = 1
mark_byte Branch = 2

-- the error of a byte that names no kind, and how it is printed
abbrev pub unknown : ℕ → UnknownKind
unknown b = record { 0 = b }

abbrev pub unknown_told : UnknownKind → List ℕ
unknown_told e = codes "no kind has the byte " ++ decimal e.0

-- both kinds, or guest 1 and mark 1 where either is unknown
abbrev pub both : Option Guest → Option Mark → Kinds
both None m = record { guest = Mos6502; mark = Count }
both (Some g) None = record { guest = Mos6502; mark = Count }
both (Some g) (Some m) = record { guest = g; mark = m }

-- the kinds that the input is read for: those of its bytes 5 and 6, or guest 1 and mark 1 where either is absent or unknown
abbrev pub named_kinds : List ℕ → Kinds
named_kinds file = both (guest_of (slice_index file 5)) (mark_of (slice_index file 6))

-- what is said of a file that is read for the kinds
abbrev pub found : Kinds → ℕ → Finding → Result Opening Refusal
found kinds n passed = Ok (record { kinds = kinds; length = n })
found kinds n (failed f) = Err (file_refusal f)

-- the first four checks, for the kinds
abbrev pub summary_for : List ℕ → Kinds → Result Opening Refusal
summary_for file kinds = found kinds (length file) (start_check (guest_byte kinds.guest) (mark_byte kinds.mark) file)

-- the report: an input over 8,192 bytes is refused as a file whose stated length is not its own
abbrev pub summary_of : List ℕ → Result Opening Refusal
summary_of file = cond (nat_le (length file) 8192) (summary_for file (named_kinds file)) (Err (file_refusal StatedLength))

-- the one number of a place that is printed: of an entry its offset, and of a code its minor word
abbrev pub printed : Place → ℕ
printed (At n) = n
printed (Entry e) = e.offset
printed (MarkAt c) = c.minor

-- the line that is printed
abbrev pub line_of : Result Opening Refusal → List ℕ
line_of (Ok o) = codes "guest " ++ (decimal (guest_byte o.kinds.guest) ++ (codes " mark " ++ (decimal (mark_byte o.kinds.mark) ++ (codes " length " ++ decimal o.length))))
line_of (Err r) = codes "refused " ++ (decimal r.number ++ (codes " at " ++ decimal (printed r.place)))
