-- The RV32I guest as a kind of machine.
use Rattle.std.specs.Prelude.{ℕ, Bool, not, ◌&&◌, List}
use Rattle.machine.specs.declared.Event.{Event}
use Rattle.machine.specs.Kinds.{Kind}
use Rattle.rv32i_core.specs.Execution.{stepped, transfers}
use Rattle.rv32i.specs.Images.{image_of, core_of, lawful, offending, blank, place_in, stopped_in, enabled_in, lamp_in}
use Rattle.rv32i.specs.Events.{interrupted}

-- the image after the instruction at the place, and whether that is a transfer
unfoldable pub next : List ℕ → List ℕ
next i = image_of (stepped (core_of i))

unfoldable pub moves : List ℕ → Bool
moves i = transfers (core_of i)

-- either event is ready while events are enabled and the guest runs
abbrev pub attentive : List ℕ → Bool
attentive i = enabled_in i && not (stopped_in i)

-- the image after an event
unfoldable pub taken : Event → List ℕ → List ℕ
taken e i = image_of (interrupted e (core_of i))

abbrev pub rv32i : Kind
rv32i =
    record {
      size = 4232;
      guest = 2;
      lawful = lawful;
      offending = offending;
      blank = blank;
      place = place_in;
      stopped = stopped_in;
      ready = λ _ i. attentive i;
      lamp = lamp_in;
      next = next;
      transfers = moves;
      taken = taken;
    }
