-- Small kinds of machine, and an odd kind of landmark, to show that the laws can be kept.
use Rattle.std.specs.Prelude.{ℕ, ◌+◌, ◌-◌, ◌%◌, Bool, true, false, cond, not, List, [], ◌∷◌, length, ◌==◌, nat_le, nat_lt, slice_index}
use Rattle.machine.specs.declared.Event.{Event}
use Rattle.machine.specs.declared.Event.TheVariants.{Timer, Switch}
use Rattle.machine.specs.Kinds.{Kind, MachineLaws}
use Rattle.landmark.specs.Markings.{Marking, LandmarkLaws}
use Rattle.landmark.specs.Orders.{major_first}
use Rattle.landmark.specs.Branch.{branching}
use Rattle.landmark.specs.Count.{counting}

-- one byte, at most the bound
abbrev pub one_byte : ℕ → List ℕ → Bool
one_byte bound i = cond (length i == 1) (nat_le (slice_index i 0) bound) false

-- the data of an event, 0 for the timer
abbrev pub data_of : Event → ℕ
data_of Timer = 0
data_of (Switch d) = d

-- one byte that counts up to 200, where the machine stops, and that any event sets back; it takes no event at 100
abbrev pub counter : Kind
counter = record {
  size = 1;
  guest = 7;
  lawful = one_byte 200;
  offending = λ i. 0;
  blank = 0 ∷ [];
  place = λ i. slice_index i 0;
  stopped = λ i. nat_le 200 (slice_index i 0);
  ready = λ e i. cond (nat_le 200 (slice_index i 0)) false (not (slice_index i 0 == 100));
  lamp = λ i. slice_index i 0 % 2;
  next = λ i. (slice_index i 0 + 1) ∷ [];
  transfers = λ i. false;
  taken = λ e i. 0 ∷ [];
}

-- one byte that holds the data of the last event, at a place that never changes, so that every instruction is a transfer
abbrev pub latch : Kind
latch = record {
  size = 1;
  guest = 8;
  lawful = one_byte 255;
  offending = λ i. 0;
  blank = 0 ∷ [];
  place = λ i. 0;
  stopped = λ i. false;
  ready = λ e i. true;
  lamp = λ i. slice_index i 0;
  next = λ i. i;
  transfers = λ i. true;
  taken = λ e i. data_of e ∷ [];
}

-- one byte, and a machine that is always stopped
abbrev pub brick : Kind
brick = record {
  size = 1;
  guest = 9;
  lawful = one_byte 255;
  offending = λ i. 0;
  blank = 0 ∷ [];
  place = λ i. slice_index i 0;
  stopped = λ i. true;
  ready = λ e i. false;
  lamp = λ i. slice_index i 0;
  next = λ i. [];
  transfers = λ i. false;
  taken = λ e i. [];
}

-- the units that are left of 4,294,967,295: a kind whose later landmarks have smaller codes
abbrev pub countdown : Marking
countdown = record {
  byte = 77;
  has = λ c. cond (c.major == 5) (nat_lt c.minor 4294967296) false;
  start = λ p. record { major = 5; minor = 4294967295 };
  after = λ c p t. record { major = 5; minor = c.minor - 1 };
  order = λ c d. major_first d c;
}

abbrev pub LawsAreKept : Type 0
LawsAreKept =
    MachineLaws counter × MachineLaws latch × MachineLaws brick
    × LandmarkLaws counting × LandmarkLaws branching × LandmarkLaws countdown
