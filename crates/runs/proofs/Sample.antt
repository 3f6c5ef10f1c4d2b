-- The samples keep the laws.
use Rattle.std.proofs.Common.{◌≡◌, ℕ, zero, suc, ◌<◌, ◌≤◌, Bool, true, List, [], ◌∷◌, length, get_or, Less, sym, refl, ap, ◌∙◌, arith}
use Rattle.std.proofs.lemmas.Bool.Decides.{nat_tests}
use Rattle.machine.specs.declared.Event.{Event}
use Rattle.machine.specs.declared.Event.TheVariants.{Timer, Switch}
use Rattle.machine.specs.Bytes.{Bytes}
use Rattle.machine.specs.Kinds.{Fits, MachineLaws}
use Rattle.landmark.specs.declared.Code.{Code}
use Rattle.landmark.specs.Markings.{LandmarkLaws, Move, marked}
use Rattle.landmark.specs.Orders.{major_first}
use Rattle.landmark.specs.Branches.{branching_laws}
use Rattle.landmark.specs.Counts.{counting_laws}
use Rattle.landmark.specs.OrderLaws.{order_same, order_self, order_mirror, order_back, order_carries}
use Rattle.runs.specs.Samples.{one_byte, counter, latch, brick, countdown, LawsAreKept}

-- one byte
byte_list : (i : List ℕ) → length i ≡ 1 → get_or i 0 0 < 256 → Bytes i
byte_list (x ∷ []) e h zero l = h
byte_list (x ∷ []) e h (suc k) l = absurd (omega arith)
byte_list [] e h k l = absurd (omega arith)
byte_list (x ∷ y ∷ i) e h k l = absurd (omega arith)

byte_length : (b : ℕ) (i : List ℕ) → one_byte b i ≡ true → length i ≡ 1
byte_length b i h = grind (arith, nat_tests)

byte_bound : (b : ℕ) (i : List ℕ) → one_byte b i ≡ true → get_or i 0 0 ≤ b
byte_bound b i h = grind (arith, nat_tests)

byte_bytes : (b : ℕ) (i : List ℕ) → b < 256 → one_byte b i ≡ true → Bytes i
byte_bytes b i l h = byte_list i (byte_length b i h) (omega (arith, byte_bound b i h))

pub counter_laws : MachineLaws counter
counter_laws = record {
  laws = record {
    size_low = omega arith;
    size_high = omega arith;
    guest_fits = omega arith;
    blank_lawful = refl;
    length_is = byte_length 200;
    bytes_are = λ i h. byte_bytes 200 i (omega arith) h;
    offends = λ i l b h. omega arith;
    place_fits = λ i h. omega (arith, byte_bound 200 i h);
    lamp_fits = λ i h. omega arith;
    stopped_unready = λ i e f h s. grind (arith, nat_tests);
    next_lawful = λ i h s. grind (arith, nat_tests);
    taken_lawful = λ i e f h s. refl;
  };
  rises = λ i h s t. omega arith;
}

-- the data of an event fits the byte that holds it
latched : (e : Event) → Fits e → latch.lawful (latch.taken e (0 ∷ [])) ≡ true
latched Timer f = refl
latched (Switch d) f = grind (arith, nat_tests)

pub latch_laws : MachineLaws latch
latch_laws = record {
  laws = record {
    size_low = omega arith;
    size_high = omega arith;
    guest_fits = omega arith;
    blank_lawful = refl;
    length_is = byte_length 255;
    bytes_are = λ i h. byte_bytes 255 i (omega arith) h;
    offends = λ i l b h. omega arith;
    place_fits = λ i h. omega arith;
    lamp_fits = λ i h. omega (arith, byte_bound 255 i h);
    stopped_unready = λ i e f h s. absurd (let z : ◌≡◌ {A = ℕ} 0 1 = cc in omega arith);
    next_lawful = λ i h s. h;
    taken_lawful = λ i e f h s. latched e f;
  };
  rises = λ i h s t. absurd (let z : ◌≡◌ {A = ℕ} 0 1 = cc in omega arith);
}

pub brick_laws : MachineLaws brick
brick_laws = record {
  laws = record {
    size_low = omega arith;
    size_high = omega arith;
    guest_fits = omega arith;
    blank_lawful = refl;
    length_is = byte_length 255;
    bytes_are = λ i h. byte_bytes 255 i (omega arith) h;
    offends = λ i l b h. omega arith;
    place_fits = λ i h. omega (arith, byte_bound 255 i h);
    lamp_fits = λ i h. omega (arith, byte_bound 255 i h);
    stopped_unready = λ i e f h s. refl;
    next_lawful = λ i h s. absurd (let z : ◌≡◌ {A = ℕ} 0 1 = cc in omega arith);
    taken_lawful = λ i e f h s. absurd (let z : ◌≡◌ {A = ℕ} 0 1 = cc in omega arith);
  };
  rises = λ i h s t. absurd (let z : ◌≡◌ {A = ℕ} 0 1 = cc in omega arith);
}

-- a countdown that has not come to 0 falls by one
countdown_climbs : (c : Code) (ms : List Move) (q : ℕ) (t : Bool) → c.major ≡ 5 → length ms < c.minor → countdown.order (marked countdown c ms) (countdown.after (marked countdown c ms) q t) ≡ Less
countdown_climbs c [] q t e b = grind (arith, nat_tests)
countdown_climbs c (m ∷ ms) q t e b = countdown_climbs (countdown.after c m.0 m.1) ms q t refl (omega arith)

pub countdown_laws : LandmarkLaws countdown
countdown_laws = record {
  byte_fits = omega arith;
  has_fits = λ c h. grind (arith, nat_tests);
  start_has = λ p h. refl;
  after_has = λ c p t h l. grind (arith, nat_tests);
  same_is = λ c d h k. (λ e. sym (order_same d c e), λ e. ap (λ (x : Code). major_first x c) (sym e) ∙ order_self c);
  mirrored = λ c d h k. (order_mirror d c, order_back d c);
  carries = λ c d e h k l p q. order_carries e d c q p;
  climbs = λ p ms q t h k l. countdown_climbs (record { major = 5; minor = 4294967295 }) ms q t refl (omega arith);
}

pub laws_kept : LawsAreKept
laws_kept = (counter_laws, latch_laws, brick_laws, counting_laws, branching_laws, countdown_laws)
