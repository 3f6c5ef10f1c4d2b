-- A file is refused by one of the first eight checks exactly where the sentences before it hold and its own breaks first at that place.
use Rattle.std.proofs.Common.{◌≡◌, ℕ, zero, suc, ◌+◌, ◌-◌, ◌*◌, ◌<◌, ◌≤◌, Bool, true, false, cond, eqb, leb, ◌⊎◌, List, length, get_or, drop, sym, refl, ap, subst, inl, inr, arith, eq-eqb, ne_eqb, eqb-true, le-leb, leb-false, leb-true}
use borrow.Author.Tests.{both_ways, eqb-false}
use Rattle.machine.specs.declared.GuestFault.TheVariants.{WrongLength, Unlawful, ShortBuffer}
use Rattle.machine.specs.Kinds.{Kind}
use Rattle.landmark.specs.Markings.{Marking, most_units}
use Rattle.faults.specs.declared.EntryAt.{EntryAt}
use Rattle.faults.specs.declared.FileFault.{FileFault}
use Rattle.faults.specs.declared.FileFault.TheVariants.{Truncated, Version, StatedLength, GuestByte, LandmarkByte, InImage, Extent, EventBytes, UnknownCode}
use Rattle.faults.specs.declared.SessionFault.TheVariants.{InFile}
use Rattle.faults.specs.Refusals.{file_refusal}
use Rattle.runs.specs.Runs.{first}
use Rattle.runs.specs.Checks.{wrong, Finding, passed, failed, unless, first_failed, passing, Found, found, lost, number_at, code_at, event_ok, image_of, count_of, event_place, entry, events_of, last_of, check_1, check_2, check_3, check_4, check_5, check_6, check_7, check_8, check_9, check_events, check_form, conclude, follow, verdict}
use Rattle.runs.specs.Forms.{LongEnough, RightVersion, RightLength, RightGuest, RightLandmark, RightImageLength, RightExtent, LawfulImage, RightEvent, RightCode, RightBefore, HoldsBelow, Breaks}
use Rattle.runs.specs.Theorems.{EveryFaultIsFirst}
use Rattle.runs.proofs.Tell.{le_or_lt}

failed_same : {f g : FileFault} → failed f ≡ failed g → f ≡ g
failed_same e = cc

passed_failed : {A : Type 0} {g : FileFault} → passed ≡ failed g → A
passed_failed e = absurd (let z : ◌≡◌ {A = ℕ} 0 1 = cc in omega arith)

in_file_same : {f g : FileFault} → wrong (InFile f) ≡ wrong (InFile g) → f ≡ g
in_file_same e = cc

unless_failed : (b : Bool) (f g : FileFault) → unless b f ≡ failed g → (b ≡ false) × (f ≡ g)
unless_failed true f g e = passed_failed e
unless_failed false f g e = (refl, failed_same e)

unless_passed : (b : Bool) (f : FileFault) → unless b f ≡ passed → b ≡ true
unless_passed true f e = refl
unless_passed false f e = passed_failed (sym e)

unless_false : (b : Bool) (f : FileFault) → b ≡ false → unless b f ≡ failed f
unless_false b f e = rw e

unless_true : (b : Bool) (f : FileFault) → b ≡ true → unless b f ≡ passed
unless_true b f e = rw e

-- of two checks the first fails, or it passes and the second fails
either_fails : (a b : Finding) (g : FileFault) → first_failed a b ≡ failed g → (a ≡ failed g) ⊎ ((a ≡ passed) × (b ≡ failed g))
either_fails passed b g e = inr (refl, e)
either_fails (failed f) b g e = inl e

both_pass : (a b : Finding) → first_failed a b ≡ passed → (a ≡ passed) × (b ≡ passed)
both_pass passed b e = (refl, e)
both_pass (failed f) b e = passed_failed (sym e)

past : (a b : Finding) (g : FileFault) → a ≡ passed → b ≡ failed g → first_failed a b ≡ failed g
past a b g p q = λ i. first_failed (p i) (q i)

stop : (a b : Finding) (g : FileFault) → a ≡ failed g → first_failed a b ≡ failed g
stop a b g p = λ i. first_failed (p i) b

pass_both : (a b : Finding) → a ≡ passed → b ≡ passed → first_failed a b ≡ passed
pass_both a b p q = λ i. first_failed (p i) (q i)

not_leb : (a b : ℕ) → ¬ (a ≤ b) → leb a b ≡ false
not_leb a b h = go (leb a b) refl
  where
    go : (t : Bool) → leb a b ≡ t → leb a b ≡ false
    go true e = absurd (h (leb-true a b e))
    go false e = e

not_so : (b : Bool) → ¬ (b ≡ true) → b ≡ false
not_so true h = absurd (h refl)
not_so false h = refl

-- an event's kind and data
right_kind : (kind d : ℕ) → event_ok kind d ≡ true → ((kind ≡ 1) × (d ≡ 0)) ⊎ (kind ≡ 2)
right_kind kind d e = go (eqb kind 1) refl e
  where
    go : (b : Bool) → eqb kind 1 ≡ b → cond b (eqb d 0) (eqb kind 2) ≡ true → ((kind ≡ 1) × (d ≡ 0)) ⊎ (kind ≡ 2)
    go true p q = inl (eqb-true kind 1 p, eqb-true d 0 q)
    go false p q = inr (eqb-true kind 2 q)

kind_right : (kind d : ℕ) → ((kind ≡ 1) × (d ≡ 0)) ⊎ (kind ≡ 2) → event_ok kind d ≡ true
kind_right kind d (inl (p, q)) = rw (eq-eqb kind 1 p) (eq-eqb d 0 q)
kind_right kind d (inr p) = rw (ne_eqb kind 1 (λ e. omega arith)) (eq-eqb kind 2 p)

module _ (K : Kind) (L : Marking) (file : List ℕ) where
  -- the checks, from each on
  abbrev from_7 : Finding
  from_7 = first_failed (check_7 K L file) (check_8 K L file)

  abbrev from_6 : Finding
  from_6 = first_failed (check_6 K L file) from_7

  abbrev from_5 : Finding
  from_5 = first_failed (check_5 K L file) from_6

  abbrev from_4 : Finding
  from_4 = first_failed (check_4 K.guest L.byte file) from_5

  abbrev from_3 : Finding
  from_3 = first_failed (check_3 file) from_4

  abbrev from_2 : Finding
  from_2 = first_failed (check_2 file) from_3

  -- what is shown of a fault
  abbrev Shown : FileFault → Type 0
  Shown g = HoldsBelow K L (file_refusal g).number file × Breaks K L file g

  none_below : (n : ℕ) → n ≤ 1 → HoldsBelow K L n file
  none_below n h = record { one = λ l. absurd (omega arith); two = λ l. absurd (omega arith); three = λ l. absurd (omega arith); four = λ l. absurd (omega arith); five = λ l. absurd (omega arith); six = λ l. absurd (omega arith); seven = λ l. absurd (omega arith) }

  below_2 : LongEnough file → HoldsBelow K L 2 file
  below_2 a = record { one = λ _. a; two = λ l. absurd (omega arith); three = λ l. absurd (omega arith); four = λ l. absurd (omega arith); five = λ l. absurd (omega arith); six = λ l. absurd (omega arith); seven = λ l. absurd (omega arith) }

  below_3 : LongEnough file → RightVersion file → HoldsBelow K L 3 file
  below_3 a b = record { one = λ _. a; two = λ _. b; three = λ l. absurd (omega arith); four = λ l. absurd (omega arith); five = λ l. absurd (omega arith); six = λ l. absurd (omega arith); seven = λ l. absurd (omega arith) }

  below_4 : LongEnough file → RightVersion file → RightLength file → HoldsBelow K L 4 file
  below_4 a b c = record { one = λ _. a; two = λ _. b; three = λ _. c; four = λ l. absurd (omega arith); five = λ l. absurd (omega arith); six = λ l. absurd (omega arith); seven = λ l. absurd (omega arith) }

  below_5 : HoldsBelow K L 4 file → RightLength file → RightGuest K L file × RightLandmark K L file → HoldsBelow K L 5 file
  below_5 h c d = record { one = λ _. h.one (omega arith); two = λ _. h.two (omega arith); three = λ _. h.three (omega arith); four = λ _. d; five = λ l. absurd (omega arith); six = λ l. absurd (omega arith); seven = λ l. absurd (omega arith) }

  below_6 : HoldsBelow K L 5 file → RightImageLength K L file → HoldsBelow K L 6 file
  below_6 h e = record { one = λ _. h.one (omega arith); two = λ _. h.two (omega arith); three = λ _. h.three (omega arith); four = λ _. h.four (omega arith); five = λ _. e; six = λ l. absurd (omega arith); seven = λ l. absurd (omega arith) }

  below_7 : HoldsBelow K L 6 file → RightExtent K L file → HoldsBelow K L 7 file
  below_7 h e = record { one = λ _. h.one (omega arith); two = λ _. h.two (omega arith); three = λ _. h.three (omega arith); four = λ _. h.four (omega arith); five = λ _. h.five (omega arith); six = λ _. e; seven = λ l. absurd (omega arith) }

  below_8 : HoldsBelow K L 7 file → LawfulImage K L file → HoldsBelow K L 8 file
  below_8 h e = record { one = λ _. h.one (omega arith); two = λ _. h.two (omega arith); three = λ _. h.three (omega arith); four = λ _. h.four (omega arith); five = λ _. h.five (omega arith); six = λ _. h.six (omega arith); seven = λ _. e }

  moved_to : {f : FileFault} (g : FileFault) → f ≡ g → Shown f → Shown g
  moved_to g e s = subst Shown e s

  -- event i, with those before it right
  right_more : (i : ℕ) → RightBefore K L file i → RightEvent K L file i → RightCode K L file i → RightBefore K L file (suc i)
  right_more i h e c j l = go (le_or_lt i j)
    where
      go : (i ≤ j) ⊎ (j < i) → RightEvent K L file j × RightCode K L file j
      go (inl b) = let q : i ≡ j = omega arith in subst (λ (k : ℕ). RightEvent K L file k × RightCode K L file k) q (e, c)
      go (inr b) = h j b

  events_shown : (i n : ℕ) (g : FileFault) → i + n ≡ count_of K L file → RightBefore K L file i → HoldsBelow K L 8 file → check_events K L file i n ≡ failed g → Shown g
  unfolding check_events
  events_shown i zero g c h H e =
      let (p, q) = unless_failed (L.has (code_at (drop (event_place K L i) file))) (UnknownCode (entry K L i)) g e in
      moved_to g q (H, (i, refl, omega arith, h, λ l. absurd (omega arith), λ z. both_ways (L.has (code_at (drop (event_place K L i) file))) p z))
  events_shown i (suc n) g c h H e = go (either_fails (unless (event_ok (get_or bs 8 0) (get_or bs 9 0)) (EventBytes (entry K L i))) (first_failed (unless (L.has (code_at bs)) (UnknownCode (entry K L i))) (check_events K L file (suc i) n)) g e) (λ r k z. events_shown (suc i) n g (omega arith) (right_more i h r k) H z)
    where
      bs : List ℕ
      bs = drop (event_place K L i) file

      last : RightEvent K L file i → (RightEvent K L file i → RightCode K L file i → check_events K L file (suc i) n ≡ failed g → Shown g) → (unless (L.has (code_at bs)) (UnknownCode (entry K L i)) ≡ failed g) ⊎ ((unless (L.has (code_at bs)) (UnknownCode (entry K L i)) ≡ passed) × (check_events K L file (suc i) n ≡ failed g)) → Shown g
      last r ih (inl z) =
          let (p, q) = unless_failed (L.has (code_at bs)) (UnknownCode (entry K L i)) g z in
          moved_to g q (H, (i, refl, omega arith, h, λ l. r, λ w. both_ways (L.has (code_at bs)) p w))
      last r ih (inr (x, z)) = ih r (unless_passed (L.has (code_at bs)) (UnknownCode (entry K L i)) x) z

      go : (unless (event_ok (get_or bs 8 0) (get_or bs 9 0)) (EventBytes (entry K L i)) ≡ failed g) ⊎ ((unless (event_ok (get_or bs 8 0) (get_or bs 9 0)) (EventBytes (entry K L i)) ≡ passed) × (first_failed (unless (L.has (code_at bs)) (UnknownCode (entry K L i))) (check_events K L file (suc i) n) ≡ failed g)) → (RightEvent K L file i → RightCode K L file i → check_events K L file (suc i) n ≡ failed g → Shown g) → Shown g
      go (inl z) ih =
          let (p, q) = unless_failed (event_ok (get_or bs 8 0) (get_or bs 9 0)) (EventBytes (entry K L i)) g z in
          moved_to g q (H, (i, refl, omega arith, h, λ w. both_ways (event_ok (get_or bs 8 0) (get_or bs 9 0)) p (kind_right (get_or bs 8 0) (get_or bs 9 0) w)))
      go (inr (x, z)) ih = last (right_kind (get_or bs 8 0) (get_or bs 9 0) (unless_passed (event_ok (get_or bs 8 0) (get_or bs 9 0)) (EventBytes (entry K L i)) x)) ih (either_fails (unless (L.has (code_at bs)) (UnknownCode (entry K L i))) (check_events K L file (suc i) n) g z)

  shown_7 : (g : FileFault) → HoldsBelow K L 7 file → (check_7 K L file ≡ failed g) ⊎ ((check_7 K L file ≡ passed) × (check_8 K L file ≡ failed g)) → Shown g
  shown_7 g H (inl z) =
      let (p, q) = unless_failed (K.lawful (image_of K L file)) (InImage (Unlawful (K.offending (image_of K L file)))) g z in
      moved_to g q (H, (λ w. both_ways (K.lawful (image_of K L file)) p w, refl))
  shown_7 g H (inr (x, z)) = events_shown 0 (count_of K L file) g (omega arith) (λ j l. absurd (omega arith)) (below_8 H (unless_passed (K.lawful (image_of K L file)) (InImage (Unlawful (K.offending (image_of K L file)))) x)) z

  extent_shown : (g : FileFault) → HoldsBelow K L 6 file → ¬ RightExtent K L file → Extent (11 + K.size) ≡ g → Shown g
  extent_shown g H n q = moved_to g q (H, (n, refl))

  shown_6 : (g : FileFault) → HoldsBelow K L 6 file → (check_6 K L file ≡ failed g) ⊎ ((check_6 K L file ≡ passed) × (from_7 ≡ failed g)) → Shown g
  shown_6 g H (inl z) = go (either_fails (unless (leb (21 + K.size) (length file)) (Extent (11 + K.size))) (first_failed (unless (leb (count_of K L file) 256) (Extent (11 + K.size))) (unless (eqb (length file) (21 + K.size + 10 * count_of K L file)) (Extent (11 + K.size)))) g z)
    where
      next : (unless (leb (count_of K L file) 256) (Extent (11 + K.size)) ≡ failed g) ⊎ ((unless (leb (count_of K L file) 256) (Extent (11 + K.size)) ≡ passed) × (unless (eqb (length file) (21 + K.size + 10 * count_of K L file)) (Extent (11 + K.size)) ≡ failed g)) → Shown g
      next (inl y) = let (p, q) = unless_failed (leb (count_of K L file) 256) (Extent (11 + K.size)) g y in extent_shown g H (λ w. let o : 256 < count_of K L file = leb-false (count_of K L file) 256 p in omega (arith, w.1)) q
      next (inr (x, y)) = let (p, q) = unless_failed (eqb (length file) (21 + K.size + 10 * count_of K L file)) (Extent (11 + K.size)) g y in extent_shown g H (λ w. eqb-false (length file) (21 + K.size + 10 * count_of K L file) p w.2) q

      go : (unless (leb (21 + K.size) (length file)) (Extent (11 + K.size)) ≡ failed g) ⊎ ((unless (leb (21 + K.size) (length file)) (Extent (11 + K.size)) ≡ passed) × (first_failed (unless (leb (count_of K L file) 256) (Extent (11 + K.size))) (unless (eqb (length file) (21 + K.size + 10 * count_of K L file)) (Extent (11 + K.size))) ≡ failed g)) → Shown g
      go (inl y) = let (p, q) = unless_failed (leb (21 + K.size) (length file)) (Extent (11 + K.size)) g y in extent_shown g H (λ w. let o : length file < 21 + K.size = leb-false (21 + K.size) (length file) p in omega (arith, w.0)) q
      go (inr (x, y)) = next (either_fails (unless (leb (count_of K L file) 256) (Extent (11 + K.size))) (unless (eqb (length file) (21 + K.size + 10 * count_of K L file)) (Extent (11 + K.size))) g y)
  shown_6 g H (inr (x, z)) =
      let (x1, x2) = both_pass (unless (leb (21 + K.size) (length file)) (Extent (11 + K.size))) (first_failed (unless (leb (count_of K L file) 256) (Extent (11 + K.size))) (unless (eqb (length file) (21 + K.size + 10 * count_of K L file)) (Extent (11 + K.size)))) x in
      let (x3, x4) = both_pass (unless (leb (count_of K L file) 256) (Extent (11 + K.size))) (unless (eqb (length file) (21 + K.size + 10 * count_of K L file)) (Extent (11 + K.size))) x2 in
      let E : RightExtent K L file = (leb-true (21 + K.size) (length file) (unless_passed (leb (21 + K.size) (length file)) (Extent (11 + K.size)) x1), leb-true (count_of K L file) 256 (unless_passed (leb (count_of K L file) 256) (Extent (11 + K.size)) x3), eqb-true (length file) (21 + K.size + 10 * count_of K L file) (unless_passed (eqb (length file) (21 + K.size + 10 * count_of K L file)) (Extent (11 + K.size)) x4)) in
      shown_7 g (below_7 H E) (either_fails (check_7 K L file) (check_8 K L file) g z)

  shown_5 : (g : FileFault) → HoldsBelow K L 5 file → (check_5 K L file ≡ failed g) ⊎ ((check_5 K L file ≡ passed) × (from_6 ≡ failed g)) → Shown g
  shown_5 g H (inl z) =
      let (p, q) = unless_failed (eqb (number_at file 7) K.size) (InImage WrongLength) g z in
      moved_to g q (H, eqb-false (number_at file 7) K.size p)
  shown_5 g H (inr (x, z)) = shown_6 g (below_6 H (eqb-true (number_at file 7) K.size (unless_passed (eqb (number_at file 7) K.size) (InImage WrongLength) x))) (either_fails (check_6 K L file) from_7 g z)

  shown_4 : (g : FileFault) → HoldsBelow K L 4 file → RightLength file → (check_4 K.guest L.byte file ≡ failed g) ⊎ ((check_4 K.guest L.byte file ≡ passed) × (from_5 ≡ failed g)) → Shown g
  shown_4 g H c (inl z) = go (either_fails (unless (eqb (get_or file 5 0) K.guest) GuestByte) (unless (eqb (get_or file 6 0) L.byte) LandmarkByte) g z)
    where
      go : (unless (eqb (get_or file 5 0) K.guest) GuestByte ≡ failed g) ⊎ ((unless (eqb (get_or file 5 0) K.guest) GuestByte ≡ passed) × (unless (eqb (get_or file 6 0) L.byte) LandmarkByte ≡ failed g)) → Shown g
      go (inl y) = let (p, q) = unless_failed (eqb (get_or file 5 0) K.guest) GuestByte g y in moved_to g q (H, eqb-false (get_or file 5 0) K.guest p)
      go (inr (x, y)) = let (p, q) = unless_failed (eqb (get_or file 6 0) L.byte) LandmarkByte g y in moved_to g q (H, (eqb-true (get_or file 5 0) K.guest (unless_passed (eqb (get_or file 5 0) K.guest) GuestByte x), eqb-false (get_or file 6 0) L.byte p))
  shown_4 g H c (inr (x, z)) =
      let (x1, x2) = both_pass (unless (eqb (get_or file 5 0) K.guest) GuestByte) (unless (eqb (get_or file 6 0) L.byte) LandmarkByte) x in
      let d : RightGuest K L file × RightLandmark K L file = (eqb-true (get_or file 5 0) K.guest (unless_passed (eqb (get_or file 5 0) K.guest) GuestByte x1), eqb-true (get_or file 6 0) L.byte (unless_passed (eqb (get_or file 6 0) L.byte) LandmarkByte x2)) in
      shown_5 g (below_5 H c d) (either_fails (check_5 K L file) from_6 g z)

  shown_3 : (g : FileFault) → LongEnough file → RightVersion file → (check_3 file ≡ failed g) ⊎ ((check_3 file ≡ passed) × (from_4 ≡ failed g)) → Shown g
  shown_3 g a b (inl z) =
      let (p, q) = unless_failed (eqb (number_at file 1) (length file)) StatedLength g z in
      moved_to g q (below_3 a b, eqb-false (number_at file 1) (length file) p)
  shown_3 g a b (inr (x, z)) =
      let c : RightLength file = eqb-true (number_at file 1) (length file) (unless_passed (eqb (number_at file 1) (length file)) StatedLength x) in
      shown_4 g (below_4 a b c) c (either_fails (check_4 K.guest L.byte file) from_5 g z)

  shown_2 : (g : FileFault) → LongEnough file → (check_2 file ≡ failed g) ⊎ ((check_2 file ≡ passed) × (from_3 ≡ failed g)) → Shown g
  shown_2 g a (inl z) =
      let (p, q) = unless_failed (eqb (get_or file 0 0) 1) Version g z in
      moved_to g q (below_2 a, eqb-false (get_or file 0 0) 1 p)
  shown_2 g a (inr (x, z)) = shown_3 g a (eqb-true (get_or file 0 0) 1 (unless_passed (eqb (get_or file 0 0) 1) Version x)) (either_fails (check_3 file) from_4 g z)

  shown_1 : (g : FileFault) → (check_1 file ≡ failed g) ⊎ ((check_1 file ≡ passed) × (from_2 ≡ failed g)) → Shown g
  shown_1 g (inl z) =
      let (p, q) = unless_failed (leb 21 (length file)) (Truncated (length file)) g z in
      moved_to g q (none_below 1 (omega arith), (λ w. let o : length file < 21 = leb-false 21 (length file) p in omega arith, refl))
  shown_1 g (inr (x, z)) = shown_2 g (leb-true 21 (length file) (unless_passed (leb 21 (length file)) (Truncated (length file)) x)) (either_fails (check_2 file) from_3 g z)

  pub form_shown : (g : FileFault) → check_form K L file ≡ failed g → Shown g
  form_shown g e = shown_1 g (either_fails (check_1 file) from_2 g e)

  module _ (g : FileFault) (n : ℕ) (H : HoldsBelow K L n file) where
    -- the checks whose sentences hold pass, so the refusal is that of a later one
    reach_2 : 1 < n → from_2 ≡ failed g → check_form K L file ≡ failed g
    reach_2 l e = past (check_1 file) from_2 g (unless_true (leb 21 (length file)) (Truncated (length file)) (le-leb 21 (length file) (H.one l))) e

    reach_3 : 2 < n → from_3 ≡ failed g → check_form K L file ≡ failed g
    reach_3 l e = reach_2 (omega arith) (past (check_2 file) from_3 g (unless_true (eqb (get_or file 0 0) 1) Version (eq-eqb (get_or file 0 0) 1 (H.two l))) e)

    reach_4 : 3 < n → from_4 ≡ failed g → check_form K L file ≡ failed g
    reach_4 l e = reach_3 (omega arith) (past (check_3 file) from_4 g (unless_true (eqb (number_at file 1) (length file)) StatedLength (eq-eqb (number_at file 1) (length file) (H.three l))) e)

    reach_5 : 4 < n → from_5 ≡ failed g → check_form K L file ≡ failed g
    reach_5 l e = reach_4 (omega arith) (past (check_4 K.guest L.byte file) from_5 g (pass_both (unless (eqb (get_or file 5 0) K.guest) GuestByte) (unless (eqb (get_or file 6 0) L.byte) LandmarkByte) (unless_true (eqb (get_or file 5 0) K.guest) GuestByte (eq-eqb (get_or file 5 0) K.guest (H.four l).0)) (unless_true (eqb (get_or file 6 0) L.byte) LandmarkByte (eq-eqb (get_or file 6 0) L.byte (H.four l).1))) e)

    reach_6 : 5 < n → from_6 ≡ failed g → check_form K L file ≡ failed g
    reach_6 l e = reach_5 (omega arith) (past (check_5 K L file) from_6 g (unless_true (eqb (number_at file 7) K.size) (InImage WrongLength) (eq-eqb (number_at file 7) K.size (H.five l))) e)

    reach_7 : 6 < n → from_7 ≡ failed g → check_form K L file ≡ failed g
    reach_7 l e =
        reach_6 (omega arith) (past (check_6 K L file) from_7 g
        (pass_both (unless (leb (21 + K.size) (length file)) (Extent (11 + K.size))) (first_failed (unless (leb (count_of K L file) 256) (Extent (11 + K.size))) (unless (eqb (length file) (21 + K.size + 10 * count_of K L file)) (Extent (11 + K.size))))
        (unless_true (leb (21 + K.size) (length file)) (Extent (11 + K.size)) (le-leb (21 + K.size) (length file) (H.six l).0))
        (pass_both (unless (leb (count_of K L file) 256) (Extent (11 + K.size))) (unless (eqb (length file) (21 + K.size + 10 * count_of K L file)) (Extent (11 + K.size)))
        (unless_true (leb (count_of K L file) 256) (Extent (11 + K.size)) (le-leb (count_of K L file) 256 (H.six l).1))
        (unless_true (eqb (length file) (21 + K.size + 10 * count_of K L file)) (Extent (11 + K.size)) (eq-eqb (length file) (21 + K.size + 10 * count_of K L file) (H.six l).2)))) e)

    reach_8 : 7 < n → check_8 K L file ≡ failed g → check_form K L file ≡ failed g
    reach_8 l e = reach_7 (omega arith) (past (check_7 K L file) (check_8 K L file) g (unless_true (K.lawful (image_of K L file)) (InImage (Unlawful (K.offending (image_of K L file)))) (H.seven l)) e)

  -- some part of check 6 fails
  extent_fails : ¬ RightExtent K L file → check_6 K L file ≡ failed (Extent (11 + K.size))
  extent_fails h = go (leb (21 + K.size) (length file)) refl
    where
      third : 21 + K.size ≤ length file → count_of K L file ≤ 256 → (b : Bool) → eqb (length file) (21 + K.size + 10 * count_of K L file) ≡ b → unless b (Extent (11 + K.size)) ≡ failed (Extent (11 + K.size))
      third p q true e = absurd (h (p, q, eqb-true (length file) (21 + K.size + 10 * count_of K L file) e))
      third p q false e = refl

      second : 21 + K.size ≤ length file → (b : Bool) → leb (count_of K L file) 256 ≡ b → first_failed (unless b (Extent (11 + K.size))) (unless (eqb (length file) (21 + K.size + 10 * count_of K L file)) (Extent (11 + K.size))) ≡ failed (Extent (11 + K.size))
      second p true e = third p (leb-true (count_of K L file) 256 e) (eqb (length file) (21 + K.size + 10 * count_of K L file)) refl
      second p false e = refl

      go : (b : Bool) → leb (21 + K.size) (length file) ≡ b → first_failed (unless b (Extent (11 + K.size))) (first_failed (unless (leb (count_of K L file) 256) (Extent (11 + K.size))) (unless (eqb (length file) (21 + K.size + 10 * count_of K L file)) (Extent (11 + K.size)))) ≡ failed (Extent (11 + K.size))
      go true e = second (leb-true (21 + K.size) (length file) e) (leb (count_of K L file) 256) refl
      go false e = refl

  -- event i is right, so the refusal is that of a later one
  event_passes : (i n : ℕ) (g : FileFault) → RightEvent K L file i → RightCode K L file i → check_events K L file (suc i) n ≡ failed g → check_events K L file i (suc n) ≡ failed g
  unfolding check_events
  event_passes i n g e c q =
      past (unless (event_ok (get_or (drop (event_place K L i) file) 8 0) (get_or (drop (event_place K L i) file) 9 0)) (EventBytes (entry K L i))) (first_failed (unless (L.has (code_at (drop (event_place K L i) file))) (UnknownCode (entry K L i))) (check_events K L file (suc i) n)) g
      (unless_true (event_ok (get_or (drop (event_place K L i) file) 8 0) (get_or (drop (event_place K L i) file) 9 0)) (EventBytes (entry K L i)) (kind_right (get_or (drop (event_place K L i) file) 8 0) (get_or (drop (event_place K L i) file) 9 0) e))
      (past (unless (L.has (code_at (drop (event_place K L i) file))) (UnknownCode (entry K L i))) (check_events K L file (suc i) n) g (unless_true (L.has (code_at (drop (event_place K L i) file))) (UnknownCode (entry K L i)) c) q)

  bytes_fail : (i n : ℕ) → ¬ RightEvent K L file i → check_events K L file i (suc n) ≡ failed (EventBytes (entry K L i))
  unfolding check_events
  bytes_fail i n h =
      let kind : ℕ = get_or (drop (event_place K L i) file) 8 0 in
      let d : ℕ = get_or (drop (event_place K L i) file) 9 0 in
      stop (unless (event_ok kind d) (EventBytes (entry K L i))) (first_failed (unless (L.has (code_at (drop (event_place K L i) file))) (UnknownCode (entry K L i))) (check_events K L file (suc i) n)) (EventBytes (entry K L i))
      (unless_false (event_ok kind d) (EventBytes (entry K L i)) (not_so (event_ok kind d) (λ z. h (right_kind kind d z))))

  code_fails : (i n : ℕ) → (0 < n → RightEvent K L file i) → ¬ RightCode K L file i → check_events K L file i n ≡ failed (UnknownCode (entry K L i))
  unfolding check_events
  code_fails i zero r h = unless_false (L.has (code_at (drop (event_place K L i) file))) (UnknownCode (entry K L i)) (not_so (L.has (code_at (drop (event_place K L i) file))) h)
  code_fails i (suc n) r h =
      let kind : ℕ = get_or (drop (event_place K L i) file) 8 0 in
      let d : ℕ = get_or (drop (event_place K L i) file) 9 0 in
      past (unless (event_ok kind d) (EventBytes (entry K L i))) (first_failed (unless (L.has (code_at (drop (event_place K L i) file))) (UnknownCode (entry K L i))) (check_events K L file (suc i) n)) (UnknownCode (entry K L i))
      (unless_true (event_ok kind d) (EventBytes (entry K L i)) (kind_right kind d (r (omega arith))))
      (stop (unless (L.has (code_at (drop (event_place K L i) file))) (UnknownCode (entry K L i))) (check_events K L file (suc i) n) (UnknownCode (entry K L i))
      (unless_false (L.has (code_at (drop (event_place K L i) file))) (UnknownCode (entry K L i)) (not_so (L.has (code_at (drop (event_place K L i) file))) h)))

  -- the events before event k are right, so the refusal is that of event k
  events_reach : (i d n : ℕ) (g : FileFault) → RightBefore K L file (i + d) → check_events K L file (i + d) n ≡ failed g → check_events K L file i (d + n) ≡ failed g
  events_reach i zero n g h e =
      let p : i + 0 ≡ i = omega arith in
      let q : n ≡ 0 + n = omega arith in
      subst (λ (m : ℕ). check_events K L file i m ≡ failed g) q (subst (λ (k : ℕ). check_events K L file k n ≡ failed g) p e)
  events_reach i (suc d) n g h e =
      let o : i + suc d ≡ suc i + d = omega arith in
      let r = h i (omega arith) in
      let p : suc (d + n) ≡ suc d + n = omega arith in
      subst (λ (k : ℕ). check_events K L file i k ≡ failed g) p
      (event_passes i (d + n) g r.0 r.1 (events_reach (suc i) d n g (subst (RightBefore K L file) o h) (subst (λ (k : ℕ). check_events K L file k n ≡ failed g) o e)))

  events_at : (k n : ℕ) (g : FileFault) → k + n ≡ count_of K L file → RightBefore K L file k → check_events K L file k n ≡ failed g → check_8 K L file ≡ failed g
  events_at k n g c h e =
      let o : 0 + k ≡ k = omega arith in
      subst (λ (m : ℕ). check_events K L file 0 m ≡ failed g) c (events_reach 0 k n g (subst (RightBefore K L file) (sym o) h) (subst (λ (m : ℕ). check_events K L file m n ≡ failed g) (sym o) e))

  pub shown_form : (g : FileFault) → HoldsBelow K L (file_refusal g).number file → Breaks K L file g → check_form K L file ≡ failed g
  shown_form (Truncated m) H b =
      let e : Truncated (length file) ≡ Truncated m = ap Truncated (sym b.1) in
      subst (λ (x : FileFault). check_form K L file ≡ failed x) e (stop (check_1 file) from_2 (Truncated (length file)) (unless_false (leb 21 (length file)) (Truncated (length file)) (not_leb 21 (length file) b.0)))
  shown_form Version H b = reach_2 Version 2 H (omega arith) (stop (check_2 file) from_3 Version (unless_false (eqb (get_or file 0 0) 1) Version (ne_eqb (get_or file 0 0) 1 b)))
  shown_form StatedLength H b = reach_3 StatedLength 3 H (omega arith) (stop (check_3 file) from_4 StatedLength (unless_false (eqb (number_at file 1) (length file)) StatedLength (ne_eqb (number_at file 1) (length file) b)))
  shown_form GuestByte H b =
      reach_4 GuestByte 4 H (omega arith) (stop (check_4 K.guest L.byte file) from_5 GuestByte
      (stop (unless (eqb (get_or file 5 0) K.guest) GuestByte) (unless (eqb (get_or file 6 0) L.byte) LandmarkByte) GuestByte (unless_false (eqb (get_or file 5 0) K.guest) GuestByte (ne_eqb (get_or file 5 0) K.guest b))))
  shown_form LandmarkByte H b =
      reach_4 LandmarkByte 4 H (omega arith) (stop (check_4 K.guest L.byte file) from_5 LandmarkByte
      (past (unless (eqb (get_or file 5 0) K.guest) GuestByte) (unless (eqb (get_or file 6 0) L.byte) LandmarkByte) LandmarkByte
      (unless_true (eqb (get_or file 5 0) K.guest) GuestByte (eq-eqb (get_or file 5 0) K.guest b.0))
      (unless_false (eqb (get_or file 6 0) L.byte) LandmarkByte (ne_eqb (get_or file 6 0) L.byte b.1))))
  shown_form (InImage WrongLength) H b = reach_5 (InImage WrongLength) 5 H (omega arith) (stop (check_5 K L file) from_6 (InImage WrongLength) (unless_false (eqb (number_at file 7) K.size) (InImage WrongLength) (ne_eqb (number_at file 7) K.size b)))
  shown_form (InImage (Unlawful o)) H b =
      let bad : ℕ = K.offending (image_of K L file) in
      let e : InImage (Unlawful bad) ≡ InImage (Unlawful o) = ap (λ (x : ℕ). InImage (Unlawful x)) (sym b.1) in
      subst (λ (x : FileFault). check_form K L file ≡ failed x) e (reach_7 (InImage (Unlawful bad)) 7 H (omega arith) (stop (check_7 K L file) (check_8 K L file) (InImage (Unlawful bad)) (unless_false (K.lawful (image_of K L file)) (InImage (Unlawful bad)) (not_so (K.lawful (image_of K L file)) b.0))))
  shown_form (InImage (ShortBuffer m)) H b = absurd b
  shown_form (Extent o) H b =
      let e : Extent (11 + K.size) ≡ Extent o = ap Extent (sym b.1) in
      subst (λ (x : FileFault). check_form K L file ≡ failed x) e (reach_6 (Extent (11 + K.size)) 6 H (omega arith) (stop (check_6 K L file) from_7 (Extent (11 + K.size)) (extent_fails b.0)))
  shown_form (EventBytes x) H (k, q, l, h, b) =
      let (n, c) = rest_of k (count_of K L file) l in
      subst (λ (y : EntryAt). check_form K L file ≡ failed (EventBytes y)) (sym q) (reach_8 (EventBytes (entry K L k)) 8 H (omega arith) (events_at k (suc n) (EventBytes (entry K L k)) c h (bytes_fail k n b)))
    where
      rest_of : (k m : ℕ) → k < m → (n : ℕ) × (k + suc n ≡ m)
      rest_of k m l = (m - k - 1, omega arith)
  shown_form (UnknownCode x) H (k, q, l, h, r, b) =
      let n : ℕ = count_of K L file - k in
      let c : k + n ≡ count_of K L file = omega arith in
      subst (λ (y : EntryAt). check_form K L file ≡ failed (UnknownCode y)) (sym q) (reach_8 (UnknownCode (entry K L k)) 8 H (omega arith) (events_at k n (UnknownCode (entry K L k)) c h (code_fails k n (λ z. r (omega arith)) b)))

  -- the ninth check has no such refusal
  form_only : (f : Found) (g : FileFault) → conclude K L (image_of K L file) f ≡ wrong (InFile g) → ⊥
  form_only (found acts) g e = let z : ◌≡◌ {A = ℕ} 0 1 = cc in omega arith
  form_only (lost i) g e = let z : ◌≡◌ {A = ℕ} 0 1 = cc in omega arith

  pub verdict_failed : (g : FileFault) → verdict K L file ≡ wrong (InFile g) → check_form K L file ≡ failed g
  unfolding verdict
  verdict_failed g e = go (check_form K L file) refl e
    where
      go : (f : Finding) → check_form K L file ≡ f → passing f (check_9 K L file) ≡ wrong (InFile g) → f ≡ failed g
      go passed p q = absurd (form_only (follow K L most_units (first K L (image_of K L file)) 0 (events_of K L file) (last_of K L file)) g q)
      go (failed f) p q = ap failed (in_file_same q)

  pub failed_verdict : (g : FileFault) → check_form K L file ≡ failed g → verdict K L file ≡ wrong (InFile g)
  unfolding verdict
  failed_verdict g e = ap (λ (f : Finding). passing f (check_9 K L file)) e

pub faults_first : EveryFaultIsFirst
faults_first K L file g = (λ e. form_shown K L file g (verdict_failed K L file g e), λ h. failed_verdict K L file g (shown_form K L file g h.0 h.1))
