-- A load's checks pass a file exactly where it tells of a run, and refuse it by 9 exactly where its events break off.
use Rattle.std.proofs.Common.{◌≡◌, ℕ, zero, suc, ◌+◌, ◌-◌, ◌*◌, ◌<◌, ◌≤◌, Bool, true, false, eqb, leb, ◌⊎◌, List, [], ◌∷◌, ◌++◌, length, get_or, take, drop, replicate, sym, refl, ap, ◌∙◌, subst, inl, inr, arith, length-append, length-drop, take-append-drop, drop_of_length-le, length-take, get_or-drop, drop-drop, take_at, drop_at, eq-eqb, eqb-true, le-leb, leb-true}
use lib.Seq.{take-length}
use Rattle.std.proofs.lemmas.List.{take-take}
use Rattle.landmark.specs.declared.Code.{Code}
use Rattle.faults.specs.declared.EntryAt.{EntryAt}
use Rattle.faults.specs.declared.FileFault.{FileFault}
use Rattle.faults.specs.declared.FileFault.TheVariants.{GuestByte, LandmarkByte, Extent, EventBytes, UnknownCode}
use Rattle.faults.specs.declared.SessionFault.{SessionFault}
use Rattle.faults.specs.declared.SessionFault.TheVariants.{InFile, OfGuest, Unreached, Stopped, RunFull, JournalFull, NotReady, KeptFull, NoSuchMoment, OutsideRun, ShortMemory}
use Rattle.machine.specs.Bytes.{Bytes}
use Rattle.machine.specs.Kinds.{Kind, MachineLaws}
use Rattle.landmark.specs.Markings.{Marking, LandmarkLaws, most_units}
use Rattle.runs.specs.declared.Entry.{Entry}
use Rattle.runs.specs.Runs.{Act, instruction, taking, Run, Moment, IsRun, Goes, first, advance, at, units, moment_after, journal_from, event_count, journal_of, longer}
use Rattle.runs.specs.Files.{two, four, code_bytes, journal_bytes, file_bytes, file_of}
use Rattle.runs.specs.Checks.{Verdict, ok, wrong, Finding, passed, failed, unless, first_failed, passing, Found, found, lost, two_at, number_at, code_at, event_ok, image_of, count_of, event_place, entry, events_of, events_from, last_of, check_1, check_2, check_3, check_4, check_5, check_6, check_7, check_8, check_9, check_events, check_form, conclude, follow, verdict}
use Rattle.runs.specs.Tells.{Told, Tells}
use Rattle.runs.specs.Breaks.{Spells, TakesJust, Arrives, BreaksOff, BreaksOffAt}
use Rattle.runs.specs.Theorems.{EveryLoadIsDecided, EveryFormIsChecked, EveryBreakIsFound}
use Rattle.runs.proofs.Moves.{first_sound, at_end, goes_front, goes_back, event_count_append}
use Rattle.runs.proofs.Rising.{marks_apart, at_sound}
use Rattle.runs.proofs.Journals.{told_of, length_log, cons_head}
use Rattle.runs.proofs.Bytes.{length_told, length_logged, file_is, tells_file, file_tells}
use Rattle.runs.proofs.Sessions.{front_is_run}
use Rattle.runs.proofs.Trim.{Ends, Trimmed, trimmed, log_on, ends_same}
use Rattle.runs.proofs.Tell.{le_or_lt, follow_sound, follow_complete, follow_lost, TellsActs, Lost, Here, first_ahead, entries_known, EventsFit, known_fits}
use Rattle.runs.proofs.Parse.{read, Right, read_sound, read_back, right_back, LogRead, spelled, spelled_is, byte_any, bytes_drop, four_back, two_back, code_back, four_read, two_read, code_read, place_next, events_read, check_right}

ok_same : {r s : Run} → ok r ≡ ok s → r ≡ s
ok_same e = cc

wrong_ok : {f : SessionFault} {r : Run} → wrong f ≡ ok r → ⊥
wrong_ok e = let z : ◌≡◌ {A = ℕ} 0 1 = cc in omega arith

-- a verdict that comes of no check before the ninth
abbrev LateFault : SessionFault → Type 0
LateFault (InFile f) = ⊥
LateFault (OfGuest f) = Unit {0}
LateFault (Unreached e) = Unit {0}
LateFault (Stopped u) = Unit {0}
LateFault (RunFull u) = Unit {0}
LateFault JournalFull = Unit {0}
LateFault (NotReady u) = Unit {0}
LateFault KeptFull = Unit {0}
LateFault (NoSuchMoment c) = Unit {0}
LateFault (OutsideRun u) = Unit {0}
LateFault (ShortMemory n) = Unit {0}

abbrev Late : Verdict → Type 0
Late (ok r) = Unit {0}
Late (wrong f) = LateFault f

-- what came of a later check came past this one
passes : (b : Bool) (f : FileFault) (v w : Verdict) → Late w → passing (unless b f) v ≡ w → (b ≡ true) × (v ≡ w)
passes true f v w k e = (refl, e)
passes false f v w k e = absurd (subst Late (sym e) k)

passes_first : (b : Bool) (f : FileFault) (g : Finding) (v w : Verdict) → Late w → passing (first_failed (unless b f) g) v ≡ w → (b ≡ true) × (passing g v ≡ w)
passes_first true f g v w k e = (refl, e)
passes_first false f g v w k e = absurd (subst Late (sym e) k)

unless_true : (b : Bool) (f : FileFault) → b ≡ true → unless b f ≡ passed
unless_true b f e = rw e

-- the verdict, by its checks
abbrev nested : Finding → Finding → Finding → Finding → Finding → Finding → Finding → Finding → Verdict → Verdict
nested a b c d e f g h v = passing a (passing b (passing c (passing d (passing e (passing f (passing g (passing h v)))))))

passing_both : (f g : Finding) (v : Verdict) → passing (first_failed f g) v ≡ passing f (passing g v)
passing_both passed g v = refl
passing_both (failed f) g v = refl

in_turn : (a b c d e f g h : Finding) (v : Verdict) → passing (first_failed a (first_failed b (first_failed c (first_failed d (first_failed e (first_failed f (first_failed g h))))))) v ≡ nested a b c d e f g h v
in_turn a b c d e f g h v =
    passing_both a (first_failed b (first_failed c (first_failed d (first_failed e (first_failed f (first_failed g h)))))) v
    ∙ ap (passing a) (passing_both b (first_failed c (first_failed d (first_failed e (first_failed f (first_failed g h))))) v
    ∙ ap (passing b) (passing_both c (first_failed d (first_failed e (first_failed f (first_failed g h)))) v
    ∙ ap (passing c) (passing_both d (first_failed e (first_failed f (first_failed g h))) v
    ∙ ap (passing d) (passing_both e (first_failed f (first_failed g h)) v
    ∙ ap (passing e) (passing_both f (first_failed g h) v
    ∙ ap (passing f) (passing_both g h v))))))

module _ (K : Kind) (L : Marking) where
  form_nested : (file : List ℕ) (v : Verdict) → passing (check_form K L file) v ≡ nested (check_1 file) (check_2 file) (check_3 file) (check_4 K.guest L.byte file) (check_5 K L file) (check_6 K L file) (check_7 K L file) (check_8 K L file) v
  form_nested file v = in_turn (check_1 file) (check_2 file) (check_3 file) (check_4 K.guest L.byte file) (check_5 K L file) (check_6 K L file) (check_7 K L file) (check_8 K L file) v

  late_events : (file : List ℕ) (i n : ℕ) (v w : Verdict) → Late w → passing (check_events K L file i n) v ≡ w → Right K L n (drop (event_place K L i) file) × (v ≡ w)
  unfolding check_events
  late_events file i zero v w k e = passes (L.has (code_at (drop (event_place K L i) file))) _ v w k e
  late_events file i (suc n) v w k e =
      let bs : List ℕ = drop (event_place K L i) file in
      let more : Finding = check_events K L file (suc i) n in
      let (c1, e1) = passes_first (event_ok (get_or bs 8 0) (get_or bs 9 0)) (EventBytes (entry K L i)) (first_failed (unless (L.has (code_at bs)) (UnknownCode (entry K L i))) more) v w k e in
      let (c2, e2) = passes_first (L.has (code_at bs)) (UnknownCode (entry K L i)) more v w k e1 in
      let (c3, e3) = late_events file (suc i) n v w k e2 in
      ((c1, c2, subst (Right K L n) (place_next K L file i) c3), e3)

  record Passed (file : List ℕ) : Type 0 where
    version : get_or file 0 0 ≡ 1
    whole : number_at file 1 ≡ length file
    guest : get_or file 5 0 ≡ K.guest
    byte : get_or file 6 0 ≡ L.byte
    image : number_at file 7 ≡ K.size
    few : count_of K L file ≤ 256
    exact : length file ≡ 21 + K.size + 10 * count_of K L file
    lawful : K.lawful (image_of K L file) ≡ true
    right : Right K L (count_of K L file) (drop (event_place K L 0) file)

  late_passed : (file : List ℕ) (v w : Verdict) → Late w → passing (check_form K L file) v ≡ w → Passed file
  late_passed file v w k e0 =
      let (c1, e1) = passes (leb 21 (length file)) _ _ w k (sym (form_nested file v) ∙ e0) in
      let (c2, e2) = passes (eqb (get_or file 0 0) 1) _ _ w k e1 in
      let (c3, e3) = passes (eqb (number_at file 1) (length file)) _ _ w k e2 in
      let (c4, e4) = passes_first (eqb (get_or file 5 0) K.guest) _ _ _ w k e3 in
      let (c5, e5) = passes (eqb (get_or file 6 0) L.byte) _ _ w k e4 in
      let (c6, e6) = passes (eqb (number_at file 7) K.size) _ _ w k e5 in
      let (c7, e7) = passes_first (leb (21 + K.size) (length file)) _ _ _ w k e6 in
      let (c8, e8) = passes_first (leb (count_of K L file) 256) _ _ _ w k e7 in
      let (c9, e9) = passes (eqb (length file) (21 + K.size + 10 * count_of K L file)) _ _ w k e8 in
      let (c10, e10) = passes (K.lawful (image_of K L file)) _ _ w k e9 in
      let (c11, e11) = late_events file 0 (count_of K L file) v w k e10 in
      record {
        version = eqb-true (get_or file 0 0) 1 c2;
        whole = eqb-true (number_at file 1) (length file) c3;
        guest = eqb-true (get_or file 5 0) K.guest c4;
        byte = eqb-true (get_or file 6 0) L.byte c5;
        image = eqb-true (number_at file 7) K.size c6;
        few = leb-true (count_of K L file) 256 c8;
        exact = eqb-true (length file) (21 + K.size + 10 * count_of K L file) c9;
        lawful = c10;
        right = c11;
      }

  verdict_passed : (file : List ℕ) (w : Verdict) → Late w → verdict K L file ≡ w → Passed file
  unfolding verdict
  verdict_passed file w k e = late_passed file (check_9 K L file) w k e

  form_passed : (file : List ℕ) → check_form K L file ≡ passed → Passed file
  form_passed file e = let r : Run = record { start = []; acts = [] } in late_passed file (ok r) (ok r) tt (ap (λ (f : Finding). passing f (ok r)) e)

  -- the bytes are those of what is read from them
  passed_spells : (file : List ℕ) → Bytes file → Passed file → Spells K L file (image_of K L file) (events_of K L file) (last_of K L file)
  passed_spells file b P =
      let start : List ℕ = image_of K L file in
      let after : List ℕ = drop (11 + K.size) file in
      let events : ℕ = count_of K L file in
      let rest : List ℕ = drop (event_place K L 0) file in
      let log : List Entry = events_of K L file in
      let end : List ℕ = drop (event_place K L events) file in
      let er : drop 2 after ≡ rest = drop-drop 2 (11 + K.size) file ∙ ap (λ (k : ℕ). drop k file) (omega arith) in
      let ee : drop (10 * events) rest ≡ end = drop-drop (10 * events) (event_place K L 0) file ∙ ap (λ (k : ℕ). drop k file) (omega arith) in
      let nr : length rest ≡ 8 + 10 * events = omega (arith, length-drop (event_place K L 0) file, P.exact) in
      let na : length after ≡ 10 + 10 * events = omega (arith, length-drop (11 + K.size) file, P.exact) in
      let ne : length end ≡ 8 = omega (arith, length-drop (event_place K L events) file, P.exact) in
      let ba : Bytes after = bytes_drop (11 + K.size) file b in
      let be : Bytes end = bytes_drop (event_place K L events) file b in
      let R0 : LogRead K L events rest (read events rest) = read_sound K L events rest (bytes_drop (event_place K L 0) file b) (omega arith) P.right in
      let R : LogRead K L events rest log = subst (λ (x : List Entry). LogRead K L events rest x) (sym (events_read K L file 0 events)) R0 in
      let e1 : end ≡ code_bytes (code_at end) = spelled_is end 0 8 (omega arith) ∙ ap {B = List ℕ} (λ y. get_or end 0 0 ∷ get_or end 1 0 ∷ get_or end 2 0 ∷ get_or end 3 0 ∷ get_or end 4 0 ∷ get_or end 5 0 ∷ get_or end 6 0 ∷ get_or end 7 0 ∷ y) (drop_of_length-le end {i = 8} (omega arith)) ∙ sym (code_back end be) in
      let e2 : drop 2 after ≡ journal_bytes log ++ code_bytes (code_at end) = er ∙ R.bytes_is ∙ ap {B = List ℕ} (λ y. journal_bytes log ++ y) (ee ∙ e1) in
      let c0 : get_or after 0 0 ≡ get_or file (11 + K.size) 0 = get_or-drop (11 + K.size) file 0 0 ∙ ap (λ (k : ℕ). get_or file k 0) (omega arith) in
      let c1 : get_or after 1 0 ≡ get_or file (11 + K.size + 1) 0 = get_or-drop (11 + K.size) file 1 0 in
      let ec : two_at after 0 ≡ events = λ i. 256 * c0 i + c1 i in
      let e3 : after ≡ two (two_at after 0) ++ drop 2 after = spelled_is after 0 2 (omega arith) ∙ ap {B = List ℕ} (λ y. y ++ drop 2 after) (sym (two_back (get_or after 0 0) (get_or after 1 0) (byte_any after 0 ba) (byte_any after 1 ba))) in
      let e4 : after ≡ two (length log) ++ (journal_bytes log ++ code_bytes (code_at end)) = e3 ∙ ap {B = List ℕ} (λ y. two (two_at after 0) ++ y) e2 ∙ ap {B = List ℕ} (λ n. two n ++ (journal_bytes log ++ code_bytes (code_at end))) (ec ∙ sym R.count_is) in
      let e5 : drop 11 file ≡ start ++ (two (length log) ++ (journal_bytes log ++ code_bytes (code_at end))) = sym (take-append-drop K.size (drop 11 file)) ∙ ap {B = List ℕ} (λ y. start ++ y) (drop-drop K.size 11 file ∙ e4) in
      let f1 : four (21 + K.size + 10 * length log) ≡ get_or file 1 0 ∷ get_or file 2 0 ∷ get_or file 3 0 ∷ get_or file 4 0 ∷ [] = ap four (ap (λ (n : ℕ). 21 + K.size + 10 * n) R.count_is ∙ sym P.exact ∙ sym P.whole) ∙ four_back (get_or file 1 0) (get_or file 2 0) (get_or file 3 0) (get_or file 4 0) (byte_any file 1 b) (byte_any file 2 b) (byte_any file 3 b) (byte_any file 4 b) in
      let f7 : four K.size ≡ get_or file 7 0 ∷ get_or file 8 0 ∷ get_or file 9 0 ∷ get_or file 10 0 ∷ [] = ap four (sym P.image) ∙ four_back (get_or file 7 0) (get_or file 8 0) (get_or file 9 0) (get_or file 10 0) (byte_any file 7 b) (byte_any file 8 b) (byte_any file 9 b) (byte_any file 10 b) in
      let e6 : file_bytes K L start log (code_at end) ≡ spelled file 0 11 = λ i. (sym P.version i ∷ f1 i) ++ ((sym P.guest i ∷ sym P.byte i ∷ f7 i) ++ sym e5 i) in
      record {
        bytes = spelled_is file 0 11 (omega (arith, P.exact)) ∙ sym e6;
        lawful = P.lawful;
        few_events = omega (arith, R.count_is, P.few);
        known = R.has_all;
        last_code = subst (λ (y : List ℕ). L.has (code_at y) ≡ true) ee R.has_last;
      }

  module _ (M : MachineLaws K) (N : LandmarkLaws L) where
    -- the first eight checks pass such a file, and the ninth replays what it spells
    bytes_checked : (start : List ℕ) (log : List Entry) (last : Code) → Spells K L (file_bytes K L start log last) start log last → (check_form K L (file_bytes K L start log last) ≡ passed) × (check_9 K L (file_bytes K L start log last) ≡ conclude K L start (follow K L most_units (first K L start) 0 log last))
    bytes_checked start log last S =
        let file : List ℕ = file_bytes K L start log last in
        let tail : List ℕ = journal_bytes log ++ code_bytes last in
        let rest : List ℕ = two (length log) ++ tail in
        let ns : length start ≡ K.size = M.laws.length_is start S.lawful in
        let nf : length file ≡ 21 + K.size + 10 * length log = length_told K L start log last ∙ ap (λ (n : ℕ). 21 + n + 10 * length log) ns in
        let w : number_at file 1 ≡ length file = four_read (21 + K.size + 10 * length log) ((K.guest ∷ L.byte ∷ four K.size) ++ (start ++ rest)) (omega (arith, M.laws.size_high, S.few_events)) ∙ sym nf in
        let z : number_at file 7 ≡ K.size = four_read K.size (start ++ rest) (omega (arith, M.laws.size_high)) in
        let es : image_of K L file ≡ start = take_at start rest K.size ns in
        let ea : drop (11 + K.size) file ≡ rest = sym (drop-drop K.size 11 file) ∙ drop_at start rest K.size ns in
        let z0 : 11 + K.size + 0 ≡ 11 + K.size = omega arith in
        let c0 : get_or rest 0 0 ≡ get_or file (11 + K.size) 0 = ap (λ (y : List ℕ). get_or y 0 0) (sym ea) ∙ get_or-drop (11 + K.size) file 0 0 ∙ ap (λ (k : ℕ). get_or file k 0) z0 in
        let c1 : get_or rest 1 0 ≡ get_or file (11 + K.size + 1) 0 = ap (λ (y : List ℕ). get_or y 1 0) (sym ea) ∙ get_or-drop (11 + K.size) file 1 0 in
        let ec : count_of K L file ≡ length log = (λ i. 256 * sym c0 i + sym c1 i) ∙ two_read (length log) tail (omega (arith, S.few_events)) in
        let z2 : event_place K L 0 ≡ 11 + K.size + 2 = omega arith in
        let et : drop (event_place K L 0) file ≡ tail = ap (λ (k : ℕ). drop k file) z2 ∙ sym (drop-drop 2 (11 + K.size) file) ∙ ap (drop 2) ea in
        let ev : events_of K L file ≡ log = ap (events_from K L file 0) ec ∙ events_read K L file 0 (length log) ∙ ap (read (length log)) et ∙ read_back K L log (code_bytes last) N S.known in
        let zn : event_place K L (length log) ≡ event_place K L 0 + 10 * length log = omega arith in
        let ed : drop (event_place K L (length log)) file ≡ code_bytes last = ap (λ (k : ℕ). drop k file) zn ∙ sym (drop-drop (10 * length log) (event_place K L 0) file) ∙ ap (drop (10 * length log)) et ∙ drop_at (journal_bytes log) (code_bytes last) (10 * length log) (length_logged log) in
        let el : last_of K L file ≡ last = ap (λ (n : ℕ). code_at (drop (event_place K L n) file)) ec ∙ ap code_at ed ∙ code_read last [] (N.has_fits last S.last_code) in
        let p1 : check_1 file ≡ passed = unless_true (leb 21 (length file)) _ (le-leb 21 (length file) (omega arith)) in
        let p3 : check_3 file ≡ passed = unless_true (eqb (number_at file 1) (length file)) _ (eq-eqb (number_at file 1) (length file) w) in
        let p4 : check_4 K.guest L.byte file ≡ passed = λ i. first_failed (unless_true (eqb K.guest K.guest) GuestByte (eq-eqb K.guest K.guest refl) i) (unless_true (eqb L.byte L.byte) LandmarkByte (eq-eqb L.byte L.byte refl) i) in
        let p5 : check_5 K L file ≡ passed = unless_true (eqb (number_at file 7) K.size) _ (eq-eqb (number_at file 7) K.size z) in
        let bad : FileFault = Extent (11 + K.size) in
        let n256 : count_of K L file ≤ 256 = omega (arith, ec, S.few_events) in
        let exact : length file ≡ 21 + K.size + 10 * count_of K L file = nf ∙ ap (λ (n : ℕ). 21 + K.size + 10 * n) (sym ec) in
        let p6 : check_6 K L file ≡ passed = λ i. first_failed (unless_true (leb (21 + K.size) (length file)) bad (le-leb (21 + K.size) (length file) (omega arith)) i) (first_failed (unless_true (leb (count_of K L file) 256) bad (le-leb (count_of K L file) 256 n256) i) (unless_true (eqb (length file) (21 + K.size + 10 * count_of K L file)) bad (eq-eqb (length file) (21 + K.size + 10 * count_of K L file) exact) i)) in
        let p7 : check_7 K L file ≡ passed = unless_true (K.lawful (image_of K L file)) _ (subst (λ (x : List ℕ). K.lawful x ≡ true) (sym es) S.lawful) in
        let r0 : Right K L (length log) (drop (event_place K L 0) file) = subst (Right K L (length log)) (sym et) (right_back K L log last N S.known S.last_code) in
        let p8 : check_8 K L file ≡ passed = ap (check_events K L file 0) ec ∙ check_right K L file 0 (length log) r0 in
        let v9 : check_9 K L file ≡ conclude K L start (follow K L most_units (first K L start) 0 log last) = λ i. conclude K L (es i) (follow K L most_units (first K L (es i)) 0 (ev i) (el i)) in
        let p2 : check_2 file ≡ passed = refl in
        (λ i. first_failed (p1 i) (first_failed (p2 i) (first_failed (p3 i) (first_failed (p4 i) (first_failed (p5 i) (first_failed (p6 i) (first_failed (p7 i) (p8 i))))))), v9)

    spells_bytes : (file start : List ℕ) (log : List Entry) (last : Code) → Spells K L file start log last → Spells K L (file_bytes K L start log last) start log last
    spells_bytes file start log last S = record { bytes = refl; lawful = S.lawful; few_events = S.few_events; known = S.known; last_code = S.last_code }

    form_checked : (file start : List ℕ) (log : List Entry) (last : Code) → Spells K L file start log last → check_form K L file ≡ passed
    form_checked file start log last S = ap (check_form K L) S.bytes ∙ (bytes_checked start log last (spells_bytes file start log last S)).0

    pub spelled_verdict : (file start : List ℕ) (log : List Entry) (last : Code) → Spells K L file start log last → verdict K L file ≡ conclude K L start (follow K L most_units (first K L start) 0 log last)
    unfolding verdict
    spelled_verdict file start log last S =
        let B = bytes_checked start log last (spells_bytes file start log last S) in
        ap (verdict K L) S.bytes ∙ (λ i. passing (B.0 i) (B.1 i))

    conclude_ok : (start : List ℕ) (f : Found) (r : Run) → conclude K L start f ≡ ok r → (f ≡ found r.acts) × (start ≡ r.start)
    conclude_ok start (found acts) r e = (ap found (ap (λ (x : Run). x.acts) (ok_same e)), ap (λ (x : Run). x.start) (ok_same e))
    conclude_ok start (lost i) r e = absurd (wrong_ok e)

    conclude_lost : (start : List ℕ) (f : Found) (i : ℕ) → conclude K L start f ≡ wrong (Unreached (entry K L i)) → f ≡ lost i
    conclude_lost start (found acts) i e = absurd (wrong_ok (sym e))
    conclude_lost start (lost j) i e = ap lost (ap (λ (x : EntryAt). x.index) (unreached_same e))
      where
        unreached_same : {x y : EntryAt} → wrong (Unreached x) ≡ wrong (Unreached y) → x ≡ y
        unreached_same e = cc

    -- the run that the replay finds is told
    found_tells : (file start : List ℕ) (log : List Entry) (last : Code) (r : Run) → Spells K L file start log last → start ≡ r.start → follow K L most_units (first K L start) 0 log last ≡ found r.acts → Tells K L file r
    found_tells file start log last r S q e =
        let T : TellsActs K L most_units (first K L start) log last r.acts = follow_sound K L most_units (first K L start) 0 log last r.acts (known_fits K L log S.known) e in
        let n : event_count r.acts ≤ 256 = omega (arith, length_log K L (first K L start) r.acts, ap length T.log_is, S.few_events) in
        let t : Told K L (first K L start) log last r.acts = rw (T.log_is, T.last_is) (told_of K L (first K L start) r.acts) in
        record {
          journal = log;
          last = last;
          bytes = S.bytes ∙ ap (λ (x : List ℕ). file_bytes K L x log last) q;
          is_run = record { lawful = subst (λ (x : List ℕ). K.lawful x ≡ true) q S.lawful; goes = subst (λ (x : List ℕ). Goes K L (first K L x) r.acts) q T.goes; few_units = T.few; few_events = n };
          told = subst (λ (x : List ℕ). Told K L (first K L x) log last r.acts) q t;
        }

    pub verdict_sound : (file : List ℕ) → Bytes file → (r : Run) → verdict K L file ≡ ok r → Tells K L file r
    verdict_sound file b r e =
        let S = passed_spells file b (verdict_passed file (ok r) tt e) in
        let (f, q) = conclude_ok (image_of K L file) (follow K L most_units (first K L (image_of K L file)) 0 (events_of K L file) (last_of K L file)) r (sym (spelled_verdict file (image_of K L file) (events_of K L file) (last_of K L file) S) ∙ e) in
        found_tells file (image_of K L file) (events_of K L file) (last_of K L file) r S q f

    run_spells : (r : Run) → IsRun K L r → Spells K L (file_of K L r) r.start (journal_of K L r) (at K L r (units r)).mark
    run_spells r R = record {
      bytes = file_is K L r;
      lawful = R.lawful;
      few_events = omega (arith, length_log K L (first K L r.start) r.acts, R.few_events);
      known = entries_known K L M N (first K L r.start) r.acts (first_sound K L M N r.start R.lawful) R.goes;
      last_code = (at_sound K L M N r (units r) R).marks;
    }

    pub verdict_complete : (r : Run) → IsRun K L r → verdict K L (file_of K L r) ≡ ok r
    verdict_complete r R =
        let f : follow K L most_units (first K L r.start) 0 (journal_of K L r) (at K L r (units r)).mark ≡ found r.acts = ap (λ (c : Moment). follow K L most_units (first K L r.start) 0 (journal_of K L r) c.mark) (at_end K L r) ∙ follow_complete K L most_units (first K L r.start) 0 r.acts R.goes (λ u v. marks_apart K L M N r u v R) R.few_units in
        spelled_verdict (file_of K L r) r.start (journal_of K L r) (at K L r (units r)).mark (run_spells r R) ∙ ap (conclude K L r.start) f

    pub tells_ok : (file : List ℕ) (r : Run) → Tells K L file r → verdict K L file ≡ ok r
    tells_ok file r t = ap (verdict K L) (tells_file K L file r t) ∙ verdict_complete r t.is_run

    -- the acts up to an event of their log
    record Cut (m : Moment) (acts : List Act) (i : ℕ) (e : Entry) : Type 0 where
      front : List Act
      back : List Act
      whole : acts ≡ front ++ (taking e.event ∷ back)
      took : journal_from K L m front ≡ take i (journal_from K L m acts)
      here : (moment_after K L m front).mark ≡ e.code

    cut : (m : Moment) (acts : List Act) (i : ℕ) (e : Entry) (es : List Entry) → drop i (journal_from K L m acts) ≡ e ∷ es → Cut m acts i e
    cut m [] zero e es q = absurd (let z : ◌≡◌ {A = ℕ} 0 1 = cc in omega arith)
    cut m [] (suc i) e es q = absurd (let z : ◌≡◌ {A = ℕ} 0 1 = cc in omega arith)
    cut m (instruction ∷ acts) i e es q =
        let c = cut (advance K L instruction m) acts i e es q in
        record { front = instruction ∷ c.front; back = c.back; whole = ap {B = List Act} (λ y. instruction ∷ y) c.whole; took = c.took; here = c.here }
    cut m (taking f ∷ acts) zero e es q = record { front = []; back = acts; whole = λ j. taking (cons_head q j).event ∷ acts; took = refl; here = ap (λ (x : Entry). x.code) (cons_head q) }
    cut m (taking f ∷ acts) (suc i) e es q =
        let c = cut (advance K L (taking f) m) acts i e es q in
        record { front = taking f ∷ c.front; back = c.back; whole = ap {B = List Act} (λ y. taking f ∷ y) c.whole; took = ap {B = List Entry} (λ y. record { code = m.mark; event = f } ∷ y) c.took; here = c.here }

    -- a run that takes an event arrived where it is taken
    arrived : (start : List ℕ) (log : List Entry) (last : Code) (i k : ℕ) (r : Run) → TakesJust K L start (take k log) r → i < k → k ≤ length log → (s : Run) × TakesJust K L start (take i log) s × Arrives K L s (drop i log) last
    arrived start log last i k r T l b = go (drop i log) refl
      where
        stand : (e : Entry) → Cut (first K L r.start) r.acts i e → (s : Run) × TakesJust K L start (take i log) s × (((at K L s (units s)).mark ≡ e.code) × (K.ready e.event (at K L s (units s)).image ≡ true) × (units s < most_units))
        stand e c =
            let s : Run = record { start = r.start; acts = c.front } in
            let g : Goes K L (first K L r.start) (c.front ++ (taking e.event ∷ c.back)) = subst (Goes K L (first K L r.start)) c.whole T.is_run.goes in
            let n : length r.acts ≡ length c.front + length (taking e.event ∷ c.back) = ap length c.whole ∙ length-append c.front (taking e.event ∷ c.back) in
            let t : event_count r.acts ≡ event_count c.front + event_count (taking e.event ∷ c.back) = ap event_count c.whole ∙ event_count_append c.front (taking e.event ∷ c.back) in
            let S : IsRun K L s = record { lawful = T.is_run.lawful; goes = goes_front K L (first K L r.start) c.front (taking e.event ∷ c.back) g; few_units = omega (arith, n, T.is_run.few_units); few_events = omega (arith, t, T.is_run.few_events) } in
            let p : K.ready e.event (moment_after K L (first K L r.start) c.front).image ≡ true = (goes_back K L (first K L r.start) c.front (taking e.event ∷ c.back) g).0.1 in
            let took : journal_of K L s ≡ take i log = c.took ∙ ap (take i) T.took ∙ take-take i k log (omega arith) in
            (s, record { is_run = S; starts = T.starts; took = took }, (ap (λ (x : Moment). x.mark) (at_end K L s) ∙ c.here, ap (λ (x : Moment). K.ready e.event x.image) (at_end K L s) ∙ p, omega (arith, n, T.is_run.few_units)))

        go : (left : List Entry) → drop i log ≡ left → (s : Run) × TakesJust K L start (take i log) s × Arrives K L s (drop i log) last
        go [] q = absurd (omega (arith, length-drop i log, ap length q))
        go (e ∷ es) q =
            let head : drop i (take k log) ≡ e ∷ take (k - i - 1) es = drop_take i k log e es q l in
            let (s, P, w) = stand e (cut (first K L r.start) r.acts i e (take (k - i - 1) es) (ap (drop i) T.took ∙ head)) in
            (s, P, rw q w)
          where
            drop_take : (i k : ℕ) (log : List Entry) (e : Entry) (es : List Entry) → drop i log ≡ e ∷ es → i < k → drop i (take k log) ≡ e ∷ take (k - i - 1) es
            drop_take zero (suc k) log e es q l = ap (take (suc k)) q ∙ ap {B = List Entry} (λ n. e ∷ take n es) (omega arith)
            drop_take zero zero log e es q l = absurd (omega arith)
            drop_take (suc i) zero log e es q l = absurd (omega arith)
            drop_take (suc i) (suc k) [] e es q l = absurd (let z : ◌≡◌ {A = ℕ} 0 1 = cc in omega arith)
            drop_take (suc i) (suc k) (x ∷ log) e es q l = drop_take i k log e es q (omega arith) ∙ ap {B = List Entry} (λ n. e ∷ take n es) (omega arith)

    -- some run takes the events before event i, and none that takes just those arrives at event i
    record Breaks (start : List ℕ) (log : List Entry) (last : Code) (i : ℕ) : Type 0 where
      in_log : i ≤ length log
      so_far : (r : Run) × TakesJust K L start (take i log) r
      no_further : (r : Run) → TakesJust K L start (take i log) r → ¬ Arrives K L r (drop i log) last

    -- what the replay loses breaks off
    lost_breaks : (start : List ℕ) (log : List Entry) (last : Code) (i : ℕ) → K.lawful start ≡ true → length log ≤ 256 → EventsFit log → follow K L most_units (first K L start) 0 log last ≡ lost i → Breaks start log last i
    lost_breaks start log last i h few fits e =
        let (d, q, T) = follow_lost K L most_units (first K L start) 0 log last i fits (first_ahead K L M N start h) e in
        let w : d ≡ i = omega arith in
        subst (Breaks start log last) w (breaks d T)
      where
        few_taken : (d : ℕ) (log : List Entry) → length log ≤ 256 → length (take d log) ≤ 256
        few_taken d log few = omega (arith, length-take d log)

        arrives_here : (r : Run) (left : List Entry) (k : ℕ) → units r + k ≡ most_units → Arrives K L r left last → Here K L k (moment_after K L (first K L r.start) r.acts) left last
        arrives_here r [] k l a = sym (ap (λ (x : Moment). x.mark) (at_end K L r)) ∙ a
        arrives_here r (x ∷ xs) k l a = (sym (ap (λ (y : Moment). y.mark) (at_end K L r)) ∙ a.0, sym (ap (λ (y : Moment). K.ready x.event y.image) (at_end K L r)) ∙ a.1, omega (arith, a.2))

        breaks : (d : ℕ) → Lost K L most_units (first K L start) log last d → Breaks start log last d
        breaks d T = record {
          in_log = T.in_log;
          so_far = (
            record { start = start; acts = T.acts },
            record {
              is_run = record { lawful = h; goes = T.goes; few_units = T.few; few_events = omega (arith, length_log K L (first K L start) T.acts, ap length T.took, few_taken d log few) };
              starts = refl;
              took = T.took;
            },
          );
          no_further = λ r P a. none r P a;
        }
          where
            none : (r : Run) → TakesJust K L start (take d log) r → ¬ Arrives K L r (drop d log) last
            none r P a =
                let k : ℕ = most_units - units r in
                let l : units r + k ≡ most_units = omega (arith, P.is_run.few_units) in
                T.no_further r.acts k (subst (λ (x : List ℕ). Goes K L (first K L x) r.acts) P.starts P.is_run.goes) l
                (ap (λ (x : List ℕ). journal_from K L (first K L x) r.acts) (sym P.starts) ∙ P.took)
                (subst (λ (x : List ℕ). Here K L k (moment_after K L (first K L x) r.acts) (drop d log) last) P.starts (arrives_here r (drop d log) k l a))

    -- and what breaks off the replay loses
    breaks_lost : (start : List ℕ) (log : List Entry) (last : Code) (i : ℕ) → K.lawful start ≡ true → length log ≤ 256 → EventsFit log → Breaks start log last i → follow K L most_units (first K L start) 0 log last ≡ lost i
    breaks_lost start log last i h few fits B = go (follow K L most_units (first K L start) 0 log last) refl
      where
        go : (f : Found) → follow K L most_units (first K L start) 0 log last ≡ f → f ≡ lost i
        go (found acts) e =
            let T : TellsActs K L most_units (first K L start) log last acts = follow_sound K L most_units (first K L start) 0 log last acts fits e in
            let r : Run = record { start = start; acts = acts } in
            let R : IsRun K L r = record { lawful = h; goes = T.goes; few_units = T.few; few_events = omega (arith, length_log K L (first K L start) acts, ap length T.log_is) } in
            let P : TakesJust K L start (take (length log) log) r = record { is_run = R; starts = refl; took = sym T.log_is ∙ sym (take-length log) } in
            absurd (ends r P (sym (T.last_is ∙ ap (λ (x : Moment). x.mark) (sym (at_end K L r)))) (le_or_lt (length log) i))
          where
            ends : (r : Run) → TakesJust K L start (take (length log) log) r → (at K L r (units r)).mark ≡ last → (length log ≤ i) ⊎ (i < length log) → ⊥
            ends r P q (inl b) =
                let w : length log ≡ i = omega (arith, B.in_log) in
                B.no_further r (subst (λ (n : ℕ). TakesJust K L start (take n log) r) w P) (subst (λ (x : List Entry). Arrives K L r x last) (sym (drop_of_length-le log {i = i} b)) q)
            ends r P q (inr b) = let (s, S, a) = arrived start log last i (length log) r P b (omega arith) in B.no_further s S a
        go (lost k) e =
            let C : Breaks start log last k = lost_breaks start log last k h few fits e in
            let x : ¬ (i < k) = λ l. let (s, S, a) = arrived start log last i k C.so_far.0 C.so_far.1 l C.in_log in B.no_further s S a in
            let y : ¬ (k < i) = λ l. let (s, S, a) = arrived start log last k i B.so_far.0 B.so_far.1 l B.in_log in C.no_further s S a in
            ap lost (omega (arith, x, y))

    -- which says as much of the run that ends with the last of them
    breaks_off : (start : List ℕ) (log : List Entry) (last : Code) (i : ℕ) → Breaks start log last i → BreaksOff K L start log last i
    breaks_off start log last i B =
        let r : Run = B.so_far.0 in
        let T : TakesJust K L start (take i log) r = B.so_far.1 in
        made r T (trimmed r.acts)
      where
        made : (r : Run) → TakesJust K L start (take i log) r → Trimmed r.acts → BreaksOff K L start log last i
        made r T t =
            let s : Run = record { start = r.start; acts = t.front } in
            let e : r ≡ longer s (replicate t.times instruction) = λ k. record { start = r.start; acts = t.whole k } in
            let took : journal_of K L s ≡ take i log = sym (log_on K L (first K L r.start) t.front t.times) ∙ ap (journal_of K L) (sym e) ∙ T.took in
            record {
              inside = B.in_log;
              so_far = s;
              takes = record { is_run = front_is_run K L s (replicate t.times instruction) (subst (IsRun K L) e T.is_run); starts = T.starts; took = took };
              ends = t.ends;
              no_further = λ j R a. B.no_further (longer s (replicate j instruction)) (record { is_run = R; starts = T.starts; took = log_on K L (first K L r.start) t.front j ∙ took }) a;
            }

    off_breaks : (start : List ℕ) (log : List Entry) (last : Code) (i : ℕ) → BreaksOff K L start log last i → Breaks start log last i
    off_breaks start log last i B = record { in_log = B.inside; so_far = (B.so_far, B.takes); no_further = λ r T a. none r T a (trimmed r.acts) }
      where
        one_front : (r s : Run) → IsRun K L r → IsRun K L s → r.start ≡ s.start → journal_of K L r ≡ journal_of K L s → Ends r.acts → Ends s.acts → r ≡ s
        one_front r s R S p l x y =
            let q : r.acts ≡ s.acts = ends_same K L (first K L r.start) r.acts s.acts (λ u v. marks_apart K L M N r u v R) (rw p (λ u v. marks_apart K L M N s u v S)) x y (l ∙ ap (λ (z : List ℕ). journal_from K L (first K L z) s.acts) (sym p)) in
            λ k. record { start = p k; acts = q k }

        none : (r : Run) → TakesJust K L start (take i log) r → Arrives K L r (drop i log) last → Trimmed r.acts → ⊥
        none r T a t =
            let s : Run = record { start = r.start; acts = t.front } in
            let e : r ≡ longer s (replicate t.times instruction) = λ k. record { start = r.start; acts = t.whole k } in
            let S : IsRun K L s = front_is_run K L s (replicate t.times instruction) (subst (IsRun K L) e T.is_run) in
            let took : journal_of K L s ≡ take i log = sym (log_on K L (first K L r.start) t.front t.times) ∙ ap (journal_of K L) (sym e) ∙ T.took in
            let same : s ≡ B.so_far = one_front s B.so_far S B.takes.is_run (T.starts ∙ sym B.takes.starts) (took ∙ sym B.takes.took) t.ends B.ends in
            let f : r ≡ longer B.so_far (replicate t.times instruction) = e ∙ ap (λ (x : Run). longer x (replicate t.times instruction)) same in
            B.no_further t.times (subst (IsRun K L) f T.is_run) (subst (λ (x : Run). Arrives K L x (drop i log) last) f a)

    verdict_breaks : (file : List ℕ) → Bytes file → (i : ℕ) → verdict K L file ≡ wrong (Unreached (entry K L i)) → BreaksOffAt K L file i
    verdict_breaks file b i e =
        let start : List ℕ = image_of K L file in
        let log : List Entry = events_of K L file in
        let last : Code = last_of K L file in
        let S : Spells K L file start log last = passed_spells file b (verdict_passed file (wrong (Unreached (entry K L i))) tt e) in
        let f : follow K L most_units (first K L start) 0 log last ≡ lost i = conclude_lost start (follow K L most_units (first K L start) 0 log last) i (sym (spelled_verdict file start log last S) ∙ e) in
        (start, log, last, S, breaks_off start log last i (lost_breaks start log last i S.lawful S.few_events (known_fits K L log S.known) f))

    breaks_verdict : (file : List ℕ) (i : ℕ) → BreaksOffAt K L file i → verdict K L file ≡ wrong (Unreached (entry K L i))
    breaks_verdict file i (start, log, last, S, B) = spelled_verdict file start log last S ∙ ap (conclude K L start) (breaks_lost start log last i S.lawful S.few_events (known_fits K L log S.known) (off_breaks start log last i B))

pub decided : EveryLoadIsDecided
decided K L M N file b r = (verdict_sound K L M N file b r, tells_ok K L M N file r, tells_file K L file r, file_tells K L r)

pub forms_checked : EveryFormIsChecked
forms_checked K L M N file b = (λ e. (image_of K L file, events_of K L file, last_of K L file, passed_spells K L file b (form_passed K L file e)), form_checked K L M N file)

pub breaks_found : EveryBreakIsFound
breaks_found K L M N file b i = (verdict_breaks K L M N file b i, breaks_verdict K L M N file i)
