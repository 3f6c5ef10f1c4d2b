-- A file's bytes determine its start image, its log and its last landmark; a run's file determines the run.
use Rattle.std.proofs.Common.{◌≡◌, ℕ, ◌+◌, ◌*◌, ◌/◌, ◌%◌, ◌^◌, ◌<◌, List, [], ◌∷◌, ◌++◌, length, take, drop, sym, refl, ap, ◌∙◌, append_assoc, arith, length-append, take_at, drop_at}
use Rattle.machine.specs.declared.Event.{Event}
use Rattle.machine.specs.declared.Event.TheVariants.{Timer, Switch}
use Rattle.landmark.specs.declared.Code.{Code}
use Rattle.machine.specs.Kinds.{Kind, MachineLaws}
use Rattle.landmark.specs.Markings.{Marking, LandmarkLaws}
use Rattle.runs.specs.declared.Entry.{Entry}
use Rattle.runs.specs.Runs.{Act, instruction, taking, Run, Moment, IsRun, first, advance, moment_after, Goes, at, units, journal_from, journal_of}
use Rattle.runs.specs.Files.{two, four, code_bytes, event_bytes, journal_bytes, file_bytes, file_of}
use Rattle.runs.specs.Tells.{Tells}
use Rattle.runs.proofs.Moves.{at_end, Sound, advance_sound, first_sound}
use Rattle.runs.proofs.Rising.{marks_apart, at_sound}
use Rattle.runs.proofs.Journals.{cons_head, cons_tail, told_log, told_of, log_determines}

pub four_front : (n m : ℕ) (xs ys : List ℕ) → n < 2 ^ 32 → m < 2 ^ 32 → four n ++ xs ≡ four m ++ ys → (n ≡ m) × (xs ≡ ys)
four_front n m xs ys bn bm e =
    let e1 = cons_tail e in
    let e2 = cons_tail e1 in
    let e3 = cons_tail e2 in
    let b0 : n / 65536 / 256 % 256 ≡ m / 65536 / 256 % 256 = cons_head e in
    let b1 : n / 65536 % 256 ≡ m / 65536 % 256 = cons_head e1 in
    let b2 : n / 256 % 256 ≡ m / 256 % 256 = cons_head e2 in
    let b3 : n % 256 ≡ m % 256 = cons_head e3 in
    (four_same n m bn bm b0 b1 b2 b3, cons_tail e3)
  where
    four_same : (n m : ℕ) → n < 2 ^ 32 → m < 2 ^ 32 → n / 65536 / 256 % 256 ≡ m / 65536 / 256 % 256 → n / 65536 % 256 ≡ m / 65536 % 256 → n / 256 % 256 ≡ m / 256 % 256 → n % 256 ≡ m % 256 → n ≡ m
    four_same n m bn bm b0 b1 b2 b3 = omega arith

abbrev pub CodeFits : Code → Type 0
CodeFits c = (c.major < 2 ^ 32) × (c.minor < 2 ^ 32)

pub code_front : (c d : Code) (xs ys : List ℕ) → CodeFits c → CodeFits d → code_bytes c ++ xs ≡ code_bytes d ++ ys → (c ≡ d) × (xs ≡ ys)
code_front c d xs ys fc fd e =
    let p = four_front c.major d.major (four c.minor ++ xs) (four d.minor ++ ys) fc.0 fd.0 e in
    let q = four_front c.minor d.minor xs ys fc.1 fd.1 p.1 in
    (λ i. record { major = p.0 i; minor = q.0 i }, q.1)

pub event_front : (e f : Event) (xs ys : List ℕ) → event_bytes e ++ xs ≡ event_bytes f ++ ys → (e ≡ f) × (xs ≡ ys)
event_front Timer Timer xs ys h = (refl, cons_tail (cons_tail h))
event_front Timer (Switch d) xs ys h = absurd (let z : ◌≡◌ {A = ℕ} 1 2 = cons_head h in omega arith)
event_front (Switch d) Timer xs ys h = absurd (let z : ◌≡◌ {A = ℕ} 2 1 = cons_head h in omega arith)
event_front (Switch d) (Switch g) xs ys h = (ap Switch (cons_head (cons_tail h)), cons_tail (cons_tail h))

pub length_event_bytes : (e : Event) → length (event_bytes e) ≡ 2
length_event_bytes Timer = refl
length_event_bytes (Switch d) = refl

pub length_logged : (log : List Entry) → length (journal_bytes log) ≡ 10 * length log
length_logged [] = refl
length_logged (e ∷ es) = omega (arith, length-append (event_bytes e.event) (journal_bytes es), length_event_bytes e.event, length_logged es)

-- each code of the log fits
abbrev pub LogFits : List Entry → Type 0
LogFits [] = Unit {0}
LogFits (e ∷ es) = CodeFits e.code × LogFits es

pub logged_front : (xs ys : List Entry) (c d : Code) → LogFits xs → LogFits ys → CodeFits c → CodeFits d → length xs ≡ length ys → journal_bytes xs ++ code_bytes c ≡ journal_bytes ys ++ code_bytes d → (xs ≡ ys) × (c ≡ d)
logged_front [] [] c d fx fy fc fd l e = (refl, (code_front c d [] [] fc fd e).0)
logged_front [] (y ∷ ys) c d fx fy fc fd l e = absurd (omega arith)
logged_front (x ∷ xs) [] c d fx fy fc fd l e = absurd (omega arith)
logged_front (x ∷ xs) (y ∷ ys) c d fx fy fc fd l e =
    let p = code_front x.code y.code ((event_bytes x.event ++ journal_bytes xs) ++ code_bytes c) ((event_bytes y.event ++ journal_bytes ys) ++ code_bytes d) fx.0 fy.0 e in
    let q = event_front x.event y.event (journal_bytes xs ++ code_bytes c) (journal_bytes ys ++ code_bytes d) (sym (append_assoc (event_bytes x.event) (journal_bytes xs) (code_bytes c)) ∙ p.1 ∙ append_assoc (event_bytes y.event) (journal_bytes ys) (code_bytes d)) in
    let r = logged_front xs ys c d fx.1 fy.1 fc fd (omega arith) q.1 in
    let h : x ≡ y = λ i. record { code = p.0 i; event = q.0 i } in
    (λ i. h i ∷ r.0 i, r.1)

module _ (K : Kind) (L : Marking) where
  pub file_is : (r : Run) → file_of K L r ≡ file_bytes K L r.start (journal_of K L r) (at K L r (units r)).mark
  unfolding file_of
  file_is r = refl

  pub length_told : (start : List ℕ) (log : List Entry) (last : Code) → length (file_bytes K L start log last) ≡ 21 + length start + 10 * length log
  length_told start log last =
      omega (arith, length-append start (two (length log) ++ (journal_bytes log ++ code_bytes last)), length-append (journal_bytes log) (code_bytes last), length_logged log)

  pub bytes_determine : (a b : List ℕ) (xs ys : List Entry) (c d : Code) → length a ≡ length b → LogFits xs → LogFits ys → CodeFits c → CodeFits d → file_bytes K L a xs c ≡ file_bytes K L b ys d → (a ≡ b) × (xs ≡ ys) × (c ≡ d)
  bytes_determine a b xs ys c d l fx fy fc fd e =
      let ra : List ℕ = two (length xs) ++ (journal_bytes xs ++ code_bytes c) in
      let rb : List ℕ = two (length ys) ++ (journal_bytes ys ++ code_bytes d) in
      let e1 : a ++ ra ≡ b ++ rb = ap (drop 11) e in
      let same : a ≡ b = sym (take_at a ra (length a) refl) ∙ ap (take (length a)) e1 ∙ take_at b rb (length a) (sym l) in
      let e2 : ra ≡ rb = sym (drop_at a ra (length a) refl) ∙ ap (drop (length a)) e1 ∙ drop_at b rb (length a) (sym l) in
      let n : length (file_bytes K L a xs c) ≡ length (file_bytes K L b ys d) = ap length e in
      let m : length xs ≡ length ys = same_length (length_told a xs c) (length_told b ys d) n l in
      let p = logged_front xs ys c d fx fy fc fd m (ap (drop 2) e2) in
      (same, p.0, p.1)
    where
      same_length : {p q i j x y : ℕ} → p ≡ 21 + i + 10 * x → q ≡ 21 + j + 10 * y → p ≡ q → i ≡ j → x ≡ y
      same_length h k e l = omega arith

  -- what tells a run is the run's file
  pub tells_file : (file : List ℕ) (r : Run) → Tells K L file r → file ≡ file_of K L r
  tells_file file r t =
      let w = told_log K L (first K L r.start) t.journal t.last r.acts t.told in
      t.bytes ∙ ap (λ (x : List Entry). file_bytes K L r.start x t.last) w.0 ∙ ap (λ (x : Code). file_bytes K L r.start (journal_of K L r) x) (w.1 ∙ ap (λ (x : Moment). x.mark) (sym (at_end K L r))) ∙ sym (file_is r)

  -- and a run's file tells it
  pub file_tells : (r : Run) → IsRun K L r → Tells K L (file_of K L r) r
  file_tells r R = record {
    journal = journal_of K L r;
    last = (at K L r (units r)).mark;
    bytes = file_is r;
    is_run = R;
    told = rw (at_end K L r) (told_of K L (first K L r.start) r.acts);
  }

  module _ (M : MachineLaws K) (N : LandmarkLaws L) where
    pub log_fits : (m : Moment) (acts : List Act) → Sound K L M N m → Goes K L m acts → LogFits (journal_from K L m acts)
    log_fits m [] s g = tt
    log_fits m (instruction ∷ acts) s g = log_fits (advance K L instruction m) acts (advance_sound K L M N instruction m s g.0) g.1
    log_fits m (taking e ∷ acts) s g = (N.has_fits m.mark s.marks, log_fits (advance K L (taking e) m) acts (advance_sound K L M N (taking e) m s g.0) g.1)

    -- a file is of one run at most
    pub file_determines : (r s : Run) → IsRun K L r → IsRun K L s → file_of K L r ≡ file_of K L s → r ≡ s
    file_determines r s R S e =
        let lr = log_fits (first K L r.start) r.acts (first_sound K L M N r.start R.lawful) R.goes in
        let ls = log_fits (first K L s.start) s.acts (first_sound K L M N s.start S.lawful) S.goes in
        let mr = N.has_fits (at K L r (units r)).mark (at_sound K L M N r (units r) R).marks in
        let ms = N.has_fits (at K L s (units s)).mark (at_sound K L M N s (units s) S).marks in
        let d = bytes_determine r.start s.start (journal_of K L r) (journal_of K L s) (at K L r (units r)).mark (at K L s (units s)).mark (M.laws.length_is r.start R.lawful ∙ sym (M.laws.length_is s.start S.lawful)) lr ls mr ms (sym (file_is r) ∙ e ∙ file_is s) in
        go r s R S d.0 d.1 d.2
      where
        go : (r s : Run) → IsRun K L r → IsRun K L s → r.start ≡ s.start → journal_of K L r ≡ journal_of K L s → (at K L r (units r)).mark ≡ (at K L s (units s)).mark → r ≡ s
        go r s R S p l e =
            let q : r.acts ≡ s.acts = log_determines K L (first K L r.start) r.acts s.acts (λ u v. marks_apart K L M N r u v R) (rw p (λ u v. marks_apart K L M N s u v S)) (l ∙ ap (λ (x : List ℕ). journal_from K L (first K L x) s.acts) (sym p)) (sym (ap (λ (x : Moment). x.mark) (at_end K L r)) ∙ e ∙ ap (λ (x : Moment). x.mark) (at_end K L s) ∙ ap (λ (x : List ℕ). (moment_after K L (first K L x) s.acts).mark) (sym p)) in
            λ i. record { start = p i; acts = q i }
