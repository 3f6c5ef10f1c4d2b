-- Reading back what a file's bytes say.
use Rattle.std.proofs.Common.{◌≡◌, ℕ, zero, suc, ◌+◌, ◌*◌, ◌/◌, ◌%◌, ◌^◌, ◌<◌, ◌≤◌, Bool, true, false, cond, eqb, List, [], ◌∷◌, ◌++◌, length, get_or, drop, sym, refl, ap, ◌∙◌, subst, append_assoc, arith, length-drop, drop-cons, drop-drop, eqb-true}
use Rattle.machine.specs.declared.Event.{Event}
use Rattle.machine.specs.declared.Event.TheVariants.{Timer, Switch}
use Rattle.landmark.specs.declared.Code.{Code}
use Rattle.machine.specs.Bytes.{Bytes}
use Rattle.machine.specs.Kinds.{Kind, Fits}
use Rattle.landmark.specs.Markings.{Marking, LandmarkLaws}
use Rattle.runs.specs.declared.Entry.{Entry}
use Rattle.runs.specs.Runs.{}
use Rattle.runs.specs.Files.{two, four, code_bytes, event_bytes, journal_bytes}
use Rattle.runs.specs.Checks.{passed, two_at, number_at, code_at, event_ok, event_of, event_place, event_at, events_from, check_events}
use Rattle.runs.specs.Breaks.{EntriesKnown}
use Rattle.runs.proofs.Bytes.{CodeFits}

pub byte_any : (bs : List ℕ) (k : ℕ) → Bytes bs → get_or bs k 0 < 256
byte_any [] k h = omega arith
byte_any (x ∷ bs) zero h = h 0 (omega arith)
byte_any (x ∷ bs) (suc k) h = byte_any bs k (λ j l. h (suc j) (omega arith))

pub bytes_tail : (x : ℕ) (bs : List ℕ) → Bytes (x ∷ bs) → Bytes bs
bytes_tail x bs h j l = h (suc j) (omega arith)

pub bytes_drop : (k : ℕ) (bs : List ℕ) → Bytes bs → Bytes (drop k bs)
bytes_drop zero bs h = h
bytes_drop (suc k) [] h = h
bytes_drop (suc k) (x ∷ bs) h = bytes_drop k bs (bytes_tail x bs h)

-- the bytes from place k on, n of them written out
abbrev pub spelled : List ℕ → ℕ → ℕ → List ℕ
spelled bs k zero = drop k bs
spelled bs k (suc n) = get_or bs k 0 ∷ spelled bs (suc k) n

pub spelled_is : (bs : List ℕ) (k n : ℕ) → k + n ≤ length bs → drop k bs ≡ spelled bs k n
spelled_is bs k zero h = refl
spelled_is bs k (suc n) h = drop-cons bs k 0 (omega arith) ∙ ap {B = List ℕ} (λ r. get_or bs k 0 ∷ r) (spelled_is bs (suc k) n (omega arith))

four_0 : (a b c d : ℕ) → a < 256 → b < 256 → c < 256 → d < 256 → (65536 * (256 * a + b) + (256 * c + d)) / 65536 / 256 % 256 ≡ a
four_0 a b c d ha hb hc hd = omega arith

four_1 : (a b c d : ℕ) → a < 256 → b < 256 → c < 256 → d < 256 → (65536 * (256 * a + b) + (256 * c + d)) / 65536 % 256 ≡ b
four_1 a b c d ha hb hc hd = omega arith

four_2 : (a b c d : ℕ) → a < 256 → b < 256 → c < 256 → d < 256 → (65536 * (256 * a + b) + (256 * c + d)) / 256 % 256 ≡ c
four_2 a b c d ha hb hc hd = omega arith

four_3 : (a b c d : ℕ) → a < 256 → b < 256 → c < 256 → d < 256 → (65536 * (256 * a + b) + (256 * c + d)) % 256 ≡ d
four_3 a b c d ha hb hc hd = omega arith

pub four_back : (a b c d : ℕ) → a < 256 → b < 256 → c < 256 → d < 256 → four (65536 * (256 * a + b) + (256 * c + d)) ≡ a ∷ b ∷ c ∷ d ∷ []
four_back a b c d ha hb hc hd = λ i. four_0 a b c d ha hb hc hd i ∷ four_1 a b c d ha hb hc hd i ∷ four_2 a b c d ha hb hc hd i ∷ four_3 a b c d ha hb hc hd i ∷ []

two_0 : (a b : ℕ) → a < 256 → b < 256 → (256 * a + b) / 256 % 256 ≡ a
two_0 a b ha hb = omega arith

two_1 : (a b : ℕ) → a < 256 → b < 256 → (256 * a + b) % 256 ≡ b
two_1 a b ha hb = omega arith

pub two_back : (a b : ℕ) → a < 256 → b < 256 → two (256 * a + b) ≡ a ∷ b ∷ []
two_back a b ha hb = λ i. two_0 a b ha hb i ∷ two_1 a b ha hb i ∷ []

pub two_read : (n : ℕ) (rest : List ℕ) → n < 65536 → two_at (two n ++ rest) 0 ≡ n
two_read n rest h = omega arith

pub four_read : (n : ℕ) (rest : List ℕ) → n < 2 ^ 32 → number_at (four n ++ rest) 0 ≡ n
four_read n rest h = omega arith

pub code_read : (c : Code) (rest : List ℕ) → CodeFits c → code_at (code_bytes c ++ rest) ≡ c
code_read c rest f = λ i. record { major = four_read c.major (four c.minor ++ rest) f.0 i; minor = four_read c.minor rest f.1 i }

pub code_back : (bs : List ℕ) → Bytes bs → code_bytes (code_at bs) ≡ get_or bs 0 0 ∷ get_or bs 1 0 ∷ get_or bs 2 0 ∷ get_or bs 3 0 ∷ get_or bs 4 0 ∷ get_or bs 5 0 ∷ get_or bs 6 0 ∷ get_or bs 7 0 ∷ []
code_back bs h =
    let p = four_back (get_or bs 0 0) (get_or bs 1 0) (get_or bs 2 0) (get_or bs 3 0) (byte_any bs 0 h) (byte_any bs 1 h) (byte_any bs 2 h) (byte_any bs 3 h) in
    let q = four_back (get_or bs 4 0) (get_or bs 5 0) (get_or bs 6 0) (get_or bs 7 0) (byte_any bs 4 h) (byte_any bs 5 h) (byte_any bs 6 h) (byte_any bs 7 h) in
    λ i. p i ++ q i

pub event_back : (kind d : ℕ) → event_ok kind d ≡ true → event_bytes (event_of kind d) ≡ kind ∷ d ∷ []
event_back kind d e = go (eqb kind 1) refl e
  where
    go : (b : Bool) → eqb kind 1 ≡ b → cond b (eqb d 0) (eqb kind 2) ≡ true → event_bytes (cond b Timer (Switch d)) ≡ kind ∷ d ∷ []
    go true p q = λ i. sym (eqb-true kind 1 p) i ∷ sym (eqb-true d 0 q) i ∷ []
    go false p q = λ i. sym (eqb-true kind 2 q) i ∷ d ∷ []

-- the data that is read is a byte
pub event_fits : (kind d : ℕ) → d < 256 → Fits (event_of kind d)
event_fits kind d h = go (eqb kind 1)
  where
    go : (b : Bool) → Fits (cond b Timer (Switch d))
    go true = tt
    go false = h

pub event_reads : (e : Event) → event_ok (get_or (event_bytes e) 0 0) (get_or (event_bytes e) 1 0) ≡ true
event_reads Timer = refl
event_reads (Switch d) = refl

pub event_read : (e : Event) → event_of (get_or (event_bytes e) 0 0) (get_or (event_bytes e) 1 0) ≡ e
event_read Timer = refl
event_read (Switch d) = refl

-- the events in bytes that follow each other
abbrev pub read : ℕ → List ℕ → List Entry
read zero bs = []
read (suc n) bs = record { code = code_at bs; event = event_of (get_or bs 8 0) (get_or bs 9 0) } ∷ read n (drop 10 bs)

module _ (K : Kind) (L : Marking) where
  -- the bytes are right for n events and a last landmark
  abbrev pub Right : ℕ → List ℕ → Type 0
  Right zero bs = L.has (code_at bs) ≡ true
  Right (suc n) bs = (event_ok (get_or bs 8 0) (get_or bs 9 0) ≡ true) × (L.has (code_at bs) ≡ true) × Right n (drop 10 bs)

  pub record LogRead (n : ℕ) (bs : List ℕ) (log : List Entry) : Type 0 where
    pub count_is : length log ≡ n
    pub bytes_is : bs ≡ journal_bytes log ++ drop (10 * n) bs
    pub has_all : EntriesKnown K L log
    pub has_last : L.has (code_at (drop (10 * n) bs)) ≡ true

  pub read_sound : (n : ℕ) (bs : List ℕ) → Bytes bs → 10 * n ≤ length bs → Right n bs → LogRead n bs (read n bs)
  read_sound zero bs h l e = record { count_is = refl; bytes_is = refl; has_all = tt; has_last = e }
  read_sound (suc n) bs h l e =
      let x : Entry = record { code = code_at bs; event = event_of (get_or bs 8 0) (get_or bs 9 0) } in
      let es : List Entry = read n (drop 10 bs) in
      let ih = read_sound n (drop 10 bs) (bytes_drop 10 bs h) (omega (arith, length-drop 10 bs)) e.2 in
      let t : List ℕ = drop (10 * suc n) bs in
      let d : drop (10 * n) (drop 10 bs) ≡ t = drop-drop (10 * n) 10 bs ∙ ap (λ (k : ℕ). drop k bs) (omega arith) in
      let p : bs ≡ spelled bs 0 10 = spelled_is bs 0 10 (omega arith) in
      let q : code_bytes (code_at bs) ++ (event_bytes x.event ++ drop 10 bs) ≡ spelled bs 0 10 = λ i. code_back bs h i ++ (event_back (get_or bs 8 0) (get_or bs 9 0) e.0 i ++ drop 10 bs) in
      let a : drop 10 bs ≡ journal_bytes es ++ t = ih.bytes_is ∙ ap {B = List ℕ} (λ y. journal_bytes es ++ y) d in
      let b : event_bytes x.event ++ drop 10 bs ≡ (event_bytes x.event ++ journal_bytes es) ++ t = ap {B = List ℕ} (λ y. event_bytes x.event ++ y) a ∙ sym (append_assoc (event_bytes x.event) (journal_bytes es) t) in
      record {
        count_is = omega (arith, ih.count_is);
        bytes_is = p ∙ sym q ∙ ap {B = List ℕ} (λ y. code_bytes (code_at bs) ++ y) b;
        has_all = (e.1, event_fits (get_or bs 8 0) (get_or bs 9 0) (byte_any bs 9 h), ih.has_all);
        has_last = subst (λ (y : List ℕ). L.has (code_at y) ≡ true) d ih.has_last;
      }

  -- the bytes of events are read as those events
  pub read_back : (log : List Entry) (rest : List ℕ) → LandmarkLaws L → EntriesKnown K L log → read (length log) (journal_bytes log ++ rest) ≡ log
  read_back [] rest N h = refl
  read_back (x ∷ xs) rest N h =
      ap (λ (y : List ℕ). read (suc (length xs)) (code_bytes x.code ++ y)) (append_assoc (event_bytes x.event) (journal_bytes xs) rest)
      ∙ one x.code x.event (journal_bytes xs ++ rest) (N.has_fits x.code h.0) ∙ ap {B = List Entry} (λ y. x ∷ y) (read_back xs rest N h.2)
    where
      one : (c : Code) (e : Event) (tail : List ℕ) → CodeFits c → read (suc (length xs)) (code_bytes c ++ (event_bytes e ++ tail)) ≡ record { code = c; event = e } ∷ read (length xs) tail
      one c Timer tail f = λ i. record { code = code_read c (1 ∷ 0 ∷ tail) f i; event = Timer } ∷ read (length xs) tail
      one c (Switch b) tail f = λ i. record { code = code_read c (2 ∷ b ∷ tail) f i; event = Switch b } ∷ read (length xs) tail

  pub right_back : (log : List Entry) (last : Code) → LandmarkLaws L → EntriesKnown K L log → L.has last ≡ true → Right (length log) (journal_bytes log ++ code_bytes last)
  right_back [] last N h k = subst (λ (c : Code). L.has c ≡ true) (sym (code_read last [] (N.has_fits last k))) k
  right_back (x ∷ xs) last N h k =
      subst (λ (y : List ℕ). Right (suc (length xs)) (code_bytes x.code ++ y)) (sym (append_assoc (event_bytes x.event) (journal_bytes xs) (code_bytes last)))
      (one x.code x.event (journal_bytes xs ++ code_bytes last) (N.has_fits x.code h.0) h.0 (right_back xs last N h.2 k))
    where
      one : (c : Code) (e : Event) (tail : List ℕ) → CodeFits c → L.has c ≡ true → Right (length xs) tail → Right (suc (length xs)) (code_bytes c ++ (event_bytes e ++ tail))
      one c Timer tail f h r = (refl, subst (λ (c : Code). L.has c ≡ true) (sym (code_read c (1 ∷ 0 ∷ tail) f)) h, r)
      one c (Switch b) tail f h r = (refl, subst (λ (c : Code). L.has c ≡ true) (sym (code_read c (2 ∷ b ∷ tail) f)) h, r)

  -- the file's events, by their places
  pub place_next : (file : List ℕ) (i : ℕ) → drop (event_place K L (suc i)) file ≡ drop 10 (drop (event_place K L i) file)
  place_next file i = sym (drop-drop 10 (event_place K L i) file ∙ ap (λ (k : ℕ). drop k file) (omega arith))

  pub events_read : (file : List ℕ) (i n : ℕ) → events_from K L file i n ≡ read n (drop (event_place K L i) file)
  unfolding events_from
  events_read file i zero = refl
  events_read file i (suc n) = ap {B = List Entry} (λ y. event_at K L file i ∷ y) (events_read file (suc i) n ∙ ap (read n) (place_next file i))

  pub check_right : (file : List ℕ) (i n : ℕ) → Right n (drop (event_place K L i) file) → check_events K L file i n ≡ passed
  unfolding check_events
  check_right file i zero r = rw r
  check_right file i (suc n) r = rw (r.0, r.1) (check_right file (suc i) n (subst (Right n) (sym (place_next file i)) r.2))
