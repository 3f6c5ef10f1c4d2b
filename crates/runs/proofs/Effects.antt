-- What a call does to a session, by the sort of the call.
use Rattle.std.proofs.Common.{◌≡◌, ℕ, ◌+◌, ◌-◌, ◌≤◌, true, false, ◌⊎◌, List, [], ◌∷◌, ◌++◌, length, replicate, sym, refl, ap, ◌∙◌, inl, inr, append-nil, arith, length-append}
use Rattle.machine.specs.Kinds.{Kind}
use Rattle.landmark.specs.Markings.{Marking}
use Rattle.faults.specs.declared.SessionFault.{SessionFault}
use Rattle.runs.specs.Runs.{Act, instruction, taking, Run, at, units, longer}
use Rattle.runs.specs.Lamps.{Among}
use Rattle.runs.specs.Tells.{Tells}
use Rattle.runs.specs.Sessions.{Mode, recording, replaying, State, Call, RunFor, Interrupt, Keep, Finish, Resume, Seek, Back, Forward, Trail, Write, Show, Load, Memory, supplied, Answer, done, count, refused, latest, moved, grown, Does, Consistent}
use Rattle.runs.specs.Traces.{Sort, records, resumes, moves, keeps, looks, turns, loads, sort, succeeded, counted, recorded, turned, Stays, KeepsAll, Allowed}

pub refused_count : {f : SessionFault} {m : Memory} {n : ℕ} → refused f m ≡ count n → ⊥
refused_count e = let z : ◌≡◌ {A = ℕ} 0 1 = cc in omega arith

pub false_true : true ≡ false → ⊥
false_true e = let z : ◌≡◌ {A = ℕ} 0 1 = cc in omega arith

pub count_same : {m n : ℕ} → count m ≡ count n → m ≡ n
count_same e = cc

pub refused_same : {f g : SessionFault} {m n : Memory} → refused f m ≡ refused g n → f ≡ g
refused_same e = cc

pub refused_memory : {f g : SessionFault} {m n : Memory} → refused f m ≡ refused g n → m ≡ n
refused_memory e = cc

-- a call of one sort is of no other: the sorts by number
abbrev rank : Sort → ℕ
rank records = 0
rank resumes = 1
rank moves = 2
rank keeps = 3
rank looks = 4
rank turns = 5
rank loads = 6

pub apart : (c : Call) {x y : Sort} → sort c ≡ x → sort c ≡ y → ¬ (rank x ≡ rank y) → ⊥
apart c p q h = h (ap rank (sym p ∙ q))

-- only calls that record add units
pub recorded_none : (c : Call) (a : Answer) → ¬ (sort c ≡ records) → recorded c a ≡ []
recorded_none (RunFor k) a h = absurd (h refl)
recorded_none (Interrupt e) a h = absurd (h refl)
recorded_none Keep a h = refl
recorded_none Finish a h = refl
recorded_none Resume a h = refl
recorded_none (Seek c) a h = refl
recorded_none (Back n) a h = refl
recorded_none (Forward n) a h = refl
recorded_none (Trail list) a h = refl
recorded_none (Write buffer) a h = refl
recorded_none (Show buffer) a h = refl
recorded_none (Load file) a h = refl

-- and no refused call does
pub recorded_refused : (c : Call) (f : SessionFault) (m : Memory) → recorded c (refused f m) ≡ []
recorded_refused (RunFor k) f m = refl
recorded_refused (Interrupt e) f m = refl
recorded_refused Keep f m = refl
recorded_refused Finish f m = refl
recorded_refused Resume f m = refl
recorded_refused (Seek c) f m = refl
recorded_refused (Back n) f m = refl
recorded_refused (Forward n) f m = refl
recorded_refused (Trail list) f m = refl
recorded_refused (Write buffer) f m = refl
recorded_refused (Show buffer) f m = refl
recorded_refused (Load file) f m = refl

-- only finish and resume turn the mode
pub turned_same : (c : Call) (m : Mode) → ¬ (sort c ≡ turns) → ¬ (sort c ≡ resumes) → turned c m ≡ m
turned_same (RunFor k) m h g = refl
turned_same (Interrupt e) m h g = refl
turned_same Keep m h g = refl
turned_same Finish m h g = absurd (h refl)
turned_same Resume m h g = absurd (g refl)
turned_same (Seek c) m h g = refl
turned_same (Back n) m h g = refl
turned_same (Forward n) m h g = refl
turned_same (Trail list) m h g = refl
turned_same (Write buffer) m h g = refl
turned_same (Show buffer) m h g = refl
turned_same (Load file) m h g = refl

pub longer_none : (r : Run) → longer r [] ≡ r
longer_none r = λ i. record { start = r.start; acts = append-nil r.acts i }

module _ (K : Kind) (L : Marking) where
  -- a call is made only where the mode allows it
  pub does_allowed : (c : Call) (s : State) (a : Answer) (t : State) → Does K L s c a t → Allowed s.mode c
  does_allowed (RunFor k) s a t d = d.0
  does_allowed (Interrupt e) s a t d = d.0
  does_allowed Keep s a t d = tt
  does_allowed Finish s a t d = d.0
  does_allowed Resume s a t d = d.0
  does_allowed (Seek c) s a t d = d.0
  does_allowed (Back n) s a t d = d.0
  does_allowed (Forward n) s a t d = d.0
  does_allowed (Trail list) s a t d = d.0
  does_allowed (Write buffer) s a t d = d.0
  does_allowed (Show buffer) s a t d = tt
  does_allowed (Load file) s a t d = d.0

  -- the unit that a move is to
  abbrev pub Reaches : State → Call → ℕ → Type 0
  Reaches s (RunFor k) v = ⊥
  Reaches s (Interrupt e) v = ⊥
  Reaches s Keep v = ⊥
  Reaches s Finish v = ⊥
  Reaches s Resume v = ⊥
  Reaches s (Seek d) v = (v ≤ units s.run) × ((at K L s.run v).mark ≡ d)
  Reaches s (Back n) v = v + n ≡ s.present
  Reaches s (Forward n) v = v ≡ s.present + n
  Reaches s (Trail list) v = ⊥
  Reaches s (Write buffer) v = ⊥
  Reaches s (Show buffer) v = ⊥
  Reaches s (Load file) v = ⊥

  -- what a call does
  pub data Effect (s : State) (c : Call) (a : Answer) (t : State) : Type 0 where
    refuses : (f : SessionFault) → turned c s.mode ≡ s.mode → a ≡ refused f (supplied c) → t ≡ s → Effect s c a t
    adds : sort c ≡ records → succeeded a ≡ true → t.mode ≡ s.mode → t.run ≡ longer s.run (recorded c a) → t.present ≡ units t.run → t.kept ≡ s.kept → Effect s c a t
    finishes : c ≡ Finish → a ≡ done → t ≡ record { mode = replaying; run = s.run; present = s.present; kept = s.kept } → Effect s c a t
    goes_on : c ≡ Resume → a ≡ done → t ≡ record { mode = recording; run = s.run; present = units s.run; kept = s.kept } → Effect s c a t
    goes_to : (v : ℕ) → sort c ≡ moves → Reaches s c v → a ≡ count (v - latest v (s.present ∷ s.kept)) → t ≡ moved s v → Effect s c a t
    keeps_it : (us : List ℕ) → c ≡ Keep → a ≡ count (length us) → (Among s.present s.kept × (us ≡ s.kept)) ⊎ ((¬ Among s.present s.kept) × (us ≡ s.kept ++ (s.present ∷ []))) → t ≡ record { mode = s.mode; run = s.run; present = s.present; kept = us } → Effect s c a t
    sees : sort c ≡ looks → succeeded a ≡ true → t ≡ s → Effect s c a t
    reads : (file : List ℕ) (b : Run) → c ≡ Load file → s.mode ≡ replaying → a ≡ count (units b) → Tells K L file b → t ≡ record { mode = replaying; run = b; present = 0; kept = 0 ∷ [] } → Effect s c a t

  pub effect : (c : Call) (s : State) (a : Answer) (t : State) → Consistent K L s → Does K L s c a t → Effect s c a t
  effect (RunFor k) s a t S (m, inl d) = adds refl (ap succeeded d.1) (ap (λ (x : State). x.mode) d.2) (ap (λ (x : State). x.run) d.2 ∙ sym (longer_none s.run) ∙ ap (λ (x : Answer). longer s.run (replicate (counted x) instruction)) (sym d.1)) (ap (λ (x : State). x.present) d.2 ∙ S.at_last m ∙ ap (λ (x : State). units x.run) (sym d.2)) (ap (λ (x : State). x.kept) d.2)
  effect (RunFor k) s a t S (m, inr (inl d)) = refuses _ refl d.2.0 d.2.1
  effect (RunFor k) s a t S (m, inr (inr (inl d))) = refuses _ refl d.3.0 d.3.1
  effect (RunFor k) s a t S (m, inr (inr (inr d))) = adds refl (ap succeeded d.6) (ap (λ (x : State). x.mode) d.7) (ap (λ (x : State). x.run) d.7 ∙ ap (λ (x : Answer). longer s.run (replicate (counted x) instruction)) (sym d.6)) (grown_last (replicate d.1 instruction) d.7) (ap (λ (x : State). x.kept) d.7)
    where
      grown_last : (acts : List Act) → t ≡ grown s acts → t.present ≡ units t.run
      grown_last acts e = ap (λ (x : State). x.present) e ∙ sym (length-append s.run.acts acts) ∙ ap (λ (x : State). units x.run) (sym e)
  effect (Interrupt e) s a t S (m, x, inl d) = refuses _ refl d.1.0 d.1.1
  effect (Interrupt e) s a t S (m, x, inr (inl d)) = refuses _ refl d.2.0 d.2.1
  effect (Interrupt e) s a t S (m, x, inr (inr (inl d))) = refuses _ refl d.3.0 d.3.1
  effect (Interrupt e) s a t S (m, x, inr (inr (inr (inl d)))) = refuses _ refl d.4.0 d.4.1
  effect (Interrupt e) s a t S (m, x, inr (inr (inr (inr d)))) = adds refl (ap succeeded d.3) (ap (λ (x : State). x.mode) d.4) (ap (λ (x : State). x.run) d.4 ∙ ap (λ (x : Answer). longer s.run (recorded (Interrupt e) x)) (sym d.3)) (ap (λ (x : State). x.present) d.4 ∙ sym (length-append s.run.acts (taking e ∷ [])) ∙ ap (λ (x : State). units x.run) (sym d.4)) (ap (λ (x : State). x.kept) d.4)
  effect Keep s a t S (inl d) = keeps_it s.kept refl d.1 (inl (d.0, refl)) d.2
  effect Keep s a t S (inr (inl d)) = refuses _ refl d.2.0 d.2.1
  effect Keep s a t S (inr (inr d)) = keeps_it (s.kept ++ (s.present ∷ [])) refl (d.2 ∙ ap count (sym (length-append s.kept (s.present ∷ [])))) (inr (d.0, refl)) d.3
  effect Finish s a t S d = finishes refl d.1 d.2
  effect Resume s a t S d = goes_on refl d.1 d.2
  effect (Seek c) s a t S (m, inl d) = goes_to d.0 refl (d.1, d.2) d.3.0 d.3.1
  effect (Seek c) s a t S (m, inr d) = refuses _ refl d.1.0 d.1.1
  effect (Back n) s a t S (m, inl d) = goes_to (s.present - n) refl (omega (arith, d.0)) d.1.0 d.1.1
  effect (Back n) s a t S (m, inr d) = refuses _ refl d.1.0 d.1.1
  effect (Forward n) s a t S (m, inl d) = goes_to (s.present + n) refl refl d.1.0 d.1.1
  effect (Forward n) s a t S (m, inr d) = refuses _ refl d.1.0 d.1.1
  effect (Trail list) s a t S (m, inl d) = sees refl (ap succeeded d.1) d.2
  effect (Trail list) s a t S (m, inr d) = refuses _ refl d.1.0 d.1.1
  effect (Write buffer) s a t S (m, inl d) = sees refl (ap succeeded d.1) d.2
  effect (Write buffer) s a t S (m, inr d) = refuses _ refl d.1.0 d.1.1
  effect (Show buffer) s a t S (inl d) = sees refl (ap succeeded d.1) d.2
  effect (Show buffer) s a t S (inr d) = refuses _ refl d.1.0 d.1.1
  effect (Load file) s a t S (m, inl d) = reads file d.0 refl m d.2 d.1 d.3
  effect (Load file) s a t S (m, inr d) = refuses _ refl d.2.0 d.2.1

  module _ (s : State) (c : Call) (a : Answer) (t : State) where
    -- the mode after a call
    pub effect_mode : Effect s c a t → t.mode ≡ turned c s.mode
    effect_mode (refuses f q e p) = ap (λ (x : State). x.mode) p ∙ sym q
    effect_mode (adds q e m r p k) = m ∙ sym (turned_same c s.mode (λ z. apart c q z (omega arith)) (λ z. apart c q z (omega arith)))
    effect_mode (finishes q e p) = ap (λ (x : State). x.mode) p ∙ ap (λ (x : Call). turned x s.mode) (sym q)
    effect_mode (goes_on q e p) = ap (λ (x : State). x.mode) p ∙ ap (λ (x : Call). turned x s.mode) (sym q)
    effect_mode (goes_to v q h e p) = ap (λ (x : State). x.mode) p ∙ sym (turned_same c s.mode (λ z. apart c q z (omega arith)) (λ z. apart c q z (omega arith)))
    effect_mode (keeps_it us q e h p) = ap (λ (x : State). x.mode) p ∙ ap (λ (x : Call). turned x s.mode) (sym q)
    effect_mode (sees q e p) = ap (λ (x : State). x.mode) p ∙ sym (turned_same c s.mode (λ z. apart c q z (omega arith)) (λ z. apart c q z (omega arith)))
    effect_mode (reads file b q m e h p) = ap (λ (x : State). x.mode) p ∙ sym m ∙ ap (λ (x : Call). turned x s.mode) (sym q)

    -- the run after a call: the units that it recorded are added, unless it is a load that succeeded
    abbrev pub Adds : Type 0
    Adds = ((¬ (sort c ≡ loads)) ⊎ (succeeded a ≡ false)) × (t.run ≡ longer s.run (recorded c a))

    abbrev pub Replaces : Type 0
    Replaces = (file : List ℕ) × (b : Run) × (c ≡ Load file) × (a ≡ count (units b)) × Tells K L file b × (t.run ≡ b)

    same_run : ¬ (sort c ≡ records) → t.run ≡ s.run → t.run ≡ longer s.run (recorded c a)
    same_run h e = e ∙ sym (longer_none s.run) ∙ ap (λ (x : List Act). longer s.run x) (sym (recorded_none c a h))

    pub effect_run : Effect s c a t → Adds ⊎ Replaces
    effect_run (refuses f q e p) = inl (inr (ap succeeded e), ap (λ (x : State). x.run) p ∙ sym (longer_none s.run) ∙ ap (λ (x : List Act). longer s.run x) (sym (ap (recorded c) e ∙ recorded_refused c f (supplied c))))
    effect_run (adds q e m r p k) = inl (inl (λ z. apart c q z (omega arith)), r)
    effect_run (finishes q e p) = inl (inl (λ z. apart c (ap sort q) z (omega arith)), same_run (λ z. apart c (ap sort q) z (omega arith)) (ap (λ (x : State). x.run) p))
    effect_run (goes_on q e p) = inl (inl (λ z. apart c (ap sort q) z (omega arith)), same_run (λ z. apart c (ap sort q) z (omega arith)) (ap (λ (x : State). x.run) p))
    effect_run (goes_to v q h e p) = inl (inl (λ z. apart c q z (omega arith)), same_run (λ z. apart c q z (omega arith)) (ap (λ (x : State). x.run) p))
    effect_run (keeps_it us q e h p) = inl (inl (λ z. apart c (ap sort q) z (omega arith)), same_run (λ z. apart c (ap sort q) z (omega arith)) (ap (λ (x : State). x.run) p))
    effect_run (sees q e p) = inl (inl (λ z. apart c q z (omega arith)), same_run (λ z. apart c q z (omega arith)) (ap (λ (x : State). x.run) p))
    effect_run (reads file b q m e h p) = inr (file, b, q, e, h, ap (λ (x : State). x.run) p)

    not_failed : {A : Type 0} → succeeded a ≡ true → succeeded a ≡ false → A
    not_failed p q = absurd (false_true (sym p ∙ q))

    -- where a call moves nothing, the present unit stays
    pub effect_stays : Effect s c a t → Stays c a → t.present ≡ s.present
    effect_stays (refuses f q e p) h = ap (λ (x : State). x.present) p
    effect_stays (adds q e m r p k) (inl z) = not_failed e z
    effect_stays (adds q e m r p k) (inr (inl z)) = absurd (apart c q z (omega arith))
    effect_stays (adds q e m r p k) (inr (inr (inl z))) = absurd (apart c q z (omega arith))
    effect_stays (adds q e m r p k) (inr (inr (inr z))) = absurd (apart c q z (omega arith))
    effect_stays (finishes q e p) h = ap (λ (x : State). x.present) p
    effect_stays (goes_on q e p) (inl z) = not_failed (ap succeeded e) z
    effect_stays (goes_on q e p) (inr (inl z)) = absurd (apart c (ap sort q) z (omega arith))
    effect_stays (goes_on q e p) (inr (inr (inl z))) = absurd (apart c (ap sort q) z (omega arith))
    effect_stays (goes_on q e p) (inr (inr (inr z))) = absurd (apart c (ap sort q) z (omega arith))
    effect_stays (goes_to v q h e p) (inl z) = not_failed (ap succeeded e) z
    effect_stays (goes_to v q h e p) (inr (inl z)) = absurd (apart c q z (omega arith))
    effect_stays (goes_to v q h e p) (inr (inr (inl z))) = absurd (apart c q z (omega arith))
    effect_stays (goes_to v q h e p) (inr (inr (inr z))) = absurd (apart c q z (omega arith))
    effect_stays (keeps_it us q e h p) x = ap (λ (x : State). x.present) p
    effect_stays (sees q e p) h = ap (λ (x : State). x.present) p
    effect_stays (reads file b q m e h p) (inl z) = not_failed (ap succeeded e) z
    effect_stays (reads file b q m e h p) (inr (inl z)) = absurd (apart c (ap sort q) z (omega arith))
    effect_stays (reads file b q m e h p) (inr (inr (inl z))) = absurd (apart c (ap sort q) z (omega arith))
    effect_stays (reads file b q m e h p) (inr (inr (inr z))) = absurd (apart c (ap sort q) z (omega arith))

    -- where a call keeps nothing and loads nothing, the kept units stay
    pub effect_kept : Effect s c a t → KeepsAll c a → t.kept ≡ s.kept
    effect_kept (refuses f q e p) h = ap (λ (x : State). x.kept) p
    effect_kept (adds q e m r p k) h = k
    effect_kept (finishes q e p) h = ap (λ (x : State). x.kept) p
    effect_kept (goes_on q e p) h = ap (λ (x : State). x.kept) p
    effect_kept (goes_to v q h e p) x = ap (λ (x : State). x.kept) p
    effect_kept (keeps_it us q e h p) (inl z) = not_failed (ap succeeded e) z
    effect_kept (keeps_it us q e h p) (inr z) = absurd (z.0 (ap sort q))
    effect_kept (sees q e p) h = ap (λ (x : State). x.kept) p
    effect_kept (reads file b q m e h p) (inl z) = not_failed (ap succeeded e) z
    effect_kept (reads file b q m e h p) (inr z) = absurd (z.1 (ap sort q))
