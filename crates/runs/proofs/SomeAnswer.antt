-- Each call that a session takes has an answer.
use Rattle.std.proofs.Common.{◌≡◌, ℕ, zero, suc, ◌+◌, ◌<◌, ◌≤◌, Bool, true, false, eqb, ◌⊎◌, List, [], ◌∷◌, length, replicate, sym, refl, ap, subst, inl, inr, ⊎_elim, append-nil, arith, length-append, eqb-true}
use borrow.Author.Tests.{eqb-false}
use Rattle.machine.specs.declared.Event.{Event}
use Rattle.landmark.specs.declared.Code.{Code}
use Rattle.runs.specs.declared.LampChange.{LampChange}
use Rattle.machine.specs.Bytes.{Bytes}
use Rattle.machine.specs.Kinds.{Kind, MachineLaws, Fits}
use Rattle.landmark.specs.Markings.{Marking, LandmarkLaws, most_units, same_code}
use Rattle.runs.specs.Runs.{instruction, Run, Moment, IsRun, first, at, units, event_count, longer, ends_stopped}
use Rattle.runs.specs.Lamps.{trail_of, Among}
use Rattle.runs.specs.Files.{file_of}
use Rattle.runs.specs.Checks.{Verdict, ok, wrong, verdict}
use Rattle.runs.specs.Sessions.{State, recording, replaying, Call, RunFor, Interrupt, Keep, Finish, Resume, Seek, Back, Forward, Trail, Write, Show, Load, Answer, count, done, Does, grown, Consistent}
use Rattle.runs.specs.Traces.{Allowed, Given}
use Rattle.runs.proofs.Moves.{at_end, goes_append, event_count_append}
use Rattle.runs.proofs.Tell.{le_or_lt, same_code_true, code_differs}
use Rattle.runs.proofs.Sessions.{longer_more}
use Rattle.runs.proofs.Verdict.{verdict_sound}

-- whether the unit is kept
kept_or_not : (u : ℕ) (ks : List ℕ) → Among u ks ⊎ (¬ Among u ks)
kept_or_not u [] = inr (λ z. z)
kept_or_not u (k ∷ ks) = go (eqb u k) refl (kept_or_not u ks)
  where
    go : (b : Bool) → eqb u k ≡ b → Among u ks ⊎ (¬ Among u ks) → Among u (k ∷ ks) ⊎ (¬ Among u (k ∷ ks))
    go true e h = inl (inl (eqb-true u k e))
    go false e (inl h) = inl (inr h)
    go false e (inr h) = inr (λ z. ⊎_elim (eqb-false u k e) h z)

true_or_false : (b : Bool) → (b ≡ true) ⊎ (b ≡ false)
true_or_false true = inl refl
true_or_false false = inr refl

module _ (K : Kind) (L : Marking) where
  -- some unit up to n has the landmark, or none has
  pub unit_or_none : (r : Run) (c : Code) (n : ℕ) → ((v : ℕ) × (v ≤ n) × ((at K L r v).mark ≡ c)) ⊎ ((v : ℕ) → v ≤ n → ¬ ((at K L r v).mark ≡ c))
  unit_or_none r c zero = go (same_code (at K L r 0).mark c) refl
    where
      go : (b : Bool) → same_code (at K L r 0).mark c ≡ b → ((v : ℕ) × (v ≤ 0) × ((at K L r v).mark ≡ c)) ⊎ ((v : ℕ) → v ≤ 0 → ¬ ((at K L r v).mark ≡ c))
      go true e = inl (0, omega arith, same_code_true (at K L r 0).mark c e)
      go false e = inr (λ v l q. let z : v ≡ 0 = omega arith in code_differs (at K L r 0).mark c e (subst (λ (x : ℕ). (at K L r x).mark ≡ c) z q))
  unit_or_none r c (suc n) = go (same_code (at K L r (suc n)).mark c) refl (unit_or_none r c n)
    where
      none : same_code (at K L r (suc n)).mark c ≡ false → ((v : ℕ) → v ≤ n → ¬ ((at K L r v).mark ≡ c)) → (v : ℕ) → (v ≤ n) ⊎ (n < v) → v ≤ suc n → ¬ ((at K L r v).mark ≡ c)
      none e h v (inl b) l q = h v b q
      none e h v (inr b) l q = let z : v ≡ suc n = omega arith in code_differs (at K L r (suc n)).mark c e (subst (λ (x : ℕ). (at K L r x).mark ≡ c) z q)

      go : (b : Bool) → same_code (at K L r (suc n)).mark c ≡ b → ((v : ℕ) × (v ≤ n) × ((at K L r v).mark ≡ c)) ⊎ ((v : ℕ) → v ≤ n → ¬ ((at K L r v).mark ≡ c)) → ((v : ℕ) × (v ≤ suc n) × ((at K L r v).mark ≡ c)) ⊎ ((v : ℕ) → v ≤ suc n → ¬ ((at K L r v).mark ≡ c))
      go true e h = inl (suc n, omega arith, same_code_true (at K L r (suc n)).mark c e)
      go false e (inl h) = inl (h.0, omega (arith, h.1), h.2)
      go false e (inr h) = inr (λ v l. none e h v (le_or_lt v n) l)

  -- one instruction more
  pub step_one : (r : Run) → IsRun K L r → ends_stopped K L r ≡ false → units r < most_units → IsRun K L (longer r (instruction ∷ []))
  step_one r R p l = record {
    lawful = R.lawful;
    goes = goes_append K L (first K L r.start) r.acts (instruction ∷ []) R.goes (subst (λ (m : Moment). K.stopped m.image ≡ false) (at_end K L r) p, tt);
    few_units = omega (arith, length-append r.acts (instruction ∷ []));
    few_events = omega (arith, event_count_append r.acts (instruction ∷ []), R.few_events);
  }

  -- as many instructions as the machine and the limit let be done, at most k
  record Ran (r : Run) (k : ℕ) : Type 0 where
    times : ℕ
    at_most : times ≤ k
    is_run : IsRun K L (longer r (replicate times instruction))
    ends : (times ≡ k) ⊎ (ends_stopped K L (longer r (replicate times instruction)) ≡ true) ⊎ (units r + times ≡ most_units)

  longer_none : (r : Run) → longer r [] ≡ r
  longer_none r = λ i. record { start = r.start; acts = append-nil r.acts i }

  ran_more : (r : Run) (k : ℕ) → Ran (longer r (instruction ∷ [])) k → Ran r (suc k)
  ran_more r k d =
      let e : longer (longer r (instruction ∷ [])) (replicate d.times instruction) ≡ longer r (replicate (suc d.times) instruction) = longer_more K L r (instruction ∷ []) (replicate d.times instruction) in
      record {
        times = suc d.times;
        at_most = omega (arith, d.at_most);
        is_run = subst (IsRun K L) e d.is_run;
        ends = ⊎_elim (λ a. inl (ap suc a)) (λ b. inr (⊎_elim (λ p. inl (subst (λ (x : Run). ends_stopped K L x ≡ true) e p)) (λ q. inr (omega (arith, length-append r.acts (instruction ∷ [])))) b)) d.ends;
      }

  ran_none : (r : Run) (k : ℕ) → IsRun K L r → (0 ≡ k) ⊎ (ends_stopped K L r ≡ true) ⊎ (units r ≡ most_units) → Ran r k
  ran_none r k R h = record {
    times = 0;
    at_most = omega arith;
    is_run = subst (IsRun K L) (sym (longer_none r)) R;
    ends = ⊎_elim (λ a. inl a) (λ b. inr (⊎_elim (λ p. inl (subst (λ (x : Run). ends_stopped K L x ≡ true) (sym (longer_none r)) p)) (λ q. inr (omega arith)) b)) h;
  }

  ran : (r : Run) (k : ℕ) → IsRun K L r → Ran r k
  ran r zero R = ran_none r zero R (inl refl)
  ran r (suc k) R = go (true_or_false (ends_stopped K L r)) (le_or_lt most_units (units r)) (λ Q. ran (longer r (instruction ∷ [])) k Q)
    where
      go : (ends_stopped K L r ≡ true) ⊎ (ends_stopped K L r ≡ false) → (most_units ≤ units r) ⊎ (units r < most_units) → (IsRun K L (longer r (instruction ∷ [])) → Ran (longer r (instruction ∷ [])) k) → Ran r (suc k)
      go (inl p) b ih = ran_none r (suc k) R (inr (inl p))
      go (inr p) (inl b) ih = ran_none r (suc k) R (inr (inr (omega (arith, R.few_units))))
      go (inr p) (inr b) ih = ran_more r k (ih (step_one r R p b))

  -- an answer of the call
  abbrev pub Answered : State → Call → Type 0
  Answered s c = (a : Answer) × (t : State) × Does K L s c a t

  go_answered : (s : State) (k : ℕ) → Consistent K L s → s.mode ≡ recording → Answered s (RunFor k)
  unfolding ran_more
  go_answered s zero S m = (count 0, s, (m, inl (refl, refl, refl)))
  go_answered s (suc k) S m = go (true_or_false (ends_stopped K L s.run)) (le_or_lt most_units (units s.run))
    where
      R : IsRun K L s.run
      R = S.is_run

      go : (ends_stopped K L s.run ≡ true) ⊎ (ends_stopped K L s.run ≡ false) → (most_units ≤ units s.run) ⊎ (units s.run < most_units) → Answered s (RunFor (suc k))
      go (inl p) b = (_, s, (m, inr (inl (omega arith, p, (refl, refl)))))
      go (inr p) (inl b) = (_, s, (m, inr (inr (inl (omega arith, p, omega (arith, R.few_units), (refl, refl))))))
      go (inr p) (inr b) =
          let d : Ran (longer s.run (instruction ∷ [])) k = ran (longer s.run (instruction ∷ [])) k (step_one s.run R p b) in
          let f : Ran s.run (suc k) = ran_more s.run k d in
          (count (suc d.times), grown s (replicate (suc d.times) instruction), (m, inr (inr (inr (omega arith, suc d.times, omega arith, f.at_most, f.is_run, f.ends, refl, refl)))))

  interrupt_answered : (s : State) (e : Event) → Fits e → Consistent K L s → s.mode ≡ recording → Answered s (Interrupt e)
  interrupt_answered s e x S m = go (true_or_false (ends_stopped K L s.run)) (le_or_lt most_units (units s.run)) (le_or_lt 256 (event_count s.run.acts)) (true_or_false (K.ready e (at K L s.run (units s.run)).image))
    where
      R : IsRun K L s.run
      R = S.is_run

      go : (ends_stopped K L s.run ≡ true) ⊎ (ends_stopped K L s.run ≡ false) → (most_units ≤ units s.run) ⊎ (units s.run < most_units) → (256 ≤ event_count s.run.acts) ⊎ (event_count s.run.acts < 256) → (K.ready e (at K L s.run (units s.run)).image ≡ true) ⊎ (K.ready e (at K L s.run (units s.run)).image ≡ false) → Answered s (Interrupt e)
      go (inl p) b c d = (_, s, (m, x, inl (p, (refl, refl))))
      go (inr p) (inl b) c d = (_, s, (m, x, inr (inl (p, omega (arith, R.few_units), (refl, refl)))))
      go (inr p) (inr b) (inl c) d = (_, s, (m, x, inr (inr (inl (p, b, omega (arith, R.few_events), (refl, refl))))))
      go (inr p) (inr b) (inr c) (inl d) = (_, _, (m, x, inr (inr (inr (inr (b, c, d, refl, refl))))))
      go (inr p) (inr b) (inr c) (inr d) = (_, s, (m, x, inr (inr (inr (inl (p, b, c, d, (refl, refl)))))))

  keep_answered : (s : State) → Consistent K L s → Answered s Keep
  keep_answered s S = go (kept_or_not s.present s.kept) (le_or_lt 8 (length s.kept))
    where
      go : Among s.present s.kept ⊎ (¬ Among s.present s.kept) → (8 ≤ length s.kept) ⊎ (length s.kept < 8) → Answered s Keep
      go (inl h) b = (_, s, inl (h, refl, refl))
      go (inr h) (inl b) = (_, s, inr (inl (h, omega (arith, S.few_kept), (refl, refl))))
      go (inr h) (inr b) = (_, _, inr (inr (h, b, refl, refl)))

  seek_answered : (s : State) (c : Code) → s.mode ≡ replaying → Answered s (Seek c)
  seek_answered s c m = go (unit_or_none s.run c (units s.run))
    where
      go : ((v : ℕ) × (v ≤ units s.run) × ((at K L s.run v).mark ≡ c)) ⊎ ((v : ℕ) → v ≤ units s.run → ¬ ((at K L s.run v).mark ≡ c)) → Answered s (Seek c)
      go (inl h) = (_, _, (m, inl (h.0, h.1, h.2, (refl, refl))))
      go (inr h) = (_, s, (m, inr (h, (refl, refl))))

  back_answered : (s : State) (n : ℕ) → s.mode ≡ replaying → Answered s (Back n)
  back_answered s n m = go (le_or_lt n s.present)
    where
      go : (n ≤ s.present) ⊎ (s.present < n) → Answered s (Back n)
      go (inl b) = (_, _, (m, inl (b, (refl, refl))))
      go (inr b) = (_, s, (m, inr (b, (refl, refl))))

  forward_answered : (s : State) (n : ℕ) → s.mode ≡ replaying → Answered s (Forward n)
  forward_answered s n m = go (le_or_lt (s.present + n) (units s.run))
    where
      go : (s.present + n ≤ units s.run) ⊎ (units s.run < s.present + n) → Answered s (Forward n)
      go (inl b) = (_, _, (m, inl (b, (refl, refl))))
      go (inr b) = (_, s, (m, inr (b, (refl, refl))))

  trail_answered : (s : State) (list : List LampChange) → s.mode ≡ replaying → Answered s (Trail list)
  trail_answered s list m = go (le_or_lt (length (trail_of K L s.run s.present)) (length list))
    where
      go : (length (trail_of K L s.run s.present) ≤ length list) ⊎ (length list < length (trail_of K L s.run s.present)) → Answered s (Trail list)
      go (inl b) = (_, s, (m, inl (b, refl, refl)))
      go (inr b) = (_, s, (m, inr (b, (refl, refl))))

  write_answered : (s : State) (buffer : List ℕ) → s.mode ≡ replaying → Answered s (Write buffer)
  write_answered s buffer m = go (le_or_lt (length (file_of K L s.run)) (length buffer))
    where
      go : (length (file_of K L s.run) ≤ length buffer) ⊎ (length buffer < length (file_of K L s.run)) → Answered s (Write buffer)
      go (inl b) = (_, s, (m, inl (b, refl, refl)))
      go (inr b) = (_, s, (m, inr (b, (refl, refl))))

  show_answered : (s : State) (buffer : List ℕ) → Answered s (Show buffer)
  show_answered s buffer = go (le_or_lt K.size (length buffer))
    where
      go : (K.size ≤ length buffer) ⊎ (length buffer < K.size) → Answered s (Show buffer)
      go (inl b) = (_, s, inl (b, refl, refl))
      go (inr b) = (_, s, inr (b, (refl, refl)))

  module _ (M : MachineLaws K) (N : LandmarkLaws L) where
    load_answered : (s : State) (file : List ℕ) → s.mode ≡ replaying → Bytes file → Answered s (Load file)
    load_answered s file m b = go (verdict K L file) refl
      where
        go : (v : Verdict) → verdict K L file ≡ v → Answered s (Load file)
        go (ok r) e = (_, _, (m, inl (r, verdict_sound K L M N file b r e, refl, refl)))
        go (wrong f) e = (_, s, (m, inr (f, e, (refl, refl))))

    pub answered : (s : State) (c : Call) → Consistent K L s → Allowed s.mode c → Given c → Answered s c
    answered s (RunFor k) S m g = go_answered s k S m
    answered s (Interrupt e) S m g = interrupt_answered s e g S m
    answered s Keep S m g = keep_answered s S
    answered s Finish S m g = (done, _, (m, refl, refl))
    answered s Resume S m g = (done, _, (m, refl, refl))
    answered s (Seek c) S m g = seek_answered s c m
    answered s (Back n) S m g = back_answered s n m
    answered s (Forward n) S m g = forward_answered s n m
    answered s (Trail list) S m g = trail_answered s list m
    answered s (Write buffer) S m g = write_answered s buffer m
    answered s (Show buffer) S m g = show_answered s buffer
    answered s (Load file) S m g = load_answered s file m g
