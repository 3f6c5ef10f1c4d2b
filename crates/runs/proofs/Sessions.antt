-- What each call keeps of a session.
use Rattle.std.proofs.Common.{◌≡◌, ℕ, ◌+◌, ◌-◌, ◌<◌, ◌≤◌, true, ◌⊎◌, List, [], ◌∷◌, ◌++◌, replicate, sym, refl, ap, ◌∙◌, subst, inl, inr, ⊎_elim, append_assoc, arith, length-append}
use Rattle.machine.specs.declared.Event.{Event}
use Rattle.machine.specs.Kinds.{Kind, Fits}
use Rattle.landmark.specs.Markings.{Marking, most_units}
use Rattle.runs.specs.Runs.{Act, instruction, taking, Run, Moment, IsRun, first, Possible, at, units, event_count, longer}
use Rattle.runs.specs.Lamps.{Among, Distinct}
use Rattle.runs.specs.Sessions.{State, recording, replaying, Call, RunFor, Interrupt, Keep, Finish, Resume, Seek, Back, Forward, Trail, Write, Show, Load, Answer, Does, opened, grown, moved, Consistent}
use Rattle.runs.proofs.Moves.{at_end, goes_front, goes_append, goes_back, event_count_append}

pub replaying_not : ¬ (replaying ≡ recording)
replaying_not e = let z : ◌≡◌ {A = ℕ} 0 1 = cc in omega arith

pub in_pushed : (u : ℕ) (ks : List ℕ) (k : ℕ) → Among u (ks ++ (k ∷ [])) → Among u ks ⊎ (u ≡ k)
in_pushed u [] k (inl e) = inr e
in_pushed u [] k (inr h) = absurd h
in_pushed u (j ∷ ks) k (inl e) = inl (inl e)
in_pushed u (j ∷ ks) k (inr h) = ⊎_elim (λ a. inl (inr a)) (λ b. inr b) (in_pushed u ks k h)

in_none : (k n : ℕ) → Among k (0 ∷ []) → k ≤ n
in_none k n (inl e) = omega arith
in_none k n (inr h) = absurd h

distinct_push : (ks : List ℕ) (k : ℕ) → Distinct ks → ¬ Among k ks → Distinct (ks ++ (k ∷ []))
distinct_push [] k d h = (λ z. z, tt)
distinct_push (j ∷ ks) k d h = (λ z. ⊎_elim d.0 (λ e. h (inl (sym e))) (in_pushed j ks k z), distinct_push ks k d.1 (λ z. h (inr z)))

module _ (K : Kind) (L : Marking) where
  pub opened_stands : (i : List ℕ) → K.lawful i ≡ true → Consistent K L (opened i)
  opened_stands i h = record {
    is_run = record { lawful = h; goes = tt; few_units = omega arith; few_events = omega arith };
    present_in = omega arith;
    at_last = λ _. refl;
    starts_kept = ([], refl);
    few_kept = omega arith;
    kept_once = (λ z. z, tt);
    kept_in = λ k h. in_none k 0 h;
  }

  moved_stands : (s : State) (v : ℕ) → Consistent K L s → s.mode ≡ replaying → v ≤ units s.run → Consistent K L (moved s v)
  moved_stands s v S e h = record { is_run = S.is_run; present_in = h; at_last = λ q. absurd (replaying_not (sym e ∙ q)); starts_kept = S.starts_kept; few_kept = S.few_kept; kept_once = S.kept_once; kept_in = S.kept_in }

  grown_stands : (s : State) (acts : List Act) → Consistent K L s → IsRun K L (longer s.run acts) → Consistent K L (grown s acts)
  grown_stands s acts S R = record {
    is_run = R;
    present_in = omega (arith, length-append s.run.acts acts);
    at_last = λ _. sym (length-append s.run.acts acts);
    starts_kept = S.starts_kept;
    few_kept = S.few_kept;
    kept_once = S.kept_once;
    kept_in = λ k h. omega (arith, length-append s.run.acts acts, S.kept_in k h);
  }

  -- one event more
  pub take_one : (r : Run) (e : Event) → IsRun K L r → Fits e → units r < most_units → event_count r.acts < 256 → K.ready e (at K L r (units r)).image ≡ true → IsRun K L (longer r (taking e ∷ []))
  take_one r e R f u t p = record {
    lawful = R.lawful;
    goes = goes_append K L (first K L r.start) r.acts (taking e ∷ []) R.goes ((f, subst (λ (m : Moment). K.ready e m.image ≡ true) (at_end K L r) p), tt);
    few_units = omega (arith, length-append r.acts (taking e ∷ []));
    few_events = omega (arith, event_count_append r.acts (taking e ∷ []));
  }

  stays : (s t : State) → Consistent K L s → t ≡ s → Consistent K L t
  stays s t S e = subst (Consistent K L) (sym e) S

  pub does_stands : (c : Call) (s : State) (a : Answer) (t : State) → Consistent K L s → Does K L s c a t → Consistent K L t
  does_stands (RunFor k) s a t S (m, inl d) = stays s t S d.2
  does_stands (RunFor k) s a t S (m, inr (inl d)) = stays s t S d.2.1
  does_stands (RunFor k) s a t S (m, inr (inr (inl d))) = stays s t S d.3.1
  does_stands (RunFor k) s a t S (m, inr (inr (inr d))) = rw d.7 (grown_stands s (replicate d.1 instruction) S d.4)
  does_stands (Interrupt e) s a t S (m, x, inl d) = stays s t S d.1.1
  does_stands (Interrupt e) s a t S (m, x, inr (inl d)) = stays s t S d.2.1
  does_stands (Interrupt e) s a t S (m, x, inr (inr (inl d))) = stays s t S d.3.1
  does_stands (Interrupt e) s a t S (m, x, inr (inr (inr (inl d)))) = stays s t S d.4.1
  does_stands (Interrupt e) s a t S (m, x, inr (inr (inr (inr d)))) = rw d.4 (grown_stands s (taking e ∷ []) S (take_one s.run e S.is_run x d.0 d.1 d.2))
  does_stands Keep s a t S (inl d) = stays s t S d.2
  does_stands Keep s a t S (inr (inl d)) = stays s t S d.2.1
  does_stands Keep s a t S (inr (inr d)) = rw d.3 (record { is_run = S.is_run; present_in = S.present_in; at_last = S.at_last; starts_kept = (S.starts_kept.0 ++ (s.present ∷ []), ap (λ (ks : List ℕ). ks ++ (s.present ∷ [])) S.starts_kept.1); few_kept = omega (arith, length-append s.kept (s.present ∷ []), d.1); kept_once = distinct_push s.kept s.present S.kept_once d.0; kept_in = λ k h. ⊎_elim (λ a. S.kept_in k a) (λ e. omega (arith, S.present_in)) (in_pushed k s.kept s.present h) })
  does_stands Finish s a t S d = rw d.2 (record { is_run = S.is_run; present_in = S.present_in; at_last = λ q. absurd (replaying_not q); starts_kept = S.starts_kept; few_kept = S.few_kept; kept_once = S.kept_once; kept_in = S.kept_in })
  does_stands Resume s a t S d = rw d.2 (record { is_run = S.is_run; present_in = omega arith; at_last = λ q. refl; starts_kept = S.starts_kept; few_kept = S.few_kept; kept_once = S.kept_once; kept_in = S.kept_in })
  does_stands (Seek c) s a t S (m, inl d) = rw d.3.1 (moved_stands s d.0 S m d.1)
  does_stands (Seek c) s a t S (m, inr d) = stays s t S d.1.1
  does_stands (Back n) s a t S (m, inl d) = rw d.1.1 (moved_stands s (s.present - n) S m (omega (arith, S.present_in)))
  does_stands (Back n) s a t S (m, inr d) = stays s t S d.1.1
  does_stands (Forward n) s a t S (m, inl d) = rw d.1.1 (moved_stands s (s.present + n) S m d.0)
  does_stands (Forward n) s a t S (m, inr d) = stays s t S d.1.1
  does_stands (Trail list) s a t S (m, inl d) = stays s t S d.2
  does_stands (Trail list) s a t S (m, inr d) = stays s t S d.1.1
  does_stands (Write buffer) s a t S (m, inl d) = stays s t S d.2
  does_stands (Write buffer) s a t S (m, inr d) = stays s t S d.1.1
  does_stands (Show buffer) s a t S (inl d) = stays s t S d.2
  does_stands (Show buffer) s a t S (inr d) = stays s t S d.1.1
  does_stands (Load file) s a t S (m, inl d) = rw d.3 (record { is_run = d.1.is_run; present_in = omega arith; at_last = λ q. absurd (replaying_not q); starts_kept = ([], refl); few_kept = omega arith; kept_once = (λ z. z, tt); kept_in = λ k h. in_none k (units d.0) h })
  does_stands (Load file) s a t S (m, inr d) = stays s t S d.2.1

  pub longer_more : (r : Run) (xs ys : List Act) → longer (longer r xs) ys ≡ longer r (xs ++ ys)
  longer_more r xs ys = λ i. record { start = r.start; acts = append_assoc r.acts xs ys i }

  -- the front of a run is a run
  pub front_is_run : (r : Run) (ys : List Act) → IsRun K L (longer r ys) → IsRun K L r
  front_is_run r ys R = record {
    lawful = R.lawful;
    goes = goes_front K L (first K L r.start) r.acts ys R.goes;
    few_units = omega (arith, R.few_units, length-append r.acts ys);
    few_events = omega (arith, R.few_events, event_count_append r.acts ys);
  }

  -- what follows is possible at the run's last moment
  pub back_possible : (r : Run) (a : Act) → IsRun K L (longer r (a ∷ [])) → Possible K L a (at K L r (units r))
  back_possible r a R = subst (λ (m : Moment). Possible K L a m) (sym (at_end K L r)) (goes_back K L (first K L r.start) r.acts (a ∷ []) R.goes).0
