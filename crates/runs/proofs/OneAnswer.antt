-- Each call has at most one answer, and leads to one session.
use Rattle.std.proofs.Common.{◌≡◌, ℕ, zero, suc, ◌+◌, ◌-◌, ◌<◌, ◌≤◌, Bool, true, false, cond, eqb, ◌⊎◌, List, [], ◌∷◌, ◌++◌, replicate, sym, refl, ap, ◌∙◌, subst, inl, inr, append_assoc, arith, length-append, eq-eqb, ne_eqb}
use lib.ListN.{length-replicate, replicate-append-replicate}
use borrow.Author.Tests.{both_ways}
use Rattle.machine.specs.declared.Event.{Event}
use Rattle.machine.specs.Kinds.{Kind, MachineLaws}
use Rattle.landmark.specs.Markings.{Marking, LandmarkLaws, most_units}
use Rattle.runs.specs.Runs.{Act, instruction, taking, Run, Moment, IsRun, first, at, units, event_count, longer, ends_stopped}
use Rattle.runs.specs.Checks.{ok, wrong}
use Rattle.runs.specs.Sessions.{State, Call, RunFor, Interrupt, Keep, Finish, Resume, Seek, Back, Forward, Trail, Write, Show, Load, Answer, count, refused, nothing, Does, grown, Consistent}
use Rattle.faults.specs.declared.SessionFault.{SessionFault}
use Rattle.faults.specs.declared.SessionFault.TheVariants.{Stopped, RunFull, JournalFull, NotReady}
use Rattle.runs.proofs.Moves.{at_end, goes_back}
use Rattle.runs.proofs.Rising.{one_moment_of, at_sound}
use Rattle.runs.proofs.Bytes.{tells_file, file_determines}
use Rattle.runs.proofs.Verdict.{tells_ok}

ok_wrong : {r : Run} {f : SessionFault} → ok r ≡ wrong f → ⊥
ok_wrong e = let z : ◌≡◌ {A = ℕ} 0 1 = cc in omega arith

wrong_same : {f g : SessionFault} → wrong f ≡ wrong g → f ≡ g
wrong_same e = cc

module _ (K : Kind) (L : Marking) where
  -- a machine that goes on is not stopped
  goes_on : (r : Run) (j : ℕ) → 0 < j → IsRun K L (longer r (replicate j instruction)) → ends_stopped K L r ≡ false
  goes_on r zero l R = absurd (omega arith)
  goes_on r (suc j) l R = subst (λ (m : Moment). K.stopped m.image ≡ false) (sym (at_end K L r)) (goes_back K L (first K L r.start) r.acts (instruction ∷ replicate j instruction) R.goes).0

  -- so none stops short of where another stops
  go_less : (r : Run) (k j l : ℕ) → IsRun K L (longer r (replicate l instruction)) → j < l → l ≤ k → (j ≡ k) ⊎ (ends_stopped K L (longer r (replicate j instruction)) ≡ true) ⊎ (units r + j ≡ most_units) → ⊥
  go_less r k j l R h b (inl e) = omega arith
  go_less r k j l R h b (inr (inl p)) =
      let e : replicate j instruction ++ replicate (l - j) instruction ≡ replicate l instruction = replicate-append-replicate j (l - j) instruction ∙ ap (λ (n : ℕ). replicate n instruction) (omega arith) in
      let q : longer r (replicate l instruction) ≡ longer (longer r (replicate j instruction)) (replicate (l - j) instruction) = λ i. record { start = r.start; acts = (ap {B = List Act} (λ y. r.acts ++ y) (sym e) ∙ sym (append_assoc r.acts (replicate j instruction) (replicate (l - j) instruction))) i } in
      both_ways (ends_stopped K L (longer r (replicate j instruction))) (goes_on (longer r (replicate j instruction)) (l - j) (omega arith) (subst (IsRun K L) q R)) p
  go_less r k j l R h b (inr (inr e)) = omega (arith, R.few_units, length-append r.acts (replicate l instruction), length-replicate l instruction)

  too_many : (r : Run) (j : ℕ) → 0 < j → IsRun K L (longer r (replicate j instruction)) → units r ≡ most_units → ⊥
  too_many r j l R e = omega (arith, R.few_units, length-append r.acts (replicate j instruction), length-replicate j instruction)

  go_one : (s : State) (k : ℕ) (a b : Answer) (t u : State) → Does K L s (RunFor k) a t → Does K L s (RunFor k) b u → (t ≡ u) × (a ≡ b)
  go_one s k a b t u (m, inl d) (n, inl e) = (cc, cc)
  go_one s k a b t u (m, inl d) (n, inr (inl e)) = absurd (omega arith)
  go_one s k a b t u (m, inl d) (n, inr (inr (inl e))) = absurd (omega arith)
  go_one s k a b t u (m, inl d) (n, inr (inr (inr e))) = absurd (omega arith)
  go_one s k a b t u (m, inr (inl d)) (n, inl e) = absurd (omega arith)
  go_one s k a b t u (m, inr (inl d)) (n, inr (inl e)) = (cc, cc)
  go_one s k a b t u (m, inr (inl d)) (n, inr (inr (inl e))) = absurd (both_ways (ends_stopped K L s.run) e.1 d.1)
  go_one s k a b t u (m, inr (inl d)) (n, inr (inr (inr e))) = absurd (both_ways (ends_stopped K L s.run) (goes_on s.run e.1 e.2 e.4) d.1)
  go_one s k a b t u (m, inr (inr (inl d))) (n, inl e) = absurd (omega arith)
  go_one s k a b t u (m, inr (inr (inl d))) (n, inr (inl e)) = absurd (both_ways (ends_stopped K L s.run) d.1 e.1)
  go_one s k a b t u (m, inr (inr (inl d))) (n, inr (inr (inl e))) = (cc, cc)
  go_one s k a b t u (m, inr (inr (inl d))) (n, inr (inr (inr e))) = absurd (too_many s.run e.1 e.2 e.4 d.2)
  go_one s k a b t u (m, inr (inr (inr d))) (n, inl e) = absurd (omega arith)
  go_one s k a b t u (m, inr (inr (inr d))) (n, inr (inl e)) = absurd (both_ways (ends_stopped K L s.run) (goes_on s.run d.1 d.2 d.4) e.1)
  go_one s k a b t u (m, inr (inr (inr d))) (n, inr (inr (inl e))) = absurd (too_many s.run d.1 d.2 d.4 e.2)
  go_one s k a b t u (m, inr (inr (inr d))) (n, inr (inr (inr e))) =
      let x : ¬ (d.1 < e.1) = λ l. go_less s.run k d.1 e.1 e.4 l e.3 d.5 in
      let y : ¬ (e.1 < d.1) = λ l. go_less s.run k e.1 d.1 d.4 l d.3 e.5 in
      let q : d.1 ≡ e.1 = omega (arith, x, y) in
      (d.7 ∙ ap (λ (n : ℕ). grown s (replicate n instruction)) q ∙ sym e.7, d.6 ∙ ap count q ∙ sym e.6)

  -- what an interrupt answers, as a function
  abbrev pub interrupt_answer : State → Event → Answer
  interrupt_answer s e =
      let N = units s.run in
      let here = at K L s.run N in
      cond (K.stopped here.image) (refused (Stopped N) nothing) (cond (eqb N most_units) (refused (RunFull N) nothing) (cond (eqb (event_count s.run.acts) 256) (refused JournalFull nothing) (cond (K.ready e here.image) (count (N + 1)) (refused (NotReady N) nothing))))

  abbrev pub interrupt_state : State → Event → State
  interrupt_state s e =
      let N = units s.run in
      let here = at K L s.run N in
      cond (K.stopped here.image) s (cond (eqb N most_units) s (cond (eqb (event_count s.run.acts) 256) s (cond (K.ready e here.image) (grown s (taking e ∷ [])) s)))

  less_not : (a b : ℕ) → a < b → eqb a b ≡ false
  less_not a b l = ne_eqb a b (λ e. omega arith)

  module _ (M : MachineLaws K) (N : LandmarkLaws L) where
    interrupt_is : (s : State) (e : Event) (a : Answer) (t : State) → Consistent K L s → Does K L s (Interrupt e) a t → (t ≡ interrupt_state s e) × (a ≡ interrupt_answer s e)
    interrupt_is s e a t S (m, x, inl d) = (rw d.0 d.1.1, rw d.0 d.1.0)
    interrupt_is s e a t S (m, x, inr (inl d)) = (rw (d.0, eq-eqb (units s.run) most_units d.1) d.2.1, rw (d.0, eq-eqb (units s.run) most_units d.1) d.2.0)
    interrupt_is s e a t S (m, x, inr (inr (inl d))) = (rw (d.0, less_not (units s.run) most_units d.1, eq-eqb (event_count s.run.acts) 256 d.2) d.3.1, rw (d.0, less_not (units s.run) most_units d.1, eq-eqb (event_count s.run.acts) 256 d.2) d.3.0)
    interrupt_is s e a t S (m, x, inr (inr (inr (inl d)))) = (rw (d.0, less_not (units s.run) most_units d.1, less_not (event_count s.run.acts) 256 d.2, d.3) d.4.1, rw (d.0, less_not (units s.run) most_units d.1, less_not (event_count s.run.acts) 256 d.2, d.3) d.4.0)
    interrupt_is s e a t S (m, x, inr (inr (inr (inr d)))) =
        let here : List ℕ = (at K L s.run (units s.run)).image in
        let q : K.stopped here ≡ false = not_stopped here (at_sound K L M N s.run (units s.run) S.is_run).lawful d.2 in
        (rw (q, less_not (units s.run) most_units d.0, less_not (event_count s.run.acts) 256 d.1, d.2) d.4, rw (q, less_not (units s.run) most_units d.0, less_not (event_count s.run.acts) 256 d.1, d.2) d.3)
      where
        not_stopped : (i : List ℕ) → K.lawful i ≡ true → K.ready e i ≡ true → K.stopped i ≡ false
        not_stopped i h r = go (K.stopped i) refl
          where
            go : (b : Bool) → K.stopped i ≡ b → K.stopped i ≡ false
            go true p = absurd (both_ways (K.ready e i) (M.laws.stopped_unready i e x h p) r)
            go false p = p

    pub same : (c : Call) (s : State) (a b : Answer) (t u : State) → Consistent K L s → Does K L s c a t → Does K L s c b u → (t ≡ u) × (a ≡ b)
    same (RunFor k) s a b t u S d e = go_one s k a b t u d e
    same (Interrupt v) s a b t u S d e =
        let p = interrupt_is s v a t S d in
        let q = interrupt_is s v b u S e in
        (p.0 ∙ sym q.0, p.1 ∙ sym q.1)
    same Keep s a b t u S (inl d) (inl e) = (cc, cc)
    same Keep s a b t u S (inl d) (inr (inl e)) = absurd (e.0 d.0)
    same Keep s a b t u S (inl d) (inr (inr e)) = absurd (e.0 d.0)
    same Keep s a b t u S (inr (inl d)) (inl e) = absurd (d.0 e.0)
    same Keep s a b t u S (inr (inl d)) (inr (inl e)) = (cc, cc)
    same Keep s a b t u S (inr (inl d)) (inr (inr e)) = absurd (omega (arith, d.1, e.1))
    same Keep s a b t u S (inr (inr d)) (inl e) = absurd (d.0 e.0)
    same Keep s a b t u S (inr (inr d)) (inr (inl e)) = absurd (omega (arith, d.1, e.1))
    same Keep s a b t u S (inr (inr d)) (inr (inr e)) = (cc, cc)
    same Finish s a b t u S d e = (cc, cc)
    same Resume s a b t u S d e = (cc, cc)
    same (Seek c) s a b t u S (m, inl d) (n, inl e) =
        let q : d.0 ≡ e.0 = one_moment_of K L M N s.run d.0 e.0 S.is_run d.1 e.1 (d.2 ∙ sym e.2) in
        (cc, cc)
    same (Seek c) s a b t u S (m, inl d) (n, inr e) = absurd (e.0 d.0 d.1 d.2)
    same (Seek c) s a b t u S (m, inr d) (n, inl e) = absurd (d.0 e.0 e.1 e.2)
    same (Seek c) s a b t u S (m, inr d) (n, inr e) = (cc, cc)
    same (Back k) s a b t u S (m, inl d) (n, inl e) = (cc, cc)
    same (Back k) s a b t u S (m, inl d) (n, inr e) = absurd (omega (arith, d.0, e.0))
    same (Back k) s a b t u S (m, inr d) (n, inl e) = absurd (omega (arith, d.0, e.0))
    same (Back k) s a b t u S (m, inr d) (n, inr e) = (cc, cc)
    same (Forward k) s a b t u S (m, inl d) (n, inl e) = (cc, cc)
    same (Forward k) s a b t u S (m, inl d) (n, inr e) = absurd (omega (arith, d.0, e.0))
    same (Forward k) s a b t u S (m, inr d) (n, inl e) = absurd (omega (arith, d.0, e.0))
    same (Forward k) s a b t u S (m, inr d) (n, inr e) = (cc, cc)
    same (Trail l) s a b t u S (m, inl d) (n, inl e) = (cc, cc)
    same (Trail l) s a b t u S (m, inl d) (n, inr e) = absurd (omega (arith, d.0, e.0))
    same (Trail l) s a b t u S (m, inr d) (n, inl e) = absurd (omega (arith, d.0, e.0))
    same (Trail l) s a b t u S (m, inr d) (n, inr e) = (cc, cc)
    same (Write l) s a b t u S (m, inl d) (n, inl e) = (cc, cc)
    same (Write l) s a b t u S (m, inl d) (n, inr e) = absurd (omega (arith, d.0, e.0))
    same (Write l) s a b t u S (m, inr d) (n, inl e) = absurd (omega (arith, d.0, e.0))
    same (Write l) s a b t u S (m, inr d) (n, inr e) = (cc, cc)
    same (Show l) s a b t u S (inl d) (inl e) = (cc, cc)
    same (Show l) s a b t u S (inl d) (inr e) = absurd (omega (arith, d.0, e.0))
    same (Show l) s a b t u S (inr d) (inl e) = absurd (omega (arith, d.0, e.0))
    same (Show l) s a b t u S (inr d) (inr e) = (cc, cc)
    same (Load file) s a b t u S (m, inl d) (n, inl e) =
        let q : d.0 ≡ e.0 = file_determines K L M N d.0 e.0 d.1.is_run e.1.is_run (sym (tells_file K L file d.0 d.1) ∙ tells_file K L file e.0 e.1) in
        (cc, cc)
    same (Load file) s a b t u S (m, inl d) (n, inr e) = absurd (ok_wrong (sym (tells_ok K L M N file d.0 d.1) ∙ e.1))
    same (Load file) s a b t u S (m, inr d) (n, inl e) = absurd (ok_wrong (sym (tells_ok K L M N file e.0 e.1) ∙ d.1))
    same (Load file) s a b t u S (m, inr d) (n, inr e) =
        let q : d.0 ≡ e.0 = wrong_same (sym d.1 ∙ e.1) in
        (cc, cc)
