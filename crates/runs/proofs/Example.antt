-- The checks and the calls say so.
use Rattle.std.proofs.Common.{◌≡◌, ℕ, zero, suc, ◌≤◌, Bool, true, false, cond, eqb, List, [], ◌∷◌, ◌++◌, sym, refl, ap, ◌∙◌, inl, inr, arith, eq-eqb}
use Rattle.machine.specs.declared.Event.TheVariants.{Timer, Switch}
use Rattle.landmark.specs.declared.Code.{Code}
use Rattle.landmark.specs.Branch.{branching}
use Rattle.landmark.specs.Markings.{most_units}
use Rattle.landmark.specs.Branches.{branching_laws}
use Rattle.faults.specs.declared.SessionFault.TheVariants.{Unreached}
use Rattle.runs.specs.declared.Entry.{Entry}
use Rattle.runs.specs.Runs.{Act, Run, instruction, taking, first, moment_after, at, IsRun}
use Rattle.runs.specs.Lamps.{Among, changes_from}
use Rattle.runs.specs.Files.{file_of}
use Rattle.runs.specs.Samples.{counter}
use Rattle.runs.specs.Examples.{ChecksSaySo, CallsSaySo, small, code, event, entry_at}
use Rattle.runs.specs.Breaks.{Spells}
use Rattle.runs.specs.Checks.{verdict, ok, wrong, lost, put_act, follow, conclude, check_events, events_from}
use Rattle.runs.proofs.Sample.{counter_laws}
use Rattle.runs.proofs.Tell.{follow_on, follow_take, follow_unready, follow_past, follow_past_end, later_past}
use Rattle.runs.proofs.Verdict.{verdict_complete, spelled_verdict}

complete : (r : Run) → IsRun counter branching r → verdict counter branching (file_of counter branching r) ≡ ok r
complete = verdict_complete counter branching counter_laws branching_laws

good : verdict counter branching (small 1 22 7 2 1 5 0 (code 0 7)) ≡ ok (record { start = 5 ∷ []; acts = instruction ∷ instruction ∷ [] })
unfolding file_of
good = complete (record { start = 5 ∷ []; acts = instruction ∷ instruction ∷ [] }) (record { lawful = refl; goes = (refl, (refl, tt)); few_units = omega arith; few_events = omega arith })

good_event : verdict counter branching (small 1 32 7 2 1 5 1 (event 0 6 2 9 ++ code 1 1)) ≡ ok (record { start = 5 ∷ []; acts = instruction ∷ taking (Switch 9) ∷ instruction ∷ [] })
unfolding file_of
good_event = complete (record { start = 5 ∷ []; acts = instruction ∷ taking (Switch 9) ∷ instruction ∷ [] }) (record { lawful = refl; goes = (refl, ((omega arith, refl), (refl, tt))); few_units = omega arith; few_events = omega arith })

good_events : verdict counter branching (small 1 42 7 2 1 5 2 (event 0 6 2 9 ++ (event 1 0 1 0 ++ code 2 1))) ≡ ok (record { start = 5 ∷ []; acts = instruction ∷ taking (Switch 9) ∷ taking Timer ∷ instruction ∷ [] })
unfolding file_of
good_events = complete (record { start = 5 ∷ []; acts = instruction ∷ taking (Switch 9) ∷ taking Timer ∷ instruction ∷ [] }) (record { lawful = refl; goes = (refl, ((omega arith, refl), ((tt, refl), (refl, tt)))); few_units = omega arith; few_events = omega arith })

-- a code, and a timer logged at it
abbrev at_code : ℕ → ℕ → Code
at_code major minor = record { major = major; minor = minor }

abbrev timer_at : ℕ → Entry
timer_at minor = record { code = at_code 0 minor; event = Timer }

spelled : (file start : List ℕ) (journal : List Entry) (last : Code) → Spells counter branching file start journal last → (i : ℕ) → follow counter branching most_units (first counter branching start) 0 journal last ≡ lost i → verdict counter branching file ≡ conclude counter branching start (lost i)
spelled file start journal last S i e = spelled_verdict counter branching counter_laws branching_laws file start journal last S ∙ ap (conclude counter branching start) e

never_comes : verdict counter branching (small 1 32 7 2 1 5 1 (event 0 4 1 0 ++ code 1 1)) ≡ wrong (Unreached (entry_at 0 14))
never_comes =
    spelled (small 1 32 7 2 1 5 1 (event 0 4 1 0 ++ code 1 1)) (5 ∷ []) (timer_at 4 ∷ []) (at_code 1 1) (record { bytes = refl; lawful = refl; few_events = omega arith; known = (refl, tt, tt); last_code = refl }) 0
    (follow_past counter branching most_units (first counter branching (5 ∷ [])) 0 (timer_at 4) [] (at_code 1 1) (later_past counter branching counter_laws branching_laws (5 ∷ []) [] most_units (at_code 0 4) refl tt (omega arith) refl refl))

on_stopped : verdict counter branching (small 1 32 7 2 1 200 1 (event 0 200 1 0 ++ code 1 1)) ≡ wrong (Unreached (entry_at 0 14))
on_stopped =
    spelled (small 1 32 7 2 1 200 1 (event 0 200 1 0 ++ code 1 1)) (200 ∷ []) (timer_at 200 ∷ []) (at_code 1 1) (record { bytes = refl; lawful = refl; few_events = omega arith; known = (refl, tt, tt); last_code = refl }) 0
    (follow_unready counter branching most_units (first counter branching (200 ∷ [])) 0 (timer_at 200) [] (at_code 1 1) refl refl)

not_ready : verdict counter branching (small 1 32 7 2 1 99 1 (event 0 100 1 0 ++ code 1 1)) ≡ wrong (Unreached (entry_at 0 14))
not_ready =
    let m = first counter branching (99 ∷ []) in
    let n = moment_after counter branching m (instruction ∷ []) in
    spelled (small 1 32 7 2 1 99 1 (event 0 100 1 0 ++ code 1 1)) (99 ∷ []) (timer_at 100 ∷ []) (at_code 1 1) (record { bytes = refl; lawful = refl; few_events = omega arith; known = (refl, tt, tt); last_code = refl }) 0
    (follow_on counter branching 16777214 m 0 (timer_at 100) [] (at_code 1 1) (λ e. let z : ◌≡◌ {A = ℕ} 99 100 = ap (λ (c : Code). c.minor) e in omega arith) refl
    ∙ ap (put_act instruction) (follow_unready counter branching 16777214 n 0 (timer_at 100) [] (at_code 1 1) refl refl))

last_never_comes : verdict counter branching (small 1 32 7 2 1 5 1 (event 0 6 1 0 ++ code 0 9)) ≡ wrong (Unreached (entry_at 1 24))
last_never_comes =
    let acts : List Act = instruction ∷ taking Timer ∷ [] in
    let m = first counter branching (5 ∷ []) in
    let n = moment_after counter branching m (instruction ∷ []) in
    let o = moment_after counter branching m acts in
    spelled (small 1 32 7 2 1 5 1 (event 0 6 1 0 ++ code 0 9)) (5 ∷ []) (timer_at 6 ∷ []) (at_code 0 9) (record { bytes = refl; lawful = refl; few_events = omega arith; known = (refl, tt, tt); last_code = refl }) 1
    (follow_on counter branching 16777214 m 0 (timer_at 6) [] (at_code 0 9) (λ e. let z : ◌≡◌ {A = ℕ} 5 6 = ap (λ (c : Code). c.minor) e in omega arith) refl
    ∙ ap (put_act instruction) (follow_take counter branching 16777213 n 0 (timer_at 6) [] (at_code 0 9) refl refl
    ∙ ap (put_act (taking Timer)) (follow_past_end counter branching 16777213 o 1 (at_code 0 9) (later_past counter branching counter_laws branching_laws (5 ∷ []) acts 16777213 (at_code 0 9) refl (refl, ((tt, refl), tt)) (omega arith) refl refl))))

pub checks_so : ChecksSaySo
unfolding verdict check_events events_from
checks_so = (good, good_event, good_events, (refl, refl), (refl, refl), (refl, refl), (refl, refl), (refl, refl), (refl, refl), (refl, refl), (refl, refl), (refl, refl), (refl, refl), (refl, refl), (refl, refl), refl, refl, refl, refl, (never_comes, refl), (on_stopped, refl), (not_ready, refl), (last_never_comes, refl))

-- a unit that is not in a list of units
abbrev elem : ℕ → List ℕ → Bool
elem u [] = false
elem u (k ∷ ks) = cond (eqb u k) true (elem u ks)

not_in : (u : ℕ) (ks : List ℕ) → elem u ks ≡ false → ¬ Among u ks
not_in u [] e h = h
not_in u (k ∷ ks) e (inl p) = let z : ◌≡◌ {A = ℕ} 0 1 = cc (sym e ∙ ap (λ (b : Bool). cond b true (elem u ks)) (eq-eqb u k p)) in omega arith
not_in u (k ∷ ks) e (inr h) = not_in u ks (tail (eqb u k) e) h
  where
    tail : (b : Bool) → cond b true (elem u ks) ≡ false → elem u ks ≡ false
    tail true q = absurd (let z : ◌≡◌ {A = ℕ} 0 1 = cc in omega arith)
    tail false q = q

-- of the two moments of the run neither has the landmark
not_sought : (v : ℕ) → v ≤ 1 → ¬ ((at counter branching (record { start = 5 ∷ []; acts = instruction ∷ [] }) v).mark ≡ at_code 0 7)
not_sought zero l e = let z : ◌≡◌ {A = ℕ} 5 7 = ap (λ (c : Code). c.minor) e in omega arith
not_sought (suc zero) l e = let z : ◌≡◌ {A = ℕ} 6 7 = ap (λ (c : Code). c.minor) e in omega arith
not_sought (suc (suc v)) l e = omega arith

pub calls_so : CallsSaySo
unfolding changes_from file_of
calls_so = (
  ((refl, inr (inl (omega arith, refl, (refl, refl)))), refl),
  ((refl, tt, inl (refl, (refl, refl))), refl),
  (refl, inl (refl, refl, refl)),
  ((refl, omega arith, inr (inr (inr (inl (refl, omega arith, omega arith, refl, (refl, refl)))))), refl),
  (inr (inl (not_in 8 (0 ∷ 1 ∷ 2 ∷ 3 ∷ 4 ∷ 5 ∷ 6 ∷ 7 ∷ []) refl, refl, (refl, refl))), refl),
  inl (inr (inr (inr (inr (inr (inr (inr (inl refl))))))), refl, refl),
  ((refl, inr (not_sought, (refl, refl))), refl),
  (refl, inl (2, omega arith, refl, (refl, refl))),
  ((refl, inr (omega arith, (refl, refl))), refl),
  ((refl, inr (omega arith, (refl, refl))), refl),
  (refl, inl (omega arith, (refl, refl))),
  (refl, inl (omega arith, (refl, refl))),
  ((refl, inr (omega arith, (refl, refl))), refl),
  ((refl, inr (omega arith, (refl, refl))), refl),
  (inr (omega arith, (refl, refl)), refl),
  ((refl, tt, inr (inr (inl (refl, omega arith, refl, (refl, refl))))), refl),
  λ s m e. (m, inr (inr (inl (omega arith, refl, e, (refl, refl))))),
  λ s m e. (m, tt, inr (inl (refl, e, (refl, refl)))),
  refl,
  λ s k m l. (m, inr (inl (l, refl, (refl, refl)))),
)
