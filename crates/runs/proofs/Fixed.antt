-- A history is fixed by its calls; and the history that records a run.
use Rattle.std.proofs.Common.{◌≡◌, ℕ, ◌+◌, List, [], ◌∷◌, sym, refl, ◌∙◌, subst, inl, inr, append-nil, arith, length-append}
use Rattle.machine.specs.Kinds.{Kind, MachineLaws}
use Rattle.landmark.specs.Markings.{Marking, LandmarkLaws}
use Rattle.runs.specs.Runs.{Act, instruction, taking, Run, IsRun, units, longer}
use Rattle.runs.specs.Sessions.{State, recording, replaying, Call, RunFor, Interrupt, Finish, Answer, done, count, Does, grown, opened, Consistent}
use Rattle.runs.specs.Traces.{Trace, Leads, none, then, sort, loads, WithoutLoad}
use Rattle.runs.specs.Theorems.{calls, EveryHistoryIsFixed}
use Rattle.runs.proofs.Moves.{event_count_append}
use Rattle.runs.proofs.Journals.{cons_head, cons_tail}
use Rattle.runs.proofs.Sessions.{opened_stands, does_stands, longer_more, front_is_run, back_possible}
use Rattle.runs.proofs.OneAnswer.{same}
use Rattle.runs.proofs.Effects.{apart}

module _ (K : Kind) (L : Marking) where
  module _ (M : MachineLaws K) (N : LandmarkLaws L) where
    pub leads_fixed : (xs ys : Trace) (s t u : State) → Consistent K L s → Leads K L s xs t → Leads K L s ys u → calls xs ≡ calls ys → (xs ≡ ys) × (t ≡ u)
    leads_fixed xs ys s t u S none none e = (refl, refl)
    leads_fixed xs ys s t u S none (then {c = c} {tr = more} w d m) e = absurd (let z : ◌≡◌ {A = ℕ} 0 1 = cc in omega arith)
    leads_fixed xs ys s t u S (then {c = c} {tr = more} w d m) none e = absurd (let z : ◌≡◌ {A = ℕ} 0 1 = cc in omega arith)
    leads_fixed xs ys s t u S (then {c = b} {a = p} {tr = more} v d l) (then {c = c} {a = q} {tr = rest} w f m) e =
        let o : b ≡ c = cons_head e in
        let g = same K L M N b s p q v w S d (subst (λ (x : Call). Does K L s x q w) (sym o) f) in
        let n : Leads K L v rest u = subst (λ (x : State). Leads K L x rest u) (sym g.0) m in
        let h = leads_fixed more rest v t u (does_stands K L b s p v S d) l n (cons_tail e) in
        (λ i. (o i, g.1 i) ∷ h.0 i, h.1)

  -- the call that records an act, and its answer
  abbrev call_of : Act → Call
  call_of instruction = RunFor 1
  call_of (taking e) = Interrupt e

  abbrev answer_of : State → Act → Answer
  answer_of s instruction = count 1
  answer_of s (taking e) = count (units s.run + 1)

  call_loads_none : (a : Act) → ¬ (sort (call_of a) ≡ loads)
  call_loads_none instruction e = apart (RunFor 1) refl e (omega arith)
  call_loads_none (taking v) e = apart (Interrupt v) refl e (omega arith)

  records_one : (s : State) (a : Act) → s.mode ≡ recording → IsRun K L (longer s.run (a ∷ [])) → Does K L s (call_of a) (answer_of s a) (grown s (a ∷ []))
  records_one s instruction m R = (m, inr (inr (inr (omega arith, 1, omega arith, omega arith, R, inl refl, refl, refl))))
  records_one s (taking e) m R = (
    m,
    (back_possible K L s.run (taking e) R).0,
    inr (inr (inr (inr (
      omega (arith, R.few_units, length-append s.run.acts (taking e ∷ [])),
      omega (arith, R.few_events, event_count_append s.run.acts (taking e ∷ [])),
      (back_possible K L s.run (taking e) R).1,
      refl,
      refl,
    )))),
  )

  -- a history without load that records the acts and finishes
  pub record Recorded (s : State) (r : Run) : Type 0 where
    pub trace : Trace
    pub to : State
    pub leads : Leads K L s trace to
    pub loads_none : WithoutLoad trace
    pub replays : to.mode ≡ replaying
    pub run_is : to.run ≡ r

  pub record_leads : (s : State) (acts : List Act) → s.mode ≡ recording → IsRun K L (longer s.run acts) → Recorded s (longer s.run acts)
  record_leads s [] m R = record {
    trace = (Finish, done) ∷ [];
    to = record { mode = replaying; run = s.run; present = s.present; kept = s.kept };
    leads = then (record { mode = replaying; run = s.run; present = s.present; kept = s.kept }) (m, refl, refl) none;
    loads_none = (λ e. apart Finish refl e (omega arith), tt);
    replays = refl;
    run_is = λ i. record { start = s.run.start; acts = sym (append-nil s.run.acts) i };
  }
  record_leads s (a ∷ acts) m R =
      let e : longer (longer s.run (a ∷ [])) acts ≡ longer s.run (a ∷ acts) = longer_more K L s.run (a ∷ []) acts in
      let R1 : IsRun K L (longer (longer s.run (a ∷ [])) acts) = subst (IsRun K L) (sym e) R in
      let R2 : IsRun K L (longer s.run (a ∷ [])) = front_is_run K L (longer s.run (a ∷ [])) acts R1 in
      let t = record_leads (grown s (a ∷ [])) acts m R1 in
      record {
        trace = (call_of a, answer_of s a) ∷ t.trace;
        to = t.to;
        leads = then (grown s (a ∷ [])) (records_one s a m R2) t.leads;
        loads_none = (call_loads_none a, t.loads_none);
        replays = t.replays;
        run_is = t.run_is ∙ e;
      }

pub histories_fixed : EveryHistoryIsFixed
histories_fixed K L M N i xs ys s t h l m e = leads_fixed K L M N xs ys (opened i) s t (opened_stands K L i h) l m e
