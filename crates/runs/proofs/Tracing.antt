-- A trace tells the run, the present unit, the kept units and the mode of the session that its calls lead to, and no others.
use Rattle.std.proofs.Common.{◌≡◌, ℕ, ◌≤◌, true, false, ◌⊎◌, List, [], ◌∷◌, ◌++◌, sym, refl, ap, ◌∙◌, subst, inl, inr, append_assoc, append-nil, arith}
use Rattle.machine.specs.Kinds.{Kind, MachineLaws}
use Rattle.landmark.specs.Markings.{Marking, LandmarkLaws}
use Rattle.runs.specs.Runs.{Run, at, units, longer}
use Rattle.runs.specs.Lamps.{Among}
use Rattle.runs.specs.Tells.{Tells}
use Rattle.runs.specs.Sessions.{Mode, recording, State, Call, RunFor, Interrupt, Keep, Finish, Resume, Seek, Back, Forward, Trail, Write, Show, Load, Answer, done, count, Does, opened, Consistent}
use Rattle.runs.specs.Traces.{Trace, Leads, none, then, succeeded, records, sort, loads, recorded, added, LoadedNone, turned, mode_from, KeepsAll, Allowed, RunOf, begun, last_loaded, UnitOf, at_first, at_load, at_recorded, at_resumed, at_sought, at_back, at_forward, left_at, KeptOf, kept_first, kept_load, kept_new, kept_already, kept_same}
use Rattle.runs.proofs.Rising.{one_moment_of}
use Rattle.runs.proofs.Bytes.{tells_file, file_determines}
use Rattle.runs.proofs.Sessions.{opened_stands, does_stands, longer_more}
use Rattle.runs.proofs.Effects.{refused_count, false_true, apart, longer_none, does_allowed, Effect, refuses, adds, finishes, goes_on, goes_to, keeps_it, sees, reads, Reaches, effect, effect_mode, effect_run, effect_stays, effect_kept}

abbrev pub one : Call → Answer → Trace
one c a = (c, a) ∷ []

pub records_mode : (c : Call) (m : Mode) → sort c ≡ records → Allowed m c → m ≡ recording
records_mode (RunFor k) m q h = h
records_mode (Interrupt e) m q h = h
records_mode Keep m q h = absurd (apart Keep refl q (omega arith))
records_mode Finish m q h = absurd (apart Finish refl q (omega arith))
records_mode Resume m q h = absurd (apart Resume refl q (omega arith))
records_mode (Seek d) m q h = absurd (apart (Seek d) refl q (omega arith))
records_mode (Back n) m q h = absurd (apart (Back n) refl q (omega arith))
records_mode (Forward n) m q h = absurd (apart (Forward n) refl q (omega arith))
records_mode (Trail list) m q h = absurd (apart (Trail list) refl q (omega arith))
records_mode (Write buffer) m q h = absurd (apart (Write buffer) refl q (omega arith))
records_mode (Show buffer) m q h = absurd (apart (Show buffer) refl q (omega arith))
records_mode (Load file) m q h = absurd (apart (Load file) refl q (omega arith))

module _ (K : Kind) (L : Marking) where
  pub leads_stands : (tr : Trace) (s t : State) → Consistent K L s → Leads K L s tr t → Consistent K L t
  leads_stands tr s t S none = S
  leads_stands tr s t S (then {c = c} {a = a} {tr = more} u d l) = leads_stands more u t (does_stands K L c s a u S d) l

  -- a trace, cut in two and put together
  pub leads_cut : (xs ys : Trace) (s t : State) → Leads K L s (xs ++ ys) t → (u : State) × Leads K L s xs u × Leads K L u ys t
  leads_cut [] ys s t l = (s, none, l)
  leads_cut ((c, a) ∷ xs) ys s t (then v d l) = let (u, p, q) = leads_cut xs ys v t l in (u, then v d p, q)

  pub leads_join : (xs ys : Trace) (s u t : State) → Leads K L s xs u → Leads K L u ys t → Leads K L s (xs ++ ys) t
  leads_join xs ys s u t none m = m
  leads_join xs ys s u t (then {tr = more} v d l) m = then v d (leads_join more ys v u t l m)

  pub leads_end : (s t : State) → Leads K L s [] t → s ≡ t
  leads_end s t none = refl

  pub leads_head : (c : Call) (a : Answer) (tr : Trace) (s t : State) → Leads K L s ((c, a) ∷ tr) t → (u : State) × Does K L s c a u × Leads K L u tr t
  leads_head c a tr s t (then u d l) = (u, d, l)

  -- what came before a call, the call, and what came after
  pub record Made (s : State) (before : Trace) (c : Call) (a : Answer) (rest : Trace) (t : State) : Type 0 where
    pub from : State
    pub to : State
    pub came : Leads K L s before from
    pub does : Does K L from c a to
    pub went : Leads K L to rest t

  pub made : (before : Trace) (c : Call) (a : Answer) (rest : Trace) (s t : State) → Leads K L s (before ++ ((c, a) ∷ rest)) t → Made s before c a rest t
  made before c a rest s t l =
      let (u, p, q) = leads_cut before ((c, a) ∷ rest) s t l in
      let (v, d, r) = leads_head c a rest u t q in
      record { from = u; to = v; came = p; does = d; went = r }

  pub does_last : (before : Trace) (c : Call) (a : Answer) (s t : State) → Leads K L s (before ++ one c a) t → (u : State) × Leads K L s before u × Does K L u c a t
  does_last before c a s t l =
      let m = made before c a [] s t l in
      (m.from, m.came, subst (λ (x : State). Does K L m.from c a x) (leads_end m.to t m.went) m.does)

  pub leads_more : (before : Trace) (c : Call) (a : Answer) (s u t : State) → Leads K L s before u → Does K L u c a t → Leads K L s (before ++ one c a) t
  leads_more before c a s u t l d = leads_join before (one c a) s u t l (then t d none)

  -- the mode
  pub mode_told : (tr : Trace) (s t : State) → Consistent K L s → Leads K L s tr t → t.mode ≡ mode_from s.mode tr
  mode_told tr s t S none = refl
  mode_told tr s t S (then {c = c} {a = a} {tr = more} u d l) = mode_told more u t (does_stands K L c s a u S d) l ∙ ap (λ (m : Mode). mode_from m more) (effect_mode K L s c a u (effect K L c s a u S d))

  -- the run, where no load succeeds
  pub run_grows : (tr : Trace) (s t : State) → Consistent K L s → Leads K L s tr t → LoadedNone tr → t.run ≡ longer s.run (added tr)
  run_grows tr s t S none h = sym (longer_none s.run)
  run_grows tr s t S (then {c = c} {a = a} {tr = more} u d l) h = go (run_grows more u t (does_stands K L c s a u S d) l h.1) (effect_run K L s c a u (effect K L c s a u S d)) h.0
    where
      go : t.run ≡ longer u.run (added more) → (((¬ (sort c ≡ loads)) ⊎ (succeeded a ≡ false)) × (u.run ≡ longer s.run (recorded c a))) ⊎ ((file : List ℕ) × (b : Run) × (c ≡ Load file) × (a ≡ count (units b)) × Tells K L file b × (u.run ≡ b)) → (¬ (sort c ≡ loads)) ⊎ (succeeded a ≡ false) → t.run ≡ longer s.run (recorded c a ++ added more)
      go ih (inl (x, e)) y = ih ∙ ap (λ (r : Run). longer r (added more)) e ∙ longer_more K L s.run (recorded c a) (added more)
      go ih (inr (file, b, q, e, T, p)) (inl y) = absurd (y (ap sort q))
      go ih (inr (file, b, q, e, T, p)) (inr y) = absurd (false_true (sym (ap succeeded e) ∙ y))

  -- what a trace tells of the run
  pub data RunTold (s : State) (tr : Trace) (r : Run) : Type 0 where
    grew : LoadedNone tr → r ≡ longer s.run (added tr) → RunTold s tr r
    read : (before : Trace) (file : List ℕ) (n : ℕ) (since : Trace) (b : Run) → tr ≡ before ++ ((Load file, count n) ∷ since) → LoadedNone since → Tells K L file b → r ≡ longer b (added since) → RunTold s tr r

  run_told : (tr : Trace) (s t : State) → Consistent K L s → Leads K L s tr t → RunTold s tr t.run
  run_told tr s t S none = grew tt (sym (longer_none s.run))
  run_told tr s t S (then {c = c} {a = a} {tr = more} u d l) = go (run_told more u t (does_stands K L c s a u S d) l) (effect_run K L s c a u (effect K L c s a u S d))
    where
      go : RunTold u more t.run → (((¬ (sort c ≡ loads)) ⊎ (succeeded a ≡ false)) × (u.run ≡ longer s.run (recorded c a))) ⊎ ((file : List ℕ) × (b : Run) × (c ≡ Load file) × (a ≡ count (units b)) × Tells K L file b × (u.run ≡ b)) → RunTold s ((c, a) ∷ more) t.run
      go (read before file n since b e h T q) x = read ((c, a) ∷ before) file n since b (ap {B = Trace} (λ y. (c, a) ∷ y) e) h T q
      go (grew h e) (inl (x, q)) = grew (x, h) (e ∙ ap (λ (r : Run). longer r (added more)) q ∙ longer_more K L s.run (recorded c a) (added more))
      go (grew h e) (inr (file, b, q, p, T, w)) = read [] file (units b) more b (λ i. (q i, p i) ∷ more) h T (e ∙ ap (λ (r : Run). longer r (added more)) w)

  module _ (i : List ℕ) where
    -- the trace's run is the session's
    pub run_there : (tr : Trace) (s : State) → K.lawful i ≡ true → Leads K L (opened i) tr s → RunOf K L i tr s.run
    run_there tr s h l = go (run_told tr (opened i) s (opened_stands K L i h) l)
      where
        go : RunTold (opened i) tr s.run → RunOf K L i tr s.run
        go (grew x e) = begun x e
        go (read before file n since b e x T q) = last_loaded before file n since b e x T q

    -- one call more
    pub unit_more : (before : Trace) (c : Call) (a : Answer) (s t : State) → Effect K L s c a t → RunOf K L i before s.run → RunOf K L i (before ++ one c a) t.run → UnitOf K L i before s.present → UnitOf K L i (before ++ one c a) t.present
    unit_more before c a s t (refuses f q e p) R Q U = left_at before c a refl (inl (ap succeeded e)) (subst (UnitOf K L i before) (ap (λ (x : State). x.present) (sym p)) U)
    unit_more before c a s t (adds q e m r p k) R Q U = at_recorded before c a t.run refl q e Q p
    unit_more before c a s t (finishes q e p) R Q U = left_at before c a refl (inr (inl (ap sort q))) (subst (UnitOf K L i before) (ap (λ (x : State). x.present) (sym p)) U)
    unit_more before c a s t (goes_on q e p) R Q U = at_resumed before t.run (λ j. before ++ one (q j) (e j)) Q (ap (λ (x : State). x.present) p ∙ ap (λ (x : State). units x.run) (sym p))
    unit_more before c a s t (goes_to v q h e p) R Q U = subst (UnitOf K L i (before ++ one c a)) (ap (λ (x : State). x.present) (sym p)) (go c h e)
      where
        go : (c : Call) → Reaches K L s c v → {n : ℕ} → a ≡ count n → UnitOf K L i (before ++ one c a) v
        go (RunFor k) h e = absurd h
        go (Interrupt x) h e = absurd h
        go Keep h e = absurd h
        go Finish h e = absurd h
        go Resume h e = absurd h
        go (Seek d) h {n} e = at_sought before d n s.run (ap (λ (x : Answer). before ++ one (Seek d) x) e) R h.0 h.1
        go (Back k) h {n} e = at_back before k n (ap (λ (x : Answer). before ++ one (Back k) x) e) U h
        go (Forward k) h {n} e = at_forward before k n (ap (λ (x : Answer). before ++ one (Forward k) x) e) U h
        go (Trail list) h e = absurd h
        go (Write buffer) h e = absurd h
        go (Show buffer) h e = absurd h
        go (Load file) h e = absurd h
    unit_more before c a s t (keeps_it us q e h p) R Q U = left_at before c a refl (inr (inr (inl (ap sort q)))) (subst (UnitOf K L i before) (ap (λ (x : State). x.present) (sym p)) U)
    unit_more before c a s t (sees q e p) R Q U = left_at before c a refl (inr (inr (inr q))) (subst (UnitOf K L i before) (ap (λ (x : State). x.present) (sym p)) U)
    unit_more before c a s t (reads file b q m e h p) R Q U = subst (UnitOf K L i (before ++ one c a)) (ap (λ (x : State). x.present) (sym p)) (at_load before file (units b) (λ j. before ++ one (q j) (e j)))

    kept_on : (before : Trace) (c : Call) (a : Answer) (s t : State) → t.kept ≡ s.kept → KeepsAll c a → KeptOf K L i before s.kept → KeptOf K L i (before ++ one c a) t.kept
    kept_on before c a s t e h J = kept_same before c a refl h (subst (KeptOf K L i before) (sym e) J)

    pub kept_more : (before : Trace) (c : Call) (a : Answer) (s t : State) → Effect K L s c a t → UnitOf K L i before s.present → KeptOf K L i before s.kept → KeptOf K L i (before ++ one c a) t.kept
    kept_more before c a s t (refuses f q e p) U J = kept_on before c a s t (ap (λ (x : State). x.kept) p) (inl (ap succeeded e)) J
    kept_more before c a s t (adds q e m r p k) U J = kept_on before c a s t k (inr (λ z. apart c q z (omega arith), λ z. apart c q z (omega arith))) J
    kept_more before c a s t (finishes q e p) U J = kept_on before c a s t (ap (λ (x : State). x.kept) p) (inr (λ z. apart c (ap sort q) z (omega arith), λ z. apart c (ap sort q) z (omega arith))) J
    kept_more before c a s t (goes_on q e p) U J = kept_on before c a s t (ap (λ (x : State). x.kept) p) (inr (λ z. apart c (ap sort q) z (omega arith), λ z. apart c (ap sort q) z (omega arith))) J
    kept_more before c a s t (goes_to v q h e p) U J = kept_on before c a s t (ap (λ (x : State). x.kept) p) (inr (λ z. apart c q z (omega arith), λ z. apart c q z (omega arith))) J
    kept_more before c a s t (keeps_it us q e (inl h) p) U J = subst (KeptOf K L i (before ++ one c a)) (sym h.1 ∙ ap (λ (x : State). x.kept) (sym p)) (kept_already before _ s.present (λ j. before ++ one (q j) (e j)) J U h.0)
    kept_more before c a s t (keeps_it us q e (inr h) p) U J = kept_new before _ s.present (λ j. before ++ one (q j) (e j)) J U h.0 (ap (λ (x : State). x.kept) p ∙ h.1)
    kept_more before c a s t (sees q e p) U J = kept_on before c a s t (ap (λ (x : State). x.kept) p) (inr (λ z. apart c q z (omega arith), λ z. apart c q z (omega arith))) J
    kept_more before c a s t (reads file b q m e h p) U J = subst (KeptOf K L i (before ++ one c a)) (ap (λ (x : State). x.kept) (sym p)) (kept_load before file (units b) (λ j. before ++ one (q j) (e j)))

    module _ (h : K.lawful i ≡ true) where
      -- the trace's present unit and kept units are the session's
      along : (before rest : Trace) (s t : State) → Leads K L (opened i) before s → UnitOf K L i before s.present → KeptOf K L i before s.kept → Leads K L s rest t → UnitOf K L i (before ++ rest) t.present × KeptOf K L i (before ++ rest) t.kept
      along before rest s t l U J none = subst (λ (x : Trace). UnitOf K L i x s.present × KeptOf K L i x s.kept) (sym (append-nil before)) (U, J)
      along before rest s t l U J (then {c = c} {a = a} {tr = more} u d m) =
          let S : Consistent K L s = leads_stands before (opened i) s (opened_stands K L i h) l in
          let E : Effect K L s c a u = effect K L c s a u S d in
          let l2 : Leads K L (opened i) (before ++ one c a) u = leads_more before c a (opened i) s u l d in
          let U2 : UnitOf K L i (before ++ one c a) u.present = unit_more before c a s u E (run_there before s h l) (run_there (before ++ one c a) u h l2) U in
          subst (λ (x : Trace). UnitOf K L i x t.present × KeptOf K L i x t.kept) (append_assoc before (one c a) more) (along (before ++ one c a) more u t l2 U2 (kept_more before c a s u E U J) m)

      pub unit_there : (tr : Trace) (s : State) → Leads K L (opened i) tr s → UnitOf K L i tr s.present
      unit_there tr s l = (along [] tr (opened i) s none at_first kept_first l).0

      pub kept_there : (tr : Trace) (s : State) → Leads K L (opened i) tr s → KeptOf K L i tr s.kept
      kept_there tr s l = (along [] tr (opened i) s none at_first kept_first l).1

      module _ (M : MachineLaws K) (N : LandmarkLaws L) where
        stands : (tr : Trace) (s : State) → Leads K L (opened i) tr s → Consistent K L s
        stands tr s l = leads_stands tr (opened i) s (opened_stands K L i h) l

        -- a trace has no other run
        pub run_only : (tr : Trace) (s : State) (r : Run) → Leads K L (opened i) tr s → RunOf K L i tr r → r ≡ s.run
        run_only tr s r l (begun x e) = e ∙ sym (run_grows tr (opened i) s (opened_stands K L i h) l x)
        run_only tr s r l (last_loaded before file n since b q x T e) =
            let m = made before (Load file) (count n) since (opened i) s (subst (λ (y : Trace). Leads K L (opened i) y s) q l) in
            let S : Consistent K L m.from = stands before m.from m.came in
            let g : s.run ≡ longer m.to.run (added since) = run_grows since m.to s (does_stands K L (Load file) m.from (count n) m.to S m.does) m.went x in
            e ∙ ap (λ (y : Run). longer y (added since)) (loaded_run m.from m.to m.does) ∙ sym g
          where
            loaded_run : (u v : State) → Does K L u (Load file) (count n) v → b ≡ v.run
            loaded_run u v (k, inl d) = file_determines K L M N b d.0 T.is_run d.1.is_run (sym (tells_file K L file b T) ∙ tells_file K L file d.0 d.1) ∙ ap (λ (x : State). x.run) (sym d.3)
            loaded_run u v (k, inr d) = absurd (refused_count (sym d.2.0))

        -- and no other present unit
        pub unit_only : (tr : Trace) (s : State) (u : ℕ) → Leads K L (opened i) tr s → UnitOf K L i tr u → u ≡ s.present
        unit_only tr s u l at_first = ap (λ (x : State). x.present) (leads_end (opened i) s l)
        unit_only tr s u l (at_load before file n e) = go (does_last before (Load file) (count n) (opened i) s (subst (λ (y : Trace). Leads K L (opened i) y s) e l))
          where
            go : (x : State) × Leads K L (opened i) before x × Does K L x (Load file) (count n) s → 0 ≡ s.present
            go (x, m, (k, inl d)) = ap (λ (x : State). x.present) (sym d.3)
            go (x, m, (k, inr d)) = absurd (refused_count (sym d.2.0))
        unit_only tr s u l (at_recorded before c a r e q z R p) =
            let (x, m, d) = does_last before c a (opened i) s (subst (λ (y : Trace). Leads K L (opened i) y s) e l) in
            let E : Effect K L x c a s = effect K L c x a s (stands before x m) d in
            let o : s.mode ≡ recording = effect_mode K L x c a s E ∙ turned_records c x.mode q ∙ records_mode c x.mode q (does_allowed K L c x a s d) in
            p ∙ ap units (run_only tr s r l R) ∙ sym ((stands tr s l).at_last o)
          where
            turned_records : (c : Call) (m : Mode) → sort c ≡ records → turned c m ≡ m
            turned_records (RunFor k) m q = refl
            turned_records (Interrupt e) m q = refl
            turned_records Keep m q = refl
            turned_records Finish m q = absurd (apart Finish refl q (omega arith))
            turned_records Resume m q = absurd (apart Resume refl q (omega arith))
            turned_records (Seek d) m q = refl
            turned_records (Back n) m q = refl
            turned_records (Forward n) m q = refl
            turned_records (Trail list) m q = refl
            turned_records (Write buffer) m q = refl
            turned_records (Show buffer) m q = refl
            turned_records (Load file) m q = refl
        unit_only tr s u l (at_resumed before r e R p) =
            let (x, m, d) = does_last before Resume done (opened i) s (subst (λ (y : Trace). Leads K L (opened i) y s) e l) in
            p ∙ ap units (run_only tr s r l R) ∙ ap (λ (y : State). units y.run) d.2 ∙ ap (λ (y : State). y.present) (sym d.2)
        unit_only tr s u l (at_sought before d n r e R b w) = go (does_last before (Seek d) (count n) (opened i) s (subst (λ (y : Trace). Leads K L (opened i) y s) e l))
          where
            go : (x : State) × Leads K L (opened i) before x × Does K L x (Seek d) (count n) s → u ≡ s.present
            go (x, m, (k, inl g)) =
                let q : r ≡ x.run = run_only before x r m R in
                let b2 : u ≤ units x.run = subst (λ (y : Run). u ≤ units y) q b in
                let w2 : (at K L x.run u).mark ≡ d = subst (λ (y : Run). (at K L y u).mark ≡ d) q w in
                one_moment_of K L M N x.run u g.0 (stands before x m).is_run b2 g.1 (w2 ∙ sym g.2) ∙ ap (λ (y : State). y.present) (sym g.3.1)
            go (x, m, (k, inr g)) = absurd (refused_count (sym g.1.0))
        unit_only tr s u l (at_back {v = v} before n k e U p) = go (does_last before (Back n) (count k) (opened i) s (subst (λ (y : Trace). Leads K L (opened i) y s) e l)) (λ x m. unit_only before x v m U)
          where
            go : (x : State) × Leads K L (opened i) before x × Does K L x (Back n) (count k) s → ((x : State) → Leads K L (opened i) before x → v ≡ x.present) → u ≡ s.present
            go (x, m, (o, inl g)) ih = omega (arith, ih x m, ap (λ (y : State). y.present) g.1.1)
            go (x, m, (o, inr g)) ih = absurd (refused_count (sym g.1.0))
        unit_only tr s u l (at_forward {v = v} before n k e U p) = go (does_last before (Forward n) (count k) (opened i) s (subst (λ (y : Trace). Leads K L (opened i) y s) e l)) (λ x m. unit_only before x v m U)
          where
            go : (x : State) × Leads K L (opened i) before x × Does K L x (Forward n) (count k) s → ((x : State) → Leads K L (opened i) before x → v ≡ x.present) → u ≡ s.present
            go (x, m, (o, inl g)) ih = omega (arith, ih x m, ap (λ (y : State). y.present) g.1.1)
            go (x, m, (o, inr g)) ih = absurd (refused_count (sym g.1.0))
        unit_only tr s u l (left_at before c a e w U) =
            let (x, m, d) = does_last before c a (opened i) s (subst (λ (y : Trace). Leads K L (opened i) y s) e l) in
            unit_only before x u m U ∙ sym (effect_stays K L x c a s (effect K L c x a s (stands before x m) d) w)

        -- and no other kept units
        pub kept_only : (tr : Trace) (s : State) (ks : List ℕ) → Leads K L (opened i) tr s → KeptOf K L i tr ks → ks ≡ s.kept
        kept_only tr s ks l kept_first = ap (λ (x : State). x.kept) (leads_end (opened i) s l)
        kept_only tr s ks l (kept_load before file n e) = go (does_last before (Load file) (count n) (opened i) s (subst (λ (y : Trace). Leads K L (opened i) y s) e l))
          where
            go : (x : State) × Leads K L (opened i) before x × Does K L x (Load file) (count n) s → 0 ∷ [] ≡ s.kept
            go (x, m, (k, inl d)) = ap (λ (x : State). x.kept) (sym d.3)
            go (x, m, (k, inr d)) = absurd (refused_count (sym d.2.0))
        kept_only tr s us l (kept_new {ks = ks} before n u e J U w q) = go (does_last before Keep (count n) (opened i) s (subst (λ (y : Trace). Leads K L (opened i) y s) e l)) (λ x m. kept_only before x ks m J) (λ x m. unit_only before x u m U)
          where
            go : (x : State) × Leads K L (opened i) before x × Does K L x Keep (count n) s → ((x : State) → Leads K L (opened i) before x → ks ≡ x.kept) → ((x : State) → Leads K L (opened i) before x → u ≡ x.present) → us ≡ s.kept
            go (x, m, inl d) ih jh = absurd (w (subst (λ (y : List ℕ). Among u y) (sym (ih x m)) (subst (λ (y : ℕ). Among y x.kept) (sym (jh x m)) d.0)))
            go (x, m, inr (inl d)) ih jh = absurd (refused_count (sym d.2.0))
            go (x, m, inr (inr d)) ih jh = q ∙ (λ j. ih x m j ++ (jh x m j ∷ [])) ∙ ap (λ (y : State). y.kept) (sym d.3)
        kept_only tr s ks l (kept_already before n u e J U w) = go (does_last before Keep (count n) (opened i) s (subst (λ (y : Trace). Leads K L (opened i) y s) e l)) (λ x m. kept_only before x ks m J) (λ x m. unit_only before x u m U)
          where
            go : (x : State) × Leads K L (opened i) before x × Does K L x Keep (count n) s → ((x : State) → Leads K L (opened i) before x → ks ≡ x.kept) → ((x : State) → Leads K L (opened i) before x → u ≡ x.present) → ks ≡ s.kept
            go (x, m, inl d) ih jh = ih x m ∙ ap (λ (y : State). y.kept) (sym d.2)
            go (x, m, inr (inl d)) ih jh = absurd (refused_count (sym d.2.0))
            go (x, m, inr (inr d)) ih jh = absurd (d.0 (subst (λ (y : ℕ). Among y x.kept) (jh x m) (subst (λ (y : List ℕ). Among u y) (ih x m) w)))
        kept_only tr s ks l (kept_same before c a e w J) =
            let (x, m, d) = does_last before c a (opened i) s (subst (λ (y : Trace). Leads K L (opened i) y s) e l) in
            kept_only before x ks m J ∙ sym (effect_kept K L x c a s (effect K L c x a s (stands before x m) d) w)
