-- The law of recordings, for every kind of machine and of landmark.
use Rattle.std.proofs.Common.{◌≡◌, ℕ, ◌+◌, ◌-◌, ◌<◌, ◌≤◌, max, Bool, true, false, cond, leb, ◌⊎◌, List, [], ◌∷◌, ◌++◌, length, take, drop, replicate, sym, refl, ap, ◌∙◌, subst, inl, inr, ⊎_elim, arith, take_at, le-leb, leb-true}
use Rattle.machine.specs.declared.Event.{Event}
use Rattle.machine.specs.declared.GuestFault.TheVariants.{ShortBuffer}
use Rattle.machine.specs.Bytes.{over}
use Rattle.machine.specs.Kinds.{Kind, MachineLaws}
use Rattle.landmark.specs.declared.Code.{Code}
use Rattle.landmark.specs.Markings.{Marking, LandmarkLaws, most_units}
use Rattle.faults.specs.declared.SessionFault.{SessionFault}
use Rattle.faults.specs.declared.SessionFault.TheVariants.{OfGuest, ShortMemory}
use Rattle.runs.specs.declared.LampChange.{LampChange}
use Rattle.runs.specs.Runs.{Run, instruction, taking, IsRun, at, units, longer, ends_stopped}
use Rattle.runs.specs.Lamps.{Among, ListsExactly, trail_of}
use Rattle.runs.specs.Files.{file_of}
use Rattle.runs.specs.Checks.{ok, wrong, verdict}
use Rattle.runs.specs.Tells.{Tells}
use Rattle.runs.specs.Sessions.{Mode, State, Call, RunFor, Interrupt, Keep, Seek, Trail, Write, Show, Load, Memory, entries, bytes, supplied, Answer, done, count, listed, written, shown, refused, latest, Does, opened, Consistent}
use Rattle.runs.specs.Traces.{Trace, TraceOf, Leads, sort, moves, looks, succeeded, WithoutLoad, Allowed, RunOf, UnitOf, at_sought, KeptOf}
use Rattle.runs.specs.Law.{Latest, WouldWrite, EveryKindKeepsTheLaw}
use Rattle.runs.proofs.Rising.{one_moment_of}
use Rattle.runs.proofs.Bytes.{tells_file, file_determines}
use Rattle.runs.proofs.Tell.{le_or_lt}
use Rattle.runs.proofs.Lamp.{trail_lists}
use Rattle.runs.proofs.Verdict.{verdict_complete}
use Rattle.runs.proofs.Sessions.{opened_stands, take_one}
use Rattle.runs.proofs.OneAnswer.{same}
use Rattle.runs.proofs.SomeAnswer.{answered}
use Rattle.runs.proofs.Effects.{refused_count, refused_same, refused_memory, count_same, false_true, apart, longer_none, does_allowed, Effect, refuses, adds, finishes, goes_on, goes_to, keeps_it, sees, reads, effect}
use Rattle.runs.proofs.Fixed.{leads_fixed, record_leads}
use Rattle.runs.proofs.Tracing.{one, Made, made, leads_stands, leads_join, leads_more, mode_told, run_there, run_only, unit_there, unit_only, kept_there, kept_only}

-- the latest unit that is not after v is among the units, if 0 is
latest_most : (v : ℕ) (us : List ℕ) → latest v us ≤ v
latest_most v [] = omega arith
latest_most v (k ∷ ks) = go (leb k v) refl (latest_most v ks)
  where
    go : (b : Bool) → leb k v ≡ b → latest v ks ≤ v → max (cond b k 0) (latest v ks) ≤ v
    go true e ih = omega (arith, leb-true k v e)
    go false e ih = omega arith

latest_among : (v : ℕ) (us : List ℕ) → Among (latest v us) us ⊎ (latest v us ≡ 0)
latest_among v [] = inr refl
latest_among v (k ∷ ks) = go (cond (leb k v) k 0) (which (leb k v)) (latest v ks) (latest_among v ks)
  where
    which : (b : Bool) → (cond b k 0 ≡ k) ⊎ (cond b k 0 ≡ 0)
    which true = inl refl
    which false = inr refl

    larger : (m n : ℕ) → (max m n ≡ m) ⊎ (max m n ≡ n)
    larger m n = ⊎_elim (λ h. inr (omega arith)) (λ h. inl (omega arith)) (le_or_lt m n)

    go : (m : ℕ) → (m ≡ k) ⊎ (m ≡ 0) → (n : ℕ) → Among n ks ⊎ (n ≡ 0) → Among (max m n) (k ∷ ks) ⊎ (max m n ≡ 0)
    go m x n y = pick (larger m n) x y
      where
        pick : (max m n ≡ m) ⊎ (max m n ≡ n) → (m ≡ k) ⊎ (m ≡ 0) → Among n ks ⊎ (n ≡ 0) → Among (max m n) (k ∷ ks) ⊎ (max m n ≡ 0)
        pick (inl e) (inl x) y = inl (inl (e ∙ x))
        pick (inl e) (inr x) y = inr (e ∙ x)
        pick (inr e) x (inl y) = inl (inr (subst (λ (z : ℕ). Among z ks) (sym e) y))
        pick (inr e) x (inr y) = inr (e ∙ y)

latest_least : (v u : ℕ) (us : List ℕ) → Among u us → u ≤ v → u ≤ latest v us
latest_least v u [] h l = absurd h
latest_least v u (k ∷ ks) (inl e) l = rw (le-leb k v (omega arith)) (omega arith)
latest_least v u (k ∷ ks) (inr h) l = omega (arith, latest_least v u ks h l)

latest_is : (v : ℕ) (us : List ℕ) → Among 0 us → Latest (latest v us) v us
latest_is v us h = record {
  one = ⊎_elim (λ a. a) (λ e. subst (λ (z : ℕ). Among z us) (sym e) h) (latest_among v us);
  not_after = latest_most v us;
  no_later = λ u a l. latest_least v u us a l;
}

zero_kept : {us : List ℕ} → (ks : List ℕ) × (us ≡ 0 ∷ ks) → Among 0 us
zero_kept (ks, e) = subst (λ (x : List ℕ). Among 0 x) (sym e) (inl refl)

not_done : {A : Type 0} {f : SessionFault} {m : Memory} → refused f m ≡ done → A
not_done e = absurd (let z : ◌≡◌ {A = ℕ} 0 1 = cc in omega arith)

count_done : {A : Type 0} {n : ℕ} → count n ≡ done → A
count_done e = absurd (let z : ◌≡◌ {A = ℕ} 0 1 = cc in omega arith)

shown_unit : {u v : ℕ} {c d : Code} {x y : List ℕ} → shown u c x ≡ shown v d y → u ≡ v
shown_unit e = cc

shown_code : {u v : ℕ} {c d : Code} {x y : List ℕ} → shown u c x ≡ shown v d y → c ≡ d
shown_code e = cc

shown_memory : {u v : ℕ} {c d : Code} {x y : List ℕ} → shown u c x ≡ shown v d y → x ≡ y
shown_memory e = cc

listed_count : {m n : ℕ} {x y : List LampChange} → listed m x ≡ listed n y → m ≡ n
listed_count e = cc

listed_memory : {m n : ℕ} {x y : List LampChange} → listed m x ≡ listed n y → x ≡ y
listed_memory e = cc

written_count : {m n : ℕ} {x y : List ℕ} → written m x ≡ written n y → m ≡ n
written_count e = cc

written_memory : {m n : ℕ} {x y : List ℕ} → written m x ≡ written n y → x ≡ y
written_memory e = cc

not_refused : {a : Answer} {f : SessionFault} {m : Memory} → a ≡ refused f m → succeeded a ≡ true → ⊥
not_refused e h = false_true (sym h ∙ ap succeeded e)

module _ (K : Kind) (L : Marking) (M : MachineLaws K) (N : LandmarkLaws L) where
  stands : (i : List ℕ) (tr : Trace) (s : State) → K.lawful i ≡ true → Leads K L (opened i) tr s → Consistent K L s
  stands i tr s h l = leads_stands K L tr (opened i) s (opened_stands K L i h) l

  module _ (i : List ℕ) (before rest : Trace) (c : Call) (a : Answer) (T : TraceOf K L i (before ++ ((c, a) ∷ rest))) where
    -- the call, with the session before it
    the_call : Made K L (opened i) before c a rest T.1.0
    the_call = made K L before c a rest (opened i) T.1.0 T.1.1

    abbrev there : State
    there = the_call.from

    before_stands : Consistent K L there
    before_stands = stands i before there T.0 the_call.came

    its_effect : Effect K L there c a the_call.to
    its_effect = effect K L c there a the_call.to before_stands the_call.does

    its_run : (r : Run) → RunOf K L i before r → r ≡ there.run
    its_run r R = run_only K L i T.0 M N before there r the_call.came R

    its_unit : (u : ℕ) → UnitOf K L i before u → u ≡ there.present
    its_unit u U = unit_only K L i T.0 M N before there u the_call.came U

    after_leads : Leads K L (opened i) (before ++ one c a) the_call.to
    after_leads = leads_more K L before c a (opened i) there the_call.to the_call.came the_call.does

    without : the_call.to ≡ there → TraceOf K L i (before ++ rest)
    without e = (T.0, (T.1.0, leads_join K L before rest (opened i) there T.1.0 the_call.came (subst (λ (x : State). Leads K L x rest T.1.0) e the_call.went)))

  leaves_of : (i : List ℕ) (before rest : Trace) (c : Call) (f : SessionFault) (m : Memory) → TraceOf K L i (before ++ ((c, refused f m) ∷ rest)) → (m ≡ supplied c) × TraceOf K L i (before ++ rest)
  leaves_of i before rest c f m T = go (its_effect i before rest c (refused f m) T)
    where
      go : Effect K L (there i before rest c (refused f m) T) c (refused f m) (the_call i before rest c (refused f m) T).to → (m ≡ supplied c) × TraceOf K L i (before ++ rest)
      go (refuses g q e p) = (refused_memory e, without i before rest c (refused f m) T p)
      go (adds q e o r p k) = absurd (false_true (sym e))
      go (finishes q e p) = not_done e
      go (goes_on q e p) = not_done e
      go (goes_to v q h e p) = absurd (refused_count e)
      go (keeps_it us q e h p) = absurd (refused_count e)
      go (sees q e p) = absurd (false_true (sym e))
      go (reads file b q o e h p) = absurd (refused_count e)

  looks_of : (i : List ℕ) (before rest : Trace) (c : Call) (a : Answer) → sort c ≡ looks → TraceOf K L i (before ++ ((c, a) ∷ rest)) → TraceOf K L i (before ++ rest)
  looks_of i before rest c a x T = go (its_effect i before rest c a T)
    where
      go : Effect K L (there i before rest c a T) c a (the_call i before rest c a T).to → TraceOf K L i (before ++ rest)
      go (refuses g q e p) = without i before rest c a T p
      go (adds q e o r p k) = absurd (apart c q x (omega arith))
      go (finishes q e p) = absurd (apart c (ap sort q) x (omega arith))
      go (goes_on q e p) = absurd (apart c (ap sort q) x (omega arith))
      go (goes_to v q h e p) = absurd (apart c q x (omega arith))
      go (keeps_it us q e h p) = absurd (apart c (ap sort q) x (omega arith))
      go (sees q e p) = without i before rest c a T p
      go (reads file b q o e h p) = absurd (apart c (ap sort q) x (omega arith))

  answers_of : (i : List ℕ) (before rest more : Trace) (c : Call) (a b : Answer) → TraceOf K L i (before ++ ((c, a) ∷ rest)) → TraceOf K L i (before ++ ((c, b) ∷ more)) → a ≡ b
  answers_of i before rest more c a b T V =
      let p = the_call i before rest c a T in
      let q = the_call i before more c b V in
      let e : p.from ≡ q.from = (leads_fixed K L M N before before (opened i) p.from q.from (opened_stands K L i T.0) p.came q.came refl).1 in
      (same K L M N c p.from a b p.to q.to (before_stands i before rest c a T) p.does (subst (λ (x : State). Does K L x c b q.to) (sym e) q.does)).1

  shows_of : (i : List ℕ) (before rest : Trace) (buffer : List ℕ) (u : ℕ) (c : Code) (memory : List ℕ) (r : Run) → TraceOf K L i (before ++ ((Show buffer, shown u c memory) ∷ rest)) → RunOf K L i before r → UnitOf K L i before u × (c ≡ (at K L r u).mark) × (memory ≡ over (at K L r u).image buffer)
  shows_of i before rest buffer u c memory r T R = go (the_call i before rest (Show buffer) (shown u c memory) T).does
    where
      s : State
      s = there i before rest (Show buffer) (shown u c memory) T

      go : Does K L s (Show buffer) (shown u c memory) (the_call i before rest (Show buffer) (shown u c memory) T).to → UnitOf K L i before u × (c ≡ (at K L r u).mark) × (memory ≡ over (at K L r u).image buffer)
      go (inl d) =
          let e : u ≡ s.present = shown_unit d.1 in
          let q : r ≡ s.run = its_run i before rest (Show buffer) (shown u c memory) T r R in
          let U : UnitOf K L i before s.present = unit_there K L i T.0 before s (the_call i before rest (Show buffer) (shown u c memory) T).came in
          (subst (UnitOf K L i before) (sym e) U, shown_code d.1 ∙ (λ j. (at K L (sym q j) (sym e j)).mark), shown_memory d.1 ∙ (λ j. over (at K L (sym q j) (sym e j)).image buffer))
      go (inr d) = absurd (let z : ◌≡◌ {A = ℕ} 0 1 = cc d.1.0 in omega arith)

  show_refused_of : (i : List ℕ) (before rest : Trace) (buffer : List ℕ) (f : SessionFault) (m : Memory) → TraceOf K L i (before ++ ((Show buffer, refused f m) ∷ rest)) → (length buffer < K.size) × (f ≡ OfGuest (ShortBuffer K.size)) × (m ≡ bytes buffer)
  show_refused_of i before rest buffer f m T = go (the_call i before rest (Show buffer) (refused f m) T).does
    where
      go : Does K L (there i before rest (Show buffer) (refused f m) T) (Show buffer) (refused f m) (the_call i before rest (Show buffer) (refused f m) T).to → (length buffer < K.size) × (f ≡ OfGuest (ShortBuffer K.size)) × (m ≡ bytes buffer)
      go (inl d) = absurd (let z : ◌≡◌ {A = ℕ} 0 1 = cc d.1 in omega arith)
      go (inr d) = (d.0, refused_same d.1.0, refused_memory d.1.0)

  -- the list of a trail
  listed_at : (i : List ℕ) (before rest : Trace) (c : Call) (a : Answer) (T : TraceOf K L i (before ++ ((c, a) ∷ rest))) (r : Run) (u : ℕ) → RunOf K L i before r → UnitOf K L i before u → ListsExactly K L r u (trail_of K L (there i before rest c a T).run (there i before rest c a T).present)
  listed_at i before rest c a T r u R U =
      let s : State = there i before rest c a T in
      let q : r ≡ s.run = its_run i before rest c a T r R in
      let e : u ≡ s.present = its_unit i before rest c a T u U in
      let E : ListsExactly K L s.run s.present (trail_of K L s.run s.present) = trail_lists K L s.run s.present (before_stands i before rest c a T).present_in in
      subst (λ (x : Run). ListsExactly K L x u (trail_of K L s.run s.present)) (sym q) (subst (λ (x : ℕ). ListsExactly K L s.run x (trail_of K L s.run s.present)) (sym e) E)

  lists_of : (i : List ℕ) (before rest : Trace) (list : List LampChange) (n : ℕ) (memory : List LampChange) (r : Run) (u : ℕ) → TraceOf K L i (before ++ ((Trail list, listed n memory) ∷ rest)) → RunOf K L i before r → UnitOf K L i before u → (xs : List LampChange) × ListsExactly K L r u xs × (n ≡ length xs) × (memory ≡ over xs list)
  lists_of i before rest list n memory r u T R U = go (the_call i before rest (Trail list) (listed n memory) T).does
    where
      go : Does K L (there i before rest (Trail list) (listed n memory) T) (Trail list) (listed n memory) (the_call i before rest (Trail list) (listed n memory) T).to → (xs : List LampChange) × ListsExactly K L r u xs × (n ≡ length xs) × (memory ≡ over xs list)
      go (m, inl d) = (_, listed_at i before rest (Trail list) (listed n memory) T r u R U, listed_count d.1, listed_memory d.1)
      go (m, inr d) = absurd (let z : ◌≡◌ {A = ℕ} 0 1 = cc d.1.0 in omega arith)

  trail_refused_of : (i : List ℕ) (before rest : Trace) (list : List LampChange) (f : SessionFault) (m : Memory) (r : Run) (u : ℕ) → TraceOf K L i (before ++ ((Trail list, refused f m) ∷ rest)) → RunOf K L i before r → UnitOf K L i before u → (xs : List LampChange) × ListsExactly K L r u xs × (length list < length xs) × (f ≡ ShortMemory (length xs)) × (m ≡ entries list)
  trail_refused_of i before rest list f m r u T R U = go (the_call i before rest (Trail list) (refused f m) T).does
    where
      go : Does K L (there i before rest (Trail list) (refused f m) T) (Trail list) (refused f m) (the_call i before rest (Trail list) (refused f m) T).to → (xs : List LampChange) × ListsExactly K L r u xs × (length list < length xs) × (f ≡ ShortMemory (length xs)) × (m ≡ entries list)
      go (o, inl d) = absurd (let z : ◌≡◌ {A = ℕ} 0 1 = cc d.1 in omega arith)
      go (o, inr d) = (_, listed_at i before rest (Trail list) (refused f m) T r u R U, d.0, refused_same d.1.0, refused_memory d.1.0)

  writes_of : (i : List ℕ) (before rest : Trace) (buffer : List ℕ) (n : ℕ) (memory : List ℕ) (r : Run) → TraceOf K L i (before ++ ((Write buffer, written n memory) ∷ rest)) → RunOf K L i before r → (n ≡ length (file_of K L r)) × (memory ≡ over (file_of K L r) buffer)
  writes_of i before rest buffer n memory r T R = go (the_call i before rest (Write buffer) (written n memory) T).does
    where
      q : r ≡ (there i before rest (Write buffer) (written n memory) T).run
      q = its_run i before rest (Write buffer) (written n memory) T r R

      go : Does K L (there i before rest (Write buffer) (written n memory) T) (Write buffer) (written n memory) (the_call i before rest (Write buffer) (written n memory) T).to → (n ≡ length (file_of K L r)) × (memory ≡ over (file_of K L r) buffer)
      go (m, inl d) = (written_count d.1 ∙ ap (λ (x : Run). length (file_of K L x)) (sym q), written_memory d.1 ∙ ap (λ (x : Run). over (file_of K L x) buffer) (sym q))
      go (m, inr d) = absurd (let z : ◌≡◌ {A = ℕ} 0 1 = cc d.1.0 in omega arith)

  write_refused_of : (i : List ℕ) (before rest : Trace) (buffer : List ℕ) (f : SessionFault) (m : Memory) (r : Run) → TraceOf K L i (before ++ ((Write buffer, refused f m) ∷ rest)) → RunOf K L i before r → (length buffer < length (file_of K L r)) × (f ≡ ShortMemory (length (file_of K L r))) × (m ≡ bytes buffer)
  write_refused_of i before rest buffer f m r T R = go (the_call i before rest (Write buffer) (refused f m) T).does
    where
      q : r ≡ (there i before rest (Write buffer) (refused f m) T).run
      q = its_run i before rest (Write buffer) (refused f m) T r R

      go : Does K L (there i before rest (Write buffer) (refused f m) T) (Write buffer) (refused f m) (the_call i before rest (Write buffer) (refused f m) T).to → (length buffer < length (file_of K L r)) × (f ≡ ShortMemory (length (file_of K L r))) × (m ≡ bytes buffer)
      go (o, inl d) = absurd (let z : ◌≡◌ {A = ℕ} 0 1 = cc d.1 in omega arith)
      go (o, inr d) = (subst (λ (x : Run). length buffer < length (file_of K L x)) (sym q) d.0, refused_same d.1.0 ∙ ap (λ (x : Run). ShortMemory (length (file_of K L x))) (sym q), refused_memory d.1.0)

  seeks_only_of : (i : List ℕ) (before rest : Trace) (d : Code) (a : Answer) (r : Run) → TraceOf K L i (before ++ ((Seek d, a) ∷ rest)) → RunOf K L i before r → succeeded a ≡ true → (v : ℕ) × (v ≤ units r) × ((at K L r v).mark ≡ d)
  seeks_only_of i before rest d a r T R h = go (the_call i before rest (Seek d) a T).does
    where
      q : r ≡ (there i before rest (Seek d) a T).run
      q = its_run i before rest (Seek d) a T r R

      go : Does K L (there i before rest (Seek d) a T) (Seek d) a (the_call i before rest (Seek d) a T).to → (v : ℕ) × (v ≤ units r) × ((at K L r v).mark ≡ d)
      go (m, inl g) = (g.0, subst (λ (x : Run). g.0 ≤ units x) (sym q) g.1, subst (λ (x : Run). (at K L x g.0).mark ≡ d) (sym q) g.2)
      go (m, inr g) = absurd (not_refused g.1.0 h)

  seeks_of : (i : List ℕ) (before rest : Trace) (d : Code) (a : Answer) (r : Run) (v : ℕ) → TraceOf K L i (before ++ ((Seek d, a) ∷ rest)) → RunOf K L i before r → v ≤ units r → (at K L r v).mark ≡ d → (succeeded a ≡ true) × UnitOf K L i (before ++ one (Seek d) a) v
  seeks_of i before rest d a r v T R b w = go (the_call i before rest (Seek d) a T).does
    where
      q : r ≡ (there i before rest (Seek d) a T).run
      q = its_run i before rest (Seek d) a T r R

      go : Does K L (there i before rest (Seek d) a T) (Seek d) a (the_call i before rest (Seek d) a T).to → (succeeded a ≡ true) × UnitOf K L i (before ++ one (Seek d) a) v
      go (m, inl g) = (ap succeeded g.3.0, at_sought before d _ r (ap (λ (x : Answer). before ++ one (Seek d) x) g.3.0) R b w)
      go (m, inr g) = absurd (g.0 v (subst (λ (x : Run). v ≤ units x) q b) (subst (λ (x : Run). (at K L x v).mark ≡ d) q w))

  moves_of : (i : List ℕ) (before rest : Trace) (c : Call) (n u v : ℕ) (ks : List ℕ) → sort c ≡ moves → TraceOf K L i (before ++ ((c, count n) ∷ rest)) → UnitOf K L i before u → KeptOf K L i before ks → UnitOf K L i (before ++ one c (count n)) v → (w : ℕ) × Latest w v (u ∷ ks) × (w + n ≡ v)
  moves_of i before rest c n u v ks x T U J V = go (its_effect i before rest c (count n) T)
    where
      s : State
      s = there i before rest c (count n) T

      pu : u ≡ s.present
      pu = its_unit i before rest c (count n) T u U

      pk : ks ≡ s.kept
      pk = kept_only K L i T.0 M N before s ks (the_call i before rest c (count n) T).came J

      pv : v ≡ (the_call i before rest c (count n) T).to.present
      pv = unit_only K L i T.0 M N (before ++ one c (count n)) (the_call i before rest c (count n) T).to v (after_leads i before rest c (count n) T) V

      far : (y : ℕ) → v ≡ y → n ≡ y - latest y (s.present ∷ s.kept) → (w : ℕ) × Latest w v (u ∷ ks) × (w + n ≡ v)
      far y e m =
          let P : Latest (latest y (s.present ∷ s.kept)) y (s.present ∷ s.kept) = latest_is y (s.present ∷ s.kept) (inr (zero_kept (before_stands i before rest c (count n) T).starts_kept)) in
          (latest y (s.present ∷ s.kept), subst (λ (z : ℕ). Latest (latest y (s.present ∷ s.kept)) z (u ∷ ks)) (sym e) (subst (λ (us : List ℕ). Latest (latest y (s.present ∷ s.kept)) y us) (λ j. sym pu j ∷ sym pk j) P), omega (arith, P.not_after))

      go : Effect K L s c (count n) (the_call i before rest c (count n) T).to → (w : ℕ) × Latest w v (u ∷ ks) × (w + n ≡ v)
      go (refuses g q e p) = absurd (refused_count (sym e))
      go (adds q e o r p k) = absurd (apart c q x (omega arith))
      go (finishes q e p) = count_done e
      go (goes_on q e p) = count_done e
      go (goes_to y q h e p) = far y (pv ∙ ap (λ (z : State). z.present) p) (count_same e)
      go (keeps_it us q e h p) = absurd (apart c (ap sort q) x (omega arith))
      go (sees q e p) = absurd (apart c q x (omega arith))
      go (reads file b q o e h p) = absurd (apart c (ap sort q) x (omega arith))

  runs_of : (i : List ℕ) (before rest : Trace) (k j : ℕ) (r : Run) → TraceOf K L i (before ++ ((RunFor k, count j) ∷ rest)) → RunOf K L i before r → (j ≤ k) × IsRun K L (longer r (replicate j instruction)) × ((j ≡ k) ⊎ (ends_stopped K L (longer r (replicate j instruction)) ≡ true) ⊎ (units r + j ≡ most_units))
  runs_of i before rest k j r T R =
      let s : State = there i before rest (RunFor k) (count j) T in
      let q : r ≡ s.run = its_run i before rest (RunFor k) (count j) T r R in
      subst (λ (x : Run). (j ≤ k) × IsRun K L (longer x (replicate j instruction)) × ((j ≡ k) ⊎ (ends_stopped K L (longer x (replicate j instruction)) ≡ true) ⊎ (units x + j ≡ most_units))) (sym q) (go (the_call i before rest (RunFor k) (count j) T).does)
    where
      s : State
      s = there i before rest (RunFor k) (count j) T

      go : Does K L s (RunFor k) (count j) (the_call i before rest (RunFor k) (count j) T).to → (j ≤ k) × IsRun K L (longer s.run (replicate j instruction)) × ((j ≡ k) ⊎ (ends_stopped K L (longer s.run (replicate j instruction)) ≡ true) ⊎ (units s.run + j ≡ most_units))
      go (m, inl d) =
          let e : 0 ≡ j = sym (count_same d.1) in
          subst (λ (n : ℕ). (n ≤ k) × IsRun K L (longer s.run (replicate n instruction)) × ((n ≡ k) ⊎ (ends_stopped K L (longer s.run (replicate n instruction)) ≡ true) ⊎ (units s.run + n ≡ most_units))) e
          (omega arith, subst (IsRun K L) (sym (longer_none s.run)) (before_stands i before rest (RunFor k) (count j) T).is_run, inl (sym d.0))
      go (m, inr (inl d)) = absurd (refused_count (sym d.2.0))
      go (m, inr (inr (inl d))) = absurd (refused_count (sym d.3.0))
      go (m, inr (inr (inr d))) =
          let e : d.1 ≡ j = sym (count_same d.6) in
          subst (λ (n : ℕ). (n ≤ k) × IsRun K L (longer s.run (replicate n instruction)) × ((n ≡ k) ⊎ (ends_stopped K L (longer s.run (replicate n instruction)) ≡ true) ⊎ (units s.run + n ≡ most_units))) e (d.3, d.4, d.5)

  takes_of : (i : List ℕ) (before rest : Trace) (e : Event) (n : ℕ) (r : Run) → TraceOf K L i (before ++ ((Interrupt e, count n) ∷ rest)) → RunOf K L i before r → (n ≡ units r + 1) × IsRun K L (longer r (taking e ∷ []))
  takes_of i before rest e n r T R =
      subst (λ (x : Run). (n ≡ units x + 1) × IsRun K L (longer x (taking e ∷ []))) (sym (its_run i before rest (Interrupt e) (count n) T r R)) (go (the_call i before rest (Interrupt e) (count n) T).does)
    where
      s : State
      s = there i before rest (Interrupt e) (count n) T

      go : Does K L s (Interrupt e) (count n) (the_call i before rest (Interrupt e) (count n) T).to → (n ≡ units s.run + 1) × IsRun K L (longer s.run (taking e ∷ []))
      go (m, x, inl d) = absurd (refused_count (sym d.1.0))
      go (m, x, inr (inl d)) = absurd (refused_count (sym d.2.0))
      go (m, x, inr (inr (inl d))) = absurd (refused_count (sym d.3.0))
      go (m, x, inr (inr (inr (inl d)))) = absurd (refused_count (sym d.4.0))
      go (m, x, inr (inr (inr (inr d)))) = (count_same d.3, take_one K L s.run e (before_stands i before rest (Interrupt e) (count n) T).is_run x d.0 d.1 d.2)

  keeps_of : (i : List ℕ) (before rest : Trace) (n : ℕ) (ks : List ℕ) → TraceOf K L i (before ++ ((Keep, count n) ∷ rest)) → KeptOf K L i (before ++ one Keep (count n)) ks → n ≡ length ks
  keeps_of i before rest n ks T J = go (its_effect i before rest Keep (count n) T)
    where
      pk : ks ≡ (the_call i before rest Keep (count n) T).to.kept
      pk = kept_only K L i T.0 M N (before ++ one Keep (count n)) (the_call i before rest Keep (count n) T).to ks (after_leads i before rest Keep (count n) T) J

      go : Effect K L (there i before rest Keep (count n) T) Keep (count n) (the_call i before rest Keep (count n) T).to → n ≡ length ks
      go (refuses g q e p) = absurd (refused_count (sym e))
      go (adds q e o r p k) = absurd (apart Keep refl q (omega arith))
      go (finishes q e p) = count_done e
      go (goes_on q e p) = count_done e
      go (goes_to y q h e p) = absurd (apart Keep refl q (omega arith))
      go (keeps_it us q e h p) = count_same e ∙ ap length (ap (λ (x : State). x.kept) (sym p) ∙ sym pk)
      go (sees q e p) = absurd (apart Keep refl q (omega arith))
      go (reads file b q o e h p) = absurd (apart Keep refl (ap sort q) (omega arith))

  -- what would be written is the file of the run
  pub would_file : (j : List ℕ) (tr : Trace) (file : List ℕ) (r : Run) → WouldWrite K L j tr file → RunOf K L j tr r → IsRun K L r × (file ≡ file_of K L r)
  would_file j tr file r W R =
      let w = writes_of j tr [] W.buffer W.size W.memory r W.puts R in
      let e : take W.size W.memory ≡ file_of K L r = ap (take W.size) w.1 ∙ take_at (file_of K L r) (drop (length (file_of K L r)) W.buffer) W.size (sym w.0) in
      let q : r ≡ (there j tr [] (Write W.buffer) (written W.size W.memory) W.puts).run = its_run j tr [] (Write W.buffer) (written W.size W.memory) W.puts r R in
      (subst (IsRun K L) (sym q) (before_stands j tr [] (Write W.buffer) (written W.size W.memory) W.puts).is_run, W.front ∙ e)

  loads_all_of : (i : List ℕ) (before rest : Trace) (file : List ℕ) (a : Answer) (j : List ℕ) (tr : Trace) (r : Run) → TraceOf K L i (before ++ ((Load file, a) ∷ rest)) → WouldWrite K L j tr file → RunOf K L j tr r → (a ≡ count (units r)) × RunOf K L i (before ++ one (Load file) a) r
  loads_all_of i before rest file a j tr r T W R = go (the_call i before rest (Load file) a T).does
    where
      w : IsRun K L r × (file ≡ file_of K L r)
      w = would_file j tr file r W R

      t : State
      t = (the_call i before rest (Load file) a T).to

      Q : RunOf K L i (before ++ one (Load file) a) t.run
      Q = run_there K L i (before ++ one (Load file) a) t T.0 (after_leads i before rest (Load file) a T)

      ok_wrong : {r : Run} {f : SessionFault} → ok r ≡ wrong f → ⊥
      ok_wrong e = let z : ◌≡◌ {A = ℕ} 0 1 = cc in omega arith

      go : Does K L (there i before rest (Load file) a T) (Load file) a t → (a ≡ count (units r)) × RunOf K L i (before ++ one (Load file) a) r
      go (m, inl d) =
          let e : d.0 ≡ r = file_determines K L M N d.0 r d.1.is_run w.0 (sym (tells_file K L file d.0 d.1) ∙ w.1) in
          (d.2 ∙ ap (λ (x : Run). count (units x)) e, subst (RunOf K L i (before ++ one (Load file) a)) (ap (λ (x : State). x.run) d.3 ∙ e) Q)
      go (m, inr d) = absurd (ok_wrong (sym (verdict_complete K L M N r w.0) ∙ ap (verdict K L) (sym w.1) ∙ d.1))

  loads_only_of : (i : List ℕ) (before rest : Trace) (file : List ℕ) (a : Answer) → TraceOf K L i (before ++ ((Load file, a) ∷ rest)) → succeeded a ≡ true → (j : List ℕ) × (tr : Trace) × WithoutLoad tr × WouldWrite K L j tr file
  loads_only_of i before rest file a T h = go (the_call i before rest (Load file) a T).does
    where
      told : (r : Run) → Tells K L file r → (j : List ℕ) × (tr : Trace) × WithoutLoad tr × WouldWrite K L j tr file
      told r t =
          let w = record_leads K L (opened r.start) r.acts refl t.is_run in
          let s : State = w.to in
          let e : file ≡ file_of K L s.run = tells_file K L file r t ∙ ap (file_of K L) (sym w.run_is) in
          let n : length (file_of K L s.run) ≤ length file = omega (arith, ap length e) in
          let d : Does K L s (Write file) (written (length (file_of K L s.run)) (over (file_of K L s.run) file)) s = (w.replays, inl (n, refl, refl)) in (
            r.start,
            w.trace,
            w.loads_none,
            record {
              buffer = file;
              size = length (file_of K L s.run);
              memory = over (file_of K L s.run) file;
              puts = (t.is_run.lawful, (s, leads_more K L w.trace (Write file) (written (length (file_of K L s.run)) (over (file_of K L s.run) file)) (opened r.start) s s w.leads d));
              front = e ∙ sym (take_at (file_of K L s.run) (drop (length (file_of K L s.run)) file) (length (file_of K L s.run)) refl);
            },
          )

      go : Does K L (there i before rest (Load file) a T) (Load file) a (the_call i before rest (Load file) a T).to → (j : List ℕ) × (tr : Trace) × WithoutLoad tr × WouldWrite K L j tr file
      go (m, inl d) = told d.0 d.1
      go (m, inr d) = absurd (not_refused d.2.0 h)

pub the_law : EveryKindKeepsTheLaw
the_law K L M N = record {
  one_run = λ i tr T. (T.1.0.run, run_there K L i tr T.1.0 T.0 T.1.1, λ q Q. run_only K L i T.0 M N tr T.1.0 q T.1.1 Q, (stands K L M N i tr T.1.0 T.0 T.1.1).is_run, λ u v. one_moment_of K L M N T.1.0.run u v (stands K L M N i tr T.1.0 T.0 T.1.1).is_run);
  one_unit = λ i tr r T R. (T.1.0.present, unit_there K L i T.0 tr T.1.0 T.1.1, λ v V. unit_only K L i T.0 M N tr T.1.0 v T.1.1 V, subst (λ (x : Run). T.1.0.present ≤ units x) (sym (run_only K L i T.0 M N tr T.1.0 r T.1.1 R)) (stands K L M N i tr T.1.0 T.0 T.1.1).present_in);
  one_kept = λ i tr r T R. (T.1.0.kept, kept_there K L i T.0 tr T.1.0 T.1.1, λ js J. kept_only K L i T.0 M N tr T.1.0 js T.1.1 J, zero_kept (stands K L M N i tr T.1.0 T.0 T.1.1).starts_kept, (stands K L M N i tr T.1.0 T.0 T.1.1).few_kept, (stands K L M N i tr T.1.0 T.0 T.1.1).kept_once, λ k a. subst (λ (x : Run). k ≤ units x) (sym (run_only K L i T.0 M N tr T.1.0 r T.1.1 R)) ((stands K L M N i tr T.1.0 T.0 T.1.1).kept_in k a));
  allowed = λ i before rest c a T. subst (λ (m : Mode). Allowed m c) (mode_told K L before (opened i) (there K L M N i before rest c a T) (opened_stands K L i T.0) (the_call K L M N i before rest c a T).came) (does_allowed K L c (there K L M N i before rest c a T) a (the_call K L M N i before rest c a T).to (the_call K L M N i before rest c a T).does);
  answered = λ i before c T A G. let (a, t, d) = answered K L M N T.1.0 c (stands K L M N i before T.1.0 T.0 T.1.1) (subst (λ (m : Mode). Allowed m c) (sym (mode_told K L before (opened i) T.1.0 (opened_stands K L i T.0) T.1.1)) A) G in (a, (T.0, (t, leads_more K L before c a (opened i) T.1.0 t T.1.1 d)));
  one_answer = answers_of K L M N;
  leaves = leaves_of K L M N;
  only_looks = looks_of K L M N;
  shows = shows_of K L M N;
  show_refused = show_refused_of K L M N;
  lists = lists_of K L M N;
  trail_refused = trail_refused_of K L M N;
  writes = writes_of K L M N;
  write_refused = write_refused_of K L M N;
  seeks_only = seeks_only_of K L M N;
  seeks = seeks_of K L M N;
  moves_answer = moves_of K L M N;
  runs_answer = runs_of K L M N;
  takes_answer = takes_of K L M N;
  keeps_answer = keeps_of K L M N;
  loads_all = loads_all_of K L M N;
  loads_only = loads_only_of K L M N;
}
