-- The law of recordings, told over traces: by the calls and their answers alone, and the run, the unit and the kept units that they tell.
use Rattle.std.specs.Prelude.{◌≡◌, ℕ, ◌+◌, ◌<◌, ◌≤◌, true, ◌⊎◌, List, [], ◌∷◌, ◌++◌, length, take, replicate}
use Rattle.machine.specs.declared.Event.{Event}
use Rattle.machine.specs.declared.GuestFault.TheVariants.{ShortBuffer}
use Rattle.machine.specs.Bytes.{over}
use Rattle.machine.specs.Kinds.{Kind, MachineLaws}
use Rattle.landmark.specs.declared.Code.{Code}
use Rattle.landmark.specs.Markings.{Marking, LandmarkLaws, most_units}
use Rattle.faults.specs.declared.SessionFault.{SessionFault}
use Rattle.faults.specs.declared.SessionFault.TheVariants.{OfGuest, ShortMemory}
use Rattle.runs.specs.declared.LampChange.{LampChange}
use Rattle.runs.specs.Runs.{Run, instruction, taking, at, units, longer, IsRun, ends_stopped}
use Rattle.runs.specs.Lamps.{Among, Distinct, ListsExactly}
use Rattle.runs.specs.Files.{file_of}
use Rattle.runs.specs.Sessions.{Call, RunFor, Interrupt, Keep, Seek, Trail, Write, Show, Load, Answer, count, listed, written, shown, refused, Memory, entries, bytes, supplied}
use Rattle.runs.specs.Traces.{Trace, TraceOf, succeeded, moves, looks, sort, WithoutLoad, mode_of, Allowed, Given, RunOf, UnitOf, KeptOf}

-- w is the latest of the units that is not after v
pub record Latest (w v : ℕ) (us : List ℕ) : Type 0 where
  pub one : Among w us
  pub not_after : w ≤ v
  pub no_later : (u : ℕ) → Among u us → u ≤ v → u ≤ w

module _ (K : Kind) (L : Marking) where
  -- after the trace, a write made last would put the file
  pub record WouldWrite (i : List ℕ) (tr : Trace) (file : List ℕ) : Type 0 where
    pub buffer : List ℕ
    pub size : ℕ
    pub memory : List ℕ
    pub puts : TraceOf K L i (tr ++ ((Write buffer, written size memory) ∷ []))
    pub front : file ≡ take size memory

  pub record Law : Type 0 where
    -- a trace has one run, which a machine of the kind can have, and no two of its moments share a landmark
    pub one_run :
        (i : List ℕ) (tr : Trace) → TraceOf K L i tr
        → (r : Run) × RunOf K L i tr r × ((q : Run) → RunOf K L i tr q → q ≡ r) × IsRun K L r
        × ((u v : ℕ) → u ≤ units r → v ≤ units r → (at K L r u).mark ≡ (at K L r v).mark → u ≡ v)
    -- it has one present unit, which is a moment of the run
    pub one_unit :
        (i : List ℕ) (tr : Trace) (r : Run) → TraceOf K L i tr → RunOf K L i tr r
        → (u : ℕ) × UnitOf K L i tr u × ((v : ℕ) → UnitOf K L i tr v → v ≡ u) × (u ≤ units r)
    -- it has one list of kept units, 0 among them, at most eight, none twice, all of them moments of the run
    pub one_kept :
        (i : List ℕ) (tr : Trace) (r : Run) → TraceOf K L i tr → RunOf K L i tr r
        → (ks : List ℕ) × KeptOf K L i tr ks × ((js : List ℕ) → KeptOf K L i tr js → js ≡ ks)
        × Among 0 ks × (length ks ≤ 8) × Distinct ks × ((k : ℕ) → Among k ks → k ≤ units r)
    -- a call is made only where the mode allows it; there it has an answer, whatever it is handed, and only one
    pub allowed : (i : List ℕ) (before rest : Trace) (c : Call) (a : Answer) → TraceOf K L i (before ++ ((c, a) ∷ rest)) → Allowed (mode_of before) c
    pub answered : (i : List ℕ) (before : Trace) (c : Call) → TraceOf K L i before → Allowed (mode_of before) c → Given c → (a : Answer) × TraceOf K L i (before ++ ((c, a) ∷ []))
    pub one_answer : (i : List ℕ) (before rest more : Trace) (c : Call) (a b : Answer) → TraceOf K L i (before ++ ((c, a) ∷ rest)) → TraceOf K L i (before ++ ((c, b) ∷ more)) → a ≡ b
    -- a refused call leaves the session and the supplied memory as found: what follows could follow without it. So does a call that only looks.
    pub leaves : (i : List ℕ) (before rest : Trace) (c : Call) (f : SessionFault) (m : Memory) → TraceOf K L i (before ++ ((c, refused f m) ∷ rest)) → (m ≡ supplied c) × TraceOf K L i (before ++ rest)
    pub only_looks : (i : List ℕ) (before rest : Trace) (c : Call) (a : Answer) → sort c ≡ looks → TraceOf K L i (before ++ ((c, a) ∷ rest)) → TraceOf K L i (before ++ rest)
    -- a successful show gives the moment to which the calls have led, with the run's landmark and image there; it is refused only where the
    -- buffer is too short, which is then as it was
    pub shows :
        (i : List ℕ) (before rest : Trace) (buffer : List ℕ) (u : ℕ) (c : Code) (memory : List ℕ) (r : Run)
        → TraceOf K L i (before ++ ((Show buffer, shown u c memory) ∷ rest)) → RunOf K L i before r
        → UnitOf K L i before u × (c ≡ (at K L r u).mark) × (memory ≡ over (at K L r u).image buffer)
    pub show_refused :
        (i : List ℕ) (before rest : Trace) (buffer : List ℕ) (f : SessionFault) (m : Memory)
        → TraceOf K L i (before ++ ((Show buffer, refused f m) ∷ rest)) → (length buffer < K.size) × (f ≡ OfGuest (ShortBuffer K.size)) × (m ≡ bytes buffer)
    -- a successful trail lists exactly the run's lamp changes up to that moment; it is refused only where the list is too short, which is
    -- then as it was
    pub lists :
        (i : List ℕ) (before rest : Trace) (list : List LampChange) (n : ℕ) (memory : List LampChange) (r : Run) (u : ℕ)
        → TraceOf K L i (before ++ ((Trail list, listed n memory) ∷ rest)) → RunOf K L i before r → UnitOf K L i before u
        → (xs : List LampChange) × ListsExactly K L r u xs × (n ≡ length xs) × (memory ≡ over xs list)
    pub trail_refused :
        (i : List ℕ) (before rest : Trace) (list : List LampChange) (f : SessionFault) (m : Memory) (r : Run) (u : ℕ)
        → TraceOf K L i (before ++ ((Trail list, refused f m) ∷ rest)) → RunOf K L i before r → UnitOf K L i before u
        → (xs : List LampChange) × ListsExactly K L r u xs × (length list < length xs) × (f ≡ ShortMemory (length xs)) × (m ≡ entries list)
    -- a successful write puts the file of the run; it is refused only where the buffer is too short, which is then as it was
    pub writes :
        (i : List ℕ) (before rest : Trace) (buffer : List ℕ) (n : ℕ) (memory : List ℕ) (r : Run)
        → TraceOf K L i (before ++ ((Write buffer, written n memory) ∷ rest)) → RunOf K L i before r
        → (n ≡ length (file_of K L r)) × (memory ≡ over (file_of K L r) buffer)
    pub write_refused :
        (i : List ℕ) (before rest : Trace) (buffer : List ℕ) (f : SessionFault) (m : Memory) (r : Run)
        → TraceOf K L i (before ++ ((Write buffer, refused f m) ∷ rest)) → RunOf K L i before r
        → (length buffer < length (file_of K L r)) × (f ≡ ShortMemory (length (file_of K L r))) × (m ≡ bytes buffer)
    -- a seek succeeds exactly when some moment of the run, first and last included, has the landmark named, and the session then stands there
    pub seeks_only :
        (i : List ℕ) (before rest : Trace) (d : Code) (a : Answer) (r : Run)
        → TraceOf K L i (before ++ ((Seek d, a) ∷ rest)) → RunOf K L i before r → succeeded a ≡ true
        → (v : ℕ) × (v ≤ units r) × ((at K L r v).mark ≡ d)
    pub seeks :
        (i : List ℕ) (before rest : Trace) (d : Code) (a : Answer) (r : Run) (v : ℕ)
        → TraceOf K L i (before ++ ((Seek d, a) ∷ rest)) → RunOf K L i before r → v ≤ units r → (at K L r v).mark ≡ d
        → (succeeded a ≡ true) × UnitOf K L i (before ++ ((Seek d, a) ∷ [])) v
    -- a successful seek, back or forward answers how far its unit is from the latest kept or present unit not after it
    pub moves_answer :
        (i : List ℕ) (before rest : Trace) (c : Call) (n u v : ℕ) (ks : List ℕ) → sort c ≡ moves
        → TraceOf K L i (before ++ ((c, count n) ∷ rest)) → UnitOf K L i before u → KeptOf K L i before ks → UnitOf K L i (before ++ ((c, count n) ∷ [])) v
        → (w : ℕ) × Latest w v (u ∷ ks) × (w + n ≡ v)
    -- a successful run answers how many instructions it carried out: as many as it was asked for, or up to where the guest stopped or the run
    -- was full
    pub runs_answer :
        (i : List ℕ) (before rest : Trace) (k j : ℕ) (r : Run)
        → TraceOf K L i (before ++ ((RunFor k, count j) ∷ rest)) → RunOf K L i before r
        → (j ≤ k) × IsRun K L (longer r (replicate j instruction))
        × ((j ≡ k) ⊎ (ends_stopped K L (longer r (replicate j instruction)) ≡ true) ⊎ (units r + j ≡ most_units))
    -- a successful interrupt answers the new number of units
    pub takes_answer :
        (i : List ℕ) (before rest : Trace) (e : Event) (n : ℕ) (r : Run)
        → TraceOf K L i (before ++ ((Interrupt e, count n) ∷ rest)) → RunOf K L i before r
        → (n ≡ units r + 1) × IsRun K L (longer r (taking e ∷ []))
    -- a successful keep answers how many units are then kept
    pub keeps_answer :
        (i : List ℕ) (before rest : Trace) (n : ℕ) (ks : List ℕ)
        → TraceOf K L i (before ++ ((Keep, count n) ∷ rest)) → KeptOf K L i (before ++ ((Keep, count n) ∷ [])) ks → n ≡ length ks
    -- whatever bytes a load is handed, it succeeds when any history of the same kinds would write them, and the run is then that of every
    -- history that would
    pub loads_all :
        (i : List ℕ) (before rest : Trace) (file : List ℕ) (a : Answer) (j : List ℕ) (tr : Trace) (r : Run)
        → TraceOf K L i (before ++ ((Load file, a) ∷ rest)) → WouldWrite j tr file → RunOf K L j tr r
        → (a ≡ count (units r)) × RunOf K L i (before ++ ((Load file, a) ∷ [])) r
    -- and it succeeds only when a history without load would write them
    pub loads_only :
        (i : List ℕ) (before rest : Trace) (file : List ℕ) (a : Answer)
        → TraceOf K L i (before ++ ((Load file, a) ∷ rest)) → succeeded a ≡ true
        → (j : List ℕ) × (tr : Trace) × WithoutLoad tr × WouldWrite j tr file

-- every kind of machine and of landmark that keeps its laws keeps the law of recordings
abbrev pub EveryKindKeepsTheLaw : Type 0
EveryKindKeepsTheLaw = (K : Kind) (L : Marking) → MachineLaws K → LandmarkLaws L → Law K L
