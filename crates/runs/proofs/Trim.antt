-- Acts up to their last event, and the instructions after it.
use Rattle.std.proofs.Common.{◌≡◌, ℕ, zero, suc, ◌⊎◌, List, [], ◌∷◌, ◌++◌, length, replicate, sym, refl, ap, ◌∙◌, inl, inr, append-nil, arith}
use Rattle.machine.specs.declared.Event.{Event}
use Rattle.machine.specs.Kinds.{Kind}
use Rattle.landmark.specs.Markings.{Marking}
use Rattle.runs.specs.declared.Entry.{Entry}
use Rattle.runs.specs.Runs.{Act, instruction, taking, Moment, advance, moment_after, event_count, journal_from}
use Rattle.runs.proofs.Moves.{event_count_append}
use Rattle.runs.proofs.Journals.{Apart, apart_tail, log_head, length_log, cons_head, cons_tail}
use Rattle.runs.proofs.Replay.{log_append}

-- there are no acts, or the last takes an event
abbrev pub Ends : List Act → Type 0
Ends acts = (acts ≡ []) ⊎ ((before : List Act) × (e : Event) × (acts ≡ before ++ (taking e ∷ [])))

pub record Trimmed (acts : List Act) : Type 0 where
  pub front : List Act
  pub times : ℕ
  pub whole : acts ≡ front ++ replicate times instruction
  pub ends : Ends front

pub trimmed : (acts : List Act) → Trimmed acts
trimmed [] = record { front = []; times = 0; whole = refl; ends = inl refl }
trimmed (a ∷ acts) = put a (trimmed acts)
  where
    put : (a : Act) → Trimmed acts → Trimmed (a ∷ acts)
    put a t = go a t.ends
      where
        go : (a : Act) → Ends t.front → Trimmed (a ∷ acts)
        go instruction (inl p) = record { front = []; times = suc t.times; whole = ap {B = List Act} (λ y. instruction ∷ y) (t.whole ∙ ap {B = List Act} (λ y. y ++ replicate t.times instruction) p); ends = inl refl }
        go (taking f) (inl p) = record { front = taking f ∷ []; times = t.times; whole = ap {B = List Act} (λ y. taking f ∷ y) (t.whole ∙ ap {B = List Act} (λ y. y ++ replicate t.times instruction) p); ends = inr ([], f, refl) }
        go a (inr (before, f, p)) = record { front = a ∷ t.front; times = t.times; whole = ap {B = List Act} (λ y. a ∷ y) t.whole; ends = inr (a ∷ before, f, ap {B = List Act} (λ y. a ∷ y) p) }

cons_nil : {A : Type 0} {x : A} {xs : List A} → x ∷ xs ≡ [] → ⊥
cons_nil e = let z : ◌≡◌ {A = ℕ} 0 1 = cc in omega arith

ends_tail : (a : Act) (acts : List Act) → Ends (a ∷ acts) → Ends acts
ends_tail a acts (inl p) = absurd (cons_nil p)
ends_tail a acts (inr ([], f, p)) = inl (cons_tail p)
ends_tail a acts (inr (b ∷ before, f, p)) = inr (before, f, cons_tail p)

module _ (K : Kind) (L : Marking) where
  log_none : (m : Moment) (j : ℕ) → journal_from K L m (replicate j instruction) ≡ []
  log_none m zero = refl
  log_none m (suc j) = log_none (advance K L instruction m) j

  -- instructions add nothing to the log
  pub log_on : (m : Moment) (acts : List Act) (j : ℕ) → journal_from K L m (acts ++ replicate j instruction) ≡ journal_from K L m acts
  log_on m acts j = log_append K L m acts (replicate j instruction) ∙ ap {B = List Entry} (λ y. journal_from K L m acts ++ y) (log_none (moment_after K L m acts) j) ∙ append-nil (journal_from K L m acts)

  ends_log : (m : Moment) (a : Act) (acts : List Act) → Ends (a ∷ acts) → journal_from K L m (a ∷ acts) ≡ [] → ⊥
  ends_log m a acts (inl p) q = cons_nil p
  ends_log m a acts (inr (before, f, p)) q = omega (arith, length_log K L m (a ∷ acts), ap length q, ap event_count p, event_count_append before (taking f ∷ []))

  -- acts that end with an event follow from their log
  pub ends_same : (m : Moment) (xs ys : List Act) → Apart K L m xs → Apart K L m ys → Ends xs → Ends ys → journal_from K L m xs ≡ journal_from K L m ys → xs ≡ ys
  ends_same m [] [] p q x y l = refl
  ends_same m [] (b ∷ ys) p q x y l = absurd (ends_log m b ys y (sym l))
  ends_same m (a ∷ xs) [] p q x y l = absurd (ends_log m a xs x l)
  ends_same m (instruction ∷ xs) (instruction ∷ ys) p q x y l = ap {B = List Act} (λ r. instruction ∷ r) (ends_same (advance K L instruction m) xs ys (apart_tail K L instruction m xs p) (apart_tail K L instruction m ys q) (ends_tail instruction xs x) (ends_tail instruction ys y) l)
  ends_same m (instruction ∷ xs) (taking f ∷ ys) p q x y l =
      let (u, b, c) = log_head K L (advance K L instruction m) xs (record { code = m.mark; event = f }) (journal_from K L (advance K L (taking f) m) ys) l in
      absurd (p 0 (suc u) (omega arith) (omega arith) (sym c))
  ends_same m (taking f ∷ xs) (instruction ∷ ys) p q x y l =
      let (u, b, c) = log_head K L (advance K L instruction m) ys (record { code = m.mark; event = f }) (journal_from K L (advance K L (taking f) m) xs) (sym l) in
      absurd (q 0 (suc u) (omega arith) (omega arith) (sym c))
  ends_same m (taking f ∷ xs) (taking g ∷ ys) p q x y l =
      let same : f ≡ g = ap (λ (z : Entry). z.event) (cons_head l) in
      let rest : xs ≡ ys = ends_same (advance K L (taking f) m) xs ys (apart_tail K L (taking f) m xs p) (rw same (apart_tail K L (taking g) m ys q)) (ends_tail (taking f) xs x) (ends_tail (taking g) ys y) (cons_tail l ∙ ap (λ (z : Event). journal_from K L (advance K L (taking z) m) ys) (sym same)) in
      cc
