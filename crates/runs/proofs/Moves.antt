-- Moments along acts: what the acts of a run keep, and the moves that they make.
use Rattle.std.proofs.Common.{◌≡◌, ℕ, suc, ◌+◌, ◌<◌, Bool, true, false, ◌⊎◌, List, [], ◌∷◌, ◌++◌, length, refl, ap, ◌∙◌, inl, inr, arith}
use lib.Seq.{take-length}
use Rattle.landmark.specs.declared.Code.{Code}
use Rattle.machine.specs.Kinds.{Kind, MachineLaws}
use Rattle.landmark.specs.Markings.{Marking, LandmarkLaws, Move, Climbs, marked}
use Rattle.runs.specs.Landmarks.{is_transfer}
use Rattle.runs.specs.Runs.{Act, instruction, taking, Run, Moment, first, advance, Possible, moment_after, Goes, at, units, event_count}

pub event_count_append : (xs ys : List Act) → event_count (xs ++ ys) ≡ event_count xs + event_count ys
event_count_append [] ys = omega arith
event_count_append (instruction ∷ xs) ys = event_count_append xs ys
event_count_append (taking e ∷ xs) ys = omega (arith, event_count_append xs ys)

module _ (K : Kind) (L : Marking) where
  pub moment_append : (m : Moment) (xs ys : List Act) → moment_after K L m (xs ++ ys) ≡ moment_after K L (moment_after K L m xs) ys
  moment_append m [] ys = refl
  moment_append m (a ∷ xs) ys = moment_append (advance K L a m) xs ys

  pub goes_front : (m : Moment) (xs ys : List Act) → Goes K L m (xs ++ ys) → Goes K L m xs
  goes_front m [] ys g = tt
  goes_front m (a ∷ xs) ys g = (g.0, goes_front (advance K L a m) xs ys g.1)

  pub goes_back : (m : Moment) (xs ys : List Act) → Goes K L m (xs ++ ys) → Goes K L (moment_after K L m xs) ys
  goes_back m [] ys g = g
  goes_back m (a ∷ xs) ys g = goes_back (advance K L a m) xs ys g.1

  pub goes_append : (m : Moment) (xs ys : List Act) → Goes K L m xs → Goes K L (moment_after K L m xs) ys → Goes K L m (xs ++ ys)
  goes_append m [] ys g h = h
  goes_append m (a ∷ xs) ys g h = (g.0, goes_append (advance K L a m) xs ys g.1 h)

  pub at_end : (r : Run) → at K L r (units r) ≡ moment_after K L (first K L r.start) r.acts
  at_end r = rw (take-length r.acts)

  -- the moves that the acts make from a moment on
  abbrev pub moves_of : Moment → List Act → List Move
  moves_of m [] = []
  moves_of m (a ∷ acts) = (K.place (advance K L a m).image, is_transfer K L a m) ∷ moves_of (advance K L a m) acts

  pub length_moves : (m : Moment) (acts : List Act) → length (moves_of m acts) ≡ length acts
  length_moves m [] = refl
  length_moves m (a ∷ acts) = ap suc (length_moves (advance K L a m) acts)

  pub mark_advance : (a : Act) (m : Moment) → (advance K L a m).mark ≡ L.after m.mark (K.place (advance K L a m).image) (is_transfer K L a m)
  mark_advance instruction m = refl
  mark_advance (taking e) m = refl

  pub mark_moves : (m : Moment) (acts : List Act) → (moment_after K L m acts).mark ≡ marked L m.mark (moves_of m acts)
  mark_moves m [] = refl
  mark_moves m (a ∷ acts) = mark_moves (advance K L a m) acts ∙ ap (λ (c : Code). marked L c (moves_of (advance K L a m) acts)) (mark_advance a m)

  pub moves_push : (m : Moment) (xs : List Act) (a : Act) → moves_of m (xs ++ (a ∷ [])) ≡ moves_of m xs ++ ((K.place (advance K L a (moment_after K L m xs)).image, is_transfer K L a (moment_after K L m xs)) ∷ [])
  moves_push m [] a = refl
  moves_push m (b ∷ xs) a = ap {B = List Move} (λ r. (K.place (advance K L b m).image, is_transfer K L b m) ∷ r) (moves_push (advance K L b m) xs a)

  module _ (M : MachineLaws K) (N : LandmarkLaws L) where
    -- what each moment of a run is
    pub record Sound (m : Moment) : Type 0 where
      pub lawful : K.lawful m.image ≡ true
      pub marks : L.has m.mark ≡ true

    pub first_sound : (i : List ℕ) → K.lawful i ≡ true → Sound (first K L i)
    first_sound i h = record { lawful = h; marks = N.start_has (K.place i) (M.laws.place_fits i h) }

    pub advance_lawful : (a : Act) (m : Moment) → K.lawful m.image ≡ true → Possible K L a m → K.lawful (advance K L a m).image ≡ true
    advance_lawful instruction m h p = M.laws.next_lawful m.image h p
    advance_lawful (taking e) m h p = M.laws.taken_lawful m.image e p.0 h p.1

    pub advance_sound : (a : Act) (m : Moment) → Sound m → Possible K L a m → Sound (advance K L a m)
    advance_sound a m s p =
        let l : K.lawful (advance K L a m).image ≡ true = advance_lawful a m s.lawful p in
        record { lawful = l; marks = rw (mark_advance a m) (N.after_has m.mark (K.place (advance K L a m).image) (is_transfer K L a m) s.marks (M.laws.place_fits (advance K L a m).image l)) }

    pub moment_sound : (m : Moment) (acts : List Act) → Sound m → Goes K L m acts → Sound (moment_after K L m acts)
    moment_sound m [] s g = s
    moment_sound m (a ∷ acts) s g = moment_sound (advance K L a m) acts (advance_sound a m s g.0) g.1

    climbs_one : (a : Act) (m : Moment) → K.lawful m.image ≡ true → Possible K L a m → ∥ (is_transfer K L a m ≡ true) ⊎ (K.place m.image < K.place (advance K L a m).image) ∥₁
    climbs_one instruction m h p = go (K.transfers m.image) refl
      where
        go : (t : Bool) → K.transfers m.image ≡ t → ∥ (K.transfers m.image ≡ true) ⊎ (K.place m.image < K.place (K.next m.image)) ∥₁
        go true e = ∣ inl e ∣₁
        go false e = ∣ inr (M.rises m.image h p e) ∣₁
    climbs_one (taking e) m h p = ∣ inl refl ∣₁

    pub moves_climb : (m : Moment) (acts : List Act) → K.lawful m.image ≡ true → Goes K L m acts → Climbs (K.place m.image) (moves_of m acts)
    moves_climb m [] h g = tt
    moves_climb m (a ∷ acts) h g =
        let l : K.lawful (advance K L a m).image ≡ true = advance_lawful a m h g.0 in
        ((climbs_one a m h g.0, M.laws.place_fits (advance K L a m).image l), moves_climb (advance K L a m) acts l g.1)
