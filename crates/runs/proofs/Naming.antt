-- The landmarks of a run, for the two kinds of landmark.
use Rattle.std.proofs.Common.{◌≡◌, ℕ, ◌+◌, ◌<◌, ◌≤◌, min, Bool, true, false, cond, List, [], ◌∷◌, length, take, refl, ap, ◌∙◌, arith, length-take-le}
use Rattle.machine.specs.Kinds.{Kind}
use Rattle.landmark.specs.declared.Code.{Code}
use Rattle.landmark.specs.Branch.{branching}
use Rattle.landmark.specs.Count.{counting}
use Rattle.runs.specs.Runs.{Act, Moment, IsRun, first, advance, moment_after, at}
use Rattle.runs.specs.Landmarks.{is_transfer, transfers_from, transfers_in, EveryLandmarkIsTold}
use Rattle.runs.proofs.Moves.{mark_advance}

module _ (K : Kind) where
  counted_one : (a : Act) (m : Moment) (n : ℕ) → m.mark ≡ record { major = 0; minor = n } → n < 4294967295 → (advance K counting a m).mark ≡ record { major = 0; minor = n + 1 }
  counted_one a m n e l = mark_advance K counting a m ∙ (λ i. record { major = 0; minor = (ap (λ (c : Code). min (c.minor + 1) 4294967295) e ∙ low n l) i })
    where
      low : (n : ℕ) → n < 4294967295 → min (n + 1) 4294967295 ≡ n + 1
      low n l = omega arith

  counted : (acts : List Act) (m : Moment) (n : ℕ) → m.mark ≡ record { major = 0; minor = n } → n + length acts ≤ 4294967295 → (moment_after K counting m acts).mark ≡ record { major = 0; minor = n + length acts }
  counted [] m n e l = e ∙ (λ i. record { major = 0; minor = none n i })
    where
      none : (n : ℕ) → n ≡ n + 0
      none n = omega arith
  counted (a ∷ acts) m n e l =
      let o : n + 1 + length acts ≡ n + length (a ∷ acts) = omega arith in
      counted acts (advance K counting a m) (n + 1) (counted_one a m n e (omega arith)) (omega arith) ∙ ap {B = Code} (λ k. record { major = 0; minor = k }) o

  branched_one : (a : Act) (m : Moment) (n : ℕ) → m.mark.major ≡ n → n < 4294967295 → (advance K branching a m).mark ≡ record { major = n + cond (is_transfer K branching a m) 1 0; minor = K.place (advance K branching a m).image }
  branched_one a m n e l = mark_advance K branching a m ∙ (λ i. record { major = go (is_transfer K branching a m) i; minor = K.place (advance K branching a m).image })
    where
      go : (t : Bool) → cond t (min (m.mark.major + 1) 4294967295) m.mark.major ≡ n + cond t 1 0
      go true = omega arith
      go false = omega arith

  branched : (acts : List Act) (m : Moment) (n : ℕ) → m.mark ≡ record { major = n; minor = K.place m.image } → n + length acts ≤ 4294967295 → (moment_after K branching m acts).mark ≡ record { major = n + transfers_from K branching m acts; minor = K.place (moment_after K branching m acts).image }
  branched [] m n e l = e ∙ (λ i. record { major = none n i; minor = K.place m.image })
    where
      none : (n : ℕ) → n ≡ n + 0
      none n = omega arith
  branched (a ∷ acts) m n e l =
      let t : ℕ = cond (is_transfer K branching a m) 1 0 in
      let b : t ≤ 1 = at_most (is_transfer K branching a m) in
      let q : n + t + transfers_from K branching (advance K branching a m) acts ≡ n + (t + transfers_from K branching (advance K branching a m) acts) = omega arith in
      branched acts (advance K branching a m) (n + t) (branched_one a m n (ap (λ (c : Code). c.major) e) (omega arith)) (omega arith) ∙ (λ i. record { major = q i; minor = K.place (moment_after K branching (advance K branching a m) acts).image })
    where
      at_most : (t : Bool) → cond t 1 0 ≤ 1
      at_most true = omega arith
      at_most false = omega arith

pub landmarks_told : EveryLandmarkIsTold
landmarks_told K r u b = (by_count, by_branch)
  where
    by_count : IsRun K counting r → (at K counting r u).mark ≡ record { major = 0; minor = u }
    by_count R =
        let e : 0 + length (take u r.acts) ≡ u = omega (arith, length-take-le u r.acts b) in
        counted K (take u r.acts) (first K counting r.start) 0 refl (omega (arith, R.few_units)) ∙ ap {B = Code} (λ k. record { major = 0; minor = k }) e

    by_branch : IsRun K branching r → (at K branching r u).mark ≡ record { major = transfers_in K branching r u; minor = K.place (at K branching r u).image }
    by_branch R =
        let n : length (take u r.acts) ≡ u = length-take-le u r.acts b in
        let e : 0 + transfers_in K branching r u ≡ transfers_in K branching r u = omega arith in
        branched K (take u r.acts) (first K branching r.start) 0 refl (omega (arith, R.few_units)) ∙ (λ i. record { major = e i; minor = K.place (at K branching r u).image })
