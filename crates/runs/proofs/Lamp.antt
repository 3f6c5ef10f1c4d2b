-- The trail of a run lists exactly its lamp changes, and no other list does.
use Rattle.std.proofs.Common.{◌≡◌, ℕ, zero, suc, ◌+◌, ◌<◌, ◌≤◌, Bool, true, false, cond, eqb, ◌⊎◌, List, [], ◌∷◌, ◌++◌, sym, refl, ap, ◌∙◌, subst, inl, inr, ⊎_elim, append-nil, arith, eqb-true}
use borrow.Author.Tests.{eqb-false}
use Rattle.machine.specs.Kinds.{Kind}
use Rattle.landmark.specs.Markings.{Marking}
use Rattle.runs.specs.declared.LampChange.{LampChange}
use Rattle.runs.specs.Runs.{Run, at, units}
use Rattle.runs.specs.Lamps.{Among, UnitsRise, lamp_at, IsChange, ListsExactly, changes_from, trail_of}
use Rattle.runs.specs.Theorems.{EveryTrailIsExact}
use Rattle.runs.proofs.Tell.{le_or_lt}
use Rattle.runs.proofs.Replay.{trail_next}

among_split : {A : Type 0} (x : A) (xs ys : List A) → Among x (xs ++ ys) → Among x xs ⊎ Among x ys
among_split x [] ys h = inr h
among_split x (y ∷ xs) ys (inl e) = inl (inl e)
among_split x (y ∷ xs) ys (inr h) = ⊎_elim (λ a. inl (inr a)) (λ b. inr b) (among_split x xs ys h)

among_front : {A : Type 0} (x : A) (xs ys : List A) → Among x xs → Among x (xs ++ ys)
among_front x [] ys h = absurd h
among_front x (y ∷ xs) ys (inl e) = inl e
among_front x (y ∷ xs) ys (inr h) = inr (among_front x xs ys h)

among_back : {A : Type 0} (x : A) (xs ys : List A) → Among x ys → Among x (xs ++ ys)
among_back x [] ys h = h
among_back x (y ∷ xs) ys h = inr (among_back x xs ys h)

rise_push : (n : ℕ) (xs : List LampChange) (x : LampChange) → UnitsRise n xs → ((y : LampChange) → Among y xs → y.unit < x.unit) → n < x.unit → UnitsRise n (xs ++ (x ∷ []))
rise_push n [] x r h l = (l, tt)
rise_push n (y ∷ xs) x r h l = (r.0, rise_push y.unit xs x r.1 (λ z a. h z (inr a)) (h y (inl refl)))

rise_above : (n : ℕ) (xs : List LampChange) (x : LampChange) → UnitsRise n xs → Among x xs → n < x.unit
rise_above n [] x r h = absurd h
rise_above n (y ∷ xs) x r (inl e) = subst (λ (z : LampChange). n < z.unit) (sym e) r.0
rise_above n (y ∷ xs) x r (inr h) = omega (arith, r.0, rise_above y.unit xs x r.1 h)

-- lists that rise and have the same elements are the same
same_list : (n : ℕ) (xs ys : List LampChange) → UnitsRise n xs → UnitsRise n ys → ((x : LampChange) → Among x xs → Among x ys) → ((y : LampChange) → Among y ys → Among y xs) → xs ≡ ys
same_list n [] [] r s f g = refl
same_list n [] (y ∷ ys) r s f g = absurd (g y (inl refl))
same_list n (x ∷ xs) [] r s f g = absurd (f x (inl refl))
same_list n (x ∷ xs) (y ∷ ys) r s f g =
    let e : x ≡ y = heads (f x (inl refl)) (g y (inl refl)) in
    let t : xs ≡ ys = same_list x.unit xs ys r.1 (subst (λ (z : LampChange). UnitsRise z.unit ys) (sym e) s.1) (λ z a. later z x.unit (rise_above x.unit xs z r.1 a) y (ap (λ (w : LampChange). w.unit) (sym e)) ys (f z (inr a))) (λ z a. later z x.unit (omega (arith, rise_above y.unit ys z s.1 a, ap (λ (w : LampChange). w.unit) e)) x refl xs (g z (inr a))) in
    λ i. e i ∷ t i
  where
    heads : Among x (y ∷ ys) → Among y (x ∷ xs) → x ≡ y
    heads (inl e) b = e
    heads (inr a) (inl e) = sym e
    heads (inr a) (inr b) = absurd (omega (arith, rise_above y.unit ys x s.1 a, rise_above x.unit xs y r.1 b))

    later : (z : LampChange) (m : ℕ) → m < z.unit → (w : LampChange) → w.unit ≡ m → (zs : List LampChange) → Among z (w ∷ zs) → Among z zs
    later z m l w q zs (inl e) = absurd (omega (arith, ap (λ (v : LampChange). v.unit) e))
    later z m l w q zs (inr a) = a

module _ (K : Kind) (L : Marking) where
  change_later : (r : Run) (u v : ℕ) (x : LampChange) → u ≤ v → IsChange K L r u x → IsChange K L r v x
  change_later r u v x l c = record { before = c.before; unit_is = c.unit_is; within = omega (arith, c.within); differs = c.differs; code_is = c.code_is; lamp_is = c.lamp_is }

  same_change : (r : Run) (u : ℕ) (x y : LampChange) → IsChange K L r u x → IsChange K L r u y → x.unit ≡ y.unit → x ≡ y
  same_change r u x y c d e =
      let b : c.before ≡ d.before = omega (arith, c.unit_is, d.unit_is) in
      let p : x.code ≡ y.code = c.code_is ∙ ap (λ (v : ℕ). (at K L r (v + 1)).mark) b ∙ sym d.code_is in
      let q : x.lamp ≡ y.lamp = c.lamp_is ∙ ap (λ (v : ℕ). lamp_at K L r (v + 1)) b ∙ sym d.lamp_is in
      λ i. record { unit = e i; code = p i; lamp = q i }

  -- one unit after which the lamp is as before, and one after which it differs
  lists_same : (r : Run) (u : ℕ) (xs : List LampChange) → ListsExactly K L r u xs → lamp_at K L r u ≡ lamp_at K L r (u + 1) → ListsExactly K L r (suc u) xs
  lists_same r u xs E e = record { only = λ x a. change_later r u (suc u) x (omega arith) (E.only x a); every = λ v l d. go v d (le_or_lt u v) l; rising = E.rising }
    where
      go : (v : ℕ) → ¬ (lamp_at K L r v ≡ lamp_at K L r (v + 1)) → (u ≤ v) ⊎ (v < u) → v < suc u → (x : LampChange) × Among x xs × (x.unit ≡ v + 1)
      go v d (inl h) l = let q : u ≡ v = omega arith in absurd (d (subst (λ (w : ℕ). lamp_at K L r w ≡ lamp_at K L r (w + 1)) q e))
      go v d (inr h) l = E.every v h d

  lists_new : (r : Run) (u : ℕ) (xs : List LampChange) (x : LampChange) → ListsExactly K L r u xs → IsChange K L r (suc u) x → x.unit ≡ u + 1 → ListsExactly K L r (suc u) (xs ++ (x ∷ []))
  lists_new r u xs x E c e = record {
    only = λ y a. one y (among_split y xs (x ∷ []) a);
    every = λ v l d. go v d (le_or_lt u v) l;
    rising = rise_push 0 xs x E.rising (λ y a. omega (arith, (E.only y a).within, (E.only y a).unit_is)) (omega arith);
  }
    where
      one : (y : LampChange) → Among y xs ⊎ Among y (x ∷ []) → IsChange K L r (suc u) y
      one y (inl a) = change_later r u (suc u) y (omega arith) (E.only y a)
      one y (inr (inl q)) = subst (λ (z : LampChange). IsChange K L r (suc u) z) (sym q) c
      one y (inr (inr a)) = absurd a

      go : (v : ℕ) → ¬ (lamp_at K L r v ≡ lamp_at K L r (v + 1)) → (u ≤ v) ⊎ (v < u) → v < suc u → (y : LampChange) × Among y (xs ++ (x ∷ [])) × (y.unit ≡ v + 1)
      go v d (inl h) l = (x, among_back x xs (x ∷ []) (inl refl), omega arith)
      go v d (inr h) l = let (y, a, q) = E.every v h d in (y, among_front y xs (x ∷ []) a, q)

  pub trail_lists : (r : Run) (u : ℕ) → u ≤ units r → ListsExactly K L r u (trail_of K L r u)
  unfolding changes_from
  trail_lists r zero b = record { only = λ x a. absurd a; every = λ v l d. absurd (omega arith); rising = tt }
  trail_lists r (suc u) b = rw (trail_next K L r u (omega arith)) (go (eqb (lamp_at K L r u) (lamp_at K L r (suc u))) refl (trail_lists r u (omega arith)))
    where
      o : suc u ≡ u + 1
      o = omega arith

      go : (t : Bool) → eqb (lamp_at K L r u) (lamp_at K L r (suc u)) ≡ t → ListsExactly K L r u (trail_of K L r u) → ListsExactly K L r (suc u) (trail_of K L r u ++ cond t [] (record { unit = u + 1; code = (at K L r (suc u)).mark; lamp = lamp_at K L r (suc u) } ∷ []))
      go true e E =
          let q : lamp_at K L r u ≡ lamp_at K L r (u + 1) = eqb-true (lamp_at K L r u) (lamp_at K L r (suc u)) e ∙ ap (lamp_at K L r) o in
          subst (λ (xs : List LampChange). ListsExactly K L r (suc u) xs) (sym (append-nil (trail_of K L r u))) (lists_same r u (trail_of K L r u) E q)
      go false e E =
          lists_new r u (trail_of K L r u) (record { unit = u + 1; code = (at K L r (suc u)).mark; lamp = lamp_at K L r (suc u) }) E
          (record { before = u; unit_is = refl; within = omega arith; differs = λ q. eqb-false (lamp_at K L r u) (lamp_at K L r (suc u)) e (q ∙ ap (lamp_at K L r) (sym o)); code_is = ap (λ (v : ℕ). (at K L r v).mark) o; lamp_is = ap (lamp_at K L r) o })
          refl

  pub lists_one : (r : Run) (u : ℕ) (xs ys : List LampChange) → ListsExactly K L r u xs → ListsExactly K L r u ys → xs ≡ ys
  lists_one r u xs ys E F = same_list 0 xs ys E.rising F.rising (λ x a. in_other xs ys E F x a) (λ y a. in_other ys xs F E y a)
    where
      in_other : (xs ys : List LampChange) → ListsExactly K L r u xs → ListsExactly K L r u ys → (x : LampChange) → Among x xs → Among x ys
      in_other xs ys E F x a =
          let c : IsChange K L r u x = E.only x a in
          let (y, b, q) = F.every c.before c.within c.differs in
          subst (λ (z : LampChange). Among z ys) (same_change r u y x (F.only y b) c (q ∙ sym c.unit_is)) b

pub trails_exact : EveryTrailIsExact
trails_exact K L r u b = (trail_lists K L r u b, λ xs E. lists_one K L r u xs (trail_of K L r u) E (trail_lists K L r u b))
