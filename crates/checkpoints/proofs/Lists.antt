-- The rows of a table, as the list of their positions.
use Rattle.std.proofs.Common.{◌≡◌, ℕ, ◌+◌, ◌<◌, Bool, true, false, cond, ◌||◌, eqb, leb, List, [], ◌∷◌, ◌++◌, map, length, get_or, take, sym, refl, ap, ◌∙◌}
use Rattle.std.specs.List.{list_any}
use mathlib.Core.List.{map-append}
use Rattle.std.proofs.lemmas.List.{take_more}
use Rattle.machine.specs.Kinds.{Kind}
use Rattle.landmark.specs.Markings.{Marking}
use Rattle.replay.specs.declared.place.Checkpoint.{Checkpoint}
use Rattle.replay.specs.Cursors.{held}
use Rattle.replay.specs.Positions.{Position}
use Rattle.checkpoints.specs.Nearest.{Aim, is_not_past, closer, nearest, has_unit}

module _ (K : Kind) where
  -- the unit is that of a row
  pub has_any : (u : ℕ) (rows : List Checkpoint) → list_any (λ (w : Checkpoint). eqb w.unit u) rows ≡ has_unit u (map (held K) rows)
  has_any u [] = refl
  has_any u (w ∷ rows) = go (eqb w.unit u) (has_any u rows)
    where
      go : (b : Bool) → list_any (λ (w : Checkpoint). eqb w.unit u) rows ≡ has_unit u (map (held K) rows) → (b || list_any (λ (w : Checkpoint). eqb w.unit u) rows) ≡ cond b true (has_unit u (map (held K) rows))
      go true e = refl
      go false e = e

  module _ (L : Marking) (aim : Aim) where
    nearest_last : (b : Position) (ps : List Position) (p : Position) → nearest L aim b (ps ++ (p ∷ [])) ≡ closer L aim (nearest L aim b ps) p
    nearest_last b [] p = refl
    nearest_last b (q ∷ ps) p = nearest_last (closer L aim b q) ps p

    -- whether the row takes over
    abbrev pub takes_over : Checkpoint → Checkpoint → Bool
    takes_over b w = cond (is_not_past L aim (held K w)) (leb b.unit w.unit) false

    closer_is : (b w : Checkpoint) (t : Bool) → takes_over b w ≡ t → closer L aim (held K b) (held K w) ≡ cond t (held K w) (held K b)
    closer_is b w t e = go (is_not_past L aim (held K w)) (leb b.unit w.unit) e
      where
        go : (x y : Bool) → cond x y false ≡ t → cond x (cond y (held K w) (held K b)) (held K b) ≡ cond t (held K w) (held K b)
        go true y q = ap (λ (z : Bool). cond z (held K w) (held K b)) q
        go false y q = ap (λ (z : Bool). cond z (held K w) (held K b)) q

    -- one row more in the search
    pub one_more : (rows : List Checkpoint) (i : ℕ) (first : Position) (b w : Checkpoint) (t : Bool) → i < length rows → w ≡ get_or rows i w → t ≡ takes_over b w → held K b ≡ nearest L aim first (map (held K) (take i rows)) → cond t (held K w) (held K b) ≡ nearest L aim first (map (held K) (take (i + 1) rows))
    one_more rows i first b w t l e q h =
        sym (ap (λ (x : List Checkpoint). nearest L aim first (map (held K) x)) (take_more rows i w l)
        ∙ ap (nearest L aim first) (map-append (held K) (take i rows) (get_or rows i w ∷ []))
        ∙ nearest_last first (map (held K) (take i rows)) (held K (get_or rows i w))
        ∙ (λ j. closer L aim (sym h j) (held K (sym e j)))
        ∙ closer_is b w t (sym q))
